use Rattle.std.proofs.Common.{◌≡◌, ℕ, List, ◌∷◌, ap, sym, subst, ◌∙◌, arith}
use Rattle.log_node.specs.declared.ids.Row.{Row}
use Rattle.log_node.specs.Sets.{members}
use Rattle.world_laws.specs.Worlds.{World}
use Rattle.world_laws.specs.Completing.{colours_of}
use Rattle.world_code.specs.WorldView.{world_of}
use Rattle.world_code.specs.declared.completing.Taken.{Taken}
use Rattle.world_code.proofs.AllMarks.{AreMarked, marked_none, marked_stop, marked_skip, marked_more, marked_all}
use Rattle.world_code.proofs.world.World.mark_first.Goals as goal
use Rattle.world_code.proofs.world.World.mark_first.Goals.{else-taken-gt0-via-then-taken-gt0+else-may_mark}
use Rattle.world_code.proofs.world.World.mark_first.Goals.{else-taken-gt0-via-else-taken-gt0}

pub loop-colour-init : goal.loop-colour-init
loop-colour-init c =
    let w = world_of c.args.self.now in record {
      marked = marked_none w c.args.by c.args.row c.args.limit c.into_iter-colour-iterator.result (colours_of w c.args.row)
          (c.into_iter-colour-iterator.ensures.into_iter_gives ∙ (c.members-colour-items.ensures
          ∙ ap members c.row_colours.ensures));
      few = omega arith;
    }

-- the next colour of the row's node
next : (w : World) (by : ℕ) (row : Row) (limit : ℕ) (w1 : World) (t : Taken) (n : ℕ) (left rest : List ℕ)
    → AreMarked w by row limit left (colours_of w row) w1 t → left ≡ n ∷ rest
    → AreMarked w by row limit (n ∷ rest) (colours_of w row) w1 t
next w by row limit w1 t n left rest m e = subst (λ (l : List ℕ). AreMarked w by row limit l (colours_of w row) w1 t) e m

pub loop-colour-preserved-then-may_mark : goal.loop-colour-preserved-then-may_mark
loop-colour-preserved-then-may_mark c =
    let w = world_of c.args.self.now in
    let w1 = world_of c.loop-colour.self in
    let t = c.loop-colour.taken in
    let n = c.in-Some.colour in
    let rest = c.next.new.self in
    let le = c.loop-colour.invariant.few in
    let one = c.done_count.ensures.few in
    let some = c.if-taken-gt0.true in record {
      marked = marked_more w c.args.by c.args.row c.args.limit n rest w1 t.done t.left
          (next w c.args.by c.args.row c.args.limit w1 t n c.loop-colour.colour-iterator rest
          c.loop-colour.invariant.marked c.in-Some.ensures.steps)
          c.requires some (sym c.may_mark.ensures ∙ c.if-may_mark.true) (world_of c.mark_colour-reply.new.self)
          c.mark_colour-reply.result c.mark_colour-reply.ensures c.done_count.result c.done_count.ensures.count;
      few = omega (arith, le, one, some);
    }

pub loop-colour-preserved : goal.loop-colour-preserved
loop-colour-preserved c =
    let w = world_of c.args.self.now in
    let w1 = world_of c.loop-colour.self in
    let t = c.loop-colour.taken in
    let n = c.in-Some.colour in
    let rest = c.next.new.self in
    let before = next w c.args.by c.args.row c.args.limit w1 t n c.loop-colour.colour-iterator rest
    c.loop-colour.invariant.marked c.in-Some.ensures.steps in record {
      marked = elim c.else-taken-gt0.branch [
        | else-taken-gt0-via-then-taken-gt0+else-may_mark u ↦
            marked_skip w c.args.by c.args.row c.args.limit n rest w1 t.done t.left before c.requires u.if-taken-gt0.true
            (sym u.may_mark.ensures ∙ u.if-may_mark.false)
        | else-taken-gt0-via-else-taken-gt0 u ↦
            marked_stop w c.args.by c.args.row c.args.limit n rest w1 t.done t.left before
            (let z = u.if-taken-gt0.false in omega (arith, z))
      ];
      few = c.loop-colour.invariant.few;
    }

pub overflow_add-taken : goal.overflow_add-taken
overflow_add-taken c =
    let le = c.loop-colour.invariant.few in
    let fits = c.ranges.limit in
    let one = c.done_count.ensures.few in
    let some = c.if-taken-gt0.true in
    omega (arith, le, fits, one, some)

pub returns-clause-taken : goal.returns-clause-taken
returns-clause-taken c =
    let w = world_of c.args.self.now in
    marked_all w c.args.by c.args.row c.args.limit c.loop-colour.colour-iterator (colours_of w c.args.row)
    (world_of c.loop-colour.self) c.loop-colour.taken c.in-None.ensures.steps.0 c.loop-colour.invariant.marked
