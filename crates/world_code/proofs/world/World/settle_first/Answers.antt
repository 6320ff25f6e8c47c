use Rattle.std.proofs.Common.{◌≡◌, ℕ, List, ◌∷◌, ap, subst, ◌∙◌, arith}
use Rattle.log_node.specs.declared.ids.Row.{Row}
use Rattle.log_node.specs.Sets.{members}
use Rattle.world_laws.specs.Worlds.{World}
use Rattle.world_laws.specs.Completing.{colours_of}
use Rattle.world_code.specs.WorldView.{world_of}
use Rattle.world_code.specs.Completed.{done_count}
use Rattle.world_code.specs.declared.completing.Taken.{Taken}
use Rattle.world_code.proofs.AllowedSteps.{AreSettled, settled_none, settled_more, settled_stop, settled_all}
use Rattle.world_code.proofs.world.World.settle_first.Goals as goal

pub loop-colour-init : goal.loop-colour-init
loop-colour-init c =
    let w = world_of c.args.self.now in record {
      settled = settled_none w c.args.by c.args.row c.args.limit c.into_iter-colour-iterator.result (colours_of w c.args.row)
          (c.into_iter-colour-iterator.ensures.into_iter_gives ∙ (c.members-colour-items.ensures
          ∙ ap members c.row_colours.ensures));
      few = omega arith;
    }

-- the next colour of the row's node
next : (w : World) (by : ℕ) (row : Row) (limit : ℕ) (w1 : World) (t : Taken) (n : ℕ) (left rest : List ℕ)
    → AreSettled w by row limit left (colours_of w row) w1 t → left ≡ n ∷ rest
    → AreSettled w by row limit (n ∷ rest) (colours_of w row) w1 t
next w by row limit w1 t n left rest s e = subst (λ (l : List ℕ). AreSettled w by row limit l (colours_of w row) w1 t) e s

pub loop-colour-preserved-then-taken-gt0 : goal.loop-colour-preserved-then-taken-gt0
loop-colour-preserved-then-taken-gt0 c =
    let w = world_of c.args.self.now in
    let w1 = world_of c.loop-colour.self in
    let t = c.loop-colour.taken in
    let n = c.in-Some.colour in
    let rest = c.next.new.self in
    let le = c.loop-colour.invariant.few in
    let one = c.done_count.ensures.few in
    let some = c.if-taken-gt0.true in record {
      settled = settled_more w c.args.by c.args.row c.args.limit n rest (colours_of w c.args.row) w1 t.done t.left
          (next w c.args.by c.args.row c.args.limit w1 t n c.loop-colour.colour-iterator rest
          c.loop-colour.invariant.settled c.in-Some.ensures.steps)
          some (world_of c.settle.new.self) c.settle.ensures.world c.done_count.result
          (c.done_count.ensures.count ∙ ap done_count (c.place_reply-reply.ensures ∙ c.settle.ensures.reply));
      few = omega (arith, le, one, some);
    }

pub loop-colour-preserved : goal.loop-colour-preserved
loop-colour-preserved c =
    let w = world_of c.args.self.now in
    let w1 = world_of c.loop-colour.self in
    let t = c.loop-colour.taken in
    let n = c.in-Some.colour in
    let rest = c.next.new.self in record {
      settled = settled_stop w c.args.by c.args.row c.args.limit n rest (colours_of w c.args.row) w1 t.done t.left
          (next w c.args.by c.args.row c.args.limit w1 t n c.loop-colour.colour-iterator rest
          c.loop-colour.invariant.settled c.in-Some.ensures.steps)
          (let z = c.if-taken-gt0.false in omega (arith, z));
      few = c.loop-colour.invariant.few;
    }

pub overflow_add-taken : goal.overflow_add-taken
overflow_add-taken c =
    let le = c.loop-colour.invariant.few in
    let fits = c.ranges.limit in
    let one = c.done_count.ensures.few in
    let some = c.if-taken-gt0.true in
    omega (arith, le, fits, one, some)

pub returns-clause-taken : goal.returns-clause-taken
returns-clause-taken c =
    let w = world_of c.args.self.now in
    settled_all w c.args.by c.args.row c.args.limit c.loop-colour.colour-iterator (colours_of w c.args.row)
    (world_of c.loop-colour.self) c.loop-colour.taken c.in-None.ensures.steps.0 c.loop-colour.invariant.settled

pub returns-clause-few : goal.returns-clause-few
returns-clause-few c = c.loop-colour.invariant.few
