use Rattle.std.proofs.Common.{◌≡◌, ◌∙◌, ℕ, Bool, true, false, cond, List, ◌∷◌, ap, sym}
use Rattle.std.specs.Prelude.{slice_index_or}
use Rattle.std.specs.List.{filter}
use Rattle.log_node.specs.declared.ids.Row.{Row}
use Rattle.log_node.specs.Outcomes.{is_stamp_end_fence}
use Rattle.world_laws.specs.Worlds.{World, row_of}
use Rattle.world_code.specs.WorldView.{world_of}
use Rattle.script_meaning.specs.Appends.{ended_colour}
use Rattle.script_in_order.proofs.Sets.{low_first, low_next, low_rest}
use Rattle.script_in_order.proofs.appends.ended_colour.Goals as goal

-- it is the next one, or one of those behind it
module _ (w : World) (row : Row) (colour : ℕ) (rest : List ℕ) where
  abbrev ended : ℕ → Bool
  ended c = is_stamp_end_fence ((row_of w row).marks c)

  ended_here : ended colour ≡ true → colour ≡ ended_colour w row (colour ∷ rest)
  ended_here t = ap (λ (b : Bool). slice_index_or (cond b (colour ∷ filter ended rest) (filter ended rest)) 0 0) (sym t)

  ended_later : ended colour ≡ false → ended_colour w row rest ≡ ended_colour w row (colour ∷ rest)
  ended_later f = ap (λ (b : Bool). slice_index_or (cond b (colour ∷ filter ended rest) (filter ended rest)) 0 0) (sym f)

pub loop-colour-init : goal.loop-colour-init
loop-colour-init c =
    let left = c.into_iter-colour-iterator.result in
    let all = c.into_iter-colour-iterator.ensures.into_iter_gives ∙ c.members-colour-items.ensures in record {
      least = ap (ended_colour (world_of c.args.world.now) c.args.row) all;
      low = low_first c.args.world.now.shape.colours c.args.colours left all c.requires.within;
    }

pub mark-requires-clause-colour : goal.mark-requires-clause-colour
mark-requires-clause-colour c =
    low_next c.args.world.now.shape.colours c.in-Some.colour c.loop-colour.colour-iterator c.next.new.self
    c.in-Some.ensures.steps c.loop-colour.invariant.low

pub returns-then-is_stamp_end : goal.returns-then-is_stamp_end
returns-then-is_stamp_end c =
    let w = world_of c.args.world.now in
    ended_here w c.args.row c.in-Some.colour c.next.new.self
    (sym (ap is_stamp_end_fence c.mark.ensures) ∙ (sym c.is_stamp_end.ensures ∙ c.if-is_stamp_end.true))
    ∙ (ap (ended_colour w c.args.row) (sym c.in-Some.ensures.steps) ∙ c.loop-colour.invariant.least)

pub loop-colour-preserved : goal.loop-colour-preserved
loop-colour-preserved c =
    let w = world_of c.args.world.now in
    let left = c.loop-colour.colour-iterator in
    let steps = c.in-Some.ensures.steps in record {
      least = ended_later w c.args.row c.in-Some.colour c.next.new.self
          (sym (ap is_stamp_end_fence c.mark.ensures) ∙ (sym c.is_stamp_end.ensures ∙ c.if-is_stamp_end.false))
          ∙ (ap (ended_colour w c.args.row) (sym steps) ∙ c.loop-colour.invariant.least);
      low = low_rest c.args.world.now.shape.colours c.in-Some.colour left c.next.new.self steps c.loop-colour.invariant.low;
    }

pub returns : goal.returns
returns c =
    ap (ended_colour (world_of c.args.world.now) c.args.row) (sym c.in-None.ensures.steps.0)
    ∙ c.loop-colour.invariant.least
