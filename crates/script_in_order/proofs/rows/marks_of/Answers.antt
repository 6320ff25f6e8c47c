use Rattle.std.proofs.Common.{◌∙◌, ◌<◌, ap, ℕ, map, refl}
use Rattle.log_node.specs.declared.ids.Colours.{Colours}
use Rattle.log_node.specs.Sets.{members}
use Rattle.log_node.specs.declared.marks.Mark.{Mark}
use Rattle.log_node.specs.declared.marks.ColourMark.{ColourMark}
use Rattle.world_laws.specs.Worlds.{row_of}
use Rattle.world_code.specs.WorldView.{world_of}
use Rattle.script_in_order.proofs.Sets.{low_first, low_next, low_rest, each_there, made_first, made_next, made_all}
use Rattle.script_in_order.proofs.rows.marks_of.Goals as goal

pub loop-colour-init : goal.loop-colour-init
loop-colour-init c =
    let f : ℕ → ColourMark = λ k. record { colour = k; mark = (row_of (world_of c.args.world.now) c.args.row).marks k } in
    let left = c.into_iter-colour-iterator.result in
    let all = c.into_iter-colour-iterator.ensures.into_iter_gives ∙ c.members-colour-items.ensures in record {
      made = made_first f (map f (members c.args.colours)) c.new-marks.result left (members c.args.colours)
          c.new-marks.ensures all refl;
      low = low_first c.args.world.now.shape.colours c.args.colours left all
          (each_there (λ k. k < c.args.world.now.shape.colours) (members c.args.colours) c.requires.within);
    }

pub mark-requires-clause-colour : goal.mark-requires-clause-colour
mark-requires-clause-colour c =
    low_next c.args.world.now.shape.colours c.in-Some.colour c.loop-colour.colour-iterator c.next.new.self
    c.in-Some.ensures.steps c.loop-colour.invariant.low

pub loop-colour-preserved : goal.loop-colour-preserved
loop-colour-preserved c =
    let f : ℕ → ColourMark = λ k. record { colour = k; mark = (row_of (world_of c.args.world.now) c.args.row).marks k } in
    let colour = c.in-Some.colour in
    let left = c.loop-colour.colour-iterator in
    let steps = c.in-Some.ensures.steps in record {
      made = made_next f (map f (members c.args.colours)) c.loop-colour.marks c.push.new.self _ colour left c.next.new.self
          steps c.in_ok-push.ensures.ok
          (ap (λ (m : Mark). let x : ColourMark = record { colour = colour; mark = m } in x) c.mark.ensures)
          c.loop-colour.invariant.made;
      low = low_rest c.args.world.now.shape.colours colour left c.next.new.self steps c.loop-colour.invariant.low;
    }

pub returns : goal.returns
returns c =
    let f : ℕ → ColourMark = λ k. record { colour = k; mark = (row_of (world_of c.args.world.now) c.args.row).marks k } in
    made_all f (map f (members c.args.colours)) c.loop-colour.marks c.loop-colour.colour-iterator
    c.in-None.ensures.steps.0 c.loop-colour.invariant.made
    ∙ ap (λ (s : Colours). map f (members s)) c.requires.colours
