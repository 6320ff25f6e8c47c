use Rattle.std.proofs.Common.{◌≡◌, ◌∙◌, ap, ℕ, length, List, refl}
use Rattle.log_node.specs.declared.node.At.TheVariants.{Event}
use Rattle.log_node.specs.Sets.{members}
use Rattle.report_text.specs.declared.report.PointPiece.{PointPiece}
use Rattle.col_core.specs.declared.Entry.{Entry}
use Rattle.column.specs.Columns.{ColumnState}
use Rattle.world_code.specs.WorldView.{WorldView, world_of, column_at}
use Rattle.world_laws.specs.Worlds.{home_of}
use Rattle.script_in_order.specs.Points.{next_point, places_in}
use Rattle.script_in_order.proofs.Sets.{low_first, low_next, low_rest, made_first, made_next, made_all}
use Rattle.script_in_order.proofs.points.places.Goals as goal

place_is : (code : WorldView) (client colour home : ℕ) (column : ColumnState) (journal : List Entry)
    → home ≡ home_of (world_of code) client → column ≡ column_at code.columns home colour → journal ≡ column.journal
    → (let p : PointPiece = record { colour = colour; at = Event (length journal); position = 0 } in p)
    ≡ next_point (world_of code) client colour
place_is code client colour home column journal h e j =
    ap (λ (l : List Entry). let p : PointPiece = record { colour = colour; at = Event (length l); position = 0 } in p)
    (j ∙ (ap (λ (x : ColumnState). x.journal) e ∙ ap (λ (r : ℕ). (column_at code.columns r colour).journal) h))

pub loop-colour-init : goal.loop-colour-init
loop-colour-init c =
    let w = world_of c.args.world.now in
    let left = c.into_iter-colour-iterator.result in
    let all = c.into_iter-colour-iterator.ensures.into_iter_gives ∙ c.members-colour-items.ensures in record {
      made = made_first (next_point w c.args.client) (places_in w c.args.client (members c.args.colours))
          c.new-places.result.items left (members c.args.colours) c.new-places.ensures.items all refl;
      low = low_first c.args.world.now.shape.colours c.args.colours left all c.requires.within;
    }

pub column-column-requires-clause-colour : goal.column-column-requires-clause-colour
column-column-requires-clause-colour c =
    low_next c.args.world.now.shape.colours c.in-Some.colour c.loop-colour.colour-iterator c.next.new.self
    c.in-Some.ensures.steps c.loop-colour.invariant.low

pub loop-colour-preserved : goal.loop-colour-preserved
loop-colour-preserved c =
    let w = world_of c.args.world.now in
    let colour = c.in-Some.colour in
    let left = c.loop-colour.colour-iterator in
    let steps = c.in-Some.ensures.steps in record {
      made = made_next (next_point w c.args.client) (places_in w c.args.client (members c.args.colours))
          c.loop-colour.places.items c.push.new.self.items _ colour left c.next.new.self steps c.in_ok-push.ensures.items
          (place_is c.args.world.now c.args.client colour c.home.result c.column-column.result.now c.journal.result.now
          c.home.ensures.home c.column-column.ensures c.journal.ensures) c.loop-colour.invariant.made;
      low = low_rest c.args.world.now.shape.colours colour left c.next.new.self steps c.loop-colour.invariant.low;
    }

pub returns : goal.returns
returns c =
    let w = world_of c.args.world.now in
    made_all (next_point w c.args.client) (places_in w c.args.client (members c.args.colours)) c.loop-colour.places.items
    c.loop-colour.colour-iterator c.in-None.ensures.steps.0 c.loop-colour.invariant.made
