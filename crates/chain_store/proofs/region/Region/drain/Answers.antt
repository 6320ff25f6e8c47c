use Rattle.std.proofs.Common.{◌≢◌, ◌<◌, ◌≤◌, ℕ, List, inl, sym, subst}
use Rattle.chain_store.specs.declared.told.Tag.{Tag}
use Rattle.chain_store.specs.declared.told.Told.{Told}
use Rattle.chain_store.specs.Passes.{SeesMore}
use Rattle.chain_store.specs.Moves.{held_in}
use Rattle.chain_store.proofs.Passing.{ok_as}
use Rattle.chain_store.proofs.Holding.{holder}
use Rattle.chain_store.proofs.ByColour.{TurnOf, turned_but, of_turned, turned_hold}
use Rattle.chain_store.proofs.region.Region.drain.Given.{Over}
use Rattle.chain_store.proofs.region.Region.drain.Goals as goal

pub drain_in-requires-clause-pass : goal.drain_in-requires-clause-pass
drain_in-requires-clause-pass g c =
    holder c.args.self.now c.args.hold.now c.args.colour c.column.result.now c.index_mut-pass.result.now c.requires.hold
    c.requires.colour c.column.ensures c.index_mut-pass.ensures.value

pub drain_in-requires-clause-other : goal.drain_in-requires-clause-other
drain_in-requires-clause-other g c =
    subst (λ (t : Tag). c.args.region ≢ t.region) (sym c.column.ensures.tagged) c.requires.other.0

pub drain_in-requires-clause-region : goal.drain_in-requires-clause-region
drain_in-requires-clause-region g c =
    subst (λ (t : Tag). c.args.region < t.regions) (sym c.column.ensures.tagged) c.requires.other.1

turn : (g : Over) (c : goal.After-hold-1 g) → TurnOf c.args.self.now c.args.hold.now c.args.colour c.column.result.now
    c.index_mut-pass.result.now c.drain_in.new.pass
turn g c = record {
  hold = c.requires.hold;
  inside = c.requires.colour;
  column = c.column.ensures;
  pass = c.index_mut-pass.ensures.value;
}

pub returns-clause-hold : goal.returns-clause-hold
returns-clause-hold g c =
    turned_hold (turn g c) c.args.hold.now.desks c.drain_in.ensures.pass c.requires.hold.desks (inl c.drain_in.ensures.sees)

pub returns-clause-others : goal.returns-clause-others
returns-clause-others g c = turned_but (turn g c) c.args.hold.now.desks

pub returns-clause-sees : goal.returns-clause-sees
returns-clause-sees g c =
    of_turned (turn g c) c.args.hold.now.desks
    (λ (t : Tag) (old new : List Told). SeesMore c.args.hold.now.passes.number old new) c.drain_in.ensures.sees

pub returns-clause-count : goal.returns-clause-count
returns-clause-count g c =
    ok_as c.drain_in.result _ _
    (λ (n : ℕ) y. of_turned (turn g c) c.args.hold.now.desks
    (λ (t : Tag) (old new : List Told). held_in t new c.args.region ≤ n) y) c.drain_in.ensures.count
