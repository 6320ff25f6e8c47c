use Rattle.std.proofs.Common.{◌≡◌, List, inl}
use Rattle.col_core.specs.Cuts.{held}
use Rattle.chain_store.specs.declared.told.Tag.{Tag}
use Rattle.chain_store.specs.declared.told.Told.{Told}
use Rattle.chain_store.specs.Passes.{dated_in}
use Rattle.chain_store.specs.Moves.{LooksAt}
use Rattle.chain_store.proofs.Holding.{holder}
use Rattle.chain_store.proofs.ByColour.{TurnOf, turned_but, of_turned, turned_hold}
use Rattle.chain_store.proofs.region.Region.held.Given.{Over}
use Rattle.chain_store.proofs.region.Region.held.Goals as goal

pub held_in-requires : goal.held_in-requires
held_in-requires g c =
    record {
      pass = holder c.args.self.now c.args.hold.now c.args.colour c.column.result.now c.index_mut-pass.result.now
          c.requires.hold
          c.requires.colour c.column.ensures c.index_mut-pass.ensures.value;
    }

turn : (g : Over) (c : goal.After-hold-1 g) → TurnOf c.args.self.now c.args.hold.now c.args.colour c.column.result.now
    c.index_mut-pass.result.now c.held_in.new.pass
turn g c = record {
  hold = c.requires.hold;
  inside = c.requires.colour;
  column = c.column.ensures;
  pass = c.index_mut-pass.ensures.value;
}

pub returns-clause-hold : goal.returns-clause-hold
returns-clause-hold g c =
    turned_hold (turn g c) c.args.hold.now.desks
    c.held_in.ensures.pass c.requires.hold.desks (inl c.held_in.ensures.look.0)

pub returns-clause-others : goal.returns-clause-others
returns-clause-others g c =
    turned_but (turn g c) c.args.hold.now.desks

pub returns-clause-look : goal.returns-clause-look
returns-clause-look g c =
    of_turned (turn g c) c.args.hold.now.desks
    (λ (t : Tag) (old new : List Told). LooksAt c.args.hold.now.passes.number old new c.held_in.result.0)
    c.held_in.ensures.look

pub returns-clause-held : goal.returns-clause-held
returns-clause-held g c =
    of_turned (turn g c) c.args.hold.now.desks
    (λ (t : Tag) (old new : List Told). c.held_in.result.1 ≡ held t.region (dated_in t new))
    c.held_in.ensures.held
