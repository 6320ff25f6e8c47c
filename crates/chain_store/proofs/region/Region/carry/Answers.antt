use Rattle.std.proofs.Common.{◌≢◌, ◌<◌, ℕ, List, Option, Some, None, sym, subst}
use Rattle.log_node.specs.declared.node.At.{At}
use Rattle.turn_cell.specs.Cells.{seen}
use Rattle.chain_store.specs.declared.told.Tag.{Tag}
use Rattle.chain_store.specs.declared.told.Told.{Told}
use Rattle.chain_store.specs.Passes.{SeesMore, tag_in}
use Rattle.chain_store.specs.Moves.{CarriesAt, WaitsAt}
use Rattle.chain_store.proofs.Holding.{holder}
use Rattle.chain_store.proofs.Passing.{ok_as}
use Rattle.chain_store.proofs.ByColour.{TurnOf, carried, or_waited, turned_but, of_turned, turned_hold, client_tagged}
use Rattle.std.specs.Prelude.{IfSome, OnErr}
use Rattle.chain_store.proofs.region.Region.carry.Given.{Over}
use Rattle.chain_store.proofs.region.Region.carry.Goals as goal

pub carry_in-carried-requires-clause-pass : goal.carry_in-carried-requires-clause-pass
carry_in-carried-requires-clause-pass g c =
    holder c.args.self.now c.args.hold.now c.args.colour c.column.result.now c.index_mut-pass.result.now c.requires.hold
    c.requires.colour c.column.ensures c.index_mut-pass.ensures.value

pub carry_in-carried-requires-clause-maker : goal.carry_in-carried-requires-clause-maker
carry_in-carried-requires-clause-maker g c =
    client_tagged c.args.self.now c.args.hold.now c.args.colour c.column.result.now c.requires.hold c.column.ensures

pub carry_in-carried-requires-clause-other : goal.carry_in-carried-requires-clause-other
carry_in-carried-requires-clause-other g c =
    subst (λ (t : Tag). c.args.region ≢ t.region) (sym c.column.ensures.tagged) c.requires.other.0

pub carry_in-carried-requires-clause-region : goal.carry_in-carried-requires-clause-region
carry_in-carried-requires-clause-region g c =
    subst (λ (t : Tag). c.args.region < t.regions) (sym c.column.ensures.tagged) c.requires.other.1

some_as : {T : Type 0} (o : Option T) (P Q : T → Type 0) → ((x : T) → P x → Q x) → IfSome o P → IfSome o Q
some_as None P Q f h = tt
some_as (Some x) P Q f h = f x h

turn : (g : Over) (c : goal.After-behind g) → TurnOf c.args.self.now c.args.hold.now c.args.colour c.column.result.now
    c.index_mut-pass.result.now c.carry_in-carried.new.pass
turn g c = record {
  hold = c.requires.hold;
  inside = c.requires.colour;
  column = c.column.ensures;
  pass = c.index_mut-pass.ensures.value;
}

pub returns-clause-hold : goal.returns-clause-hold
returns-clause-hold g c =
    let n = c.args.hold.now.passes.number in
    let old = seen c.index_mut-pass.result.now in
    let new = seen c.carry_in-carried.new.pass in
    let t = tag_in c.column.result.now in
    turned_hold (turn g c) c.behind.new.desks c.carry_in-carried.ensures.pass c.behind.ensures
    (or_waited n old new (λ (x : At × ℕ). CarriesAt t n c.args.region c.args.least old new x.0 x.1)
    c.carry_in-carried.result (λ (x : At × ℕ). carried n old new t c.args.region c.args.least x.0 x.1)
    c.carry_in-carried.ensures.ok (λ none. (c.carry_in-carried.ensures.none none).sees) c.carry_in-carried.ensures.err)

pub returns-clause-others : goal.returns-clause-others
returns-clause-others g c =
    turned_but (turn g c) c.behind.new.desks

pub returns-clause-ok : goal.returns-clause-ok
returns-clause-ok g c =
    ok_as c.carry_in-carried.result _ _
    (λ (o : Option (At × ℕ)) h. some_as o _ _
    (λ (x : At × ℕ) y. of_turned (turn g c) c.behind.new.desks
    (λ (t : Tag) (old new : List Told). CarriesAt t c.args.hold.now.passes.number c.args.region c.args.least old new x.0 x.1)
    y) h) c.carry_in-carried.ensures.ok

pub returns-clause-none : goal.returns-clause-none
returns-clause-none g c = λ none.
    of_turned (turn g c) c.behind.new.desks
    (λ (t : Tag) (old new : List Told). WaitsAt t c.args.hold.now.passes.number c.args.region c.args.least old new)
    (c.carry_in-carried.ensures.none none)

pub returns-clause-err : goal.returns-clause-err
returns-clause-err g c =
    of_turned (turn g c) c.behind.new.desks
    (λ (t : Tag) (old new : List Told). OnErr c.carry_in-carried.result (SeesMore c.args.hold.now.passes.number old
    new))
    c.carry_in-carried.ensures.err
