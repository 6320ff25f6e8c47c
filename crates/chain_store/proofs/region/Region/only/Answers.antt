use Rattle.std.proofs.Common.{◌≡◌, ◌+◌, List, Some, refl, ap, sym, subst, arith, inl, inr}
use Rattle.log_node.specs.declared.node.Node.{Node}
use Rattle.chain_store.specs.declared.told.Tag.{Tag}
use Rattle.chain_store.specs.declared.told.Told.{Told}
use Rattle.chain_store.specs.Histories.{FitsColumn, entries_in}
use Rattle.chain_store.specs.Columns.{told_single}
use Rattle.chain_store.specs.Holds.{seen_in}
use Rattle.chain_store.specs.Passes.{SeesMore, tag_in}
use Rattle.chain_store.specs.Guarded.{wanted, HasNextCause, MakesNext}
use Rattle.chain_store.proofs.Holding.{turned, holder, client_few, same_seat, single_of}
use Rattle.chain_store.proofs.Passing.{ok_is, err_is, at_err}
use Rattle.chain_store.proofs.ByColour.{client_tagged, but_there, of_turn, hold_moved}
use Rattle.chain_store.proofs.Nexts.{next_seen}
use Rattle.chain_store.proofs.region.Region.only.Goals as goal

pub only_in-entered-requires-clause-pass : goal.only_in-entered-requires-clause-pass
only_in-entered-requires-clause-pass g c =
    holder c.args.self.now c.args.hold.now c.args.colour c.column.result.now c.index_mut-pass.result.now c.requires.hold
    c.requires.colour c.column.ensures c.index_mut-pass.ensures.value

pub only_in-entered-requires-clause-client : goal.only_in-entered-requires-clause-client
only_in-entered-requires-clause-client g c = (
  (client_few c.args.self.now c.args.hold.now c.requires.hold).0,
  client_tagged c.args.self.now c.args.hold.now c.args.colour c.column.result.now c.requires.hold c.column.ensures,
  c.requires.id.0,
)

pub only_in-entered-requires-clause-node : goal.only_in-entered-requires-clause-node
only_in-entered-requires-clause-node g c =
    subst (λ (t : Tag). FitsColumn t.region t.colour c.args.node.now.value) (sym c.column.ensures.tagged)
    c.requires.node

pub returns-in-Ok-clause-hold : goal.returns-in-Ok-clause-hold
returns-in-Ok-clause-hold g c =
    let h = c.args.hold.now in
    let x = c.args.node.now.value in
    let colour = (tag_in c.column.result.now).colour in
    let more = ap (λ (y : Node). y.id.count + 1) c.deref.ensures in
    hold_moved c.args.self.now c.args.hold.now _ c.args.colour c.column.result.now c.index_mut-pass.result.now
    c.only_in-entered.new.pass c.requires.hold c.requires.colour c.column.ensures c.index_mut-pass.ensures.value
    refl refl
    c.only_in-entered.ensures.pass (same_seat h.seat) (let n = c.requires.id.1 in omega (arith, n, more))
    c.behind.ensures
    (inr (
      told_single colour h.passes.number x c.in-Ok.answer.stamp,
      c.in-Ok.answer.at,
      (ok_is c.only_in-entered.result _ _ c.in-Ok.is c.only_in-entered.ensures.ok).made,
      refl,
      single_of c.args.self.now h x c.requires.hold c.requires.id.1 (c.deref.result.now.id.count + 1) more colour,
    ))

pub returns-in-Ok-clause-others : goal.returns-in-Ok-clause-others
returns-in-Ok-clause-others g c =
    but_there c.args.self.now c.args.hold.now _ c.args.colour c.column.result.now c.index_mut-pass.result.now
    c.only_in-entered.new.pass c.requires.hold c.requires.colour c.column.ensures c.index_mut-pass.ensures.value
    refl refl

pub returns-in-Ok-clause-ok : goal.returns-in-Ok-clause-ok
returns-in-Ok-clause-ok g c =
    let n = c.args.hold.now.passes.number in
    let a = c.in-Ok.answer in
    of_turn c.args.self.now c.args.hold.now (turned c.args.hold.now c.args.colour c.only_in-entered.new.pass
    (c.deref.result.now.id.count + 1) c.behind.new.desks) c.args.colour c.column.result.now c.index_mut-pass.result.now
    c.only_in-entered.new.pass c.requires.hold c.requires.colour c.column.ensures c.index_mut-pass.ensures.value
    refl refl
    (λ (t : Tag) (old new : List Told). MakesNext n (told_single t.colour n c.args.node.now.value a.stamp)
    (wanted t.region t.colour c.args.node.now.value) old new a.at)
    (ok_is c.only_in-entered.result _ _ c.in-Ok.is c.only_in-entered.ensures.ok)

pub returns-in-Ok-clause-position : goal.returns-in-Ok-clause-position
returns-in-Ok-clause-position g c =
    let a = c.in-Ok.answer in
    of_turn c.args.self.now c.args.hold.now (turned c.args.hold.now c.args.colour c.only_in-entered.new.pass
    (c.deref.result.now.id.count + 1) c.behind.new.desks) c.args.colour c.column.result.now c.index_mut-pass.result.now
    c.only_in-entered.new.pass c.requires.hold c.requires.colour c.column.ensures c.index_mut-pass.ensures.value
    refl refl
    (λ (t : Tag) (old new : List Told). a.position ≡ Some (wanted t.region t.colour c.args.node.now.value))
    (ok_is c.only_in-entered.result _ _ c.in-Ok.is c.only_in-entered.ensures.position)

pub returns-in-Ok-clause-stands : goal.returns-in-Ok-clause-stands
returns-in-Ok-clause-stands g c =
    let h = c.args.hold.now in
    let a = c.in-Ok.answer in
    let x = c.args.node.now.value in
    next_seen c.args.self.now (turned h c.args.colour c.only_in-entered.new.pass (c.deref.result.now.id.count + 1)
    c.behind.new.desks)
    c.args.colour h.passes.number x a.stamp (wanted c.args.self.now.number c.args.colour x) (seen_in h c.args.colour)
    a.at
    (returns-in-Ok-clause-hold g c) c.requires.colour (returns-in-Ok-clause-ok g c)

pub returns-in-Err-clause-hold : goal.returns-in-Err-clause-hold
returns-in-Err-clause-hold g c =
    hold_moved c.args.self.now c.args.hold.now _ c.args.colour c.column.result.now c.index_mut-pass.result.now
    c.only_in-entered.new.pass c.requires.hold c.requires.colour c.column.ensures c.index_mut-pass.ensures.value
    refl refl
    c.only_in-entered.ensures.pass (same_seat c.args.hold.now.seat) (omega arith) c.behind.ensures (inl (at_err
    c.only_in-entered.result _ c.in-Err.is c.only_in-entered.ensures.err))

pub returns-in-Err-clause-others : goal.returns-in-Err-clause-others
returns-in-Err-clause-others g c =
    but_there c.args.self.now c.args.hold.now _ c.args.colour c.column.result.now c.index_mut-pass.result.now
    c.only_in-entered.new.pass c.requires.hold c.requires.colour c.column.ensures c.index_mut-pass.ensures.value
    refl refl

pub returns-in-Err-clause-cause : goal.returns-in-Err-clause-cause
returns-in-Err-clause-cause g c =
    of_turn c.args.self.now c.args.hold.now (turned c.args.hold.now c.args.colour c.only_in-entered.new.pass
    c.args.hold.now.next c.behind.new.desks) c.args.colour c.column.result.now c.index_mut-pass.result.now
    c.only_in-entered.new.pass c.requires.hold c.requires.colour c.column.ensures c.index_mut-pass.ensures.value
    refl refl
    (λ (t : Tag) (old new : List Told). HasNextCause t.region t.colour (entries_in new) c.args.node.now.value
    c.in-Err.fault)
    (err_is c.only_in-entered.result _ _ c.in-Err.is c.only_in-entered.ensures.cause)

pub returns-in-Err-clause-err : goal.returns-in-Err-clause-err
returns-in-Err-clause-err g c = (
  of_turn c.args.self.now c.args.hold.now (turned c.args.hold.now c.args.colour c.only_in-entered.new.pass
      c.args.hold.now.next c.behind.new.desks) c.args.colour c.column.result.now c.index_mut-pass.result.now
      c.only_in-entered.new.pass c.requires.hold c.requires.colour c.column.ensures c.index_mut-pass.ensures.value
      refl refl
      (λ (t : Tag) (old new : List Told). SeesMore c.args.hold.now.passes.number old new) (at_err
      c.only_in-entered.result _ c.in-Err.is c.only_in-entered.ensures.err),
  refl,
)
