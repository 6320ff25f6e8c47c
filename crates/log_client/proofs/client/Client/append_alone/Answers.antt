use Rattle.std.proofs.Common.{None, ap, arith, length, subst, sym}
use Rattle.chain_store.specs.Holds.{entries_seen}
use Rattle.chain_store.specs.Steps.{HasSingleCause}
use Rattle.lawful_run.specs.Callers.{row_taken}
use Rattle.log_client.specs.Clients.{nodes_of_rows}
use Rattle.log_client.proofs.Append.AppendsNothing.{no_memory_stays, one_takes_none}
use Rattle.log_client.proofs.Append.AppendReplies.{single_counts_on, single_next, single_fits, single_stands, single_ended, single_refused}
use Rattle.log_client.proofs.client.Client.append_alone.Goals as goal

pub stand-requires-clause-id : goal.stand-requires-clause-id
stand-requires-clause-id g c =
    single_next
    c.args.store.now c.args.self.now c.region-region.result.now c.index_mut-hold.result.now c.args.colour c.args.colours
    c.args.text c.in-Ok.node.value c.requires.client c.requires.colour c.requires.one c.region-region.ensures.there
    c.index_mut-hold.ensures.value c.in-Ok.ensures

pub stand-requires-clause-node : goal.stand-requires-clause-node
stand-requires-clause-node g c =
    single_fits
    c.args.store.now c.args.self.now c.region-region.result.now c.index_mut-hold.result.now c.args.colour c.args.colours
    c.args.text c.in-Ok.node.value c.requires.client c.requires.colour c.requires.one c.region-region.ensures.there
    c.index_mut-hold.ensures.value c.in-Ok.ensures

pub overflow_add-self : goal.overflow_add-self
overflow_add-self g c =
    let low = single_counts_on
    c.args.store.now c.args.self.now c.region-region.result.now c.index_mut-hold.result.now c.args.colour c.args.colours
    c.args.text c.in-Ok.node.value c.requires.client c.requires.colour c.requires.one c.region-region.ensures.there
    c.index_mut-hold.ensures.value c.in-Ok.ensures in
    omega (arith, low)

pub next_node-requires-clause-colours : goal.next_node-requires-clause-colours
next_node-requires-clause-colours g c k of =
    let lt = c.requires.colours.within k of in
    let many = c.requires.client.colours in
    omega (arith, lt, many)

pub next_node-requires-clause-row : goal.next_node-requires-clause-row
next_node-requires-clause-row g c =
    sym (ap (row_taken c.args.self.now.number (length (nodes_of_rows c.args.self.now))) c.requires.one)

pub returns-in_default : goal.returns-in_default
returns-in_default g c =
    no_memory_stays c.args.store.now c.args.self.now c.args.colours c.args.text None c.requires.client
    (λ used none. one_takes_none c.args.store.now c.args.self.now c.args.colours c.args.colour None used c.requires.one none)

pub returns-in-Ok-stand : goal.returns-in-Ok-stand
returns-in-Ok-stand g c =
    let e = c.in-Ok-stand.ensures in
    single_stands
    c.args.store.now c.args.self.now c.region-region.result.now c.index_mut-hold.result.now c.args.colour c.args.colours
    c.args.text c.in-Ok.node.value c.requires.client c.requires.colour c.requires.one c.region-region.ensures.there
    c.index_mut-hold.ensures.value c.in-Ok.ensures
    c.stand.new.hold c.in-Ok-stand.stood e.ok e.seat e.next e.hold c.max-self.result c.max-self.ensures e.one
    c.deref.result.now.id (ap (λ y. y.id) c.deref.ensures)

pub returns-in-Err-StampEnd : goal.returns-in-Err-StampEnd
returns-in-Err-StampEnd g c =
    let e = c.in-Err-StampEnd.ensures in
    single_ended
    c.args.store.now c.args.self.now c.region-region.result.now c.index_mut-hold.result.now c.args.colour c.args.colours
    c.args.text c.in-Ok.node.value c.requires.client c.requires.colour c.requires.one c.region-region.ensures.there
    c.index_mut-hold.ensures.value c.in-Ok.ensures
    c.stand.new.hold e.hold e.others.0 (e.others.1, e.err.1) e.err.0 c.in-Err-StampEnd.field-0-0
    (subst (HasSingleCause (entries_seen c.stand.new.hold c.args.colour) c.in-Ok.node.value.floor)
    c.in-Err-StampEnd.field-0-is e.cause)

pub returns : goal.returns
returns g c =
    let e = c.in-Err-NoMemory.ensures in
    single_refused
    c.args.store.now c.args.self.now c.region-region.result.now c.index_mut-hold.result.now c.args.colour c.args.colours
    c.args.text c.in-Ok.node.value c.requires.client c.requires.colour c.requires.one c.region-region.ensures.there
    c.index_mut-hold.ensures.value c.in-Ok.ensures
    c.stand.new.hold e.hold e.others.0 (e.others.1, e.err.1) e.err.0
