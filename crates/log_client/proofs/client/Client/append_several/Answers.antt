use Rattle.std.proofs.Common.{ap, map, arith, sym, ◌∙◌}
use Rattle.std.proofs.lemmas.Bool.{ltb-true, lt-ltb, true≢false}
use Rattle.log_client.proofs.Going.NextNodes.{hold_read, appends_next, counts_on, floor_in_range, id_counted, of_region, on_board, rests_there}
use Rattle.log_client.proofs.Append.RowCalls.{nodes_then, row_full, row_named, row_no_node, row_no_place, row_own, row_room, stop_of, tracks_within}
use Rattle.log_client.proofs.Append.RowReplies.{row_kept, row_left, row_stood}
use Rattle.log_client.proofs.client.Client.append_several.Goals as goal

pub returns-in-Err : goal.returns-in-Err
returns-in-Err g c =
    row_full
    c.args.store.now c.args.self.now c.region-region.result.now c.index.result.now c.args.colours c.args.text c.args.stop c.requires.client c.region-region.ensures.there
    c.index.ensures c.requires.colours c.in-Err.full c.in-Err.ensures c.requires.not_at_once

pub next_node-requires-clause-colours : goal.next_node-requires-clause-colours
next_node-requires-clause-colours g c =
    tracks_within
    c.args.store.now c.args.self.now c.region-region.result.now c.index.result.now c.args.colours c.args.text c.args.stop c.requires.client c.region-region.ensures.there
    c.index.ensures c.requires.colours

pub next_node-requires-clause-row : goal.next_node-requires-clause-row
next_node-requires-clause-row g c =
    row_named
    c.args.store.now c.args.self.now c.region-region.result.now c.index.result.now c.args.colours c.args.text c.args.stop c.requires.client c.region-region.ensures.there
    c.index.ensures c.requires.colours c.in-Ok.row c.in-Ok.ensures

pub returns-in_default : goal.returns-in_default
returns-in_default g c =
    row_no_node
    c.args.store.now c.args.self.now c.region-region.result.now c.index.result.now c.args.colours c.args.text c.args.stop c.requires.client c.region-region.ensures.there
    c.index.ensures c.requires.colours c.in-Ok.row c.in-Ok.ensures

pub returns-in_default-reserve : goal.returns-in_default-reserve
returns-in_default-reserve g c =
    row_no_place
    c.args.store.now c.args.self.now c.region-region.result.now c.index.result.now c.args.colours c.args.text c.args.stop c.requires.client c.region-region.ensures.there
    c.index.ensures c.requires.colours c.in-Ok.row c.in-Ok.ensures (record c.args.self.now { rows = c.reserve.new.self })
    (ap (map (λ shared. shared.value)) c.reserve.ensures.items)

pub stand_in_all-requires-clause-hold : goal.stand_in_all-requires-clause-hold
stand_in_all-requires-clause-hold g c κs within =
    rests_there
    c.args.store.now c.args.self.now c.region-region.result.now c.index_mut-hold.result.now c.args.colours c.args.text c.in-Ok-next_node.node.value c.requires.client c.region-region.ensures.there
    (hold_read c.args.store.now c.args.self.now c.index_mut-hold.result.now c.requires.client c.index_mut-hold.ensures.value) c.in-Ok-next_node.ensures

pub stand_in_all-requires-clause-id : goal.stand_in_all-requires-clause-id
stand_in_all-requires-clause-id g c κs within =
    appends_next
    c.args.store.now c.args.self.now c.region-region.result.now c.index_mut-hold.result.now c.args.colours c.args.text c.in-Ok-next_node.node.value c.requires.client c.region-region.ensures.there
    (hold_read c.args.store.now c.args.self.now c.index_mut-hold.result.now c.requires.client c.index_mut-hold.ensures.value) c.in-Ok-next_node.ensures

pub stand_in_all-requires-clause-count : goal.stand_in_all-requires-clause-count
stand_in_all-requires-clause-count g c κs within =
    id_counted
    c.args.store.now c.args.self.now c.region-region.result.now c.index_mut-hold.result.now c.args.colours c.args.text c.in-Ok-next_node.node.value c.requires.client c.region-region.ensures.there
    (hold_read c.args.store.now c.args.self.now c.index_mut-hold.result.now c.requires.client c.index_mut-hold.ensures.value) c.in-Ok-next_node.ensures

pub stand_in_all-requires-clause-row : goal.stand_in_all-requires-clause-row
stand_in_all-requires-clause-row g c κs within =
    row_own
    c.args.store.now c.args.self.now c.region-region.result.now c.index.result.now c.args.colours c.args.text c.args.stop c.requires.client c.region-region.ensures.there
    c.index.ensures c.requires.colours c.in-Ok.row c.in-Ok.ensures c.index_mut-hold.result.now c.index_mut-hold.ensures.value c.in-Ok-next_node.node.value
    c.in-Ok-next_node.ensures

pub stand_in_all-requires-clause-room : goal.stand_in_all-requires-clause-room
stand_in_all-requires-clause-room g c κs within =
    row_room
    c.args.store.now c.args.self.now c.region-region.result.now c.index.result.now c.args.colours c.args.text c.args.stop c.requires.client c.region-region.ensures.there
    c.index.ensures c.requires.colours c.in-Ok.row c.in-Ok.ensures c.index_mut-hold.result.now c.index_mut-hold.ensures.value c.in-Ok-next_node.node.value
    c.in-Ok-next_node.ensures

pub stand_in_all-requires-clause-region : goal.stand_in_all-requires-clause-region
stand_in_all-requires-clause-region g c κs within =
    of_region
    c.args.store.now c.args.self.now c.region-region.result.now c.index_mut-hold.result.now c.args.colours c.args.text c.in-Ok-next_node.node.value c.requires.client c.region-region.ensures.there
    (hold_read c.args.store.now c.args.self.now c.index_mut-hold.result.now c.requires.client c.index_mut-hold.ensures.value) c.in-Ok-next_node.ensures

pub stand_in_all-requires-clause-colours : goal.stand_in_all-requires-clause-colours
stand_in_all-requires-clause-colours g c κs within =
    on_board
    c.args.store.now c.args.self.now c.region-region.result.now c.index_mut-hold.result.now c.args.colours c.args.text c.in-Ok-next_node.node.value c.requires.client c.region-region.ensures.there
    (hold_read c.args.store.now c.args.self.now c.index_mut-hold.result.now c.requires.client c.index_mut-hold.ensures.value) c.in-Ok-next_node.ensures
    c.requires.colours

pub stand_in_all-requires-clause-floor : goal.stand_in_all-requires-clause-floor
stand_in_all-requires-clause-floor g c κs within =
    floor_in_range
    c.args.store.now c.args.self.now c.region-region.result.now c.index_mut-hold.result.now c.args.colours c.args.text c.in-Ok-next_node.node.value c.requires.client c.region-region.ensures.there
    (hold_read c.args.store.now c.args.self.now c.index_mut-hold.result.now c.requires.client c.index_mut-hold.ensures.value) c.in-Ok-next_node.ensures

pub stand_in_all-requires-clause-stop : goal.stand_in_all-requires-clause-stop
stand_in_all-requires-clause-stop g c κs within =
    stop_of c.args.colours c.in-Ok-next_node.node.value c.args.stop (ap (λ y. y.colours) c.in-Ok-next_node.ensures) c.requires.stop

pub overflow_add-self : goal.overflow_add-self
overflow_add-self g c =
    let low = counts_on
    c.args.store.now c.args.self.now c.region-region.result.now c.index_mut-hold.result.now c.args.colours c.args.text c.in-Ok-next_node.node.value c.requires.client c.region-region.ensures.there
    (hold_read c.args.store.now c.args.self.now c.index_mut-hold.result.now c.requires.client c.index_mut-hold.ensures.value)
    c.in-Ok-next_node.ensures in
    omega (arith, low)

pub overflow_add-self-then-left : goal.overflow_add-self-then-left
overflow_add-self-then-left g c =
    let low = counts_on
    c.args.store.now c.args.self.now c.region-region.result.now c.index_mut-hold.result.now c.args.colours c.args.text c.in-Ok-next_node.node.value c.requires.client c.region-region.ensures.there
    (hold_read c.args.store.now c.args.self.now c.index_mut-hold.result.now c.requires.client c.index_mut-hold.ensures.value)
    c.in-Ok-next_node.ensures in
    omega (arith, low)

pub returns-in-Ok-stand_in_all : goal.returns-in-Ok-stand_in_all
returns-in-Ok-stand_in_all g c =
    let e = c.in-Ok-stand_in_all.ensures in
    let own = row_own
    c.args.store.now c.args.self.now c.region-region.result.now c.index.result.now c.args.colours c.args.text c.args.stop c.requires.client c.region-region.ensures.there
    c.index.ensures c.requires.colours c.in-Ok.row c.in-Ok.ensures c.index_mut-hold.result.now c.index_mut-hold.ensures.value c.in-Ok-next_node.node.value
    c.in-Ok-next_node.ensures in
    row_stood
    c.args.store.now c.args.self.now (record c.args.self.now { rows = c.push_reserved.new.self })
    c.region-region.result.now c.index_mut-hold.result.now c.stand_in_all.new.hold c.args.colours c.args.text c.args.stop c.in-Ok-next_node.node.value c.max-self.result
    c.requires.client c.region-region.ensures.there
    (hold_read c.args.store.now c.args.self.now c.index_mut-hold.result.now c.requires.client c.index_mut-hold.ensures.value)
    c.in-Ok-next_node.ensures c.requires.colours e.hold e.ok.begun e.ok.goes.number e.ok.goes.more
    (nodes_then c.args.self.now.rows.items c.reserve.new.self.items c.push_reserved.new.self.items c.in-Ok-next_node.node
    c.reserve.ensures.items c.push_reserved.ensures.items)
    c.in-Ok-stand_in_all.stood e.ok e.one c.max-self.ensures c.deref.result.now.id (ap (λ y. y.id) c.deref.ensures)
    c.in-Ok.row.number (ap (λ w. w.number) own.0) e.whole

pub returns-then-left : goal.returns-then-left
returns-then-left g c =
    let e = c.in-Err-stand_in_all.ensures in
    row_left
    c.args.store.now c.args.self.now (record c.args.self.now { rows = c.push_reserved-then-left.new.self })
    c.region-region.result.now c.index_mut-hold.result.now c.stand_in_all.new.hold c.args.colours c.args.text c.args.stop c.in-Ok-next_node.node.value
    c.requires.client c.region-region.ensures.there
    (hold_read c.args.store.now c.args.self.now c.index_mut-hold.result.now c.requires.client c.index_mut-hold.ensures.value)
    c.in-Ok-next_node.ensures c.requires.colours e.hold
    (ltb-true c.index_mut-hold.result.now.seat.used c.stand_in_all.new.hold.seat.used (sym e.begun ∙ c.if-left.true))
    (nodes_then c.args.self.now.rows.items c.reserve.new.self.items c.push_reserved-then-left.new.self.items
    c.in-Ok-next_node.node c.reserve.ensures.items c.push_reserved-then-left.ensures.items)
    c.in-Err-stand_in_all.left.fault e.err

pub returns-else-left : goal.returns-else-left
returns-else-left g c =
    let e = c.in-Err-stand_in_all.ensures in
    row_kept
    c.args.store.now c.args.self.now (record c.args.self.now { rows = c.reserve.new.self })
    c.region-region.result.now c.index_mut-hold.result.now c.stand_in_all.new.hold c.args.colours c.args.text c.args.stop c.in-Ok-next_node.node.value
    c.requires.client c.region-region.ensures.there
    (hold_read c.args.store.now c.args.self.now c.index_mut-hold.result.now c.requires.client c.index_mut-hold.ensures.value)
    c.in-Ok-next_node.ensures c.requires.colours e.hold
    (λ more. true≢false (sym (lt-ltb c.index_mut-hold.result.now.seat.used c.stand_in_all.new.hold.seat.used more) ∙ (sym e.begun ∙ c.if-left.false)))
    c.requires.not_at_once
    (row_room
    c.args.store.now c.args.self.now c.region-region.result.now c.index.result.now c.args.colours c.args.text c.args.stop c.requires.client c.region-region.ensures.there
    c.index.ensures c.requires.colours c.in-Ok.row c.in-Ok.ensures c.index_mut-hold.result.now c.index_mut-hold.ensures.value c.in-Ok-next_node.node.value
    c.in-Ok-next_node.ensures)
    (ap (map (λ shared. shared.value)) c.reserve.ensures.items) c.in-Err-stand_in_all.left.fault e.err
