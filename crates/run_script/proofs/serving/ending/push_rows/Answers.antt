use Rattle.std.proofs.Common.{◌≡◌, ◌∙◌, ◌<◌, ap, sym, subst, List, ◌∷◌, ◌++◌, [], map, length, get_or}
use Rattle.std.proofs.lemmas.List.{append_assoc, map-append}
use Rattle.std.proofs.lemmas.Iterator.Adapters.{YieldsList-from_vec}
use Rattle.std.proofs.lemmas.Iterator.Consumers.{YieldsList-turn}
use Rattle.log_node.specs.declared.node.Node.{Node}
use Rattle.stamp_board.specs.declared.rows.ClosedRow.{ClosedRow}
use Rattle.report_text.specs.declared.report.RowReport.{RowReport}
use Rattle.run_script.specs.EndReports.{nodes_in, row_shown}
use Rattle.run_script.proofs.EndsShown.{client_there, node_there, number_there, row_is}
use Rattle.run_script.proofs.Yielding.{there}
use Rattle.run_script.proofs.serving.ending.push_rows.Goals as goal

pub bounds-nodes-row : goal.bounds-nodes-row
bounds-nodes-row c =
    let items = c.into_vec-closed-items.result in
    let gives = c.into_iter-closed-iterator.ensures.into_iter_gives in
    let yielded = c.loop-closed.yielded in
    let closed = c.in-Some.closed in
    let t = YieldsList-turn (YieldsList-from_vec {s = c.into_iter-closed-iterator.result} items.items gives.0
    (gives.1 ∙ items.ok.0)) yielded _
    c.loop-closed.yielded_by _ c.next.new.self closed c.in-Some.is c.next.ensures.steps in
    let here = c.requires (length yielded) closed (there c.args.rows (length yielded) closed
    (subst (λ (l : List ClosedRow). (length yielded < length l) × (closed ≡ get_or l (length yielded) closed))
    c.into_vec-closed-items.ensures t)) in
    client_there c.args.nodes.now closed.row here.0 here.1

pub bounds-as_slice-row : goal.bounds-as_slice-row
bounds-as_slice-row c =
    let items = c.into_vec-closed-items.result in
    let gives = c.into_iter-closed-iterator.ensures.into_iter_gives in
    let yielded = c.loop-closed.yielded in
    let closed = c.in-Some.closed in
    let t = YieldsList-turn (YieldsList-from_vec {s = c.into_iter-closed-iterator.result} items.items gives.0
    (gives.1 ∙ items.ok.0)) yielded _
    c.loop-closed.yielded_by _ c.next.new.self closed c.in-Some.is c.next.ensures.steps in
    let here = c.requires (length yielded) closed (there c.args.rows (length yielded) closed
    (subst (λ (l : List ClosedRow). (length yielded < length l) × (closed ≡ get_or l (length yielded) closed))
    c.into_vec-closed-items.ensures t)) in
    subst (λ (l : List _). closed.row.number < length l) (sym c.as_slice.ensures)
    (number_there c.args.nodes.now closed.row here.0 c.index-nodes-row.result here.1 c.index-nodes-row.is)

pub loop-closed-preserved : goal.loop-closed-preserved
loop-closed-preserved c =
    let items = c.into_vec-closed-items.result in
    let gives = c.into_iter-closed-iterator.ensures.into_iter_gives in
    let yielded = c.loop-closed.yielded in
    let closed = c.in-Some.closed in
    let t = YieldsList-turn (YieldsList-from_vec {s = c.into_iter-closed-iterator.result} items.items gives.0
    (gives.1 ∙ items.ok.0)) yielded _
    c.loop-closed.yielded_by _ c.next.new.self closed c.in-Some.is c.next.ensures.steps in
    let nodes = nodes_in c.args.nodes.now in
    let here = c.requires (length yielded) closed (there c.args.rows (length yielded) closed
    (subst (λ (l : List ClosedRow). (length yielded < length l) × (closed ≡ get_or l (length yielded) closed))
    c.into_vec-closed-items.ensures t)) in
    let share_is = c.index-as_slice-row.is ∙ ap (λ (l : List _). get_or l closed.row.number c.index-as_slice-row.result)
    c.as_slice.ensures in
    let node_is = node_there c.args.nodes.now closed.row here.0 c.index-nodes-row.result c.index-as_slice-row.result here.1
    c.index-nodes-row.is share_is in
    let shown = row_is nodes c.args.region closed here.0 _ here.1 (ap (λ (x : Node). x.id) (c.deref.ensures ∙ node_is)) in
    let f = row_shown nodes c.args.region in
    c.in_ok-push.ensures.ok
    ∙ (ap (λ (r : RowReport). c.loop-closed.reports ++ r ∷ []) shown
    ∙ (ap (λ (l : List RowReport). l ++ f closed ∷ []) c.loop-closed.invariant
    ∙ (append_assoc c.args.reports.now (map f yielded) (f closed ∷ [])
    ∙ ap (λ (l : List RowReport). c.args.reports.now ++ l) (sym (map-append f yielded (closed ∷ []))))))
