use Rattle.std.proofs.Common.{◌≡◌, ap, sym, subst, ◌∙◌, List, arith}
use Rattle.std.specs.List.{AllByRecursion, find}
use Rattle.skeen_core.specs.declared.waiting.Waiting.{Waiting}
use Rattle.log_node.specs.Standings.{queue_of}
use Rattle.skeen_core.specs.Queues.{kept_count, waiting_entries}
use Rattle.skeen_core.proofs.CallerLemmas.{each-drop, each-weaker}
use Rattle.col_core.specs.History.{entries}
use Rattle.column.specs.Entering.{EnteredNode}
use Rattle.column.specs.Columns.{ColumnState, is_waiting_below, IsBegunAt, HasRow}
use Rattle.column.specs.Inside.{IsEntered, Rises}
use Rattle.column.specs.Views.{IsBelow}
use Rattle.column.proofs.Fronts.{waiting_rise}
use Rattle.column.proofs.Helping.{count_below, id_below}
use Rattle.column.proofs.contents.Contents.below.Goals as goal

pub open_below-requires : goal.open_below-requires
open_below-requires c =
    let i = c.self.inside in
    let k = c.self.invariant.column_is in
    subst Rises (sym (c.waiting-waiting.ensures.entries ∙ ap queue_of k.entries_are))
    (waiting_rise i.region i.regions i.journal.items k.lawful)

pub first_below-requires-clause-rising : goal.first_below-requires-clause-rising
first_below-requires-clause-rising c =
    let i = c.self.inside in
    let k = c.self.invariant.column_is in
    subst Rises (sym (c.waiting-waiting.ensures.entries ∙ ap queue_of k.entries_are))
    (waiting_rise i.region i.regions i.journal.items k.lawful)

pub first_below-requires-clause-rows : goal.first_below-requires-clause-rows
first_below-requires-clause-rows c =
    let i = c.self.inside in
    let k = c.self.invariant.column_is in
    let P = IsEntered i.region i.colour i.journal.items in
    subst (AllByRecursion (λ (w : Waiting EnteredNode). HasRow w.settled w.thing.node))
    (sym c.waiting-waiting.ensures.value)
    (each-weaker P (λ (w : Waiting EnteredNode). HasRow w.settled w.thing.node) (λ w e. e.row)
    (waiting_entries i.queue) (each-drop P (kept_count i.queue) i.queue.stored k.things))

pub returns : goal.returns
returns c =
    let i = c.self.inside in
    let k = c.self.invariant.column_is in
    let ws = c.waiting-waiting.result.now in
    let value = c.waiting-waiting.ensures.value in
    let are = c.waiting-waiting.ensures.entries ∙ ap queue_of k.entries_are in
    let ids = subst (AllByRecursion (λ (w : Waiting EnteredNode). w.thing.node.id ≡ w.key.id)) (sym value)
    (each-weaker (IsEntered i.region i.colour i.journal.items)
    (λ (w : Waiting EnteredNode). w.thing.node.id ≡ w.key.id) (λ w e. e.id)
    (waiting_entries i.queue)
    (each-drop (IsEntered i.region i.colour i.journal.items) (kept_count i.queue) i.queue.stored k.things)) in
    subst (λ (q : ColumnState). IsBelow q c.args.key
    (record { events = c.len.result; count = c.open_below.result; first = c.first_below.result })) c.self.view_is
    (record {
      events = omega (arith, c.len.ensures, i.journal.ok.0);
      count = c.open_below.ensures ∙ count_below c.args.key (entries i.journal.items) ws are;
      first_id = id_below c.args.key (entries i.journal.items) ws c.first_below.result are ids c.first_below.ensures;
      first = subst (λ (vs : List (Waiting EnteredNode)). IsBegunAt c.first_below.result
          (find (is_waiting_below c.args.key) vs)) value c.first_below.ensures;
    })
