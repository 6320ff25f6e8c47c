use Rattle.std.proofs.Common.{◌∙◌, ap, subst, List, take}
use Rattle.log_node.specs.declared.ids.Key.{Key}
use Rattle.object_fold.specs.Transactions.{values_after}
use Rattle.column_track.specs.Tracks.{Tells}
use Rattle.lawful_run.specs.Objects.{AreAnswers}
use Rattle.object_law.specs.NodeTables.{nodes_under}
use Rattle.object_law.proofs.tx_plays.TxPlay.are_values.Goals as goal

pub returns-clause-told : goal.returns-clause-told
returns-clause-told c =
    let place = c.count-place.result in
    let table = c.args.nodes.now in
    let asked = c.args.asked.now in
    subst (λ (keys : List Key). Tells c.are_values.result (AreAnswers asked (values_after (nodes_under table keys) asked) c.args.shown.now))
    (ap (λ (keys : List Key). take place keys) c.keys.ensures ∙ c.count-place.ensures.stamped)
    (c.are_values.ensures (nodes_under table (take place c.keys.result.now)) c.in_ok-go_to.ensures.here)
