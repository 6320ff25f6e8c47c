use Rattle.std.proofs.Common.{◌≡◌, Bool}
use Rattle.log_node.proofs.CallerLemmas.{ok_then}
use Rattle.object_fold.specs.Maps.{shard_value}
use Rattle.lawful_run.specs.Asks.{kind_asked, kind_of_object}
use Rattle.lawful_run.specs.Callers.{caller_of}
use Rattle.column_track.specs.Tracks.{Tells}
use Rattle.run_rules.specs.Shown.{OfMap}
use Rattle.object_law.specs.Fourteenth.{synced_nodes}
use Rattle.object_law.specs.ObjectAnswers.{colours_used}
use Rattle.object_law.specs.Tenth.{IsMapValue}
use Rattle.object_law.proofs.TenthSteps.{get_low, map_told}
use Rattle.object_law.proofs.tenth.gets_right.Goals as goal

pub returns-in-Get-clause-told : goal.returns-in-Get-clause-told
returns-in-Get-clause-told c = λ can.
    let script = c.args.subject.now.script in
    let fits = c.agrees.ensures.may.1.fitting in
    let caller = caller_of script c.args.client in
    let what = c.args.what.now in
    let sync = c.args.sync.now in
    let value = c.args.value.now in
    let object = c.in-Get.object in
    let key = c.in-Get.key in
    let nodes = synced_nodes c.args.subject.now c.args.nodes.now caller sync in
    ok_then c.has_value.result
    (λ (b : Bool). Tells b (OfMap (kind_of_object caller object) (value ≡ shard_value (colours_used script object) sync.colour nodes key)))
    (λ (b : Bool). Tells b (IsMapValue (kind_asked caller what) sync.colour what value nodes))
    (λ b t. map_told script fits c.args.client sync value object key nodes b what c.in-Get.is t)
    (c.has_value.ensures.told (get_low script fits c.args.client sync value object key what c.in-Get.is can))
