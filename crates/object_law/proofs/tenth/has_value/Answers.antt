use Rattle.std.proofs.Common.{◌≡◌, ◌≤◌, Bool, arith, subst, ℕ}
use Rattle.log_node.specs.Vectors.{at}
use Rattle.log_node.proofs.CallerLemmas.{ok_then}
use Rattle.object_fold.specs.Maps.{shard_value}
use Rattle.script_text.specs.declared.script.Script.{Script}
use Rattle.lawful_run.specs.Asks.{kind_of_object}
use Rattle.lawful_run.specs.Callers.{caller_of}
use Rattle.column_track.specs.Tracks.{Tells}
use Rattle.run_rules.specs.Shown.{OfMap}
use Rattle.walk_law.proofs.CallerLemmas.{told_not, told_so}
use Rattle.object_law.specs.Fourteenth.{synced_nodes}
use Rattle.object_law.specs.ObjectAnswers.{colours_used}
use Rattle.object_law.specs.Tenth.{line_nodes}
use Rattle.object_law.specs.TenthPlays.{IsMap}
use Rattle.object_law.proofs.TenthSteps.{no_map, of_map}
use Rattle.object_law.proofs.tenth.has_value.Goals as goal

pub returns-then-not-is_map-clause-told : goal.returns-then-not-is_map-clause-told
returns-then-not-is_map-clause-told c = λ low.
    let told = subst (λ (s : Script). Tells c.is_map.result (IsMap (kind_of_object (caller_of s c.args.client) c.args.object)))
    c.script.ensures (c.is_map.ensures c.args.client) in
    no_map _ _ (told_not c.is_map.result told c.if-not-is_map.true)

pub returns-then-sync-script-clause-told : goal.returns-then-sync-script-clause-told
returns-then-sync-script-clause-told c = λ low so.
    let told = subst (λ (s : Script). Tells c.is_map.result (IsMap (kind_of_object (caller_of s c.args.client) c.args.object)))
    c.script.ensures (c.is_map.ensures c.args.client) in
    let below = low (told_so c.is_map.result told c.if-not-is_map.false) in
    let high = subst (λ (s : Script). s.shape.colours ≤ c.args.sync.now.colour) c.script-2.ensures c.if-sync-script.true in
    let no : ⊥ = omega (arith, below, high) in no

pub returns-clause-told : goal.returns-clause-told
returns-clause-told c = λ low.
    let walked = c.args.subject.now in
    let table = c.args.nodes.now in
    let caller = caller_of walked.script c.args.client in
    let kind = kind_of_object caller c.args.object in
    let sync = c.args.sync.now in
    let value = c.args.value.now in
    let key = c.args.key.now in
    let colours = colours_used walked.script c.args.object in
    let is = told_so c.is_map.result
    (subst (λ (s : Script). Tells c.is_map.result (IsMap (kind_of_object (caller_of s c.args.client) c.args.object)))
    c.script.ensures (c.is_map.ensures c.args.client)) c.if-not-is_map.false in
    ok_then c.is_value.result
    (λ (b : Bool). Tells b (value ≡ shard_value colours sync.colour
    (line_nodes walked table c.own-own.result sync.colour c.of_region-count.result) key))
    (λ (b : Bool). Tells b (OfMap kind (value ≡ shard_value colours sync.colour (synced_nodes walked table caller sync) key)))
    (λ b t. of_map kind (value ≡ shard_value colours sync.colour (synced_nodes walked table caller sync) key) b is
    (subst (λ (r : ℕ). Tells b (value ≡ shard_value colours sync.colour (line_nodes walked table r sync.colour (at sync.counts r)) key))
    c.own-own.ensures.own
    (subst (λ (n : ℕ). Tells b (value ≡ shard_value colours sync.colour (line_nodes walked table c.own-own.result sync.colour n) key))
    c.of_region-count.ensures t)))
    c.is_value.ensures.told
