use Rattle.std.proofs.Common.{◌≡◌, ◌∙◌, Bool, ap, arith, subst, sym, ℕ}
use Rattle.log_node.specs.declared.ids.Id.{Id}
use Rattle.log_node.proofs.CallerLemmas.{ok_then}
use Rattle.part_fold.specs.Decisions.{decision_text}
use Rattle.column_track.specs.Tracks.{Tells}
use Rattle.lawful_run.specs.Callers.{caller_of}
use Rattle.run_rules.specs.Shown.{SaysSo}
use Rattle.object_law.specs.Fourteenth.{IsDecision, synced_nodes}
use Rattle.object_law.specs.PartAnswers.{IsWaitedFor}
use Rattle.object_law.specs.Tenth.{log_with}
use Rattle.walk_law.proofs.CallerLemmas.{told_not, told_so}
use Rattle.object_law.proofs.PartLemmas.{decision_told, none_decided, ruled_decided, stamp_decided}
use Rattle.object_law.proofs.fourteenth.PartPlays.is_decision.Goals as goal

pub returns-in_default-clause-told : goal.returns-in_default-clause-told
returns-in_default-clause-told c = λ kept ids.
    let walked = c.args.subject.now in
    let caller = caller_of walked.script c.args.client in
    let a = c.args in
    none_decided walked a.nodes.now caller kept a.own.now a.commits a.stamp a.sync.now a.read_stamp a.ended
    (subst (IsWaitedFor a.own.now a.sync.now.colour (synced_nodes walked a.nodes.now caller a.sync.now)) c.in_default.is
    c.in_ok-key.ensures.told)

pub returns-then-key-stamp-clause-told : goal.returns-then-key-stamp-clause-told
returns-then-key-stamp-clause-told c = λ kept ids d.
    let walked = c.args.subject.now in
    let caller = caller_of walked.script c.args.client in
    let a = c.args in
    let e = stamp_decided walked a.nodes.now caller kept a.own.now a.commits a.stamp a.sync.now a.read_stamp a.ended c.in-Some.key
    (subst (IsWaitedFor a.own.now a.sync.now.colour (synced_nodes walked a.nodes.now caller a.sync.now)) c.in-Some.is
    c.in_ok-key.ensures.told) d in
    let ne = c.if-key-stamp.true in
    let no : ⊥ = omega (arith, ne, e) in no

pub returns-then-not-is_ruled-clause-told : goal.returns-then-not-is_ruled-clause-told
returns-then-not-is_ruled-clause-told c = λ kept ids d.
    let walked = c.args.subject.now in
    let caller = caller_of walked.script c.args.client in
    let a = c.args in
    told_not c.is_ruled.result c.is_ruled.ensures c.if-not-is_ruled.true
    (c.in_ok-outcome.ensures.told
    ∙ ruled_decided walked a.nodes.now caller kept a.own.now a.commits a.stamp a.sync.now a.read_stamp a.ended c.in-Some.key
    (subst (IsWaitedFor a.own.now a.sync.now.colour (synced_nodes walked a.nodes.now caller a.sync.now)) c.in-Some.is
    c.in_ok-key.ensures.told) d)

pub returns-clause-told : goal.returns-clause-told
returns-clause-told c = λ kept ids.
    let walked = c.args.subject.now in
    let caller = caller_of walked.script c.args.client in
    let a = c.args in
    let table = a.nodes.now in
    let eq = c.if-key-stamp.false in
    let at : c.in-Some.key.stamp ≡ a.stamp = omega (arith, eq) in
    ok_then c.says_so.result
    (λ (b : Bool). Tells b
    (SaysSo (log_with walked table) caller kept (decision_text (record { key = c.in-Some.key; commits = a.commits })) a.ended))
    (λ (b : Bool). Tells b (IsDecision walked table caller kept a.own.now a.commits a.stamp a.sync.now a.read_stamp a.ended))
    (λ b t. decision_told walked table caller kept a.own.now a.commits a.stamp a.sync.now a.read_stamp a.ended c.in-Some.key
    (subst (IsWaitedFor a.own.now a.sync.now.colour (synced_nodes walked table caller a.sync.now)) c.in-Some.is
    c.in_ok-key.ensures.told) at
    (sym c.in_ok-outcome.ensures.told ∙ told_so c.is_ruled.result c.is_ruled.ensures c.if-not-is_ruled.false) b t)
    (c.says_so.ensures walked caller kept
    (ap (λ (m : ℕ). let i : Id = record { client = a.client; count = m } in i) (sym ids)))
