use Rattle.std.proofs.Common.{rules, sym, subst, List, take}
use Rattle.col_core.specs.Keeping.{Kept}
use Rattle.report_text.specs.declared.report.SyncPiece.{SyncPiece}
use Rattle.lawful_run.specs.Callers.{caller_of}
use Rattle.lawful_run.specs.Reads.{ClearSyncs}
use Rattle.run_rules.specs.Told.{kept_after_syncs}
use Rattle.run_rules.specs.Telling.{log_of, replies_to}
use Rattle.walk_law.specs.Keepings.{IsCounted}
use Rattle.walk_law.proofs.Lists.{told_not, told_so}
use Rattle.walk_law.proofs.PastLemmas.{take_all_of}
use Rattle.walk_law.proofs.ReadingLemmas.{synced_more, syncs_at, syncs_more}
use Rattle.walk_law.proofs.keeping.Keeping.clear_syncs.Goals as goal

pub returns-then-not-is_clear_sync-clause-kept : goal.returns-then-not-is_clear_sync-clause-kept
returns-then-not-is_clear_sync-clause-kept c = λ nodes kept below is all.
    let caller = caller_of c.args.subject.now.script c.args.client in
    let log = log_of c.args.subject.now.report nodes in
    told_not c.is_clear_sync.result
    (c.is_clear_sync.ensures nodes (kept_after_syncs log caller kept (take c.loop-sync.sync-index c.args.syncs.now))
    (below c.loop-sync.sync-index _ c.loop-sync-test.true) (c.loop-sync.invariant.kept nodes kept below is).1) c.if-not-is_clear_sync.true
    (syncs_at log caller c.args.stamp kept (kept_after_syncs log caller kept c.args.syncs.now) c.args.syncs.now
    c.loop-sync.sync-index _ c.loop-sync-test.true all)

pub loop-sync-preserved : goal.loop-sync-preserved
loop-sync-preserved c = record {
  kept = λ nodes kept below is.
      let caller = caller_of c.args.subject.now.script c.args.client in
      let log = log_of c.args.subject.now.report nodes in
      let replies = replies_to c.args.subject.now.report c.args.client in
      let before = kept_after_syncs log caller kept (take c.loop-sync.sync-index c.args.syncs.now) in
      let so = c.loop-sync.invariant.kept nodes kept below is in (
        syncs_more log caller c.args.stamp kept c.args.syncs.now c.loop-sync.sync-index _ c.loop-sync-test.true so.0
            (told_so c.is_clear_sync.result
            (c.is_clear_sync.ensures nodes before (below c.loop-sync.sync-index _ c.loop-sync-test.true) so.1)
            c.if-not-is_clear_sync.false),
        subst (λ (k : Kept). IsCounted replies k c.sync.new.self)
            (sym (synced_more log caller kept c.args.syncs.now c.loop-sync.sync-index _ c.loop-sync-test.true))
            (c.sync.ensures.kept replies before so.1),
      );
  count = search rules;
}

pub returns-clause-kept : goal.returns-clause-kept
returns-clause-kept c = λ nodes kept below is.
    let caller = caller_of c.args.subject.now.script c.args.client in
    let log = log_of c.args.subject.now.report nodes in
    subst (λ (l : List SyncPiece). ClearSyncs log caller c.args.stamp kept l (kept_after_syncs log caller kept l)
    × IsCounted (replies_to c.args.subject.now.report c.args.client) (kept_after_syncs log caller kept l) c.loop-sync.self)
    (take_all_of c.args.syncs.now c.loop-sync.sync-index c.loop-sync-test.false) (c.loop-sync.invariant.kept nodes kept below is)
