use Rattle.std.proofs.Common.{sym, subst, List, take, rules}
use Rattle.std.proofs.lemmas.List.Sums.{fold_more}
use Rattle.walk_law.proofs.PastLemmas.{take_all_of}
use Rattle.col_core.specs.Keeping.{Kept}
use Rattle.report_text.specs.declared.report.SyncPiece.{SyncPiece}
use Rattle.lawful_run.specs.Callers.{caller_of}
use Rattle.lawful_run.specs.Reads.{kept_after_piece}
use Rattle.run_rules.specs.Told.{kept_after_syncs}
use Rattle.walk_law.specs.Keepings.{IsCounted}
use Rattle.walk_law.specs.Walking.{log_walked}
use Rattle.walk_law.proofs.keeping.Keeping.syncs.Goals as goal

pub loop-sync-preserved : goal.loop-sync-preserved
loop-sync-preserved c = record {
  kept = λ replies kept s.
      let log = log_walked c.args.subject.now in
      let caller = caller_of c.args.subject.now.script c.args.client in
      subst (λ (k : Kept). IsCounted replies k c.sync.new.self)
      (sym (fold_more (λ (k : Kept) (p : SyncPiece). kept_after_piece log caller k p) kept c.args.syncs.now c.loop-sync.sync-index _
      c.loop-sync-test.true))
      (c.sync.ensures.kept replies (kept_after_syncs log caller kept (take c.loop-sync.sync-index c.args.syncs.now))
      (c.loop-sync.invariant.kept replies kept s));
  count = search rules;
}

pub returns-clause-kept : goal.returns-clause-kept
returns-clause-kept c replies kept s =
    subst (λ (l : List SyncPiece). IsCounted replies
    (kept_after_syncs (log_walked c.args.subject.now) (caller_of c.args.subject.now.script c.args.client) kept l) c.loop-sync.self)
    (take_all_of c.args.syncs.now c.loop-sync.sync-index c.loop-sync-test.false)
    (c.loop-sync.invariant.kept replies kept s)
