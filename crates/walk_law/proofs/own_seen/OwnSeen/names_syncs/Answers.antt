use Rattle.std.proofs.Common.{subst, sym, List, take}
use Rattle.std.proofs.lemmas.List.Sums.{fold_more}
use Rattle.col_core.specs.Keeping.{Kept}
use Rattle.report_text.specs.declared.report.SyncPiece.{SyncPiece}
use Rattle.lawful_run.specs.Reads.{kept_after_piece}
use Rattle.run_rules.specs.Told.{kept_after_syncs}
use Rattle.run_rules.specs.Naming.{NamesSync}
use Rattle.walk_law.specs.Fourth.{Sees}
use Rattle.walk_law.specs.Walking.{log_walked}
use Rattle.walk_law.proofs.FourthLemmas.{AreInTurn, syncs_turn, then_not, then_so, turn_at, turn_more, turn_syncs}
use Rattle.walk_law.proofs.PastLemmas.{take_all_of}
use Rattle.walk_law.proofs.own_seen.OwnSeen.names_syncs.Goals as goal

pub returns-then-not-names_sync : goal.returns-then-not-names_sync
returns-then-not-names_sync c = λ caller kept s low names.
    let log = log_walked c.args.subject.now in
    let at = c.loop-sync.sync-index in
    let behind = kept_after_syncs log caller kept (take at c.args.syncs.now) in
    then_not _ _ c.names_sync.result
    (c.names_sync.ensures caller behind (c.loop-sync.invariant caller kept s low).1 (low at _ c.loop-sync-test.true))
    c.if-not-names_sync.true
    (turn_at (NamesSync log caller) (kept_after_piece log caller) kept c.args.syncs.now at _ c.loop-sync-test.true
    (syncs_turn log caller kept c.args.syncs.now names))

pub loop-sync-preserved : goal.loop-sync-preserved
loop-sync-preserved c = λ caller kept s low.
    let log = log_walked c.args.subject.now in
    let at = c.loop-sync.sync-index in
    let behind = kept_after_syncs log caller kept (take at c.args.syncs.now) in
    let so = c.loop-sync.invariant caller kept s low in
    let both = then_so _ _ c.names_sync.result (c.names_sync.ensures caller behind so.1 (low at _ c.loop-sync-test.true))
    c.if-not-names_sync.false in (
      turn_more (NamesSync log caller) (kept_after_piece log caller) kept c.args.syncs.now at _ c.loop-sync-test.true so.0 both.0,
      subst (λ (k : Kept). Sees caller k c.names_sync.new.self)
          (sym (fold_more (λ (k : Kept) (p : SyncPiece). kept_after_piece log caller k p) kept c.args.syncs.now at _ c.loop-sync-test.true))
          both.1,
    )

pub returns : goal.returns
returns c = λ caller kept s low.
    let log = log_walked c.args.subject.now in
    let all = take_all_of c.args.syncs.now c.loop-sync.sync-index c.loop-sync-test.false in
    let so = c.loop-sync.invariant caller kept s low in (
      turn_syncs log caller kept c.args.syncs.now
          (subst (λ (l : List SyncPiece). AreInTurn (NamesSync log caller) (kept_after_piece log caller) kept l) all so.0),
      subst (λ (l : List SyncPiece). Sees caller (kept_after_syncs log caller kept l) c.loop-sync.self) all so.1,
    )
