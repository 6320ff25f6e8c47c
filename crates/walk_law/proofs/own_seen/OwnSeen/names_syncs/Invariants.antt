use Rattle.std.proofs.Common.{take}
use Rattle.col_core.specs.Keeping.{Kept}
use Rattle.lawful_run.specs.Callers.{Caller}
use Rattle.lawful_run.specs.Reads.{kept_after_piece}
use Rattle.run_rules.specs.Told.{kept_after_syncs}
use Rattle.run_rules.specs.Naming.{NamesSync}
use Rattle.walk_law.specs.Fourth.{AreSyncsLow, Sees}
use Rattle.walk_law.specs.Walking.{log_walked}
use Rattle.walk_law.proofs.FourthLemmas.{AreInTurn}
use Rattle.walk_law.proofs.own_seen.OwnSeen.names_syncs.Given as goal

-- the syncs so far, and what is seen behind them
abbrev pub invariant-loop-sync : goal.invariant-loop-sync
invariant-loop-sync l = (caller : Caller) (kept : Kept) → Sees caller kept l.initial.self → AreSyncsLow l.syncs
    → AreInTurn (NamesSync (log_walked l.subject) caller) (kept_after_piece (log_walked l.subject) caller) kept (take l.sync-index l.syncs)
    × Sees caller (kept_after_syncs (log_walked l.subject) caller kept (take l.sync-index l.syncs)) l.self
