use Rattle.std.proofs.Common.{take}
use Rattle.col_core.specs.Keeping.{Kept}
use Rattle.lawful_run.specs.Callers.{Caller}
use Rattle.run_rules.specs.Told.{kept_after_raises}
use Rattle.walk_law.specs.Fourth.{AreRaisesLow, Sees}
use Rattle.walk_law.specs.Walking.{log_walked}
use Rattle.walk_law.proofs.FourthLemmas.{AreInTurn, NamesRaise, raised}
use Rattle.walk_law.proofs.own_seen.OwnSeen.names_raises.Given as goal

-- the raises so far, and what is seen behind them
abbrev pub invariant-loop-raise : goal.invariant-loop-raise
invariant-loop-raise l = (caller : Caller) (kept : Kept) → Sees caller kept l.initial.self → AreRaisesLow l.raises
    → AreInTurn (NamesRaise (log_walked l.subject) caller) (raised (log_walked l.subject) caller) kept (take l.raise-index l.raises)
    × Sees caller (kept_after_raises caller kept (take l.raise-index l.raises)) l.self
