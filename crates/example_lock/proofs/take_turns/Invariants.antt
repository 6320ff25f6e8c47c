use Rattle.std.proofs.Common.{◌≤◌}
use Rattle.example_lock.specs.Desks.{IsDesk}
use Rattle.example_lock.proofs.take_turns.Given as goal

-- it has held at most once a turn
abbrev pub invariant-loop-turn : goal.invariant-loop-turn
invariant-loop-turn g l = record {
  desk : IsDesk l.store l.desk;
  held : l.held ≤ l._turn;
}
