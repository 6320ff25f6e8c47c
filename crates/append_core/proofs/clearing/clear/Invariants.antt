use Rattle.std.proofs.Common.{◌≡◌, ◌≤◌, ◌-◌, length}
use Rattle.col_core.specs.Ids.{open_below}
use Rattle.stamp_board.specs.Seats.{IsLater}
use Rattle.chain_store.specs.Holds.{IsHold, entries_seen}
use Rattle.chain_store.specs.Going.{GoesOn}
use Rattle.append_core.specs.Helping.{HelpsOpen, IsUnderClock}
use Rattle.append_core.proofs.clearing.clear.Given as goal

-- there are no more open entries below the key than helps are left
abbrev pub invariant-loop-turn : goal.invariant-loop-turn
invariant-loop-turn g l = record {
  hold : IsHold l.region l.hold;
  seat : IsLater l.fn.hold.seat l.hold.seat;
  next : l.hold.next ≡ l.fn.hold.next;
  under : IsUnderClock l.key (entries_seen l.hold l.colour);
  goes : GoesOn (λ c e. HelpsOpen l.fn.hold l.hold e) l.fn.hold l.hold;
  few : length (open_below l.key (entries_seen l.hold l.colour)) ≤ l.count - l.turn;
}
