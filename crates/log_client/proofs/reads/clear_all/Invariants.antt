use Rattle.std.proofs.Common.{◌≡◌}
use Rattle.log_node.specs.Sets.{members}
use Rattle.stamp_board.specs.Seats.{IsLater}
use Rattle.chain_store.specs.Going.{GoesOn}
use Rattle.chain_store.specs.Holds.{IsHold}
use Rattle.append_core.specs.Helping.{HelpsOpen}
use Rattle.log_client.proofs.Read.ClearedHolds.{ClearedFirst}
use Rattle.log_client.proofs.reads.clear_all.Given as goal

-- the first colours are cleared
abbrev pub invariant-loop-colour : goal.invariant-loop-colour
invariant-loop-colour g l = record {
  hold : IsHold l.region l.hold;
  seat : IsLater l.fn.hold.seat l.hold.seat;
  next : l.hold.next ≡ l.fn.hold.next;
  goes : GoesOn (λ c e. HelpsOpen l.fn.hold l.hold e) l.fn.hold l.hold;
  first : ClearedFirst l.hold l.stamp l.colour-iterator (members l.fn.colours);
}
