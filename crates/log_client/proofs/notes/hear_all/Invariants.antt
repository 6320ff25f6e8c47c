use Rattle.std.proofs.Common.{◌≡◌, ◌<◌, ◌≤◌, ℕ, Some, slice_get, length}
use Rattle.chain_store.specs.declared.hold.Hold.{Hold}
use Rattle.chain_store.specs.declared.telling.HoldNote.{HoldNote}
use Rattle.chain_store.specs.Telling.{Hears}
use Rattle.log_client.specs.Ending.{AreHoldsIn}
use Rattle.log_client.proofs.notes.hear_all.Given as goal

-- what is left to hear are the first ones; the holds of the others have heard
abbrev pub invariant-loop-note : goal.invariant-loop-note
invariant-loop-note l = record {
  left : (n : ℕ) (m : HoldNote) → slice_get l.notes.items n ≡ Some m → slice_get l.initial.notes.items n ≡ Some m;
  short : length l.notes.items ≤ length l.initial.notes.items;
  holds : AreHoldsIn l.regions l.holds.items;
  early : (n : ℕ) → n < length l.notes.items → slice_get l.holds.items n ≡ slice_get l.initial.holds.items n;
  heard : (n : ℕ) (g h : Hold) (m : HoldNote) → length l.notes.items ≤ n → slice_get l.initial.holds.items n ≡ Some g
      → slice_get l.initial.notes.items n ≡ Some m → slice_get l.holds.items n ≡ Some h → Hears g m h;
}

abbrev pub decreases-loop-note : goal.decreases-loop-note
decreases-loop-note l = length l.notes.items
