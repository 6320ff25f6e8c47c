use Rattle.std.proofs.Common.{◌≡◌, ◌≤◌, ℕ, Some, slice_get, length}
use Rattle.chain_store.specs.declared.region.Region.{Region}
use Rattle.chain_store.specs.declared.telling.HoldNote.{HoldNote}
use Rattle.chain_store.specs.Telling.{IsHoldNote}
use Rattle.log_client.specs.Ending.{AreHoldsIn}
use Rattle.log_client.specs.Notes.{KnowSame, TellsAll}
use Rattle.log_client.proofs.notes.tell_all.Given as goal

-- the holds of the first regions have told, and know what they knew
abbrev pub invariant-loop-number : goal.invariant-loop-number
invariant-loop-number l = record {
  holds : AreHoldsIn l.regions l.holds.items;
  same : KnowSame l.initial.holds.items l.holds.items;
  later : (n : ℕ) → l.number ≤ n → slice_get l.holds.items n ≡ slice_get l.initial.holds.items n;
  count : length l.notes.items ≡ l.number;
  notes : (n : ℕ) (r : Region) (note : HoldNote) → slice_get l.regions n ≡ Some r → slice_get l.notes.items n ≡ Some note
      → IsHoldNote r note;
  tells : TellsAll l.initial.holds.items l.notes.items;
}
