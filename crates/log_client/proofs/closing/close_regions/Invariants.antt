use Rattle.std.proofs.Common.{◌≡◌, ◌+◌, ℕ, Some, length, map, slice_get}
use Rattle.chain_store.specs.declared.region.Region.{Region}
use Rattle.chain_store.specs.declared.closed.ClosedRegion.{ClosedRegion}
use Rattle.log_client.specs.Closing.{HasEnded}
use Rattle.log_client.specs.Leaving.{left_of}
use Rattle.log_client.proofs.End.Handing.{Shrunk}
use Rattle.log_client.proofs.closing.close_regions.Given as goal

-- the regions that are left are the first ones, as are each client's holds; the others have ended
abbrev pub invariant-loop-region : goal.invariant-loop-region
invariant-loop-region g l = record {
  regions : (k : ℕ) (r : Region) → slice_get l.regions.items k ≡ Some r → slice_get l.initial.regions.items k ≡ Some r;
  count : length l.regions.items + length l.ends.items ≡ length l.initial.regions.items;
  holds : Shrunk l.initial.clients.items l.clients.items (length l.regions.items);
  ended : (k : ℕ) (r : Region) (e : ClosedRegion) → slice_get l.initial.regions.items (length l.regions.items + k) ≡ Some r
      → slice_get l.ends.items k ≡ Some e
      → HasEnded (map left_of l.initial.clients.items) (length l.regions.items + k) r e;
}

abbrev pub decreases-loop-region : goal.decreases-loop-region
decreases-loop-region g l = length l.regions.items
