use Rattle.std.proofs.Common.{◌≡◌, ℕ, List, Some, slice_get, length}
use Rattle.ring_ends.specs.declared.rings.Rings.{Rings}
use Rattle.chain_store.specs.declared.region.Region.{Region}
use Rattle.chain_store.specs.Opening.{size_of}
use Rattle.log_client.specs.Regions.{IsRegionOf}
use Rattle.log_client.specs.Opening.{AreClientsOfHomes, HaveNewHolds}
use Rattle.log_client.proofs.Joining.{HasEnds}
use Rattle.log_client.proofs.store.Store.open.Given as goal

-- a region for each of the ends so far, of which the fresh clients have new holds
abbrev pub invariant-loop-ends : goal.invariant-loop-ends
invariant-loop-ends l = record {
  fresh : AreClientsOfHomes l.shape l.clients.items;
  holds : HaveNewHolds l.regions.items l.clients.items;
  count : length l.regions.items ≡ length l.yielded;
  each : (n : ℕ) (r : Region) → slice_get l.regions.items n ≡ Some r
      → IsRegionOf (size_of l.shape) l.shape.regions n r;
  ends : (n : ℕ) (r : Region) (ends : List Rings) → slice_get l.regions.items n ≡ Some r
      → slice_get l.yielded n ≡ Some ends → HasEnds r ends;
}
