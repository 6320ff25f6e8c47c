-- The rings of a new store's regions.
use Rattle.std.proofs.Common.{◌≡◌, ◌≢◌, ℕ, ◌<◌, ◌≤◌, List, length, Some, slice_get, ap, sym, subst, ◌∙◌, arith}
use Rattle.std.proofs.lemmas.Option.{slice_get_within}
use Rattle.ring_ends.specs.declared.rings.Rings.{Rings}
use Rattle.ring_ends.specs.Places.{ring_place}
use Rattle.ring_ends.specs.Rings.{names_of, RingNames}
use Rattle.ring_ends.specs.NewRings.{AreAt, AreNewRings}
use Rattle.chain_store.specs.declared.region.Region.{Region}
use Rattle.chain_store.specs.Regions.{rings_at}
use Rattle.chain_store.specs.Opening.{AreNewEnds}
use Rattle.log_client.specs.Regions.{AreJoinedBy}
use Rattle.log_client.proofs.Lists.{got}

-- the region's columns have these ends, by colour
abbrev pub HasEnds : Region → List Rings → Type 0
HasEnds r ends = (colour : ℕ) (rings : Rings) → slice_get ends colour ≡ Some rings → rings_at r colour ≡ names_of rings

module _ (regions colours : ℕ) (all : List (List Rings)) (new : AreNewRings regions colours all) where
  pub ends_long : (n : ℕ) (ends : List Rings) → slice_get all n ≡ Some ends → length ends ≡ colours
  ends_long n ends at = new.colours_of n ends at

  -- what a region opens with
  pub new_ends : (n : ℕ) (ends : List Rings) → slice_get all n ≡ Some ends
      → (length ends ≡ colours) × AreNewEnds regions ends
  new_ends n ends at = (ends_long n ends at, λ colour rings there. new.each n colour rings (ends, at, there))

  -- regions with these ends are joined
  pub joined_new : (rs : List Region) → length rs ≡ regions
      → ((n : ℕ) (r : Region) (ends : List Rings) → slice_get rs n ≡ Some r → slice_get all n ≡ Some ends → HasEnds r ends)
      → (colour a b : ℕ) (r s : Region) → colour < colours → a ≢ b → slice_get rs a ≡ Some r → slice_get rs b ≡ Some s
      → AreJoinedBy colour a b r s
  joined_new rs long have colour a b r s lt ne at_a at_b =
      let x = ends_of a r at_a in
      let y = ends_of b s at_b in
      ap (λ (n : RingNames). slice_get n.sends (ring_place a b)) (have a r x.0 at_a x.1 colour x.2 x.3)
      ∙ (new.joined colour a b x.2 y.2 ne (x.0, x.1, x.3) (y.0, y.1, y.3)
      ∙ ap (λ (n : RingNames). slice_get n.receives (ring_place b a)) (sym (have b s y.0 at_b y.1 colour y.2 y.3))) where
        ends_of : (n : ℕ) (q : Region) → slice_get rs n ≡ Some q → (ends : List Rings) × (slice_get all n ≡ Some ends)
            × (rings : Rings) × (slice_get ends colour ≡ Some rings)
        ends_of n q at =
            let within = slice_get_within rs n q at in
            let many = new.regions_of in
            let ends = got all n (omega (arith, within, long, many)) in
            let count = ends_long n ends.0 ends.1 in
            let rings = got ends.0 colour (omega (arith, count, lt)) in
            (ends.0, ends.1, rings.0, rings.1)
