-- How rings are made, region by region and colour by colour.
use Rattle.std.specs.Prelude.{◌≡◌, ◌≢◌, ℕ, ◌<◌, ◌≤◌, List, [], ◌∷◌, ◌++◌, length, Some, slice_get}
use Rattle.ring_ends.specs.declared.rings.Rings.{Rings}
use Rattle.ring_ends.specs.Rings.{RingName, RingNames, names_of, IsForRegions}
use Rattle.ring_ends.specs.NewRings.{AreUnused, IsJoined}

-- one ring more to another column, and one more from it
abbrev pub with_sends : RingNames → RingName → RingNames
with_sends names ring = record { sends = names.sends ++ ring ∷ []; receives = names.receives }

abbrev pub with_receives : RingNames → RingName → RingNames
with_receives names ring = record { sends = names.sends; receives = names.receives ++ ring ∷ [] }

-- a new ring leads from x to y, which are then x' and y'
pub record Leads (x x' y y' : Rings) : Type 0 where
  pub ring : RingName
  pub from : names_of x' ≡ with_sends (names_of x) ring
  pub to : names_of y' ≡ with_receives (names_of y) ring
  pub unused_from : AreUnused x → AreUnused x'
  pub unused_to : AreUnused y → AreUnused y'

-- a new ring leads from x to y, and another back
pub record Joins (x x' y y' : Rings) : Type 0 where
  pub there : RingName
  pub back : RingName
  pub one : names_of x' ≡ with_receives (with_sends (names_of x) there) back
  pub other : names_of y' ≡ with_sends (with_receives (names_of y) there) back
  pub unused_one : AreUnused x → AreUnused x'
  pub unused_other : AreUnused y → AreUnused y'

-- x has become y since it is joined with the newcomer, as its n-th
pub record JoinsAt (n : ℕ) (newcomer x y : Rings) : Type 0 where
  pub there : RingName
  pub back : RingName
  pub names : names_of y ≡ with_receives (with_sends (names_of x) there) back
  pub receives : slice_get (names_of newcomer).receives n ≡ Some there
  pub sends : slice_get (names_of newcomer).sends n ≡ Some back
  pub unused : AreUnused x → AreUnused y

-- the newcomer is joined with the first so many columns, and with no other
pub record Grows (count : ℕ) (newcomer : Rings) (old new : List Rings) : Type 0 where
  pub lengths : length new ≡ length old
  pub sends : length (names_of newcomer).sends ≡ count
  pub receives : length (names_of newcomer).receives ≡ count
  pub unused : AreUnused newcomer
  pub before : (n : ℕ) (y : Rings) → n < count → slice_get new n ≡ Some y
      → (x : Rings) × (slice_get old n ≡ Some x) × JoinsAt n newcomer x y
  pub behind : (n : ℕ) → count ≤ n → slice_get new n ≡ slice_get old n

-- the columns of a colour in so many regions, each two of which are joined
pub record AreJoined (regions : ℕ) (xs : List Rings) : Type 0 where
  pub regions_of : length xs ≡ regions
  pub each : (n : ℕ) (x : Rings) → slice_get xs n ≡ Some x → IsForRegions regions x × AreUnused x
  pub joined : (a b : ℕ) (x y : Rings) → a ≢ b → slice_get xs a ≡ Some x → slice_get xs b ≡ Some y → IsJoined a b x y

-- each of the first so many regions has got its column of a colour
pub record Dealt (column : List Rings) (count : ℕ) (old new : List (List Rings)) : Type 0 where
  pub lengths : length new ≡ length old
  pub before : (n : ℕ) (ends : List Rings) → n < count → slice_get new n ≡ Some ends
      → (before : List Rings) × (x : Rings) × (slice_get old n ≡ Some before) × (slice_get column n ≡ Some x)
      × (ends ≡ before ++ x ∷ [])
  pub behind : (n : ℕ) → count ≤ n → slice_get new n ≡ slice_get old n
