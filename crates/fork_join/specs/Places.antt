-- What calls do at the items of a list that stands somewhere in a longer one.
use Rattle.std.specs.Prelude.{ℕ, ◌+◌, ◌<◌, ◌≡◌, List, length, slice_index_or}
use Rattle.std.specs.Fork.{AcceptsAt, ChangesAt}
use denote.Ref.{MutBor}
use denote.Param.Members.{Shared}

module _ {F T : Type 0} (g : Shared F (ℕ × (MutBor T × Unit {0})) ((Unit {0}) × (MutBor T × Unit {0}))) (f : F) where
  -- f may be called at each item, of which the first stands at place base
  abbrev pub AcceptsFrom : ℕ → List T → Type 0
  AcceptsFrom base xs = (k : ℕ) (d : T) → k < length xs → AcceptsAt g f (base + k) (slice_index_or xs k d)

  -- each item of ys is what a call of f left of that item of xs, of which the first stands at place base
  pub record ChangesFrom (base : ℕ) (xs ys : List T) : Type 0 where
    pub len : length ys ≡ length xs
    pub each : (k : ℕ) (d : T) → k < length xs → ChangesAt g f (base + k) (slice_index_or xs k d) (slice_index_or ys k d)
