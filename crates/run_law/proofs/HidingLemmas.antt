-- What is found first among lists one after another; and what a search for hidden replies tells.
use Rattle.std.proofs.Common.{◌≡◌, sym, ap, ◌∙◌, ℕ, ◌+◌, ◌<◌, Bool, List, ◌∷◌, length, drop, get_or, Option, Some, None}
use Rattle.std.specs.List.{find, flat_map}
use Rattle.std.specs.Option.{option_or}
use Rattle.std.proofs.lemmas.List.{drop_more}
use Rattle.std.proofs.lemmas.List.Folds.{find-append}

module _ {X Y : Type 0} (p : Y → Bool) (f : X → List Y) (xs : List X) (i : ℕ) (x : X) (lt : i < length xs) (is : x ≡ get_or xs i x) where
  found_from : find p (flat_map f (drop i xs)) ≡ option_or (find p (f x)) (find p (flat_map f (drop (i + 1) xs)))
  found_from =
      ap (λ (l : List X). find p (flat_map f l)) (drop_more xs i x lt ∙ ap (λ (y : X). y ∷ drop (i + 1) xs) (sym is))
      ∙ find-append p (f x) (flat_map f (drop (i + 1) xs))

  -- where nothing is found in one of them, what is found stands behind it
  pub found_on : find p (f x) ≡ None → find p (flat_map f (drop i xs)) ≡ find p (flat_map f (drop (i + 1) xs))
  found_on none = found_from ∙ ap (λ (o : Option Y). option_or o (find p (flat_map f (drop (i + 1) xs)))) none

  -- where something is, it is the first
  pub found_here : (y : Y) → find p (f x) ≡ Some y → find p (flat_map f (drop i xs)) ≡ Some y
  found_here y some = found_from ∙ ap (λ (o : Option Y). option_or o (find p (flat_map f (drop (i + 1) xs)))) some
