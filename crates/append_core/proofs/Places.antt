-- Places in lists.
use Rattle.std.proofs.Common.{◌≡◌, ℕ, ◌≤◌, List, [], ◌∷◌, ◌++◌, length, map, Some, slice_get, refl, ap, sym, subst, ◌∙◌, arith, length-append}
use Rattle.std.specs.Option.{option_map}
use Rattle.std.proofs.lemmas.Option.{slice_get-map}
use mathlib.Core.List.{IsPrefix}
use Rattle.col_core.proofs.CallerLemmas.{slice_longer}
pub use Rattle.log_node.proofs.CallerLemmas.{get_map as at_image}

module _ {A : Type 0} where
  pub prefix_length : (xs ys : List A) → IsPrefix xs ys → length xs ≤ length ys
  prefix_length xs ys p = let e = sym (ap length p.1) ∙ length-append xs p.0 in omega (arith, e)

  pub prefix_get : (xs ys : List A) (n : ℕ) (x : A) → IsPrefix xs ys → slice_get xs n ≡ Some x → slice_get ys n ≡ Some x
  prefix_get xs ys n x p at = subst (λ (l : List A). slice_get l n ≡ Some x) p.1 (slice_longer xs p.0 n x at)

  pub at_end : (xs : List A) (x : A) → slice_get (xs ++ x ∷ []) (length xs) ≡ Some x
  at_end [] x = refl
  at_end (y ∷ xs) x = at_end xs x
