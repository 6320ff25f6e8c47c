-- Lists of two, and a set of two colours.
use Rattle.std.proofs.Common.{◌≡◌, ℕ, ◌+◌, true, false, List, [], ◌∷◌, ◌++◌, length, Some, slice_get, sym, refl}
use Rattle.std.proofs.Common.{ap, ◌∙◌, subst, arith, length-append}
use Rattle.std.specs.Prelude.{◌==◌}
use Rattle.std.specs.Int.{bit_at}
use Rattle.std.proofs.lemmas.Nat.Bits.{bit_at_above}
use mathlib.Core.Logic.{dite}
use native.Mathlib.Decide.{dec_le}
use Rattle.log_node.specs.declared.ids.Colours.{Colours}
use Rattle.log_node.specs.Sets.{has, members}
use Rattle.stamp_board.specs.declared.view.Size.{Size}
use Rattle.stamp_board.specs.Rows.{AreColours}
use Rattle.stamp_board.proofs.Gathering.{got_end, got_front}

-- the two that were taken from the end of a list of two
pub last_two : {A : Type 0} (all ys xs : List A) (t s : A) → length all ≡ 2 → all ≡ ys ++ t ∷ [] → ys ≡ xs ++ s ∷ []
    → (slice_get all 0 ≡ Some s) × (slice_get all 1 ≡ Some t)
last_two all ys xs t s two e e' =
    let l : length all ≡ length ys + 1 = ap length e ∙ length-append ys (t ∷ []) in
    let l' : length ys ≡ length xs + 1 = ap length e' ∙ length-append xs (s ∷ []) in
    let none : length xs ≡ 0 = omega arith in
    let one : length ys ≡ 1 = omega arith in (
      ap (λ l. slice_get l 0) e
          ∙ got_front ys t s 0 (subst (λ (n : ℕ). slice_get ys n ≡ Some s) none (ap (λ l. slice_get l (length xs)) e'
          ∙ got_end xs s)),
      subst (λ (n : ℕ). slice_get all n ≡ Some t) one (ap (λ l. slice_get l (length ys)) e ∙ got_end ys t),
    )

abbrev pub first_two : Colours
first_two = record { 0 = 3 }

pub two_colours : (size : Size) → size.colours ≡ 2 → AreColours size first_two
two_colours size two = record {
  many = (let two : length (members first_two) ≡ 2 = refl in omega arith);
  within = (λ c h. dite (dec_le 2 c)
      (λ le. absurd (let none : bit_at 3 c ≡ 0 = bit_at_above 3 2 c (omega arith) le in
      let no : has first_two c ≡ false = ap (λ (n : ℕ). n == 1) none in let both : true ≡ false = sym h ∙ no in
      cc (both)))
      (λ lt. omega arith));
}
