-- Colours that rise are the members of their set.
use Rattle.std.proofs.Common.{◌≡◌, ◌≢◌, ℕ, zero, suc, ◌+◌, ◌<◌, ◌≤◌, Bool, true, false, List, [], ◌∷◌, length, drop, get_or, Some, ap, sym, subst, ◌∙◌, inl, inr, refl, arith, cond}
use Rattle.std.specs.Prelude.{◌==◌, ◌||◌, slice_get}
use Rattle.std.specs.List.{All, filter, list_any, range_with_len}
use Rattle.std.proofs.lemmas.Bool.{cases_Bool, cases_lt, eq-eqb, eqb-true, ne_eqb, or_from, true≢false}
use Rattle.std.proofs.lemmas.List.{drop_more, drop_all}
use Rattle.std.proofs.lemmas.List.Elements.{All-nil, All-cons, All-tail}
use Rattle.log_node.specs.declared.ids.Colours.{Colours}
use Rattle.log_node.specs.declared.limits.TheConstants.{MAX_COLOURS}
use Rattle.log_node.specs.declared.marks.ColourMark.{ColourMark}
use Rattle.log_node.specs.Sets.{has, members, set_of}
use Rattle.log_node.proofs.CallerLemmas.{members-set_of, same_some}
use Rattle.col_core.proofs.CallerLemmas.{if_true, if_false}
use Rattle.run_rules.specs.Telling.{marked_colours}
use Rattle.walk_law.specs.RowsBeside.{RiseFrom}

-- numbers that rise
IsFrom : ℕ → List ℕ → Type 0
IsFrom low [] = Unit {0}
IsFrom low (c ∷ cs) = (low ≤ c) × IsFrom (c + 1) cs

among : List ℕ → ℕ → Bool
among cs c = list_any (λ m. m == c) cs

none_below : (low c : ℕ) (cs : List ℕ) → IsFrom low cs → c < low → among cs c ≡ false
unfolding IsFrom among
none_below low c [] rise lt = refl
none_below low c (d ∷ cs) rise lt =
    let le = rise.0 in
    or_from (d == c) (among cs c) (ne_eqb d c (λ e. let f : ⊥ = omega (arith, le, lt, e) in f))
    (none_below (d + 1) c cs rise.1 (omega (arith, le, lt)))

same_above : (p q : ℕ → Bool) (a n : ℕ) → ((x : ℕ) → a ≤ x → p x ≡ q x) → filter p (range_with_len a n) ≡ filter q (range_with_len a n)
same_above p q a zero same = refl
same_above p q a (suc n) same = by (p a) (q a) (same a (omega arith)) (same_above p q (a + 1) n (λ x le. same x (omega (arith, le)))) where
  by : (b d : Bool) → b ≡ d → filter p (range_with_len (a + 1) n) ≡ filter q (range_with_len (a + 1) n)
      → cond b (a ∷ filter p (range_with_len (a + 1) n)) (filter p (range_with_len (a + 1) n))
      ≡ cond d (a ∷ filter q (range_with_len (a + 1) n)) (filter q (range_with_len (a + 1) n))
  by true true e rest = ap (λ (l : List ℕ). a ∷ l) rest
  by true false e rest = absurd (true≢false e)
  by false true e rest = absurd (true≢false (sym e))
  by false false e rest = rest

none_of : (a n : ℕ) → filter (λ (c : ℕ). false) (range_with_len a n) ≡ []
none_of a zero = refl
none_of a (suc n) = none_of (a + 1) n

-- the numbers of a range that are among some that rise are these
filter_rising : (n a : ℕ) (cs : List ℕ) → IsFrom a cs → All (λ c. c < a + n) cs → filter (among cs) (range_with_len a n) ≡ cs
unfolding IsFrom among
filter_rising zero a [] rise low = refl
filter_rising zero a (c ∷ cs) rise low =
    let le = rise.0 in
    let lt = low 0 c (omega arith) in
    absurd (let f : ⊥ = omega (arith, le, lt) in f)
filter_rising (suc n) a [] rise low = none_of (a + 1) n
filter_rising (suc n) a (c ∷ cs) rise low = elim (cases_Bool (c == a)) [
  | inl here ↦
      let e : c ≡ a = eqb-true c a here in
      if_true ((c == a) || among cs a) _ _ (ap (λ (b : Bool). b || among cs a) here)
      ∙ (ap (λ (l : List ℕ). a ∷ l)
      (same_above (among (c ∷ cs)) (among cs) (a + 1) n
      (λ x le. ap (λ (b : Bool). b || among cs x) (ne_eqb c x (λ f. let g : ⊥ = omega (arith, le, f, e) in g)))
      ∙ filter_rising n (a + 1) cs (subst (λ (k : ℕ). IsFrom (k + 1) cs) e rise.1)
      (λ k d lt. let l = low (suc k) d (let s : suc k < length (c ∷ cs) = omega (arith, lt) in s) in omega (arith, l)))
      ∙ ap (λ (k : ℕ). k ∷ cs) (sym e))
  | inr other ↦
      let le = rise.0 in
      let ne : c ≢ a = λ e. true≢false (sym (eq-eqb c a e) ∙ other) in
      let more : a + 1 ≤ c = above a c le ne in
      if_false ((c == a) || among cs a) _ _
      (or_from (c == a) (among cs a) other (none_below (c + 1) a cs rise.1 (omega (arith, le))))
      ∙ filter_rising n (a + 1) (c ∷ cs) (more, rise.1) (λ k d lt. let l = low k d lt in omega (arith, l))
] where
  above : (x y : ℕ) → x ≤ y → y ≢ x → x + 1 ≤ y
  above x y le ne = elim (cases_lt x y) [ inl lt ↦ omega (arith, lt) | inr ge ↦ absurd (ne (omega (arith, le, ge))) ]

-- what is left of a range rises
range_rises : (n a : ℕ) (p : ℕ → Bool) → IsFrom a (filter p (range_with_len a n))
unfolding IsFrom
range_rises zero a p = tt
range_rises (suc n) a p = by (p a) (range_rises n (a + 1) p) where
  weaker : (low high : ℕ) (cs : List ℕ) → low ≤ high → IsFrom high cs → IsFrom low cs
  weaker low high [] le rise = tt
  weaker low high (c ∷ cs) le rise = let h = rise.0 in (omega (arith, le, h), rise.1)

  by : (b : Bool) → IsFrom (a + 1) (filter p (range_with_len (a + 1) n))
      → IsFrom a (cond b (a ∷ filter p (range_with_len (a + 1) n)) (filter p (range_with_len (a + 1) n)))
  by true rest = (omega arith, rest)
  by false rest = weaker a (a + 1) (filter p (range_with_len (a + 1) n)) (omega arith) rest

from_above : (low : ℕ) (cs : List ℕ) → IsFrom low cs → (k c : ℕ) → slice_get cs k ≡ Some c → low ≤ c
unfolding IsFrom
from_above low [] rise k c at = absurd (let f : ⊥ = cc (at) in f)
from_above low (d ∷ cs) rise zero c at =
    let le = rise.0 in
    let same : d ≡ c = same_some at in omega (arith, le, same)
from_above low (d ∷ cs) rise (suc k) c at =
    let le = rise.0 in
    let more = from_above (d + 1) cs rise.1 k c at in omega (arith, le, more)

from_once : (low : ℕ) (cs : List ℕ) → IsFrom low cs → (i j c : ℕ) → slice_get cs i ≡ Some c → slice_get cs j ≡ Some c → i ≡ j
unfolding IsFrom
from_once low [] rise i j c at_i at_j = absurd (let f : ⊥ = cc (at_i) in f)
from_once low (d ∷ cs) rise zero zero c at_i at_j = refl
from_once low (d ∷ cs) rise zero (suc j) c at_i at_j =
    let same : d ≡ c = same_some at_i in
    let more = from_above (d + 1) cs rise.1 j c at_j in absurd (let f : ⊥ = omega (arith, same, more) in f)
from_once low (d ∷ cs) rise (suc i) zero c at_i at_j =
    let same : d ≡ c = same_some at_j in
    let more = from_above (d + 1) cs rise.1 i c at_i in absurd (let f : ⊥ = omega (arith, same, more) in f)
from_once low (d ∷ cs) rise (suc i) (suc j) c at_i at_j = ap suc (from_once (d + 1) cs rise.1 i j c at_i at_j)

-- a member stands in one place
pub members_once : (set : Colours) (i j c : ℕ) → slice_get (members set) i ≡ Some c → slice_get (members set) j ≡ Some c → i ≡ j
members_once set = from_once 0 (members set) (range_rises MAX_COLOURS 0 (has set))

-- MARKS

pub rising_below : (low colours : ℕ) (ms : List ColourMark) → RiseFrom low colours ms → All (λ (m : ColourMark). m.colour < colours) ms
rising_below low colours [] rise = All-nil (λ (m : ColourMark). m.colour < colours)
rising_below low colours (m ∷ ms) rise =
    All-cons (λ (m : ColourMark). m.colour < colours) m ms rise.1 (rising_below (m.colour + 1) colours ms rise.2)

from_rising : (low colours : ℕ) (ms : List ColourMark) → RiseFrom low colours ms → IsFrom low (marked_colours ms)
unfolding IsFrom
from_rising low colours [] rise = tt
from_rising low colours (m ∷ ms) rise = (rise.0, from_rising (m.colour + 1) colours ms rise.2)

rising_from : (low colours : ℕ) (ms : List ColourMark) → IsFrom low (marked_colours ms) → All (λ (m : ColourMark). m.colour < colours) ms
    → RiseFrom low colours ms
unfolding IsFrom
rising_from low colours [] from all = tt
rising_from low colours (m ∷ ms) from all =
    (from.0, all 0 m (omega arith), rising_from (m.colour + 1) colours ms from.1 (All-tail (λ (m : ColourMark). m.colour < colours) m ms all))

few_below : (low colours : ℕ) (ms : List ColourMark) → colours ≤ MAX_COLOURS → RiseFrom low colours ms
    → All (λ c. c < 0 + MAX_COLOURS) (marked_colours ms)
few_below low colours [] few rise = All-nil (λ c. c < 0 + MAX_COLOURS)
few_below low colours (m ∷ ms) few rise =
    let lt = rise.1 in
    All-cons (λ c. c < 0 + MAX_COLOURS) m.colour (marked_colours ms) (let l : m.colour < 0 + MAX_COLOURS = omega (arith, lt, few) in l)
    (few_below (m.colour + 1) colours ms few rise.2)

pub rising_members : (colours : ℕ) (ms : List ColourMark) → colours ≤ MAX_COLOURS → RiseFrom 0 colours ms
    → marked_colours ms ≡ members (set_of (marked_colours ms))
unfolding among
rising_members colours ms few rise =
    sym (members-set_of (marked_colours ms)
    ∙ filter_rising MAX_COLOURS 0 (marked_colours ms) (from_rising 0 colours ms rise) (few_below 0 colours ms few rise))

pub members_rising : (colours : ℕ) (ms : List ColourMark) → All (λ (m : ColourMark). m.colour < colours) ms
    → marked_colours ms ≡ members (set_of (marked_colours ms)) → RiseFrom 0 colours ms
unfolding among
members_rising colours ms below same =
    rising_from 0 colours ms
    (subst (IsFrom 0) (sym (same ∙ members-set_of (marked_colours ms))) (range_rises MAX_COLOURS 0 (among (marked_colours ms)))) below

-- as far as a loop has come
pub record IsRisingOn (colours low i : ℕ) (ms : List ColourMark) : Type 0 where
  pub on : RiseFrom 0 colours ms → RiseFrom low colours (drop i ms)
  pub back : RiseFrom low colours (drop i ms) → RiseFrom 0 colours ms

module _ (colours low i : ℕ) (ms : List ColourMark) (so : IsRisingOn colours low i ms) (m : ColourMark) (lt : i < length ms)
    (is : m ≡ get_or ms i m) where
  next_mark : drop i ms ≡ m ∷ drop (i + 1) ms
  next_mark = drop_more ms i m lt ∙ ap (λ (x : ColourMark). x ∷ drop (i + 1) ms) (sym is)

  pub rising_on : low ≤ m.colour → m.colour < colours → IsRisingOn colours (m.colour + 1) (i + 1) ms
  rising_on le less = record {
    on = λ rise. (subst (RiseFrom low colours) next_mark (so.on rise)).2;
    back = λ rise. so.back (subst (RiseFrom low colours) (sym next_mark) (le, less, rise));
  }

  pub falls_below : m.colour < low → RiseFrom 0 colours ms → ⊥
  falls_below less rise = let two = (subst (RiseFrom low colours) next_mark (so.on rise)).0 in omega (arith, less, two)

  pub falls_beyond : colours ≤ m.colour → RiseFrom 0 colours ms → ⊥
  falls_beyond more rise = let two = (subst (RiseFrom low colours) next_mark (so.on rise)).1 in omega (arith, more, two)

pub rising_all : (colours low i : ℕ) (ms : List ColourMark) → IsRisingOn colours low i ms → length ms ≤ i → RiseFrom 0 colours ms
rising_all colours low i ms so ge = so.back (subst (RiseFrom low colours) (sym (drop_all i ms ge)) tt)
