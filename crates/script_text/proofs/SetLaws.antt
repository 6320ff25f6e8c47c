-- The set of the colours that a line names, made name by name.
use Rattle.std.proofs.Common.{◌≡◌, ℕ, ◌^◌, ◌<◌, ◌≢◌, inl, inr, true, eqb, ltb, ◌+◌, ◌≤◌, List, [], ◌∷◌, ◌++◌, length, length-append, Option, Some, None, Ok, bit_or, get_or, refl, sym, ap, subst, ◌∙◌, arith}
use Rattle.std.specs.List.{list_any, list_all, fold, range_with_len}
use Rattle.std.specs.Str.{bytes_eq}
use Rattle.std.proofs.Math.Pow.{pow-lt}
use Rattle.std.proofs.lemmas.Bool.{cases_Bool, and_parts, eqb-true, eq-eqb, ltb-true, ne_eqb, both_ways}
use Rattle.std.proofs.lemmas.Nat.{or_lt, pow_pos}
use Rattle.std.proofs.lemmas.List.Folds.{list_any_at}
use Rattle.std.proofs.lemmas.List.FromFn.{length-range_with_len, get_or-range_with_len}
use Rattle.std.proofs.lemmas.Map.Made.{length-le_from_is_member}
use Rattle.std.proofs.lemmas.Map.Views.{any-filter_same}
use Rattle.std.proofs.lemmas.Slice.Eq.{bytes_eq-Decides}
use Rattle.log_node.specs.declared.ids.Colours.{Colours}
use Rattle.log_node.specs.declared.limits.TheConstants.{MAX_COLOURS}
use Rattle.log_node.specs.Sets.{has, members, with_colour, set_of}
use Rattle.log_node.proofs.CallerLemmas.{has-set_of, set_of-more}
use Rattle.script_text.specs.declared.fault.Fault.{Fault}
use Rattle.script_text.specs.declared.fault.Fault.TheVariants as faults
use Rattle.script_text.specs.declared.script.Reason.TheVariants as reasons
use Rattle.script_text.specs.Pieces.{names_in, is_among, number_of}
use Rattle.script_text.specs.Grammar.{are_new_numbers}
use Rattle.script_text.specs.Readings.{Fails, number_at, each_at, colour_at, fresh_colour_at, colours_at, colours_set_at}
use Rattle.script_text.proofs.EachLemmas.{with_front, each_step, fails_on, done_on}
use Rattle.script_text.proofs.NameLemmas.{number_found, found_ok, colour_ok, any_turned, eqb_equivalence, nothing, distinct, below_all, few_colours}

-- ---- members

-- what a set of small numbers has is among its members
among_members : (set : Colours) (q : ℕ) → q < MAX_COLOURS → has set q ≡ true → list_any (eqb q) (members set) ≡ true
among_members set q few is =
    let same : (k : ℕ) → eqb q k ≡ true → has set k ≡ true =
    λ k e. subst (λ (n : ℕ). has set n ≡ true) (eqb-true q k e) is in
    let at : get_or (range_with_len 0 MAX_COLOURS) q 0 ≡ q = get_or-range_with_len 0 MAX_COLOURS q 0 few ∙ from_zero q in
    let here = list_any_at (eqb q) (range_with_len 0 MAX_COLOURS) q 0 (length_is q few) (eq-eqb q _ (sym at)) in
    any-filter_same (eqb q) (has set) true same (range_with_len 0 MAX_COLOURS) ∙ here where
      length_is : (q : ℕ) → q < MAX_COLOURS → q < length (range_with_len 0 MAX_COLOURS)
      length_is q few = let all = length-range_with_len 0 MAX_COLOURS in omega (arith, all, few)

      from_zero : (q : ℕ) → 0 + q ≡ q
      from_zero q = omega arith

-- distinct colours below the limit are no more than the members of their set
pub many_members : (order : List ℕ) (most : ℕ) → most ≤ MAX_COLOURS → are_new_numbers [] order ≡ true
    → list_all (λ n. ltb n most) order ≡ true → length order ≤ length (members (set_of order))
many_members order most few new below =
    length-le_from_is_member eqb_equivalence order (members (set_of order)) (distinct [] order nothing new)
    (λ q e. let lt = below_all order most q below e in
    among_members (set_of order) q (omega (arith, lt, few)) (has-set_of order q ∙ any_turned q order ∙ e))

-- and the bits of their set are few
few_bits : (order : List ℕ) (most : ℕ) → most ≤ MAX_COLOURS → (bits : ℕ) → bits < 2 ^ MAX_COLOURS
    → list_all (λ n. ltb n most) order ≡ true → fold (λ set k. bit_or set (2 ^ k)) bits order < 2 ^ MAX_COLOURS
few_bits [] most few bits lt below = lt
few_bits (c ∷ order) most few bits lt below =
    let p = and_parts (ltb c most) (list_all (λ n. ltb n most) order) below in
    let low = ltb-true c most p.0 in
    let small : c < MAX_COLOURS = omega (arith, low, few) in
    few_bits order most few (bit_or bits (2 ^ c)) (or_lt MAX_COLOURS bits (2 ^ c) lt (pow-lt small)) p.1

pub bits_few : (order : List ℕ) (most : ℕ) → most ≤ MAX_COLOURS → list_all (λ n. ltb n most) order ≡ true
    → (set_of order).0 < 2 ^ MAX_COLOURS
bits_few order most few below = few_bits order most few 0 (pow_pos MAX_COLOURS) below

-- ---- names and their numbers

-- these are the numbers of those names
abbrev pub AreNumbered : List (List ℕ) → List (List ℕ) → List ℕ → Type 0
AreNumbered names [] [] = Unit {0}
AreNumbered names [] (n ∷ order) = ⊥
AreNumbered names (name ∷ earlier) [] = ⊥
AreNumbered names (name ∷ earlier) (n ∷ order) = (number_of names name ≡ Some n) × AreNumbered names earlier order

pub numbered_more : (names earlier : List (List ℕ)) (order : List ℕ) (name : List ℕ) (n : ℕ) → AreNumbered names earlier order → number_of names name ≡ Some n
    → AreNumbered names (earlier ++ name ∷ []) (order ++ n ∷ [])
numbered_more names [] [] name n h e = (e, tt)
numbered_more names [] (m ∷ order) name n h e = absurd h
numbered_more names (other ∷ earlier) [] name n h e = absurd h
numbered_more names (other ∷ earlier) (m ∷ order) name n h e = (h.0, numbered_more names earlier order name n h.1 e)

some_is : (m n : ℕ) (o : Option ℕ) → o ≡ Some m → o ≡ Some n → m ≡ n
some_is m n o e f = cc

alike : (names : List (List ℕ)) (field name : List ℕ) (c m : ℕ) → number_of names field ≡ Some c → number_of names name ≡ Some m → bytes_eq field name ≡ eqb m c
alike names field name c m e f = elim (cases_Bool (bytes_eq field name)) [
  | inl same ↦
      let is = (bytes_eq-Decides field name).0 same in
      same ∙ sym (eq-eqb m c (some_is m c (number_of names field) (ap (number_of names) is ∙ f) e))
  | inr apart ↦
      let unlike : m ≢ c = λ is. both_ways (bytes_eq field name) apart ((bytes_eq-Decides field name).1 (sym (number_found names field c e).1 ∙ rw (← is) (number_found names name m f).1)) in
      apart ∙ sym (ne_eqb m c unlike)
]

among_numbers : (names earlier : List (List ℕ)) (order : List ℕ) (field : List ℕ) (c : ℕ) → AreNumbered names earlier order → number_of names field ≡ Some c
    → list_any (λ m. eqb m c) order ≡ is_among earlier field
among_numbers names [] [] field c h e = refl
among_numbers names [] (m ∷ order) field c h e = absurd h
among_numbers names (name ∷ earlier) [] field c h e = absurd h
among_numbers names (name ∷ earlier) (m ∷ order) field c h e = rw (alike names field name c m e h.0, among_numbers names earlier order field c h.1 e) refl

-- a colour that is not in the set of the earlier ones is one that no earlier field names
pub new_colour_is : (names earlier : List (List ℕ)) (order : List ℕ) (field : List ℕ) → AreNumbered names earlier order
    → fresh_colour_at names (set_of order) field ≡ colour_at names earlier field
unfolding number_at colour_at fresh_colour_at
new_colour_is names earlier order field h = by (number_of names field) refl where
  by : (o : Option ℕ) → number_of names field ≡ o
      → fresh_colour_at names (set_of order) field ≡ colour_at names earlier field
  by None e = rw e refl
  by (Some c) e = rw (e, has-set_of order c, among_numbers names earlier order field c h e) refl

-- ---- one step of the loop

-- what a loop over the names keeps: what was read, and what is still read
pub record IsRead (names : List (List ℕ)) (cols rest : List ℕ) (set : Colours) (count : ℕ) : Type 0 where
  pub earlier : List (List ℕ)
  pub order : List ℕ
  pub so_far : with_front order (each_at (colour_at names) earlier (names_in rest)) ≡ colours_at names (names_in cols)
  pub numbered : AreNumbered names earlier order
  pub set_is : set ≡ set_of order
  pub count_is : count ≡ length order

module _ (names : List (List ℕ)) (cols rest : List ℕ) (set : Colours) (count : ℕ) (h : IsRead names cols rest set count) where
  reads : (field : List ℕ) → fresh_colour_at names set field ≡ colour_at names h.earlier field
  reads field = rw h.set_is (new_colour_is names h.earlier h.order field h.numbered)

  -- the next name is refused, and so are the colours
  pub stops : (field : List ℕ) (later : List (List ℕ)) (fault : Fault) → names_in rest ≡ field ∷ later → Fails fault (fresh_colour_at names set field) → Fails fault (colours_set_at names (names_in cols))
  unfolding colours_set_at
  stops field later faults.NoMemory cut e = tt
  stops field later (faults.Refused why) cut e =
      rw (sym h.so_far ∙ ap (λ fields. with_front h.order (each_at (colour_at names) h.earlier fields)) cut ∙ fails_on (colour_at names) h.earlier h.order field later why (sym (reads field) ∙ e)) refl

  -- the set with the colour of the next name
  set_more : (colour : ℕ) → with_colour set colour ≡ set_of (h.order ++ colour ∷ [])
  set_more colour = ap (λ (s : Colours). with_colour s colour) h.set_is ∙ set_of-more h.order colour

  number_is : (field : List ℕ) (colour : ℕ) → fresh_colour_at names set field ≡ Ok colour → number_of names field ≡ Some colour
  unfolding number_at
  number_is field colour e = found_ok reasons.UnknownColour (number_of names field) colour (colour_ok names h.earlier field colour (sym (reads field) ∙ e)).0

  -- the name is read, and the others are read on
  pub goes_on : (field later : List ℕ) (colour : ℕ) → names_in rest ≡ field ∷ names_in later → fresh_colour_at names set field ≡ Ok colour → IsRead names cols later (with_colour set colour) (count + 1)
  goes_on field later colour cut e = record {
    earlier = h.earlier ++ field ∷ [];
    order = h.order ++ colour ∷ [];
    so_far = sym (each_step (colour_at names) h.earlier h.order field (names_in later) colour (sym (reads field) ∙ e))
        ∙ ap (λ fields. with_front h.order (each_at (colour_at names) h.earlier fields)) (sym cut) ∙ h.so_far;
    numbered = numbered_more names h.earlier h.order field colour h.numbered (number_is field colour e);
    set_is = set_more colour;
    count_is = omega (arith, length-append h.order (colour ∷ []), h.count_is);
  }

  -- the last name is read
  pub ends : (field : List ℕ) (colour : ℕ) → names_in rest ≡ field ∷ [] → fresh_colour_at names set field ≡ Ok colour
      → colours_at names (names_in cols) ≡ Ok (h.order ++ colour ∷ [])
  ends field colour cut e =
      sym h.so_far ∙ ap (λ fields. with_front h.order (each_at (colour_at names) h.earlier fields)) cut
      ∙ each_step (colour_at names) h.earlier h.order field [] colour (sym (reads field) ∙ e) ∙ done_on (colour_at names) (h.earlier ++ field ∷ []) (h.order ++ colour ∷ [])

  pub gives : (field : List ℕ) (colour : ℕ) → names_in rest ≡ field ∷ [] → fresh_colour_at names set field ≡ Ok colour
      → colours_set_at names (names_in cols) ≡ Ok (with_colour set colour, count + 1)
  unfolding colours_set_at
  gives field colour cut e =
      let n : length (h.order ++ colour ∷ []) ≡ count + 1 = omega (arith, length-append h.order (colour ∷ []), h.count_is) in
      rw (ends field colour cut e, n) (ap (λ (s : Colours). Ok (s, count + 1)) (sym (set_more colour)))

  pub few : (field : List ℕ) (colour : ℕ) → names_in rest ≡ field ∷ [] → fresh_colour_at names set field ≡ Ok colour → count + 1 ≤ length names
  few field colour cut e =
      omega (arith, few_colours names (names_in cols) (h.order ++ colour ∷ []) (ends field colour cut e), length-append h.order (colour ∷ []), h.count_is)
