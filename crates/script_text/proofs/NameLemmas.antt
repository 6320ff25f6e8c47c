-- What the numbers of names are, and the colours that a line names.
use Rattle.std.proofs.Common.{◌≡◌, ℕ, zero, suc, ◌<◌, ◌≤◌, inl, inr, Bool, true, false, not, ◌&&◌, eqb, ltb, ◌||◌, List, [], ◌∷◌, ◌++◌, length, map, Option, Some, None, Ok, refl, sym, ap, subst, ◌∙◌, append_assoc, arith}
use Rattle.std.specs.Borrow.{Bor}
use Rattle.std.specs.List.{list_any, list_all}
use Rattle.std.specs.Str.{bytes_eq}
use Rattle.std.specs.Option.{option_map}
use Rattle.std.proofs.lemmas.Bool.{cases_Bool, and_parts, or_parts, not-true, not-false, both_ways, false_from_ne_true, ne_eqb, eq-eqb, eqb-true, eqb-false, lt-ltb, ltb-true}
use Rattle.std.proofs.lemmas.List.{append-nil, map_push}
use Rattle.std.proofs.lemmas.List.Folds.{list_any-append, list_all-append}
use Rattle.std.proofs.lemmas.Slice.Eq.{bytes_eq-Decides}
use Rattle.std.specs.List.{IsDistinct}
use Rattle.std.specs.Cmp.{IsEquivalence}
use Rattle.std.proofs.lemmas.Map.Keys.{IsDistinct-push}
use Rattle.std.proofs.lemmas.Map.Steps.{length-le_from_distinct_below}
use Rattle.script_text.specs.declared.script.Reason.{Reason}
use Rattle.script_text.specs.declared.script.Reason.TheVariants as reasons
use Rattle.script_text.specs.Pieces.{is_among, is_name, number_of, name_of}
use Rattle.script_text.specs.Grammar.{are_new_names, are_new_numbers}
use Rattle.script_text.specs.Readings.{◌>>=◌, refuse, found_or, fields_in, number_at, new_name_at, each_at, colour_at, colours_at}
use Rattle.script_text.proofs.EachLemmas.{Reader, refused_ok, bind_ok, ok_is}

pub any_fields : (field : List ℕ) (fields : List (Bor (List ℕ))) → list_any (λ (o : Bor (List ℕ)). bytes_eq field o.now) fields ≡ is_among (fields_in fields) field
any_fields field [] = refl
any_fields field (o ∷ fields) = rw (any_fields field fields) refl

-- ---- numbers of names

pub suc_some : (o : Option ℕ) (n : ℕ) → option_map suc o ≡ Some n → (m : ℕ) × (o ≡ Some m) × (n ≡ suc m)
suc_some None n e = absurd cc
suc_some (Some m) n e = (m, refl, cc)

pub number_found : (names : List (List ℕ)) (field : List ℕ) (n : ℕ) → number_of names field ≡ Some n → (n < length names) × (name_of names n ≡ field)
number_found [] field n e = absurd cc
number_found (first ∷ names) field n e =
    elim (cases_Bool (bytes_eq field first)) [
      | inl same ↦
          let zero-is : n ≡ 0 = let h = rw same at e in cc in
          rw zero-is (omega arith, sym ((bytes_eq-Decides field first).0 same))
      | inr apart ↦
          let h = suc_some (number_of names field) n (rw apart at e) in
          let r = number_found names field h.0 h.1 in
          rw h.2 (omega arith, r.1)
    ]

pub found_ok : {A : Type 0} (why : Reason) (o : Option A) (x : A) → found_or why o ≡ Ok x → o ≡ Some x
found_ok why None x e = absurd cc
found_ok why (Some y) x e = cc

pub number_ok : (why : Reason) (names : List (List ℕ)) (field : List ℕ) (n : ℕ) → number_at why names field ≡ Ok n → (n < length names) × (name_of names n ≡ field)
unfolding number_at
number_ok why names field n e = number_found names field n (found_ok why (number_of names field) n e)

pub colour_ok : (names earlier : List (List ℕ)) (field : List ℕ) (n : ℕ) → colour_at names earlier field ≡ Ok n
    → (number_at reasons.UnknownColour names field ≡ Ok n) × (is_among earlier field ≡ false)
unfolding colour_at
colour_ok names earlier field n e =
    let b = bind_ok (number_at reasons.UnknownColour names field) (λ colour. refuse (is_among earlier field) reasons.ColourRepeated (Ok colour)) n e in
    let r = refused_ok (is_among earlier field) reasons.ColourRepeated (Ok b.0) n b.2 in
    (b.1 ∙ r.1, r.0)

pub each_ok_cons : {X : Type 0} (one : Reader X) (earlier : List (List ℕ)) (field : List ℕ) (fields : List (List ℕ)) (xs : List X) → each_at one earlier (field ∷ fields) ≡ Ok xs
    → (x : X) × (others : List X) × (one earlier field ≡ Ok x) × (each_at one (earlier ++ field ∷ []) fields ≡ Ok others) × (xs ≡ x ∷ others)
unfolding each_at
each_ok_cons one earlier field fields xs e =
    let a = bind_ok (one earlier field) (λ first. each_at one (earlier ++ field ∷ []) fields >>= λ others. Ok (first ∷ others)) xs e in
    let b = bind_ok (each_at one (earlier ++ field ∷ []) fields) (λ others. Ok (a.0 ∷ others)) xs a.2 in
    (a.0, b.0, a.1, b.1, sym (ok_is (a.0 ∷ b.0) xs b.2))

pub each_ok_nil : {X : Type 0} (one : Reader X) (earlier : List (List ℕ)) (xs : List X) → each_at one earlier [] ≡ Ok xs → xs ≡ []
unfolding each_at
each_ok_nil one earlier xs e = cc

name_ok : (names : List (List ℕ)) (field name : List ℕ) → new_name_at names field ≡ Ok name → (is_name field ≡ true) × (is_among names field ≡ false) × (name ≡ field)
unfolding new_name_at
name_ok names field name e =
    let a = refused_ok (not (is_name field)) reasons.BadName (refuse (is_among names field) reasons.NameRepeated (Ok field)) name e in
    let b = refused_ok (is_among names field) reasons.NameRepeated (Ok field) name a.1 in
    (not-false (is_name field) a.0, b.0, sym (ok_is field name b.1))

name_again : (names : List (List ℕ)) (field : List ℕ) → is_name field ≡ true → is_among names field ≡ false → new_name_at names field ≡ Ok field
unfolding new_name_at
name_again names field a b = rw (a, b) refl

pub new_name_ok : (names : List (List ℕ)) (field name : List ℕ) → new_name_at names field ≡ Ok name → (are_new_names names (field ∷ []) ≡ true) × (name ≡ field)
new_name_ok names field name e =
    let h = name_ok names field name e in
    (rw (h.0, h.1) refl, h.2)

pub new_parts : (names fields : List (List ℕ)) (field : List ℕ) → are_new_names names (field ∷ fields) ≡ true
    → (is_name field ≡ true) × (is_among names field ≡ false) × (are_new_names (names ++ field ∷ []) fields ≡ true)
new_parts names fields field h =
    let a = and_parts (is_name field && not (is_among names field)) (are_new_names (names ++ field ∷ []) fields) h in
    let b = and_parts (is_name field) (not (is_among names field)) a.0 in
    (b.0, not-true (is_among names field) b.1, a.1)

pub new_name_again : (names : List (List ℕ)) (field : List ℕ) → are_new_names names (field ∷ []) ≡ true → new_name_at names field ≡ Ok field
new_name_again names field h = let p = new_parts names [] field h in name_again names field p.0 p.1

pub names_ok : (earlier fields names : List (List ℕ)) → each_at new_name_at earlier fields ≡ Ok names → (names ≡ fields) × (are_new_names earlier fields ≡ true)
names_ok earlier [] names e = (each_ok_nil new_name_at earlier names e, refl)
names_ok earlier (field ∷ fields) names e =
    let c = each_ok_cons new_name_at earlier field fields names e in
    let h = name_ok earlier field c.0 c.2 in
    let r = names_ok (earlier ++ field ∷ []) fields c.1 c.3 in
    (c.4 ∙ ap (λ f. f ∷ c.1) h.2 ∙ ap (λ fs. field ∷ fs) r.0, rw (h.0, h.1, r.1) refl)

pub each_cons : {X : Type 0} (one : Reader X) (earlier : List (List ℕ)) (field : List ℕ) (fields : List (List ℕ)) (x : X) (xs : List X)
    → one earlier field ≡ Ok x → each_at one (earlier ++ field ∷ []) fields ≡ Ok xs → each_at one earlier (field ∷ fields) ≡ Ok (x ∷ xs)
unfolding each_at
each_cons one earlier field fields x xs e h = rw (e, h) refl

pub each_nil : {X : Type 0} (one : Reader X) (earlier : List (List ℕ)) → each_at one earlier [] ≡ Ok []
unfolding each_at
each_nil one earlier = refl

pub names_again : (earlier fields : List (List ℕ)) → are_new_names earlier fields ≡ true → each_at new_name_at earlier fields ≡ Ok fields
names_again earlier [] h = each_nil new_name_at earlier
names_again earlier (field ∷ fields) h =
    let p = new_parts earlier fields field h in
    each_cons new_name_at earlier field fields field fields (name_again earlier field p.0 p.1) (names_again (earlier ++ field ∷ []) fields p.2)

-- ---- distinct names are found by their numbers

apart : (earlier names : List (List ℕ)) (n : ℕ) → are_new_names earlier names ≡ true → n < length names → is_among earlier (name_of names n) ≡ false
apart earlier [] n h lt = absurd (omega arith)
apart earlier (first ∷ names) zero h lt = (new_parts earlier names first h).1
apart earlier (first ∷ names) (suc n) h lt =
    let later = apart (earlier ++ first ∷ []) names n (new_parts earlier names first h).2 (omega arith) in
    (or_parts (is_among earlier (name_of names n)) (bytes_eq (name_of names n) first || false) (sym (list_any-append (bytes_eq (name_of names n)) earlier (first ∷ [])) ∙ later)).0

pub first_apart : (earlier names : List (List ℕ)) (first : List ℕ) (n : ℕ) → are_new_names earlier (first ∷ names) ≡ true → n < length names → bytes_eq (name_of names n) first ≡ false
first_apart earlier names first n h lt =
    let later = apart (earlier ++ first ∷ []) names n (new_parts earlier names first h).2 lt in
    let last = (or_parts (is_among earlier (name_of names n)) (bytes_eq (name_of names n) first || false) (sym (list_any-append (bytes_eq (name_of names n)) earlier (first ∷ [])) ∙ later)).1 in
    (or_parts (bytes_eq (name_of names n) first) false last).0

pub number_again : (earlier names : List (List ℕ)) (n : ℕ) → are_new_names earlier names ≡ true → n < length names → number_of names (name_of names n) ≡ Some n
number_again earlier [] n h lt = absurd (omega arith)
number_again earlier (first ∷ names) zero h lt = rw ((bytes_eq-Decides first first).1 refl) refl
number_again earlier (first ∷ names) (suc n) h lt =
    rw (first_apart earlier names first n h (omega arith), number_again (earlier ++ first ∷ []) names n (new_parts earlier names first h).2 (omega arith)) refl

pub number_at_again : (why : Reason) (names : List (List ℕ)) (n : ℕ) → are_new_names [] names ≡ true → n < length names → number_at why names (name_of names n) ≡ Ok n
unfolding number_at
number_at_again why names n h lt = rw (number_again [] names n h lt) refl

-- ---- colours

-- the names of these numbers
abbrev pub named : List (List ℕ) → List ℕ → List (List ℕ)
named names ns = map (name_of names) ns

among_named : (names : List (List ℕ)) (ns : List ℕ) (n : ℕ) → is_among (named names ns) (name_of names n) ≡ false → list_any (λ m. eqb m n) ns ≡ false
among_named names [] n h = refl
among_named names (m ∷ ns) n h =
    let p = or_parts (bytes_eq (name_of names n) (name_of names m)) (is_among (named names ns) (name_of names n)) h in
    let unlike : eqb m n ≡ false = ne_eqb m n (λ e. both_ways (bytes_eq (name_of names n) (name_of names m)) p.0 ((bytes_eq-Decides (name_of names n) (name_of names m)).1 (ap (name_of names) (sym e)))) in
    rw (unlike, among_named names ns n p.1) refl

pub colours_ok : (names : List (List ℕ)) (before : List ℕ) (fields : List (List ℕ)) (ns : List ℕ) → each_at (colour_at names) (named names before) fields ≡ Ok ns
    → (fields ≡ named names ns) × (are_new_numbers before ns ≡ true) × (list_all (λ n. ltb n (length names)) ns ≡ true)
colours_ok names before [] ns e = rw (each_ok_nil (colour_at names) (named names before) ns e) (refl, refl, refl)
colours_ok names before (field ∷ fields) ns e =
    let c = each_ok_cons (colour_at names) (named names before) field fields ns e in
    let n = c.0 in
    let h = colour_ok names (named names before) field n c.2 in
    let found = number_ok reasons.UnknownColour names field n h.0 in
    let more : named names before ++ field ∷ [] ≡ named names (before ++ n ∷ []) = ap (λ f. named names before ++ f ∷ []) (sym found.1) ∙ sym (map_push (name_of names) before n) in
    let r = colours_ok names (before ++ n ∷ []) fields c.1 (rw more at c.3) in
    let fresh = among_named names before n (rw (← found.1) at h.1) in
    let below = lt-ltb n (length names) found.0 in
    rw c.4 (ap (λ f. f ∷ fields) (sym found.1) ∙ ap (λ fs. name_of names n ∷ fs) r.0, rw (fresh, r.1) refl, rw (below, r.2) refl)

named_among : (names : List (List ℕ)) (ns : List ℕ) (n : ℕ) → are_new_names [] names ≡ true → n < length names → list_all (λ m. ltb m (length names)) ns ≡ true
    → list_any (λ m. eqb m n) ns ≡ false → is_among (named names ns) (name_of names n) ≡ false
named_among names [] n h lt below fresh = refl
named_among names (m ∷ ns) n h lt below fresh =
    let p = or_parts (eqb m n) (list_any (λ m. eqb m n) ns) fresh in
    let b = and_parts (ltb m (length names)) (list_all (λ m. ltb m (length names)) ns) below in
    let unlike : bytes_eq (name_of names n) (name_of names m) ≡ false = false_from_ne_true (bytes_eq (name_of names n) (name_of names m)) (λ same.
    let e = (bytes_eq-Decides (name_of names n) (name_of names m)).0 same in
    let k : some_number n ≡ some_number m = sym (number_again [] names n h lt) ∙ ap (number_of names) e ∙ number_again [] names m h (ltb-true m (length names) b.0) in
    both_ways (eqb m n) p.0 (eq-eqb m n cc)) in
    rw (unlike, named_among names ns n h lt b.1 p.1) refl where
      some_number : ℕ → Option ℕ
      some_number k = Some k

pub colour_again : (names earlier : List (List ℕ)) (n : ℕ) → are_new_names [] names ≡ true → n < length names → is_among earlier (name_of names n) ≡ false → colour_at names earlier (name_of names n) ≡ Ok n
unfolding colour_at
colour_again names earlier n h lt apart = rw (number_at_again reasons.UnknownColour names n h lt, apart) refl

pub colours_again : (names : List (List ℕ)) (before ns : List ℕ) → are_new_names [] names ≡ true → list_all (λ m. ltb m (length names)) before ≡ true
    → are_new_numbers before ns ≡ true → list_all (λ m. ltb m (length names)) ns ≡ true → each_at (colour_at names) (named names before) (named names ns) ≡ Ok ns
colours_again names before [] h below fresh all = each_nil (colour_at names) (named names before)
colours_again names before (n ∷ ns) h below fresh all =
    let f = and_parts (not (list_any (λ m. eqb m n) before)) (are_new_numbers (before ++ n ∷ []) ns) fresh in
    let b = and_parts (ltb n (length names)) (list_all (λ m. ltb m (length names)) ns) all in
    let lt = ltb-true n (length names) b.0 in
    let one = colour_again names (named names before) n h lt (named_among names before n h lt below (not-true (list_any (λ m. eqb m n) before) f.0)) in
    let below_more : list_all (λ m. ltb m (length names)) (before ++ n ∷ []) ≡ true = list_all-append (λ m. ltb m (length names)) before (n ∷ []) ∙ rw (below, b.0) refl in
    let later = colours_again names (before ++ n ∷ []) ns h below_more f.1 b.1 in
    each_cons (colour_at names) (named names before) (name_of names n) (named names ns) n ns one (rw map_push at later)

-- ---- lists of things with names, and how many colours there may be

pub any_named : {X : Type 0} (name : X → List ℕ) (field : List ℕ) (xs : List X) → list_any (λ x. bytes_eq field (name x)) xs ≡ is_among (map name xs) field
any_named name field [] = refl
any_named name field (x ∷ xs) = rw (any_named name field xs) refl

eqb_turn : (a b : ℕ) → eqb a b ≡ eqb b a
eqb_turn a b =
    elim (cases_Bool (eqb a b)) [
      | inl e ↦ e ∙ sym (eq-eqb b a (sym (eqb-true a b e)))
      | inr e ↦ e ∙ sym (ne_eqb b a (λ k. eqb-false a b e (sym k)))
    ]

pub any_turned : (n : ℕ) (ns : List ℕ) → list_any (λ m. eqb m n) ns ≡ list_any (eqb n) ns
any_turned n [] = refl
any_turned n (m ∷ ns) = rw (eqb_turn m n, any_turned n ns) refl

pub eqb_equivalence : IsEquivalence eqb
eqb_equivalence = record {
  refl = λ x. eq-eqb x x refl;
  symm = eqb_turn;
  congr = λ x y z e. rw (eqb-true x y e) refl;
}

pub nothing : IsDistinct eqb []
unfolding IsDistinct
nothing = tt

pub distinct : (before ns : List ℕ) → IsDistinct eqb before → are_new_numbers before ns ≡ true → IsDistinct eqb (before ++ ns)
distinct before [] d h = rw append-nil d
distinct before (n ∷ ns) d h =
    let f = and_parts (not (list_any (λ m. eqb m n) before)) (are_new_numbers (before ++ n ∷ []) ns) h in
    let one = IsDistinct-push eqb_equivalence before n d (sym (any_turned n before) ∙ not-true (list_any (λ m. eqb m n) before) f.0) in
    subst (IsDistinct eqb) (append_assoc before (n ∷ []) ns) (distinct (before ++ n ∷ []) ns one f.1)

-- a number among those that are all below another is below it
pub below_all : (ns : List ℕ) (most q : ℕ) → list_all (λ n. ltb n most) ns ≡ true → list_any (eqb q) ns ≡ true → q < most
below_all [] most q h e = absurd cc
below_all (n ∷ ns) most q h e =
    let b = and_parts (ltb n most) (list_all (λ n. ltb n most) ns) h in
    elim (cases_Bool (eqb q n)) [
      | inl same ↦ rw (eqb-true q n same) (ltb-true n most b.0)
      | inr apart ↦ below_all ns most q b.1 (rw apart at e)
    ]

pub few_numbers : (ns : List ℕ) (most : ℕ) → are_new_numbers [] ns ≡ true → list_all (λ n. ltb n most) ns ≡ true → length ns ≤ most
few_numbers ns most fresh below = length-le_from_distinct_below ns most (distinct [] ns nothing fresh) (λ q e. below_all ns most q below e)

pub few_colours : (names fields : List (List ℕ)) (ns : List ℕ) → colours_at names fields ≡ Ok ns → length ns ≤ length names
few_colours names fields ns e =
    let c = colours_ok names [] fields ns e in
    few_numbers ns (length names) c.1 c.2

pub any_in : (p : List ℕ → Bool) (fields : List (Bor (List ℕ))) → list_any (λ (o : Bor (List ℕ)). p o.now) fields ≡ list_any p (fields_in fields)
any_in p [] = refl
any_in p (o ∷ fields) = rw (any_in p fields) refl
