-- The latest writes of a key, after one more played node.
use Rattle.std.proofs.Common.{◌≡◌, ℕ, zero, suc, ◌↔◌, inl, inr, Bool, true, false, not, ◌&&◌, ◌||◌, eqb, ltb, List, [], ◌∷◌, ◌++◌, length, get_or, map, Option, Some, None, refl, ap, sym, subst, ◌∙◌, arith}
use Rattle.std.specs.Prelude.{IsTrue, filter, is_some}
use Rattle.std.specs.List.{Contains, AllByRecursion}
use Rattle.std.specs.Str.{bytes_eq}
use Rattle.std.proofs.lemmas.Bool.{cases_Bool, and_parts, and_from, both_ways, false_from_ne_true, or_left, not-true, not_from_false, eqb-true, eq-eqb, ltb-true, ltb-false}
use Rattle.std.proofs.lemmas.Option.{slice_get_within}
use Rattle.std.proofs.lemmas.Slice.Eq.{bytes_eq-Decides}
use Rattle.std.proofs.lemmas.List.Elements.{Contains-append_left, Contains-push, Contains-push_cases, Contains-get_or, recursion_from_All, filter-append}
use Rattle.std.proofs.lemmas.List.{map-append, append-nil}
use Rattle.log_node.specs.declared.ids.Counts.{Counts}
use Rattle.log_node.specs.declared.forms.Form.{Form}
use Rattle.log_node.specs.declared.forms.Form.TheVariants as forms
use Rattle.log_node.specs.Vectors.{at}
use Rattle.object_form.specs.Readings.{form_of}
use Rattle.object_fold.specs.declared.causal_map.LatestWrite.{LatestWrite}
use Rattle.object_fold.specs.Causal.{ChainNode, FollowsCausally, IsLatestWrite, written_value}
use Rattle.object_fold.specs.Pasts.{past_chain, at_once, past_of, ArePasts, MayPlayNext}
use Rattle.object_fold.specs.CausalStates.{latest_write, HoldsLatest, latest_at, not_followed, change_by, latest_with}
use Rattle.object_fold.proofs.PastLemmas.{grow, shrink, to_new, from_new, newest, own_position}
use Rattle.log_node.proofs.CallerLemmas.{contains_none as none_contained}

-- ---- filters

filter_same : {A : Type 0} (p q : A → Bool) (xs : List A) → AllByRecursion (λ x. p x ≡ q x) xs → filter p xs ≡ filter q xs
filter_same p q [] h = refl
filter_same p q (x ∷ xs) h =
    let later = filter_same p q xs h.1 in
    elim (cases_Bool (q x)) [
      | inl e ↦ rw (h.0, e) (ap (λ ys. x ∷ ys) later)
      | inr e ↦ rw (h.0, e) later
    ]

filter_both : {A : Type 0} (p q : A → Bool) (xs : List A) → filter (λ x. p x && q x) xs ≡ filter q (filter p xs)
filter_both p q [] = refl
filter_both p q (x ∷ xs) =
    let later = filter_both p q xs in
    elim (cases_Bool (p x)) [
      | inl e ↦ elim (cases_Bool (q x)) [ inl f ↦ rw (e, f) (ap (λ ys. x ∷ ys) later) | inr f ↦ rw (e, f) later ]
      | inr e ↦ rw e later
    ]

filter_mapped : {A B : Type 0} (f : A → B) (p : B → Bool) (xs : List A) → filter p (map f xs) ≡ map f (filter (λ x. p (f x)) xs)
filter_mapped f p [] = refl
filter_mapped f p (x ∷ xs) =
    let later = filter_mapped f p xs in
    elim (cases_Bool (p (f x))) [ inl e ↦ rw e (ap (λ ys. f x ∷ ys) later) | inr e ↦ rw e later ]

each : {A : Type 0} (P : A → Type 0) (xs : List A) → ((x : A) → Contains xs x → P x) → AllByRecursion P xs
each P xs f = recursion_from_All P xs (λ k d lt. f (get_or xs k d) (Contains-get_or xs k d lt))

-- ---- no node

pub no_writes : (key : List ℕ) → HoldsLatest [] key []
no_writes key = record { is_latest = λ _. false; exactly = λ node c. absurd (none_contained node c); writes = refl }

empty_chain : (t : ℕ) → past_chain ([] ∷ [] ∷ [] ∷ [] ∷ []) t ≡ []
empty_chain zero = refl
empty_chain (suc zero) = refl
empty_chain (suc (suc zero)) = refl
empty_chain (suc (suc (suc zero))) = refl
empty_chain (suc (suc (suc (suc t)))) = refl

pub no_pasts : ArePasts ([] ∷ [] ∷ [] ∷ [] ∷ []) []
no_pasts = record {
  four = refl;
  known = λ node c. absurd (none_contained node c);
  stands = λ region position lt. absurd (let e = ap length (empty_chain region) in omega arith);
  rises = λ region i j v w le h k. absurd (let lt = slice_get_within (past_chain ([] ∷ [] ∷ [] ∷ [] ∷ []) region) i v h in let e = ap length (empty_chain region) in omega arith);
  lengths = λ region. ap length (empty_chain region);
}

-- ---- one more node

module _ (pasts : List (List Counts)) (played : List ChainNode) (node : ChainNode) (known : ArePasts pasts played) (next : MayPlayNext played node) (key : List ℕ) where
  abbrev past : Counts
  past = past_of pasts (at_once node.region node.position node.needs)

  abbrev is_new : ChainNode → Bool
  is_new x = eqb x.region node.region && eqb x.position node.position

  new_is_new : is_new node ≡ true
  new_is_new = and_from (eqb node.region node.region) (eqb node.position node.position) (eq-eqb node.region node.region refl) (eq-eqb node.position node.position refl)

  old_is_not : (x : ChainNode) → Contains played x → is_new x ≡ false
  old_is_not x c = false_from_ne_true (is_new x) (λ h.
      let both = and_parts (eqb x.region node.region) (eqb x.position node.position) h in
      let k = known.known x c in
      let lt = slice_get_within (past_chain pasts x.region) x.position k.past k.here in
      let same = ap (λ (r : ℕ). length (past_chain pasts r)) (eqb-true x.region node.region both.0) in
      omega (arith, lt, same, eqb-true x.position node.position both.1, own_position pasts played node known next))

  abbrev after : List ChainNode
  after = played ++ node ∷ []

  -- a latest write afterwards was one before
  was_latest : (x : ChainNode) → IsLatestWrite after key x → IsLatestWrite played key x
  was_latest x l = record { writes = l.writes; latest = λ later c w f. l.latest later (Contains-append_left played (node ∷ []) later c) w (grow played node f) }

  -- one before stays one where the new node does not both write the key and follow it
  stays_latest : (x : ChainNode) → Contains played x → IsLatestWrite played key x → (IsTrue (is_some (written_value key node)) → FollowsCausally after node x → ⊥) → IsLatestWrite after key x
  stays_latest x inside l not_new = record {
    writes = l.writes;
    latest = λ later c w f. elim (Contains-push_cases played node later c) [
      | inl old ↦ l.latest later old w (shrink pasts played node known next f old)
      | inr same ↦ not_new (rw same w) (let P : ChainNode → Type 0 = λ y. FollowsCausally after y x in subst P (sym same) f)
    ];
  }

  -- a node that does not write the key changes nothing of it
  pub unwritten : (latest : List LatestWrite) → written_value key node ≡ None → HoldsLatest played key latest → HoldsLatest after key latest
  unwritten latest none h = record {
    is_latest = λ x. not (is_new x) && h.is_latest x;
    exactly = λ x c. elim (Contains-push_cases played node x c) [
      | inl inside ↦
          let old : (not (is_new x) && h.is_latest x) ≡ h.is_latest x = rw (old_is_not x inside) refl in (
            λ t. stays_latest x inside ((h.exactly x inside).0 (sym old ∙ t)) (λ w f. both_ways (is_some (written_value key node)) (ap (λ (o : Option (List ℕ)). is_some o) none) w),
            λ l. old ∙ (h.exactly x inside).1 (was_latest x l),
          )
      | inr same ↦ (
        λ t. absurd (both_ways (not (is_new x) && h.is_latest x) (rw (← same, new_is_new) refl) t),
        λ l. absurd (both_ways (is_some (written_value key x)) (rw (← same) (ap (λ (o : Option (List ℕ)). is_some o) none)) l.writes),
      )
    ];
    writes =
        let p = λ (x : ChainNode). not (is_new x) && h.is_latest x in
        let olds = filter_same p h.is_latest played (each (λ (x : ChainNode). (not (is_new x) && h.is_latest x) ≡ h.is_latest x) played (λ x c. rw (old_is_not x c) refl)) in
        let new : filter p (node ∷ []) ≡ [] = rw new_is_new refl in
        let all : filter p after ≡ filter h.is_latest played = filter-append p played (node ∷ []) ∙ rw (olds, new) (append-nil (filter h.is_latest played)) in
        h.writes ∙ ap (map (latest_write key)) (sym all);
  }

  abbrev is_apart : ChainNode → Bool
  is_apart x = not (ltb x.position (at past x.region))

  -- a node that writes the key takes the place of the writes that it follows
  pub written : (latest : List LatestWrite) (v : List ℕ) → written_value key node ≡ Some v → HoldsLatest played key latest
      → HoldsLatest after key (not_followed past latest ++ record { region = node.region; position = node.position; value = v } ∷ [])
  written latest v some h = record {
    is_latest = test;
    exactly = λ x c. elim (Contains-push_cases played node x c) [
      | inl inside ↦
          let old : test x ≡ (h.is_latest x && is_apart x) = rw (old_is_not x inside) refl in (
            λ t.
                let both = and_parts (h.is_latest x) (is_apart x) (sym old ∙ t) in
                let above = ltb-false x.position (at past x.region) (not-true (ltb x.position (at past x.region)) both.1) in
                stays_latest x inside ((h.exactly x inside).0 both.0) (λ w f. let below = to_new pasts played node known next f in omega arith),
            λ l.
                let apart : ltb x.position (at past x.region) ≡ false = false_from_ne_true (ltb x.position (at past x.region)) (λ t.
                l.latest node (Contains-push played node) writes_key (from_new pasts played node known next x (ltb-true x.position (at past x.region) t))) in
                old ∙ and_from (h.is_latest x) (is_apart x) ((h.exactly x inside).1 (was_latest x l)) (not_from_false (ltb x.position (at past x.region)) apart),
          )
      | inr same ↦
          let P : ChainNode → Type 0 = λ y. IsTrue (test y) ↔ IsLatestWrite after key y in
          subst P same (
            λ t. record { writes = writes_key; latest = λ later cl w f. newest pasts played node known next later cl f },
            λ l. or_left (is_new node) (h.is_latest node && is_apart node) new_is_new,
          )
    ];
    writes =
        let olds = filter_same test (λ (x : ChainNode). h.is_latest x && is_apart x) played (each (λ (x : ChainNode). test x ≡ (h.is_latest x && is_apart x)) played (λ x c. rw (old_is_not x c) refl)) in
        let new : filter test (node ∷ []) ≡ node ∷ [] = rw new_is_new refl in
        let all : filter test after ≡ filter is_apart (filter h.is_latest played) ++ node ∷ [] = filter-append test played (node ∷ []) ∙ rw (olds, new) (ap (λ (ys : List ChainNode). ys ++ node ∷ []) (filter_both h.is_latest is_apart played)) in
        let lefts : not_followed past latest ≡ map (latest_write key) (filter is_apart (filter h.is_latest played)) =
        ap (not_followed past) h.writes ∙ filter_mapped (latest_write key) (λ (w : LatestWrite). not (ltb w.position (at past w.region))) (filter h.is_latest played) in
        let last : latest_write key node ≡ record { region = node.region; position = node.position; value = v } = rw some refl in
        ap (λ (ws : List LatestWrite). ws ++ record { region = node.region; position = node.position; value = v } ∷ []) lefts
        ∙ ap (λ (w : LatestWrite). map (latest_write key) (filter is_apart (filter h.is_latest played)) ++ w ∷ []) (sym last)
        ∙ sym (ap (map (latest_write key)) all ∙ map-append (latest_write key) (filter is_apart (filter h.is_latest played)) (node ∷ []));
  } where
    test : ChainNode → Bool
    test x = is_new x || (h.is_latest x && is_apart x)

    writes_key : IsTrue (is_some (written_value key node))
    writes_key = ap (λ (o : Option (List ℕ)). is_some o) some

  -- what a form leaves of the key
  pub form_step : (entries : List (List ℕ × List LatestWrite)) (form : Form) → form_of node.text ≡ form
      → HoldsLatest played key (latest_at entries key) → HoldsLatest after key (latest_with entries (change_by entries node.region node.position past form) key)
  form_step entries (forms.Causal k v) e h = elim (cases_Bool (bytes_eq k key)) [
    | inl here ↦
        let same : k ≡ key = (bytes_eq-Decides k key).0 here in
        let some : written_value key node ≡ Some v = rw e (rw here refl) in
        rw here (rw same (written (latest_at entries key) v some h))
    | inr other ↦
        let none : written_value key node ≡ None = rw e (rw other refl) in
        rw other (unwritten (latest_at entries key) none h)
  ]
  form_step entries (forms.Put k v) e h = unwritten (latest_at entries key) (rw e refl) h
  form_step entries (forms.Delete k) e h = unwritten (latest_at entries key) (rw e refl) h
  form_step entries (forms.PutAll pairs) e h = unwritten (latest_at entries key) (rw e refl) h
  form_step entries (forms.Transaction reads pairs) e h = unwritten (latest_at entries key) (rw e refl) h
  form_step entries (forms.Enqueue v) e h = unwritten (latest_at entries key) (rw e refl) h
  form_step entries forms.Dequeue e h = unwritten (latest_at entries key) (rw e refl) h
  form_step entries forms.Plain e h = unwritten (latest_at entries key) (rw e refl) h
