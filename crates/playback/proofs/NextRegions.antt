-- The region that is computed as the next one has the free node that goes first.
use Rattle.std.proofs.Common.{◌≡◌, ℕ, zero, suc, ◌<◌, List, [], ◌∷◌, Option, Some, None, true, false, refl, subst, ap}
use Rattle.std.proofs.Common.{sym, ◌∙◌, inl, inr, ◌⊎◌, arith}
use Rattle.std.specs.Prelude.{slice_get, nat_lt}
use Rattle.std.proofs.lemmas.Bool.{and_parts, and_from, lt-ltb, ltb-true, cases_eq, true≢false, cond-true, cond-false}
use Rattle.std.proofs.lemmas.Bool.{false_from_ne_true}
use Rattle.log_node.specs.declared.ids.Counts.{Counts}
use Rattle.log_node.specs.declared.node.Head.{Head}
use Rattle.log_node.specs.Vectors.{at, IsWithin, all_regions}
use Rattle.log_node.specs.Reach.{Chains, is_covered}
use Rattle.col_core.specs.PlayOrder.{goes_first}
use Rattle.col_core.proofs.CallerLemmas.{by_test, one_goes_first}
use Rattle.playback.specs.Orders.{next_place, is_free, goes_before, is_before, first_region, next_region}
use Rattle.playback.proofs.GoingFirst.{first-trans, first-irrefl, first-asym}

-- the region's next node is to be played, and its needs are played
pub record IsFree (chains : Chains) (played to : Counts) (region : ℕ) (head : Head) : Type 0 where
  pub wanted : at played region < at to region
  pub stands : slice_get (chains region) (at played region) ≡ Some head
  pub covered : IsWithin head.needs played

covered_head : (v : Counts) (o : Option Head) → is_covered v o ≡ true → (head : Head) × (o ≡ Some head) × IsWithin
    head.needs v
covered_head v None e = absurd (true≢false (sym e))
covered_head v (Some head) e = (head, refl, e)

pub free_is : (chains : Chains) (played to : Counts) (r : ℕ) → is_free chains played to r ≡ true
    → (head : Head) × IsFree chains played to r head
free_is chains played to r e =
    let p = and_parts (nat_lt (at played r) (at to r)) (is_covered played (slice_get (chains r) (at played r))) e in
    let c = covered_head played (slice_get (chains r) (at played r)) p.1 in
    (c.0, record { wanted = ltb-true _ _ p.0; stands = c.1; covered = c.2 })

pub is_free-from : (chains : Chains) (played to : Counts) (r : ℕ) (head : Head) → IsFree chains played to r head
    → is_free chains played to r ≡ true
is_free-from chains played to r head f =
    and_from (nat_lt (at played r) (at to r)) (is_covered played (slice_get (chains r) (at played r)))
    (lt-ltb _ _ f.wanted)
    (ap (is_covered played) f.stands ∙ f.covered)

-- a region has one next node
one_head : (chains : Chains) (played to : Counts) (r : ℕ) (a b : Head) → IsFree chains played to r a
    → IsFree chains played to r b → a ≡ b
one_head chains played to r a b f g = let s : Some a ≡ Some b = sym f.stands ∙ g.stands in cc

pub before_is : (chains : Chains) (played to : Counts) (r s : ℕ) (a b : Head) → IsFree chains played to r a
    → IsFree chains played to s b
    → is_before chains played r s ≡ goes_first a (next_place played r) b (next_place played s)
before_is chains played to r s a b f g =
    ap (λ o. goes_before o (next_place played r) (slice_get (chains s) (at played s)) (next_place played s)) f.stands
    ∙ ap (λ o. goes_before (Some a) (next_place played r) o (next_place played s)) g.stands

-- the region is one of these
abbrev pub IsAmong : ℕ → List ℕ → Type 0
IsAmong r [] = ⊥
IsAmong r (s ∷ rs) = (r ≡ s) ⊎ IsAmong r rs

-- of these regions this one's next node is free and goes first
pub record IsFirst (chains : Chains) (played to : Counts) (regions : List ℕ) (r : ℕ) : Type 0 where
  pub head : Head
  pub among : IsAmong r regions
  pub free : IsFree chains played to r head
  pub first : (s : ℕ) → IsAmong s regions → (other : Head) → IsFree chains played to s other
      → goes_first other (next_place played s) head (next_place played r) ≡ false

abbrev pub IsNext : Chains → Counts → Counts → List ℕ → Option ℕ → Type 0
IsNext chains played to regions None = (s : ℕ) → IsAmong s regions → (other : Head) → IsFree chains played to s other
    → ⊥
IsNext chains played to regions (Some r) = IsFirst chains played to regions r

-- what holds of the first of some regions and of the rest holds of all
all_of : (P : ℕ → Type 0) (r : ℕ) (rs : List ℕ) → P r → ((s : ℕ) → IsAmong s rs → P s) → (s : ℕ) → IsAmong s (r ∷ rs)
    → P s
all_of P r rs h rest s (inl e) = subst P (sym e) h
all_of P r rs h rest s (inr i) = rest s i

-- a region alone
alone : (chains : Chains) (played to : Counts) (r : ℕ) (rs : List ℕ) (a : Head) → IsFree chains played to r a
    → IsNext chains played to rs None → IsFirst chains played to (r ∷ rs) r
alone chains played to r rs a f none = record {
  head = a;
  among = inl refl;
  free = f;
  first = all_of (λ s. (b : Head) → IsFree chains played to s b → goes_first b (next_place played s) a
      (next_place played r) ≡ false) r rs
      (λ b g. subst (λ (x : Head). goes_first x (next_place played r) a (next_place played r) ≡ false)
      (one_head chains played to r a b f g)
      (false_from_ne_true (goes_first a (next_place played r) a (next_place played r))
      (first-irrefl a (next_place played r))))
      (λ s i b g. absurd (none s i b g));
}

-- the earlier region where the other one does not go before
stays : (chains : Chains) (played to : Counts) (r : ℕ) (rs : List ℕ) (a : Head) → IsFree chains played to r a
    → (o : ℕ) (h : IsFirst chains played to rs o)
    → goes_first h.head (next_place played o) a (next_place played r) ≡ false → IsFirst chains played to (r ∷ rs) r
stays chains played to r rs a f o h later = record {
  head = a;
  among = inl refl;
  free = f;
  first = all_of (λ s. (b : Head) → IsFree chains played to s b → goes_first b (next_place played s) a
      (next_place played r) ≡ false) r rs
      (λ b g. subst (λ (x : Head). goes_first x (next_place played r) a (next_place played r) ≡ false)
      (one_head chains played to r a b f g)
      (false_from_ne_true (goes_first a (next_place played r) a (next_place played r))
      (first-irrefl a (next_place played r))))
      (λ s i b g. false_from_ne_true (goes_first b (next_place played s) a (next_place played r))
      (λ t. other s i b g t (cases_eq r o)));
} where
  other : (s : ℕ) → IsAmong s rs → (b : Head) → IsFree chains played to s b → goes_first b (next_place played s) a
      (next_place played r) ≡ true → (r ≡ o) ⊎ (r ≡ o → ⊥) → ⊥
  other s i b g t (inl e) =
      let same : a ≡ h.head = one_head chains played to o a h.head
      (subst (λ k. IsFree chains played to k a) e f) h.free in
      let x = h.first s i b g in
      let y : goes_first b (next_place played s) h.head (next_place played r)
      ≡ true = subst (λ (z : Head). goes_first b (next_place played s) z (next_place played r) ≡ true) same t in
      true≢false (sym (subst (λ k. goes_first b (next_place played s) h.head (next_place played k) ≡ true) e y) ∙ x)
  other s i b g t (inr ne) = pick (one_goes_first a h.head (next_place played r) (next_place played o) ne) where
    pick : (goes_first a (next_place played r) h.head (next_place played o) ≡ true) ⊎
        (goes_first h.head (next_place played o) a (next_place played r) ≡ true) → ⊥
    pick (inl u) = true≢false (sym (first-trans b a h.head (next_place played s) (next_place played r)
        (next_place played o) t u) ∙ h.first s i b g)
    pick (inr u) = true≢false (sym u ∙ later)

-- the later one where it goes before
gives_way : (chains : Chains) (played to : Counts) (r : ℕ) (rs : List ℕ) (a : Head) → IsFree chains played to r a
    → (o : ℕ) (h : IsFirst chains played to rs o)
    → goes_first h.head (next_place played o) a (next_place played r) ≡ true → IsFirst chains played to (r ∷ rs) o
gives_way chains played to r rs a f o h before = record {
  head = h.head;
  among = inr h.among;
  free = h.free;
  first = all_of (λ s. (b : Head) → IsFree chains played to s b → goes_first b (next_place played s) h.head
      (next_place played o) ≡ false) r rs
      (λ b g. subst (λ (x : Head). goes_first x (next_place played r) h.head (next_place played o) ≡ false)
      (one_head chains played to r a b f g)
      (first-asym h.head a (next_place played o) (next_place played r) before))
      (λ s i b g. h.first s i b g);
}

-- where the region is not free, the next one is of the others
passed : (chains : Chains) (played to : Counts) (r : ℕ) (rs : List ℕ) → is_free chains played to r ≡ false
    → (o : Option ℕ) → IsNext chains played to rs o → IsNext chains played to (r ∷ rs) o
passed chains played to r rs shut None h =
    λ s i b g. all_of (λ k. (x : Head) → IsFree chains played to k x → ⊥) r rs
    (λ x y. true≢false (sym (is_free-from chains played to r x y) ∙ shut)) (λ k j x y. h k j x y) s i b g
passed chains played to r rs shut (Some o) h = record {
  head = h.head;
  among = inr h.among;
  free = h.free;
  first = all_of (λ s. (b : Head) → IsFree chains played to s b → goes_first b (next_place played s) h.head
      (next_place played o) ≡ false) r rs
      (λ x y. absurd (true≢false (sym (is_free-from chains played to r x y) ∙ shut)))
      (λ s i b g. h.first s i b g);
}

chosen : (chains : Chains) (played to : Counts) (r : ℕ) (rs : List ℕ) (a : Head) → IsFree chains played to r a
    → (o : Option ℕ) → IsNext chains played to rs o
    → IsFirst chains played to (r ∷ rs) (first_region chains played r o)
chosen chains played to r rs a f None h = alone chains played to r rs a f h
chosen chains played to r rs a f (Some o) h =
    let e = before_is chains played to o r h.head a h.free f in
    by_test _ (is_before chains played o r)
    (λ t. subst (IsFirst chains played to (r ∷ rs)) (sym (cond-true (is_before chains played o r) o r t))
    (gives_way chains played to r rs a f o h (sym e ∙ t)))
    (λ n. subst (IsFirst chains played to (r ∷ rs)) (sym (cond-false (is_before chains played o r) o r n))
    (stays chains played to r rs a f o h (sym e ∙ n)))

pub next_is : (chains : Chains) (played to : Counts) (regions : List ℕ) → IsNext chains played to regions
    (next_region chains played to regions)
next_is chains played to [] = λ s i b f. i
next_is chains played to (r ∷ rs) =
    let rest = next_is chains played to rs in
    let next = next_region chains played to rs in
    by_test _ (is_free chains played to r)
    (λ t. subst (IsNext chains played to (r ∷ rs))
    (sym (cond-true (is_free chains played to r) (Some (first_region chains played r next)) next t))
    (let f = free_is chains played to r t in chosen chains played to r rs f.0 f.1 next rest))
    (λ n. subst (IsNext chains played to (r ∷ rs))
    (sym (cond-false (is_free chains played to r) (Some (first_region chains played r next)) next n))
    (passed chains played to r rs n next rest))

-- the four regions are all that there are
pub among_all : (r : ℕ) → r < 4 → IsAmong r all_regions
among_all zero h = inl refl
among_all (suc zero) h = inr (inl refl)
among_all (suc (suc zero)) h = inr (inr (inl refl))
among_all (suc (suc (suc zero))) h = inr (inr (inr (inl refl)))
among_all (suc (suc (suc (suc r)))) h = absurd (let f : ⊥ = omega (arith, h) in f)

pub among_four : (r : ℕ) → IsAmong r all_regions → r < 4
among_four r (inl e) = omega (arith, e)
among_four r (inr (inl e)) = omega (arith, e)
among_four r (inr (inr (inl e))) = omega (arith, e)
among_four r (inr (inr (inr (inl e)))) = omega (arith, e)
among_four r (inr (inr (inr (inr i)))) = absurd i
