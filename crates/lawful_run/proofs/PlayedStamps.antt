-- The greatest stamp of the nodes that a sync shows is that of what it plays.
use Rattle.std.proofs.Common.{◌≡◌, ℕ, zero, suc, ◌+◌, ◌<◌, ◌≤◌, List, [], ◌∷◌, map, take, drop, Some, Bool, true, cond, refl, subst, ap, sym, ◌∙◌, inl, inr, arith, flat_map}
use Rattle.std.specs.Prelude.{nat_lt, nat_le, slice_get}
use Rattle.std.specs.List.{AllZip, count_by}
use Rattle.std.proofs.lemmas.Bool.{and_parts, ltb-true, leb-true, lt-ltb, le-leb, and_from}
use Rattle.log_node.specs.declared.ids.Counts.{Counts}
use Rattle.log_node.specs.declared.node.Head.{Head}
use Rattle.log_node.specs.Seen.{PlacedNode}
use Rattle.log_node.specs.Vectors.{at, all_regions}
use Rattle.log_node.specs.Outcomes.{greatest}
use Rattle.log_node.specs.Reach.{Chains}
use Rattle.col_core.specs.Cuts.{chain}
use Rattle.col_core.specs.Log.{Log, first}
use Rattle.col_core.specs.Keeping.{Kept}
use Rattle.col_core.specs.PlayOrder.{Place, same_place, is_between, nodes_between}
use Rattle.col_core.proofs.CallerLemmas.{by_test, In, same_place-is, same_place-itself}
use Rattle.lawful_run.specs.Callers.{Caller}
use Rattle.lawful_run.specs.Reads.{ShowsNode, ShowsPlayed, greatest_stamp, greatest_played}
use Rattle.log_node.proofs.CallerLemmas.{one_if}
use Rattle.log_node.proofs.CallerLemmas.{count_by-cons as counted}
use Rattle.col_core.proofs.CallerLemmas.{in_flat_map-back as into_flat}
use Rattle.col_core.proofs.CallerLemmas.{in_flat_map as from_flat}

-- LISTS

-- what passes the test is counted
pub in_counted : {A : Type 0} (test : A → Bool) (xs : List A) (x : A) → In x xs → test x ≡ true → 0 < count_by test xs
in_counted test [] x i t = absurd i
in_counted test (y ∷ ys) x (inl e) t =
    let c = counted test y ys ∙ ap (λ (b : Bool). cond b 1 0 + count_by test ys) (ap test e ∙ t) in omega (arith, c)
in_counted test (y ∷ ys) x (inr i) t =
    let c = counted test y ys in let r = in_counted test ys x i t in omega (arith, c, r)

-- and what is counted passes it
pub counted_in : {A : Type 0} (test : A → Bool) (xs : List A) → 0 < count_by test xs → (x : A) × In x xs × (test x ≡ true)
counted_in test [] h = absurd (let f : ⊥ = omega (arith, h) in f)
counted_in test (y ∷ ys) h =
    by_test _ (test y) (λ t. (y, inl refl, t))
    (λ f. let c = counted test y ys ∙ ap (λ (b : Bool). cond b 1 0 + count_by test ys) f in
    let r = counted_in test ys (omega (arith, c, h)) in (r.0, inr r.1, r.2))

-- what stands among the first items past some
pub in_stretch : {A : Type 0} (k m : ℕ) (xs : List A) (i : ℕ) (x : A) → slice_get xs i ≡ Some x → k ≤ i → i < m
    → In x (drop k (take m xs))
in_stretch k zero xs i x e le lt = absurd (let f : ⊥ = omega (arith, lt) in f)
in_stretch k (suc m) [] i x e le lt = absurd (let f : ⊥ = cc in f)
in_stretch zero (suc m) (y ∷ xs) zero x e le lt = inl (let f : y ≡ x = cc in f)
in_stretch zero (suc m) (y ∷ xs) (suc i) x e le lt = inr (in_stretch zero m xs i x e (omega arith) (omega (arith, lt)))
in_stretch (suc k) (suc m) (y ∷ xs) zero x e le lt = absurd (let f : ⊥ = omega (arith, le) in f)
in_stretch (suc k) (suc m) (y ∷ xs) (suc i) x e le lt =
    in_stretch k m xs i x e (omega (arith, le)) (omega (arith, lt))

-- has its place there
pub stretch_in : {A : Type 0} (k m : ℕ) (xs : List A) (x : A) → In x (drop k (take m xs))
    → (i : ℕ) × (slice_get xs i ≡ Some x) × (k ≤ i) × (i < m)
stretch_in zero zero xs x j = absurd j
stretch_in (suc k) zero xs x j = absurd j
stretch_in zero (suc m) [] x j = absurd j
stretch_in (suc k) (suc m) [] x j = absurd j
stretch_in {A} zero (suc m) (y ∷ xs) x (inl e) = (0, ap (λ (z : A). Some z) e, omega arith, omega arith)
stretch_in zero (suc m) (y ∷ xs) x (inr j) =
    let r = stretch_in zero m xs x j in let lt = r.3 in (suc r.0, r.1, omega arith, omega (arith, lt))
stretch_in (suc k) (suc m) (y ∷ xs) x j =
    let r = stretch_in k m xs x j in
    let le = r.2 in
    let lt = r.3 in
    (suc r.0, r.1, omega (arith, le), omega (arith, lt))

-- the regions that there may be
pub in_regions : (r : ℕ) → r < 4 → In r all_regions
in_regions zero lt = inl refl
in_regions (suc zero) lt = inr (inl refl)
in_regions (suc (suc zero)) lt = inr (inr (inl refl))
in_regions (suc (suc (suc zero))) lt = inr (inr (inr (inl refl)))
in_regions (suc (suc (suc (suc r)))) lt = absurd (let f : ⊥ = omega (arith, lt) in f)

pub regions_in : (r : ℕ) → In r all_regions → r < 4
regions_in r (inl e) = omega (arith, e)
regions_in r (inr (inl e)) = omega (arith, e)
regions_in r (inr (inr (inl e))) = omega (arith, e)
regions_in r (inr (inr (inr (inl e)))) = omega (arith, e)
regions_in r (inr (inr (inr (inr none)))) = absurd none

-- a greatest number is at least each, and bounded where each is
bounds : {A : Type 0} (f : A → ℕ) (xs : List A) (x : A) → In x xs → f x ≤ greatest (map f xs)
bounds f [] x i = absurd i
bounds f (y ∷ xs) x (inl e) = let same = ap f e in omega (arith, same)
bounds f (y ∷ xs) x (inr i) = let r = bounds f xs x i in omega (arith, r)

pub greatest_bounded : {A : Type 0} (f : A → ℕ) (xs : List A) (bound : ℕ) → ((x : A) → In x xs → f x ≤ bound)
    → greatest (map f xs) ≤ bound
greatest_bounded f [] bound h = omega arith
greatest_bounded f (y ∷ ys) bound h =
    let a = h y (inl refl) in let b = greatest_bounded f ys bound (λ x i. h x (inr i)) in omega (arith, a, b)

-- the one beside another, and back
pub zip_to : {A B : Type 0} (R : A → B → Type 0) (xs : List A) (ys : List B) → AllZip R xs ys → (x : A) → In x xs
    → (y : B) × In y ys × R x y
zip_to R [] [] all x i = absurd i
zip_to R [] (y ∷ ys) all x i = absurd i
zip_to R (z ∷ xs) [] all x i = absurd all
zip_to {A} R (z ∷ xs) (y ∷ ys) all x (inl e) = (y, inl refl, subst (λ (k : A). R k y) e all.0)
zip_to R (z ∷ xs) (y ∷ ys) all x (inr i) = let r = zip_to R xs ys all.1 x i in (r.0, inr r.1, r.2)

pub zip_of : {A B : Type 0} (R : A → B → Type 0) (xs : List A) (ys : List B) → AllZip R xs ys → (y : B) → In y ys
    → (x : A) × In x xs × R x y
zip_of R [] [] all y i = absurd i
zip_of R [] (z ∷ ys) all y i = absurd all
zip_of R (x ∷ xs) [] all y i = absurd i
zip_of {A} {B} R (x ∷ xs) (z ∷ ys) all y (inl e) = (x, inl refl, subst (λ (k : B). R x k) e all.0)
zip_of R (x ∷ xs) (z ∷ ys) all y (inr i) = let r = zip_of R xs ys all.1 y i in (r.0, inr r.1, r.2)

-- THE STAMPS

module _ (log : Log) (caller : Caller) (kept : Kept) (colour events : ℕ) (snapshot : Counts) (nodes : List PlacedNode)
    (shows : ShowsPlayed log caller kept colour events snapshot nodes) where
  abbrev chains : Chains
  chains = chain caller.own (first log caller.own colour events)

  abbrev start : Counts
  start = kept.starts colour

  abbrev between : List Head
  between = flat_map (nodes_between chains start snapshot) all_regions

  -- a node that is shown stands between
  shown_between : (item : PlacedNode) → In item nodes → (head : Head) × In head between × (item.head.key ≡ head.key)
  shown_between item i =
      let p = zip_of (ShowsNode log caller colour events) shows.order nodes shows.lines item i in
      let n = in_counted (same_place p.0) shows.order p.0 p.1 (same_place-itself p.0) in
      let c = shows.played.each_once p.0 in
      let t = one_if (is_between start snapshot p.0) (omega (arith, n, c)) in
      let a = and_parts _ (nat_lt p.0.position (at snapshot p.0.region)) t in
      let b = and_parts (nat_lt p.0.region 4) (nat_le (at start p.0.region) p.0.position) a.0 in (
        p.2.head,
        into_flat (nodes_between chains start snapshot) all_regions p.0.region p.2.head
            (in_regions p.0.region (ltb-true p.0.region 4 b.0))
            (in_stretch (at start p.0.region) (at snapshot p.0.region) (chains p.0.region) p.0.position p.2.head p.2.stands
            (leb-true (at start p.0.region) p.0.position b.1) (ltb-true p.0.position (at snapshot p.0.region) a.1)),
        p.2.key,
      )

  -- and one between is shown
  between_shown : (head : Head) → In head between → (item : PlacedNode) × In item nodes × (item.head.key ≡ head.key)
  between_shown head i =
      let r = from_flat (nodes_between chains start snapshot) all_regions head i in
      let x = stretch_in (at start r.0) (at snapshot r.0) (chains r.0) head r.2 in
      let place : Place = record { region = r.0; position = x.0 } in
      let b : is_between start snapshot place ≡ true =
      and_from _ _ (and_from _ _ (lt-ltb r.0 4 (regions_in r.0 r.1)) (le-leb (at start r.0) x.0 x.2))
      (lt-ltb x.0 (at snapshot r.0) x.3) in
      let c = shows.played.each_once place ∙ ap (λ (t : Bool). cond {A = ℕ} t 1 0) b in
      let y = counted_in (same_place place) shows.order (omega (arith, c)) in
      let same : y.0 ≡ place = sym {b = y.0} (same_place-is place y.0 y.2) in
      let z = zip_to (ShowsNode log caller colour events) shows.order nodes shows.lines place
      (subst (λ (p : Place). In p shows.order) same y.1) in
      (z.0, z.1, z.2.key ∙ ap (λ (h : Head). h.key) (one_head z.2.head head (sym z.2.stands ∙ x.1)))
    where
      one_head : (a b : Head) → Some a ≡ Some b → a ≡ b
      one_head a b e = let f : a ≡ b = cc (e) in f

  -- so their greatest stamps are one
  pub stamps_played : greatest_stamp nodes ≡ greatest_played log caller kept colour events snapshot
  stamps_played =
      let a = greatest_bounded (λ (item : PlacedNode). item.head.key.stamp) nodes
      (greatest (map (λ (head : Head). head.key.stamp) between))
      (λ item i. let h = shown_between item i in
      let same = ap (λ k. k.stamp) h.2 in
      let b = bounds (λ (head : Head). head.key.stamp) between h.0 h.1 in
      omega (arith, same, b)) in
      let c = greatest_bounded (λ (head : Head). head.key.stamp) between
      (greatest (map (λ (item : PlacedNode). item.head.key.stamp) nodes))
      (λ head i. let h = between_shown head i in
      let same = ap (λ k. k.stamp) h.2 in
      let b = bounds (λ (item : PlacedNode). item.head.key.stamp) nodes h.0 h.1 in
      omega (arith, same, b)) in
      omega (arith, a, c)
