-- In the order of play each node comes when all before it in its chain have come, and all that it needs.
use Rattle.std.proofs.Common.{◌≡◌, ◌⊎◌, inl, inr, ℕ, zero, suc, ◌+◌, ◌-◌, ◌<◌, ◌≤◌, List, [], ◌∷◌, length, take, Some, Bool, true, false, cond, refl, ap, sym, subst, ◌∙◌, arith, eq-eqb}
use Rattle.std.specs.Prelude.{◌==◌, nat_lt, nat_le, slice_get}
use Rattle.std.specs.List.{count_by}
use Rattle.std.proofs.lemmas.Bool.{and_parts, and_from, cases_lt, eqb-true, ltb-true, leb-true, lt-ltb, le-leb}
use Rattle.std.proofs.lemmas.List.Sums.{sum_by-cons}
use Rattle.std.proofs.lemmas.Option.{slice_get_within}
use Rattle.log_node.specs.declared.ids.Counts.{Counts}
use Rattle.log_node.specs.declared.node.Head.{Head}
use Rattle.log_node.specs.Vectors.{at}
use Rattle.log_node.specs.Reach.{Chains, Reachable}
use Rattle.log_node.proofs.CallerLemmas.{reached_within}
use Rattle.col_core.specs.PlayOrder.{Place, Stands, same_place, is_between, IsPlayOrder}
use Rattle.col_core.proofs.CallerLemmas.{by_test, same_place-is, same_place-itself}
use Rattle.log_node.proofs.CallerLemmas.{one_if}
use Rattle.log_node.proofs.CallerLemmas.{count_by-cons as counted}

-- COUNTS

passed : {A : Type 0} (test : A → Bool) (y : A) (ys : List A) (x : A) → y ≡ x → test x ≡ true
    → count_by test (y ∷ ys) ≡ 1 + count_by test ys
passed test y ys x same t = counted test y ys ∙ ap (λ (b : Bool). cond b 1 0 + count_by test ys) (ap test same ∙ t)

here : {A : Type 0} (test : A → Bool) (xs : List A) (i : ℕ) (x : A) → slice_get xs i ≡ Some x → test x ≡ true
    → 0 < count_by test xs
here test [] i x e t = absurd (let f : ⊥ = cc (e) in f)
here test (y ∷ ys) zero x e t =
    let same : y ≡ x = cc (e) in let c = passed test y ys x same t in omega (arith, c)
here test (y ∷ ys) (suc i) x e t = let c = counted test y ys in let r = here test ys i x e t in omega (arith, c, r)

found : {A : Type 0} (test : A → Bool) (xs : List A) → 0 < count_by test xs
    → (i : ℕ) × (x : A) × (slice_get xs i ≡ Some x) × (test x ≡ true)
found test [] h = absurd (let f : ⊥ = omega (arith, h) in f)
found test (y ∷ ys) h =
    by_test _ (test y) (λ t. (0, y, refl, t))
    (λ f. let c = counted test y ys ∙ ap (λ (b : Bool). cond b 1 0 + count_by test ys) f in
    let r = found test ys (omega (arith, c, h)) in (suc r.0, r.1, r.2, r.3))

twice : {A : Type 0} (test : A → Bool) (xs : List A) (i j : ℕ) (x y : A) → i < j → slice_get xs i ≡ Some x
    → slice_get xs j ≡ Some y → test x ≡ true → test y ≡ true → 2 ≤ count_by test xs
twice test [] i j x y lt e f t u = absurd (let g : ⊥ = cc (e) in g)
twice test (z ∷ zs) i zero x y lt e f t u = absurd (let g : ⊥ = omega (arith, lt) in g)
twice test (z ∷ zs) zero (suc j) x y lt e f t u =
    let same : z ≡ x = cc (e) in
    let c = passed test z zs x same t in
    let r = here test zs j y f u in omega (arith, c, r)
twice test (z ∷ zs) (suc i) (suc j) x y lt e f t u =
    let c = counted test z zs in
    let r = twice test zs i j x y (omega (arith, lt)) e f t u in omega (arith, c, r)

-- one more of a list
pub counted_more : {A : Type 0} (test : A → Bool) (xs : List A) (j : ℕ) (x : A) → slice_get xs j ≡ Some x
    → count_by test (take (suc j) xs) ≡ count_by test (take j xs) + cond (test x) 1 0
counted_more test [] j x e = absurd (let f : ⊥ = cc (e) in f)
counted_more test (y ∷ ys) zero x e =
    let same : y ≡ x = cc (e) in
    let c = counted test y [] in
    let d : cond {A = ℕ} (test y) 1 0 ≡ cond (test x) 1 0 = ap (λ z. cond {A = ℕ} (test z) 1 0) same in
    let none : count_by test [] ≡ 0 = refl in
    let all : count_by test (y ∷ []) ≡ count_by test [] + cond (test x) 1 0 = omega (arith, c, d, none) in
    all
counted_more test (y ∷ ys) (suc j) x e =
    let r = counted_more test ys j x e in
    let a = counted test y (take (suc j) ys) in
    let b = counted test y (take j ys) in
    let all : count_by test (y ∷ take (suc j) ys) ≡ count_by test (y ∷ take j ys) + cond (test x) 1 0 =
    omega (arith, a, b, r) in
    all

at_most : (b : Bool) → cond b 1 0 ≤ 1
at_most true = omega arith
at_most false = omega arith

-- ONE ORDER

abbrev pub of_region : ℕ → Place → Bool
of_region region place = place.region == region

module _ (chains : Chains) (from to : Counts) (order : List Place) (reached : Reachable chains to)
    (played : IsPlayOrder chains from to order) where
  -- what is played
  record Between (p : Place) : Type 0 where
    region : p.region < 4
    past : at from p.region ≤ p.position
    short : p.position < at to p.region

  is_one : (i : ℕ) (p : Place) → slice_get order i ≡ Some p → Between p
  is_one i p e =
      let n = here (same_place p) order i p e (same_place-itself p) in
      let c = played.each_once p in
      let t = one_if (is_between from to p) (omega (arith, n, c)) in
      let a = and_parts _ (nat_lt p.position (at to p.region)) t in
      let b = and_parts (nat_lt p.region 4) (nat_le (at from p.region) p.position) a.0 in record {
        region = ltb-true p.region 4 b.0;
        past = leb-true (at from p.region) p.position b.1;
        short = ltb-true p.position (at to p.region) a.1;
      }

  there : (p : Place) → Between p → (i : ℕ) × (slice_get order i ≡ Some p)
  there p b =
      let t : is_between from to p ≡ true =
      and_from _ _ (and_from _ _ (lt-ltb p.region 4 b.region) (le-leb (at from p.region) p.position b.past))
      (lt-ltb p.position (at to p.region) b.short) in
      let c = played.each_once p ∙ ap (λ (v : Bool). cond {A = ℕ} v 1 0) t in
      let r = found (same_place p) order (omega (arith, c)) in
      (r.0, r.2 ∙ ap (λ (q : Place). Some q) (sym (same_place-is p r.1 r.3)))

  once : (i j : ℕ) (p : Place) → i < j → slice_get order i ≡ Some p → slice_get order j ≡ Some p → ⊥
  once i j p lt a b =
      let two = twice (same_place p) order i j p p lt a b (same_place-itself p) (same_place-itself p) in
      let c = played.each_once p in
      let one = at_most (is_between from to p) in
      omega (arith, two, c, one)

  head_of : (p : Place) → Between p → (head : Head) × Stands chains p head
  head_of p b =
      let le = reached_within chains reached p.region b.region in
      let lt = b.short in
      at_place (chains p.region) p.position (omega (arith, lt, le)) where
        at_place : (hs : List Head) (n : ℕ) → n < length hs → (head : Head) × (slice_get hs n ≡ Some head)
        at_place [] n less = absurd (let f : ⊥ = omega (arith, less) in f)
        at_place (h ∷ hs) zero less = (h, refl)
        at_place (h ∷ hs) (suc n) less = at_place hs n (omega (arith, less))

  -- a node comes behind those before it in its chain
  in_chain : (n i j : ℕ) (p q : Place) → slice_get order i ≡ Some p → slice_get order j ≡ Some q → q.region ≡ p.region
      → q.position ≡ p.position + suc n → i < j
  in_chain zero i j p q a b same more =
      let head = head_of q (is_one j q b) in
      played.after_needed i j p q head.0 a b head.1 (inl (same, omega (arith, more)))
  in_chain (suc n) i j p q a b same more =
      let bq = is_one j q b in
      let bp = is_one i p a in
      let head = head_of q bq in
      let prior : Place = record { region = q.region; position = p.position + suc n } in
      let le : at from q.region ≤ at from p.region = subst (λ r. at from q.region ≤ at from r) same (omega arith) in
      let bo : Between prior = record {
        region = bq.region;
        past = let x = bp.past in omega (arith, x, le);
        short = let x = bq.short in omega (arith, x, more);
      } in
      let m = there prior bo in
      let x = played.after_needed m.0 j prior q head.0 m.1 b head.1 (inl (refl, omega (arith, more))) in
      let y = in_chain n i m.0 p prior a m.1 same refl in
      omega (arith, x, y)

  abbrev so_far : ℕ → ℕ → ℕ
  so_far j region = at from region + count_by (of_region region) (take j order)

  -- The first of the order are of each chain those up to a position.
  record Stretch (j : ℕ) : Type 0 where
    low : (i : ℕ) (p : Place) → i < j → slice_get order i ≡ Some p → p.position < so_far j p.region
    all : (p : Place) → Between p → p.position < so_far j p.region → (i : ℕ) × (i < j) × (slice_get order i ≡ Some p)

  -- the next one stands at that position
  next_of : (j : ℕ) (p : Place) → Stretch j → slice_get order j ≡ Some p → p.position ≡ so_far j p.region
  next_of j p s e = elim (cases_lt p.position (so_far j p.region)) [
    | inl early ↦ (let r = s.all p (is_one j p e) early in absurd (once r.0 j p r.1 r.2 e))
    | inr late ↦
        elim (cases_lt (so_far j p.region) p.position) [
          | inl beyond ↦
              (let b = is_one j p e in
              let prior : Place = record { region = p.region; position = so_far j p.region } in
              let bo : Between prior = record {
                region = b.region;
                past = omega arith;
                short = let x = b.short in omega (arith, x, beyond);
              } in
              let m = there prior bo in
              let before = in_chain (p.position - so_far j p.region - 1) m.0 j prior p m.1 e refl (omega (arith, beyond)) in
              let low = s.low m.0 prior before m.1 in
              absurd (let f : ⊥ = omega (arith, low) in f))
          | inr there_yet ↦ omega (arith, late, there_yet)
        ]
  ]

  none_yet : Stretch 0
  none_yet = record {
    low = λ i p lt e. absurd (let f : ⊥ = omega (arith, lt) in f);
    all = λ p b lt.
        let past = b.past in
        let none : count_by (of_region p.region) (take 0 order) ≡ 0 = refl in
        absurd (let f : ⊥ = omega (arith, past, lt, none) in f);
  }

  one_more : (j : ℕ) (p : Place) → slice_get order j ≡ Some p → Stretch j → Stretch (suc j)
  one_more j p e s = record {
    low = λ i q lt a.
        let c = counted_more (of_region q.region) order j p e in
        elim (cases_lt i j) [
          | inl early ↦ (let x = s.low i q early a in omega (arith, x, c))
          | inr late ↦
              (let same : i ≡ j = omega (arith, lt, late) in
              let f : Some q ≡ Some p = sym a ∙ (ap (slice_get order) same ∙ e) in
              let g : q ≡ p = cc (f) in
              let x : q.position ≡ so_far j q.region = subst (λ (z : Place). z.position ≡ so_far j z.region) (sym g) (next_of j p s e) in
              let d : cond {A = ℕ} (p.region == q.region) 1 0 ≡ 1 =
              ap (λ (b : Bool). cond {A = ℕ} b 1 0) (eq-eqb p.region q.region (sym (ap (λ (z : Place). z.region) g))) in
              omega (arith, x, c, d))
        ];
    all = λ q b lt.
        let c = counted_more (of_region q.region) order j p e in
        elim (cases_lt q.position (so_far j q.region)) [
          | inl early ↦ (let r = s.all q b early in let less = r.1 in (r.0, omega (arith, less), r.2))
          | inr late ↦
              by_test _ (p.region == q.region)
              (λ t.
              let same = eqb-true p.region q.region t in
              let d : cond {A = ℕ} (p.region == q.region) 1 0 ≡ 1 = ap (λ (v : Bool). cond {A = ℕ} v 1 0) t in
              let x : p.position ≡ so_far j q.region =
              subst (λ (r : ℕ). p.position ≡ so_far j r) same (next_of j p s e) in
              let here_is : p.position ≡ q.position = omega (arith, x, c, d, lt, late) in
              let one : p ≡ q =
              same_place-is p q (and_from (p.region == q.region) (p.position == q.position) t
              (eq-eqb p.position q.position here_is)) in
              (j, omega arith, e ∙ ap (λ (z : Place). Some z) one))
              (λ f.
              let d : cond {A = ℕ} (p.region == q.region) 1 0 ≡ 0 = ap (λ (v : Bool). cond {A = ℕ} v 1 0) f in
              absurd (let g : ⊥ = omega (arith, c, d, lt, late) in g))
        ];
  }

  item_at : (xs : List Place) (j : ℕ) → j < length xs → (p : Place) × (slice_get xs j ≡ Some p)
  item_at [] j lt = absurd (let f : ⊥ = omega (arith, lt) in f)
  item_at (x ∷ xs) zero lt = (x, refl)
  item_at (x ∷ xs) (suc j) lt = item_at xs j (omega (arith, lt))

  stretches : (j : ℕ) → j ≤ length order → Stretch j
  stretches zero le = none_yet
  stretches (suc j) le =
      let p = item_at order j (omega (arith, le)) in
      one_more j p.0 p.1 (stretches j (omega (arith, le)))

  -- Each node's position is how many of its chain were played before it.
  pub position_is : (j : ℕ) (p : Place) → slice_get order j ≡ Some p → p.position ≡ so_far j p.region
  position_is j p e =
      let lt = slice_get_within order j p e in
      next_of j p (stretches j (omega (arith, lt))) e

  pub short_of : (j : ℕ) (p : Place) → slice_get order j ≡ Some p → p.position < at to p.region
  short_of j p e = (is_one j p e).short

  pub region_low : (j : ℕ) (p : Place) → slice_get order j ≡ Some p → p.region < 4
  region_low j p e = (is_one j p e).region

  -- What it needs, as far as that is counted in the end, was played before it.
  pub needs_played : (j : ℕ) (p : Place) (head : Head) → slice_get order j ≡ Some p → Stands chains p head → (r : ℕ) → r < 4
      → at head.needs r ≤ at to r → at head.needs r ≤ so_far j r
  needs_played j p head e stands r few within = elim (cases_lt (so_far j r) (at head.needs r)) [
    | inl more ↦
        (let prior : Place = record { region = r; position = so_far j r } in
        let bo : Between prior = record { region = few; past = omega arith; short = omega (arith, more, within) } in
        let m = there prior bo in
        let before = played.after_needed m.0 j prior p head m.1 e stands (inr more) in
        let lt = slice_get_within order j p e in
        let s = stretches j (omega (arith, lt)) in
        let low = s.low m.0 prior before m.1 in
        absurd (let f : ⊥ = omega (arith, low) in f))
    | inr enough ↦ enough
  ]

  -- In the end all were played.
  pub all_played : (r : ℕ) → r < 4 → at from r ≤ at to r → so_far (length order) r ≡ at to r
  all_played r few within = elim (cases_lt (so_far (length order) r) (at to r)) [
    | inl short ↦
        (let prior : Place = record { region = r; position = so_far (length order) r } in
        let bo : Between prior = record { region = few; past = omega arith; short = short } in
        let m = there prior bo in
        let lt = slice_get_within order m.0 prior m.1 in
        let s = stretches (length order) (omega arith) in
        let low = s.low m.0 prior lt m.1 in
        absurd (let f : ⊥ = omega (arith, low) in f))
    | inr enough ↦
        elim (cases_lt (at to r) (so_far (length order) r)) [
          | inl beyond ↦
              (let s = stretches (length order) (omega arith) in
              absurd (over (length order) (omega arith) s beyond))
          | inr same ↦ omega (arith, enough, same)
        ]
  ] where
    -- no more were played than are counted
    over : (j : ℕ) → j ≤ length order → Stretch j → at to r < so_far j r → ⊥
    over zero le s lt =
        let none : count_by (of_region r) (take 0 order) ≡ 0 = refl in omega (arith, lt, none, within)
    over (suc j) le s lt =
        let p = item_at order j (omega (arith, le)) in
        let c = counted_more (of_region r) order j p.0 p.1 in
        let before = stretches j (omega (arith, le)) in
        by_test _ (p.0.region == r)
        (λ t.
        let same = eqb-true p.0.region r t in
        let d : cond {A = ℕ} (p.0.region == r) 1 0 ≡ 1 = ap (λ (v : Bool). cond {A = ℕ} v 1 0) t in
        let x : p.0.position ≡ so_far j r = subst (λ (q : ℕ). p.0.position ≡ so_far j q) same (next_of j p.0 before p.1) in
        let y : p.0.position < at to r = subst (λ (q : ℕ). p.0.position < at to q) same (is_one j p.0 p.1).short in
        omega (arith, c, d, x, y, lt))
        (λ f.
        let d : cond {A = ℕ} (p.0.region == r) 1 0 ≡ 0 = ap (λ (v : Bool). cond {A = ℕ} v 1 0) f in
        over j (omega (arith, le)) before (omega (arith, c, d, lt)))
