-- There is one play order from one vector to another.
use Rattle.std.proofs.Common.{◌≡◌, ℕ, zero, suc, ◌+◌, ◌-◌, ◌<◌, ◌≤◌, List, [], ◌∷◌, length, Option, Some, None, Bool, true, false, cond, refl, subst, ap, sym, ◌∙◌, inl, inr, ◌⊎◌, arith}
use Rattle.std.specs.Prelude.{◌==◌, ◌&&◌, ◌≢◌, nat_lt, nat_le, slice_get}
use Rattle.std.specs.List.{count_by}
use Rattle.std.proofs.lemmas.Bool.{eqb-true, eq-eqb, and_parts, and_from, or_left, or_right, lt-ltb, ltb-true, le-leb, leb-true, cases_order, cases_eq, true≢false}
use Rattle.std.proofs.lemmas.Option.{slice_get_within, slice_get-get_or}
use Rattle.log_node.specs.declared.ids.Key.{Key}
use Rattle.log_node.specs.declared.ids.Counts.{Counts}
use Rattle.log_node.specs.declared.node.Head.{Head}
use Rattle.log_node.specs.Order.{same_id, same_key, key_below}
use Rattle.log_node.specs.Vectors.{at}
use Rattle.log_node.specs.Reach.{Chains, Reachable}
use Rattle.col_core.specs.PlayOrder.{Place, same_place, Stands, is_between, goes_first, IsPlayOrder}
use Rattle.col_core.proofs.CutLaws.{reached_within}
use Rattle.col_core.proofs.Basics.{by_test, if_true}
use Rattle.col_core.proofs.KeyOrder.{below_is}
use Rattle.log_node.proofs.CallerLemmas.{one_if as one_or_none}
use Rattle.log_node.proofs.CallerLemmas.{count_by-cons as counted}

-- counting elements that pass a test

counted_one : {A : Type 0} (p : A → Bool) (y : A) (ys : List A) → p y ≡ true → count_by p (y ∷ ys) ≡ 1 + count_by p ys
counted_one p y ys q = counted p y ys ∙ ap (λ b. cond b 1 0 + count_by p ys) q

counted_none : {A : Type 0} (p : A → Bool) (y : A) (ys : List A) → p y ≡ false → count_by p (y ∷ ys) ≡ count_by p ys
counted_none p y ys q = let e = counted p y ys ∙ ap (λ b. cond b 1 0 + count_by p ys) q in omega (arith, e)

counted_some : {A : Type 0} (p : A → Bool) (xs : List A) (i : ℕ) (x : A) → slice_get xs i ≡ Some x → p x ≡ true → 0 < count_by p xs
counted_some p [] i x h t = absurd (let f : ⊥ = cc in f)
counted_some p (y ∷ ys) zero x h t =
    let e : y ≡ x = cc in
    let c = counted_one p y ys (ap p e ∙ t) in omega (arith, c)
counted_some p (y ∷ ys) (suc i) x h t =
    let r = counted_some p ys i x h t in
    by_test _ (p y) (λ q. let c = counted_one p y ys q in omega (arith, c)) (λ q. let c = counted_none p y ys q in omega (arith, c, r))

some_counted : {A : Type 0} (p : A → Bool) (xs : List A) → 0 < count_by p xs → (i : ℕ) × (x : A) × (slice_get xs i ≡ Some x) × (p x ≡ true)
some_counted p [] h = absurd (let f : ⊥ = omega (arith, h) in f)
some_counted p (y ∷ ys) h =
    by_test _ (p y) (λ q. (0, y, refl, q))
    (λ q. let c = counted_none p y ys q in let r = some_counted p ys (omega (arith, c, h)) in (suc r.0, r.1, r.2, r.3))

fewer_in_rest : {A : Type 0} (p : A → Bool) (y : A) (ys : List A) → count_by p ys ≤ count_by p (y ∷ ys)
fewer_in_rest p y ys = by_test _ (p y) (λ q. let c = counted_one p y ys q in omega (arith, c)) (λ q. let c = counted_none p y ys q in omega (arith, c))

head_alone : {A : Type 0} (p : A → Bool) (y : A) (ys : List A) (i : ℕ) (x : A) → count_by p (y ∷ ys) ≤ 1 → p y ≡ true → slice_get ys i ≡ Some x → p x ≡ true → ⊥
head_alone p y ys i x le q h t =
    let c = counted_one p y ys q in
    let r = counted_some p ys i x h t in omega (arith, c, r, le)

counted_once : {A : Type 0} (p : A → Bool) (xs : List A) (i j : ℕ) (x y : A) → count_by p xs ≤ 1 → slice_get xs i ≡ Some x → slice_get xs j ≡ Some y → p x ≡ true → p y ≡ true → i ≡ j
counted_once p [] i j x y le a b s t = absurd (let f : ⊥ = cc in f)
counted_once p (z ∷ zs) zero zero x y le a b s t = refl
counted_once p (z ∷ zs) zero (suc j) x y le a b s t = let e : z ≡ x = cc in absurd (head_alone p z zs j y le (ap p e ∙ s) b t)
counted_once p (z ∷ zs) (suc i) zero x y le a b s t = let e : z ≡ y = cc in absurd (head_alone p z zs i x le (ap p e ∙ t) a s)
counted_once p (z ∷ zs) (suc i) (suc j) x y le a b s t = let f = fewer_in_rest p z zs in ap suc (counted_once p zs i j x y (omega (arith, f, le)) a b s t)

-- places

place_at : ℕ → ℕ → Place
place_at region position = record { region = region; position = position }

pub same_place-is : (a b : Place) → same_place a b ≡ true → a ≡ b
unfolding place_at
same_place-is a b e =
    let p = and_parts (a.region == b.region) (a.position == b.position) e in
    ap (λ r. place_at r a.position) (eqb-true a.region b.region p.0) ∙ ap (λ n. place_at b.region n) (eqb-true a.position b.position p.1)

pub same_place-itself : (a : Place) → same_place a a ≡ true
same_place-itself a = and_from (a.region == a.region) (a.position == a.position) (eq-eqb a.region a.region refl) (eq-eqb a.position a.position refl)

at_most_one : (b : Bool) → cond b 1 0 ≤ 1
at_most_one true = omega arith
at_most_one false = omega arith

key_cases : (a b : Key) → (key_below a b ≡ true) ⊎ ((key_below b a ≡ true) ⊎ (same_key a b ≡ true))
key_cases a b = go (cases_order a.stamp b.stamp) (cases_order a.id.client b.id.client) (cases_order a.id.count b.id.count) where
  go : (a.stamp ≡ b.stamp) ⊎ ((a.stamp < b.stamp) ⊎ (b.stamp < a.stamp)) → (a.id.client ≡ b.id.client) ⊎ ((a.id.client < b.id.client) ⊎ (b.id.client < a.id.client)) → (a.id.count ≡ b.id.count) ⊎ ((a.id.count < b.id.count) ⊎ (b.id.count < a.id.count)) → (key_below a b ≡ true) ⊎ ((key_below b a ≡ true) ⊎ (same_key a b ≡ true))
  go (inr (inl s)) c n = inl (below_is a b (inl s))
  go (inr (inr s)) c n = inr (inl (below_is b a (inl s)))
  go (inl s) (inr (inl c)) n = inl (below_is a b (inr (s, inl c)))
  go (inl s) (inr (inr c)) n = inr (inl (below_is b a (inr (sym s, inl c))))
  go (inl s) (inl c) (inr (inl n)) = inl (below_is a b (inr (s, inr (c, n))))
  go (inl s) (inl c) (inr (inr n)) = inr (inl (below_is b a (inr (sym s, inr (sym c, n)))))
  go (inl s) (inl c) (inl n) = inr (inr (and_from (a.stamp == b.stamp) (same_id a.id b.id) (eq-eqb a.stamp b.stamp s) (and_from (a.id.client == b.id.client) (a.id.count == b.id.count) (eq-eqb a.id.client b.id.client c) (eq-eqb a.id.count b.id.count n))))

same_key-sym : (a b : Key) → same_key a b ≡ true → same_key b a ≡ true
same_key-sym a b e =
    let p = and_parts (a.stamp == b.stamp) (same_id a.id b.id) e in
    let q = and_parts (a.id.client == b.id.client) (a.id.count == b.id.count) p.1 in
    and_from (b.stamp == a.stamp) (same_id b.id a.id) (eq-eqb b.stamp a.stamp (sym (eqb-true a.stamp b.stamp p.0)))
    (and_from (b.id.client == a.id.client) (b.id.count == a.id.count) (eq-eqb b.id.client a.id.client (sym (eqb-true a.id.client b.id.client q.0))) (eq-eqb b.id.count a.id.count (sym (eqb-true a.id.count b.id.count q.1))))

-- of two nodes of different regions one goes first
pub one_goes_first : (a b : Head) (p q : Place) → p.region ≢ q.region → (goes_first a p b q ≡ true) ⊎ (goes_first b q a p ≡ true)
one_goes_first a b p q apart = go (key_cases a.key b.key) (cases_order p.region q.region) where
  go : (key_below a.key b.key ≡ true) ⊎ ((key_below b.key a.key ≡ true) ⊎ (same_key a.key b.key ≡ true)) → (p.region ≡ q.region) ⊎ ((p.region < q.region) ⊎ (q.region < p.region)) → (goes_first a p b q ≡ true) ⊎ (goes_first b q a p ≡ true)
  go (inl k) r = inl (or_left (key_below a.key b.key) _ k)
  go (inr (inl k)) r = inr (or_left (key_below b.key a.key) _ k)
  go (inr (inr k)) (inl e) = absurd (apart e)
  go (inr (inr k)) (inr (inl lt)) = inl (or_right (key_below a.key b.key) _ (and_from (same_key a.key b.key) (nat_lt p.region q.region) k (lt-ltb _ _ lt)))
  go (inr (inr k)) (inr (inr lt)) = inr (or_right (key_below b.key a.key) _ (and_from (same_key b.key a.key) (nat_lt q.region p.region) (same_key-sym a.key b.key k) (lt-ltb _ _ lt)))

-- what is between two vectors

pub record Between (from to : Counts) (p : Place) : Type 0 where
  pub in_range : p.region < 4
  pub past : at from p.region ≤ p.position
  pub short : p.position < at to p.region

pub between_is : (from to : Counts) (p : Place) → is_between from to p ≡ true → Between from to p
between_is from to p e =
    let a = and_parts (nat_lt p.region 4 && nat_le (at from p.region) p.position) (nat_lt p.position (at to p.region)) e in
    let b = and_parts (nat_lt p.region 4) (nat_le (at from p.region) p.position) a.0 in
    record { in_range = ltb-true _ _ b.0; past = leb-true _ _ b.1; short = ltb-true _ _ a.1 }

pub is_in_between : (from to : Counts) (p : Place) → Between from to p → is_between from to p ≡ true
is_in_between from to p b =
    and_from (nat_lt p.region 4 && nat_le (at from p.region) p.position) (nat_lt p.position (at to p.region))
    (and_from (nat_lt p.region 4) (nat_le (at from p.region) p.position) (lt-ltb _ _ b.in_range) (le-leb _ _ b.past)) (lt-ltb _ _ b.short)

-- positions of a list

missing : {A : Type 0} (xs : List A) (n j : ℕ) (x : A) → slice_get xs n ≡ None → slice_get xs j ≡ Some x → n ≤ j → ⊥
missing xs n j x a b le =
    let lt = slice_get_within xs j x b in
    let s = slice_get-get_or xs n x (omega (arith, lt, le)) in cc

strict : {A : Type 0} (xs : List A) (n j : ℕ) (x y : A) → slice_get xs n ≡ Some x → slice_get xs j ≡ Some y → n ≤ j → (x ≡ y → ⊥) → n < j
strict xs n j x y a b le ne = pick (cases_eq n j) where
  pick : (n ≡ j) ⊎ (n ≡ j → ⊥) → n < j
  pick (inl e) = absurd (ne (let s : Some x ≡ Some y = sym a ∙ (ap (slice_get xs) e ∙ b) in cc))
  pick (inr f) = omega (arith, le, f)

same_items : {A : Type 0} (xs ys : List A) → ((k : ℕ) → slice_get xs k ≡ slice_get ys k) → xs ≡ ys
same_items [] [] h = refl
same_items [] (y ∷ ys) h = let e = h 0 in cc
same_items (x ∷ xs) [] h = let e = h 0 in cc
same_items (x ∷ xs) (y ∷ ys) h =
    let e : Some x ≡ Some y = h 0 in
    let first : x ≡ y = cc in
    ap (λ z. z ∷ xs) first ∙ ap (λ l. y ∷ l) (same_items xs ys (λ k. h (suc k)))

-- one play order

module _ (chains : Chains) (from to : Counts) (reached : Reachable chains to) where
  stands_between : (p : Place) → Between from to p → (head : Head) × Stands chains p head
  stands_between p b =
      let le = reached_within chains reached p.region b.in_range in
      let lt : p.position < length (chains p.region) = let s = b.short in omega (arith, s, le) in
      there (chains p.region) p.position lt where
        there : (hs : List Head) (n : ℕ) → n < length hs → (head : Head) × (slice_get hs n ≡ Some head)
        there [] n lt = absurd (let f : ⊥ = omega (arith, lt) in f)
        there (h ∷ hs) zero lt = (h, refl)
        there (h ∷ hs) (suc n) lt = there hs n (omega (arith, lt))

  pub in_order-between : (order : List Place) → IsPlayOrder chains from to order → (i : ℕ) (p : Place) → slice_get order i ≡ Some p → Between from to p
  in_order-between order o i p h =
      let c = counted_some (same_place p) order i p h (same_place-itself p) in
      between_is from to p (one_or_none (is_between from to p) (subst (λ n. 0 < n) (o.each_once p) c))

  between-in_order : (order : List Place) → IsPlayOrder chains from to order → (p : Place) → Between from to p → (i : ℕ) × (slice_get order i ≡ Some p)
  between-in_order order o p b =
      let n : count_by (same_place p) order ≡ 1 = o.each_once p ∙ if_true (is_between from to p) 1 0 (is_in_between from to p b) in
      let r = some_counted (same_place p) order (omega (arith, n)) in
      (r.0, r.2 ∙ ap Some (sym (same_place-is p r.1 r.3)))

  pub once : (order : List Place) → IsPlayOrder chains from to order → (i j : ℕ) (p : Place) → slice_get order i ≡ Some p → slice_get order j ≡ Some p → i ≡ j
  once order o i j p a b =
      let m = at_most_one (is_between from to p) in
      let e = o.each_once p in
      counted_once (same_place p) order i j p p (omega (arith, m, e)) a b (same_place-itself p) (same_place-itself p)

  -- the nodes of one chain stand in its order
  in_chain_order : (order : List Place) → IsPlayOrder chains from to order → (n : ℕ) (i j : ℕ) (p q : Place) → slice_get order i ≡ Some p → slice_get order j ≡ Some q → q.region ≡ p.region → q.position ≡ p.position + suc n → i < j
  in_chain_order order o zero i j p q a b same more =
      let bq = in_order-between order o j q b in
      let head = stands_between q bq in
      o.after_needed i j p q head.0 a b head.1 (inl (same, omega (arith, more)))
  in_chain_order order o (suc n) i j p q a b same more =
      let bq = in_order-between order o j q b in
      let bp = in_order-between order o i p a in
      let head = stands_between q bq in
      let prior : Place = record { region = q.region; position = p.position + suc n } in
      let le : at from q.region ≤ at from p.region = subst (λ r. at from q.region ≤ at from r) same (omega arith) in
      let bo : Between from to prior = record {
        in_range = bq.in_range;
        past = let x = bp.past in omega (arith, x, le);
        short = let x = bq.short in omega (arith, x, more);
      } in
      let m = between-in_order order o prior bo in
      let x = o.after_needed m.0 j prior q head.0 m.1 b head.1 (inl (refl, omega (arith, more))) in
      let y = in_chain_order order o n i m.0 p prior a m.1 same refl in
      omega (arith, x, y)

  module _ (left right : List Place) (l : IsPlayOrder chains from to left) (r : IsPlayOrder chains from to right) where
    -- where both agree up to n, a node that stands at n in the one stands no earlier in the other
    no_earlier : (n : ℕ) → ((k : ℕ) → k < n → slice_get left k ≡ slice_get right k) → (x : Place) → slice_get left n ≡ Some x → (j : ℕ) → slice_get right j ≡ Some x → n ≤ j
    no_earlier n same x a j b = pick (cases_order n j) where
      pick : (n ≡ j) ⊎ ((n < j) ⊎ (j < n)) → n ≤ j
      pick (inl e) = omega (arith, e)
      pick (inr (inl lt)) = omega (arith, lt)
      pick (inr (inr lt)) = let e = once left l n j x a (same j lt ∙ b) in omega (arith, e)

    -- there no node that would go first stands later in the left one than in the right
    not_later : (n : ℕ) → ((k : ℕ) → k < n → slice_get left k ≡ slice_get right k) → (x y : Place) (a b : Head) (j : ℕ) → n < j
        → slice_get left n ≡ Some x → slice_get left j ≡ Some y → slice_get right n ≡ Some y → Stands chains x a → Stands chains y b → goes_first b y a x ≡ true → ⊥
    not_later n same x y a b j lt ax ay by sx sy first =
        let w = l.least_first n j x y a b lt ax ay sx sy first in
        let bw = in_order-between left l w.0 w.1 w.4 in
        let m = between-in_order right r w.1 bw in
        let before = r.after_needed m.0 n w.1 y b m.1 by sy w.5 in
        let e = once left l w.0 m.0 w.1 w.4 (same m.0 before ∙ m.1) in
        let le = w.2 in omega (arith, before, e, le)

  module _ (left right : List Place) (l : IsPlayOrder chains from to left) (r : IsPlayOrder chains from to right) where
    one_chain : (n : ℕ) (x y : Place) → slice_get left n ≡ Some x → slice_get right n ≡ Some y → (i j : ℕ) → slice_get right i ≡ Some x → n < i → slice_get left j ≡ Some y → n < j
        → x.region ≡ y.region → (x.position ≡ y.position) ⊎ ((x.position < y.position) ⊎ (y.position < x.position)) → (x ≡ y → ⊥) → ⊥
    unfolding place_at
    one_chain n x y a b i j c lt d lt' same (inl e) ne = ne (ap (λ k. place_at k x.position) same ∙ ap (λ k. place_at y.region k) e)
    one_chain n x y a b i j c lt d lt' same (inr (inl less)) ne =
        let f = in_chain_order right r (y.position - x.position - 1) i n x y c b (sym same) (omega (arith, less)) in omega (arith, f, lt)
    one_chain n x y a b i j c lt d lt' same (inr (inr more)) ne =
        let f = in_chain_order left l (x.position - y.position - 1) j n y x d a same (omega (arith, more)) in omega (arith, f, lt')

    two_chains : (n : ℕ) → ((k : ℕ) → k < n → slice_get left k ≡ slice_get right k) → (x y : Place) → slice_get left n ≡ Some x → slice_get right n ≡ Some y
        → (i j : ℕ) → slice_get right i ≡ Some x → n < i → slice_get left j ≡ Some y → n < j
        → (a b : Head) → Stands chains x a → Stands chains y b → (goes_first a x b y ≡ true) ⊎ (goes_first b y a x ≡ true) → ⊥
    two_chains n same x y ax by i j c lt d lt' a b sx sy (inl f) = not_later right left r l n (λ k h. sym (same k h)) y x b a i lt by c ax sy sx f
    two_chains n same x y ax by i j c lt d lt' a b sx sy (inr f) = not_later left right l r n same x y a b j lt' ax d by sx sy f

    apart_here : (n : ℕ) → ((k : ℕ) → k < n → slice_get left k ≡ slice_get right k) → (x y : Place) → slice_get left n ≡ Some x → slice_get right n ≡ Some y → (x ≡ y → ⊥) → ⊥
    apart_here n same x y a b ne =
        let bx = in_order-between left l n x a in
        let by = in_order-between right r n y b in
        let i = between-in_order right r x bx in
        let j = between-in_order left l y by in
        let lt = strict right n i.0 y x b i.1 (no_earlier left right l r n same x a i.0 i.1) (λ e. ne (sym e)) in
        let lt' = strict left n j.0 x y a j.1 (no_earlier right left r l n (λ k h. sym (same k h)) y b j.0 j.1) ne in
        let hx = stands_between x bx in
        let hy = stands_between y by in
        go i.0 j.0 i.1 lt j.1 lt' hx.0 hy.0 hx.1 hy.1 (cases_eq x.region y.region) where
          go : (i j : ℕ) → slice_get right i ≡ Some x → n < i → slice_get left j ≡ Some y → n < j → (h k : Head) → Stands chains x h → Stands chains y k → (x.region ≡ y.region) ⊎ (x.region ≡ y.region → ⊥) → ⊥
          go i j c lt d lt' h k sx sy (inl e) = one_chain n x y a b i j c lt d lt' e (cases_order x.position y.position) ne
          go i j c lt d lt' h k sx sy (inr f) = two_chains n same x y a b i j c lt d lt' h k sx sy (one_goes_first h k x y f)

    agree_at : (n : ℕ) → ((k : ℕ) → k < n → slice_get left k ≡ slice_get right k) → (o o' : Option Place) → slice_get left n ≡ o → slice_get right n ≡ o' → o ≡ o'
    agree_at n same None None a b = refl
    agree_at n same (Some x) None a b =
        let j = between-in_order right r x (in_order-between left l n x a) in
        absurd (missing right n j.0 x b j.1 (no_earlier left right l r n same x a j.0 j.1))
    agree_at n same None (Some y) a b =
        let j = between-in_order left l y (in_order-between right r n y b) in
        absurd (missing left n j.0 y a j.1 (no_earlier right left r l n (λ k lt. sym (same k lt)) y b j.0 j.1))
    agree_at n same (Some x) (Some y) a b =
        by_test _ (same_place x y) (λ t. ap Some (same_place-is x y t))
        (λ f. absurd (apart_here n same x y a b (λ e. true≢false (sym (subst (λ (z : Place). same_place x z ≡ true) e (same_place-itself x)) ∙ f))))

    agree : (n k : ℕ) → k < n → slice_get left k ≡ slice_get right k
    agree zero k lt = absurd (let f : ⊥ = omega (arith, lt) in f)
    agree (suc n) k lt = pick (agree n) (cases_eq k n) where
      pick : ((m : ℕ) → m < n → slice_get left m ≡ slice_get right m) → (k ≡ n) ⊎ (k ≡ n → ⊥) → slice_get left k ≡ slice_get right k
      pick below (inl e) = subst (λ m. slice_get left m ≡ slice_get right m) (sym e) (agree_at n below (slice_get left n) (slice_get right n) refl refl)
      pick below (inr ne) = below k (omega (arith, lt, ne))

    pub same_order : left ≡ right
    same_order = same_items left right (λ k. agree (suc k) k (omega arith))
