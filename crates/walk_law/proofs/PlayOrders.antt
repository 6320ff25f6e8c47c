-- The order of play, line by line: what a loop compares, and what it is of chains that begin others.
use Rattle.std.proofs.Common.{◌≡◌, ◌∙◌, refl, ap, sym, subst, ℕ, zero, suc, ◌+◌, ◌<◌, ◌≤◌, min, Bool, true, false, List, [], ◌∷◌, length, drop, Option, Some, None, ◌⊎◌, inl, inr, arith, lit<}
use Rattle.std.specs.Prelude.{slice_get, sum, map, is_some, not, nat_eq, nat_lt, nat_le, ◌&&◌, ◌==◌, if◌then◌else◌}
use Rattle.std.specs.List.{AllZip}
use Rattle.std.specs.Option.{option_map_or}
use Rattle.std.proofs.lemmas.Bool.{and_from, and_parts, cases_eq, eq-eqb, eqb-true, ltb-true, true≢false}
use mathlib.Core.List.{IsPrefix}
use Rattle.log_node.specs.declared.ids.Counts.{Counts}
use Rattle.log_node.specs.declared.ids.Key.{Key}
use Rattle.log_node.specs.declared.node.Head.{Head}
use Rattle.log_node.specs.Order.{same_id, same_key}
use Rattle.log_node.specs.Reach.{Chains, Reachable, is_covered}
use Rattle.log_node.specs.Seen.{PlacedNode}
use Rattle.log_node.specs.Vectors.{IsWithin, all_regions, at, least, one_more}
use Rattle.log_node.proofs.CallerLemmas.{at-one_more, at-vector, get_longer, get_within, reached_within, same_id-refl, same_some, same_tests}
use Rattle.col_core.specs.Laws.{PlayOrderIsUnique}
use Rattle.col_core.specs.PlayOrder.{IsPlayOrder, Place, Stands, is_between}
use Rattle.col_core.proofs.CallerLemmas.{Between, In, between_is, by_test, if_false, if_true, in_order-between, is_in_between, reachable_grows, within, within-at}
use Rattle.lawful_run.proofs.CallerLemmas.{regions_in}
use Rattle.playback.specs.Laws.{PlayOrderIsLawful}
use Rattle.playback.specs.Orders.{first_region, is_before, is_free, next_place, next_region, order_of, play_order}
use Rattle.walk_law.specs.Ninth.{PlaysKeys, ShowsPlace, key_shown}
use Rattle.walk_law.specs.declared.playing.Next.{Next}
use Rattle.walk_law.specs.Playing.{IsNextOf}
use Rattle.walk_law.proofs.Members.{told_as}
use Rattle.column_track.specs.Tracks.{Tells}

same_key-refl : (a : Key) → same_key a a ≡ true
same_key-refl a = and_from (nat_eq a.stamp a.stamp) (same_id a.id a.id) (eq-eqb a.stamp a.stamp refl) (same_id-refl a.id)

-- THE NEXT NODE

-- a region that is next has a node to be played
next_free : (chains : Chains) (played to : Counts) (regions : List ℕ) (r : ℕ) → next_region chains played to regions ≡ Some r
    → is_free chains played to r ≡ true
next_free chains played to [] r e = absurd (let f : ⊥ = cc (e) in f)
next_free chains played to (x ∷ xs) r e =
    turn (λ k n. next_free chains played to xs k n) (next_region chains played to xs) refl where
      turn : ((k : ℕ) → next_region chains played to xs ≡ Some k → is_free chains played to k ≡ true) → (o : Option ℕ)
          → next_region chains played to xs ≡ o → is_free chains played to r ≡ true
      turn more o is =
          by_test (is_free chains played to r ≡ true) (is_free chains played to x)
          (λ t. first more o is t (same_some (sym (if_true (is_free chains played to x)
          (Some (first_region chains played x (next_region chains played to xs))) (next_region chains played to xs) t) ∙ e)))
          (λ f. more r (sym (if_false (is_free chains played to x)
          (Some (first_region chains played x (next_region chains played to xs))) (next_region chains played to xs) f) ∙ e)) where
            first : ((k : ℕ) → next_region chains played to xs ≡ Some k → is_free chains played to k ≡ true) → (o : Option ℕ)
                → next_region chains played to xs ≡ o → is_free chains played to x ≡ true
                → first_region chains played x (next_region chains played to xs) ≡ r → is_free chains played to r ≡ true
            first more None n t same =
                subst (λ (k : ℕ). is_free chains played to k ≡ true) (sym (ap (first_region chains played x) n) ∙ same) t
            first more (Some other) n t same =
                let chosen = sym (ap (first_region chains played x) n) ∙ same in
                by_test (is_free chains played to r ≡ true) (is_before chains played other x)
                (λ b. more r
                (n ∙ ap (λ (k : ℕ). Some k) (sym (if_true (is_before chains played other x) other x b) ∙ chosen)))
                (λ b. subst (λ (k : ℕ). is_free chains played to k ≡ true)
                (sym (if_false (is_before chains played other x) other x b) ∙ chosen) t)

pub next_short : (chains : Chains) (played to : Counts) (regions : List ℕ) (r : ℕ) → next_region chains played to regions ≡ Some r
    → at played r < at to r
next_short chains played to regions r e =
    ltb-true (at played r) (at to r)
    (and_parts (nat_lt (at played r) (at to r)) (is_covered played (slice_get (chains r) (at played r)))
    (next_free chains played to regions r e)).0

next_among : (chains : Chains) (played to : Counts) (regions : List ℕ) (r : ℕ) → next_region chains played to regions ≡ Some r → In r regions
next_among chains played to [] r e = absurd (let f : ⊥ = cc (e) in f)
next_among chains played to (x ∷ xs) r e =
    turn (λ k n. next_among chains played to xs k n) (next_region chains played to xs) refl where
      turn : ((k : ℕ) → next_region chains played to xs ≡ Some k → In k xs) → (o : Option ℕ) → next_region chains played to xs ≡ o
          → In r (x ∷ xs)
      turn more o is =
          by_test (In r (x ∷ xs)) (is_free chains played to x)
          (λ t. first more o is (same_some (sym (if_true (is_free chains played to x)
          (Some (first_region chains played x (next_region chains played to xs))) (next_region chains played to xs) t) ∙ e)))
          (λ f. inr (more r (sym (if_false (is_free chains played to x)
          (Some (first_region chains played x (next_region chains played to xs))) (next_region chains played to xs) f) ∙ e))) where
            first : ((k : ℕ) → next_region chains played to xs ≡ Some k → In k xs) → (o : Option ℕ)
                → next_region chains played to xs ≡ o → first_region chains played x (next_region chains played to xs) ≡ r → In r (x ∷ xs)
            first more None n same = inl (sym (ap (first_region chains played x) n) ∙ same)
            first more (Some other) n same =
                let chosen = sym (ap (first_region chains played x) n) ∙ same in
                by_test (In r (x ∷ xs)) (is_before chains played other x)
                (λ b. inr (more r
                (n ∙ ap (λ (k : ℕ). Some k) (sym (if_true (is_before chains played other x) other x b) ∙ chosen))))
                (λ b. inl (sym (if_false (is_before chains played other x) other x b) ∙ chosen))

pub next_low : (chains : Chains) (played to : Counts) (r : ℕ) → next_region chains played to all_regions ≡ Some r → r < 4
next_low chains played to r e = regions_in r (next_among chains played to all_regions r e)

-- LINE BY LINE

abbrev count_all : Counts → ℕ
count_all v = sum (map (at v) all_regions)

more_counts : (v : Counts) (r : ℕ) → r < 4 → count_all (one_more v r) ≡ count_all v + 1
more_counts v zero lt = omega arith
more_counts v (suc zero) lt = omega arith
more_counts v (suc (suc zero)) lt = omega arith
more_counts v (suc (suc (suc zero))) lt = omega arith
more_counts v (suc (suc (suc (suc r)))) lt = absurd (let f : ⊥ = omega (arith, lt) in f)

-- some number is less, and none is more
fewer_counts : (v w : Counts) → ((r : ℕ) → r < 4 → at v r ≤ at w r) → (r : ℕ) → r < 4 → at v r < at w r → count_all v < count_all w
fewer_counts v w le r lt less =
    each r lt less (le 0 (lit< tt)) (le 1 (lit< tt)) (le 2 (lit< tt)) (le 3 (lit< tt)) where
      each : (r : ℕ) → r < 4 → at v r < at w r → at v 0 ≤ at w 0 → at v 1 ≤ at w 1 → at v 2 ≤ at w 2 → at v 3 ≤ at w 3
          → count_all v < count_all w
      each zero h l a b c d = omega (arith, l, a, b, c, d)
      each (suc zero) h l a b c d = omega (arith, l, a, b, c, d)
      each (suc (suc zero)) h l a b c d = omega (arith, l, a, b, c, d)
      each (suc (suc (suc zero))) h l a b c d = omega (arith, l, a, b, c, d)
      each (suc (suc (suc (suc r)))) h l a b c d = absurd (let f : ⊥ = omega (arith, h) in f)

drop_next : {A : Type 0} (xs : List A) (i : ℕ) (x : A) → slice_get xs i ≡ Some x → drop i xs ≡ x ∷ drop (i + 1) xs
drop_next [] i x at_i = absurd (let f : ⊥ = cc (at_i) in f)
drop_next (y ∷ ys) zero x at_i = ap (λ z. z ∷ ys) (same_some at_i)
drop_next {A} (y ∷ ys) (suc i) x at_i =
    drop_next ys i x at_i ∙ ap (λ k. x ∷ drop k (y ∷ ys)) (let e : suc (i + 1) ≡ suc i + 1 = omega arith in e)

drop_none : {A : Type 0} (xs : List A) (i : ℕ) → length xs ≤ i → ◌≡◌ {A = List A} (drop i xs) []
drop_none [] zero le = refl
drop_none [] (suc i) le = refl
drop_none (x ∷ xs) zero le = absurd (let f : ⊥ = omega (arith, le) in f)
drop_none (x ∷ xs) (suc i) le = drop_none xs i (omega (arith, le))

nothing_left : (n : ℕ) (chains : Chains) (played to : Counts) → next_region chains played to all_regions ≡ None
    → order_of n chains played to ≡ []
nothing_left zero chains played to e = refl
nothing_left (suc n) chains played to e =
    ap (λ o. option_map_or (λ region. next_place played region ∷ order_of n chains (one_more played region) to) o []) e

one_left : (n : ℕ) (chains : Chains) (played to : Counts) (r : ℕ) → next_region chains played to all_regions ≡ Some r
    → order_of (suc n) chains played to ≡ next_place played r ∷ order_of n chains (one_more played r) to
one_left n chains played to r e =
    ap (λ o. option_map_or (λ region. next_place played region ∷ order_of n chains (one_more played region) to) o []) e

module _ (chains : Chains) (from to : Counts) (nodes : List PlacedNode) where
  abbrev Shown : List Place → List PlacedNode → Type 0
  Shown = AllZip (ShowsPlace chains)

  move : (xs xs' : List Place) (ys ys' : List PlacedNode) → xs ≡ xs' → ys ≡ ys' → Shown xs ys → Shown xs' ys'
  move xs xs' ys ys' e f z = subst (λ (l : List Place). Shown l ys') e (subst (Shown xs) f z)

  -- so many lines are compared, and so many nodes are played: what is left decides
  pub record PlaysOn (played : Counts) (i : ℕ) : Type 0 where
    pub left : ℕ
    pub enough : count_all to ≤ count_all played + left
    pub short : (r : ℕ) → r < 4 → at played r ≤ at to r
    pub forth : Shown (play_order chains from to) nodes → Shown (order_of left chains played to) (drop i nodes)
    pub back : Shown (order_of left chains played to) (drop i nodes) → Shown (play_order chains from to) nodes

  pub plays_first : IsWithin from to → PlaysOn from 0
  plays_first w = record {
    left = count_all to;
    enough = omega arith;
    short = λ r lt. within-at from to w r lt;
    forth = λ z. z;
    back = λ z. z;
  }

  module _ (played : Counts) (i : ℕ) (so : PlaysOn played i) where
    pub plays_none : next_region chains played to all_regions ≡ None → (item : PlacedNode) → slice_get nodes i ≡ Some item
        → Shown (play_order chains from to) nodes → ⊥
    plays_none none item at_i z =
        move (order_of so.left chains played to) [] (drop i nodes) (item ∷ drop (i + 1) nodes)
        (nothing_left so.left chains played to none) (drop_next nodes i item at_i) (so.forth z)

    pub plays_end : next_region chains played to all_regions ≡ None → length nodes ≤ i → Shown (play_order chains from to) nodes
    plays_end none ge =
        so.back (move [] (order_of so.left chains played to) [] (drop i nodes) (sym (nothing_left so.left chains played to none))
        (sym (drop_none nodes i ge)) tt)

    module _ (r : ℕ) (lt : r < 4) (next : next_region chains played to all_regions ≡ Some r) where
      some_left : (n : ℕ) × (so.left ≡ suc n)
      some_left = pick so.left so.enough where
        less : count_all played < count_all to
        less = fewer_counts played to so.short r lt (next_short chains played to all_regions r next)

        pick : (n : ℕ) → count_all to ≤ count_all played + n → (m : ℕ) × (n ≡ suc m)
        pick zero e = absurd (let x = less in let f : ⊥ = omega (arith, x, e) in f)
        pick (suc m) e = (m, refl)

      whole : order_of so.left chains played to ≡ next_place played r ∷ order_of some_left.0 chains (one_more played r) to
      whole =
          ap (λ (n : ℕ). order_of n chains played to) some_left.1 ∙ one_left some_left.0 chains played to r next

      pub plays_more : length nodes ≤ i → Shown (play_order chains from to) nodes → ⊥
      plays_more ge z =
          move (order_of so.left chains played to) (next_place played r ∷ order_of some_left.0 chains (one_more played r) to)
          (drop i nodes) [] whole (drop_none nodes i ge) (so.forth z)

      module _ (item : PlacedNode) (at_i : slice_get nodes i ≡ Some item) where
        rest_of : Shown (order_of so.left chains played to) (drop i nodes)
            → Shown (next_place played r ∷ order_of some_left.0 chains (one_more played r) to) (item ∷ drop (i + 1) nodes)
        rest_of =
            move (order_of so.left chains played to) (next_place played r ∷ order_of some_left.0 chains (one_more played r) to)
            (drop i nodes) (item ∷ drop (i + 1) nodes) whole (drop_next nodes i item at_i)

        pub plays_other : (head : Head) → slice_get (chains r) (at played r) ≡ Some head → (head.key ≡ key_shown item → ⊥)
            → Shown (play_order chains from to) nodes → ⊥
        plays_other head there differs z =
            let here = (rest_of (so.forth z)).0 in
            let same : here.0 ≡ head = same_some (sym here.1 ∙ there) in
            differs (sym (here.2 ∙ ap (λ (h : Head). h.key) same))

        -- by the test of keys
        pub plays_unlike : (head : Head) → slice_get (chains r) (at played r) ≡ Some head
            → same_key head.key (key_shown item) ≡ false → Shown (play_order chains from to) nodes → ⊥
        plays_unlike head there f =
            plays_other head there (λ e. true≢false (sym (ap (λ (k : Key). same_key k (key_shown item)) e
            ∙ same_key-refl (key_shown item)) ∙ f))

        pub plays_next : (head : Head) → slice_get (chains r) (at played r) ≡ Some head → head.key ≡ key_shown item
            → PlaysOn (one_more played r) (i + 1)
        plays_next head there same = record {
          left = some_left.0;
          enough =
              let more = more_counts played r lt in
              let enough = so.enough in
              let e = some_left.1 in omega (arith, more, enough, e);
          short = λ k low. by k low (cases_eq k r);
          forth = λ z. (rest_of (so.forth z)).1;
          back = λ z.
              so.back (move (next_place played r ∷ order_of some_left.0 chains (one_more played r) to)
              (order_of so.left chains played to) (item ∷ drop (i + 1) nodes) (drop i nodes) (sym whole)
              (sym (drop_next nodes i item at_i)) ((head, there, sym same), z));
        } where
          by : (k : ℕ) → k < 4 → (k ≡ r) ⊎ (k ≡ r → ⊥) → at (one_more played r) k ≤ at to k
          by k low c =
              let is = at-one_more played r k low in
              let before = so.short k low in
              by_test (at (one_more played r) k ≤ at to k) (k == r)
              (λ t.
              let e = eqb-true k r t in
              let here : at (one_more played r) k ≡ at played k + 1 = is ∙ if_true (k == r) (at played k + 1) (at played k) t in
              let less = subst (λ (j : ℕ). at played j < at to j) (sym e) (next_short chains played to all_regions r next) in
              omega (arith, here, less))
              (λ f.
              let here : at (one_more played r) k ≡ at played k = is ∙ if_false (k == r) (at played k + 1) (at played k) f in
              omega (arith, here, before))

    -- what the next node tells when all lines are compared
    pub plays_told : length nodes ≤ i → (o : Option Next) → IsNextOf chains played to all_regions o → (b : Bool) → is_some o ≡ not b
        → Tells b (Shown (play_order chains from to) nodes)
    plays_told ge None none true e = plays_end none ge
    plays_told ge None none false e = absurd (true≢false (sym e))
    plays_told ge (Some next) is true e = absurd (true≢false e)
    plays_told ge (Some next) is false e =
        plays_more next.region (next_low chains played to next.region is.0) is.0 ge

pub least_short : (from to : Counts) → IsWithin (least from to) to
least_short from to = within (least from to) to (λ r lt.
    let is = at-vector (λ (k : ℕ). min (at from k) (at to k)) r lt in omega (arith, is))

-- CHAINS THAT BEGIN OTHERS

-- where chains begin others, and a vector can be reached over them, the orders up to it are those over the others
module _ (chains longer : Chains) (from to : Counts) (reached : Reachable chains to)
    (begins : (region : ℕ) → IsPrefix (chains region) (longer region)) where
  -- a place that is counted has the same node
  back_stands : (p : Place) (a b : Counts) → Between a to p → (head : Head) → Stands longer p head → Stands chains p head
  back_stands p a b between head stands =
      let long = reached_within chains reached p.region between.in_range in
      let short = between.short in
      let there = get_within (chains p.region) p.position (omega (arith, long, short)) in
      let more = get_longer (chains p.region) (begins p.region).0 p.position there.0 there.1 in
      let same : there.0 ≡ head =
      same_some (sym more ∙ (ap (λ (l : List Head). slice_get l p.position) (begins p.region).1 ∙ stands)) in
      there.1 ∙ ap (λ (h : Head). Some h) same

  forth_stands : (p : Place) (head : Head) → Stands chains p head → Stands longer p head
  forth_stands p head stands =
      sym (ap (λ (l : List Head). slice_get l p.position) (begins p.region).1)
      ∙ get_longer (chains p.region) (begins p.region).0 p.position head stands

  same_between : (place : Place) → is_between from to place ≡ is_between (least from to) to place
  same_between place =
      by (nat_lt place.region 4) refl where
        by : (b : Bool) → nat_lt place.region 4 ≡ b → is_between from to place ≡ is_between (least from to) to place
        by false f =
            ap (λ (x : Bool). x && nat_le (at from place.region) place.position && nat_lt place.position (at to place.region)) f
            ∙ sym (ap (λ (x : Bool). x && nat_le (at (least from to) place.region) place.position
            && nat_lt place.position (at to place.region)) f)
        by true t =
            let low = ltb-true place.region 4 t in
            let is : at (least from to) place.region ≡ min (at from place.region) (at to place.region) =
            at-vector (λ (k : ℕ). min (at from k) (at to k)) place.region low in
            same_tests (is_between from to place) (is_between (least from to) to place)
            (λ u.
            let b = between_is from to place u in
            let past = b.past in
            is_in_between (least from to) to place (record {
              in_range = b.in_range;
              past = omega (arith, is, past);
              short = b.short;
            }))
            (λ u.
            let b = between_is (least from to) to place u in
            let past = b.past in
            let short = b.short in
            is_in_between from to place (record {
              in_range = b.in_range;
              past = omega (arith, is, past, short);
              short = b.short;
            }))

  forth_order : (order : List Place) → IsPlayOrder chains from to order → IsPlayOrder longer (least from to) to order
  forth_order order o = record {
    each_once = λ place. o.each_once place ∙ ap (λ (b : Bool). if b then 1 else 0) (same_between place);
    after_needed = λ i j p q b at_i at_j stands waits.
        o.after_needed i j p q b at_i at_j (back_stands q from to (in_order-between chains from to reached order o j q at_j) b stands) waits;
    least_first = λ i j p q a b lt at_i at_j stands_a stands_b goes.
        o.least_first i j p q a b lt at_i at_j (back_stands p from to (in_order-between chains from to reached order o i p at_i) a stands_a)
        (back_stands q from to (in_order-between chains from to reached order o j q at_j) b stands_b) goes;
  }

  back_order : (order : List Place) → IsPlayOrder longer (least from to) to order → IsPlayOrder chains from to order
  back_order order o = record {
    each_once = λ place. o.each_once place ∙ ap (λ (b : Bool). if b then 1 else 0) (sym (same_between place));
    after_needed = λ i j p q b at_i at_j stands waits.
        o.after_needed i j p q b at_i at_j (forth_stands q b stands) waits;
    least_first = λ i j p q a b lt at_i at_j stands_a stands_b goes.
        o.least_first i j p q a b lt at_i at_j (forth_stands p a stands_a) (forth_stands q b stands_b) goes;
  }

  -- what is shown of places that are counted
  zip_back : (order : List Place) (nodes : List PlacedNode) → ((k : ℕ) (p : Place) → slice_get order k ≡ Some p → Between from to p)
      → AllZip (ShowsPlace longer) order nodes → AllZip (ShowsPlace chains) order nodes
  zip_back [] [] f z = tt
  zip_back [] (x ∷ xs) f z = absurd z
  zip_back (p ∷ ps) [] f z = absurd z
  zip_back (p ∷ ps) (x ∷ xs) f z = (
    (z.0.0, back_stands p from to (f 0 p refl) z.0.0 z.0.1, z.0.2),
    zip_back ps xs (λ k q at_k. f (suc k) q at_k) z.1,
  )

  zip_forth : (order : List Place) (nodes : List PlacedNode) → AllZip (ShowsPlace chains) order nodes
      → AllZip (ShowsPlace longer) order nodes
  zip_forth [] [] z = tt
  zip_forth [] (x ∷ xs) z = absurd z
  zip_forth (p ∷ ps) [] z = absurd z
  zip_forth (p ∷ ps) (x ∷ xs) z = ((z.0.0, forth_stands p z.0.0 z.0.1, z.0.2), zip_forth ps xs z.1)

  -- the keys are in the order of play over the chains where they are in the one that is computed over the others
  pub keys_told : PlayOrderIsUnique → PlayOrderIsLawful → (nodes : List PlacedNode) (b : Bool)
      → Tells b (AllZip (ShowsPlace longer) (play_order longer (least from to) to) nodes) → Tells b (PlaysKeys chains from to nodes)
  keys_told unique lawful nodes b told =
      told_as b (AllZip (ShowsPlace longer) (play_order longer (least from to) to) nodes) (PlaysKeys chains from to nodes)
      (λ z. (
        play_order longer (least from to) to,
        back_order (play_order longer (least from to) to) is_order,
        zip_back (play_order longer (least from to) to) nodes
            (in_order-between chains from to reached (play_order longer (least from to) to)
            (back_order (play_order longer (least from to) to) is_order)) z,
      ))
      (λ x.
      subst (λ (l : List Place). AllZip (ShowsPlace longer) l nodes)
      (unique longer (least from to) to x.0 (play_order longer (least from to) to) far (forth_order x.0 x.1) is_order) (zip_forth x.0 nodes x.2)) told where
        far : Reachable longer to
        far = reachable_grows chains longer begins to reached

        is_order : IsPlayOrder longer (least from to) to (play_order longer (least from to) to)
        is_order = lawful longer (least from to) to far (least_short from to)
