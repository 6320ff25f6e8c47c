-- What a client has played of a colour stands at all places that its snapshot counts, each when all before it in its chain and
-- all that it needs were played.
use Rattle.std.proofs.Common.{◌≡◌, ◌⊎◌, inl, inr, ℕ, zero, suc, ◌+◌, ◌<◌, ◌≤◌, List, [], ◌∷◌, ◌++◌, length, take, Some, Bool, true, cond, refl, ap, sym, subst, ◌∙◌, arith, eq-eqb, ne_eqb}
use Rattle.std.specs.Prelude.{◌==◌, slice_get}
use Rattle.std.specs.List.{AllZip, count_by}
use Rattle.std.proofs.lemmas.Bool.{cases_eq, cases_lt}
use Rattle.std.proofs.lemmas.List.{map-append, take_all}
use Rattle.std.proofs.lemmas.List.Sums.{sum_by-append}
use Rattle.std.proofs.lemmas.Option.{slice_get_within}
use mathlib.Core.List.{IsPrefix}
use Rattle.log_node.specs.declared.ids.Counts.{Counts}
use Rattle.log_node.specs.declared.node.Head.{Head}
use Rattle.log_node.specs.Seen.{PlacedNode}
use Rattle.log_node.specs.Vectors.{at, zeros, one_more, IsWithin}
use Rattle.log_node.specs.Reach.{Chains, Reachable, nothing, next}
use Rattle.log_node.proofs.CallerLemmas.{at-zeros, at-one_more, within-at}
use Rattle.col_core.specs.Cuts.{chain}
use Rattle.col_core.specs.Computed.{dated}
use Rattle.col_core.specs.Legal.{IsColumnHistory}
use Rattle.col_core.specs.PlayOrder.{Place, Stands}
use Rattle.chain_store.specs.declared.told.Told.{Told}
use Rattle.chain_store.specs.Histories.{entries_in, Names}
use Rattle.col_core.proofs.CallerLemmas.{by_test, if_true, if_false}
use Rattle.lawful_run.proofs.CallerLemmas.{prefix_get}
use Rattle.client_law.proofs.CallerLemmas.{chain_later}
use Rattle.log_client.specs.Clients.{HasPlayed, PlaysNodes}
use Rattle.log_client.specs.Clients.HasPlayed.{nothing_played, played_then}
use Rattle.log_client.proofs.Known.Fitting.{names_longer}
use Rattle.log_client.proofs.Sync.PlayedOrders.{of_region, position_is, region_low, short_of, needs_played, all_played}

-- what is shown of a place of a colour's chains
abbrev pub IsAt : ℕ → List Told → Place → PlacedNode → Type 0
IsAt own seen place item =
    Stands (chain own (dated own (entries_in seen))) place item.head × Names seen item.head.key.id item.node
    × (item.node.region ≡ place.region)

-- The nodes stand at these places, up to the counts.
pub record ArePlacedAt (own : ℕ) (seen : List Told) (counts : Counts) (items : List PlacedNode) : Type 0 where
  pub order : List Place
  pub shown : AllZip (IsAt own seen) order items
  pub placed : (j : ℕ) (p : Place) → slice_get order j ≡ Some p
      → (p.region < 4) × (p.position ≡ count_by (of_region p.region) (take j order)) × (p.position < at counts p.region)
  pub needs : (j : ℕ) (p : Place) (item : PlacedNode) → slice_get order j ≡ Some p → slice_get items j ≡ Some item → (r : ℕ)
      → r < 4 → at item.head.needs r ≤ count_by (of_region r) (take j order)
  pub whole : (r : ℕ) → r < 4 → count_by (of_region r) order ≡ at counts r

-- LISTS

zip_more : {A B : Type 0} (R : A → B → Type 0) (xs us : List A) (ys vs : List B) → AllZip R xs ys → AllZip R us vs
    → AllZip R (xs ++ us) (ys ++ vs)
zip_more R [] us [] vs a b = b
zip_more R [] us (y ∷ ys) vs a b = absurd a
zip_more R (x ∷ xs) us [] vs a b = absurd a
zip_more R (x ∷ xs) us (y ∷ ys) vs a b = (a.0, zip_more R xs us ys vs a.1 b)

pub zip_as : {A B : Type 0} (R Q S : A → B → Type 0) (xs : List A) (ys : List B)
    → ((x : A) (y : B) → R x y → Q x y → S x y) → AllZip R xs ys → AllZip Q xs ys → AllZip S xs ys
zip_as R Q S [] [] f a b = tt
zip_as R Q S [] (y ∷ ys) f a b = absurd a
zip_as R Q S (x ∷ xs) [] f a b = absurd a
zip_as R Q S (x ∷ xs) (y ∷ ys) f a b = (f x y a.0 b.0, zip_as R Q S xs ys f a.1 b.1)

pub zip_at : {A B : Type 0} (R : A → B → Type 0) (xs : List A) (ys : List B) (j : ℕ) (x : A) (y : B) → AllZip R xs ys
    → slice_get xs j ≡ Some x → slice_get ys j ≡ Some y → R x y
zip_at R [] ys j x y a e f = absurd (let g : ⊥ = cc (e) in g)
zip_at R (z ∷ xs) [] j x y a e f = absurd a
zip_at {A} {B} R (z ∷ xs) (w ∷ ys) zero x y a e f =
    let one : z ≡ x = cc (e) in
    let two : w ≡ y = cc (f) in
    subst (λ (k : A). R k y) one (subst (λ (k : B). R z k) two a.0)
zip_at R (z ∷ xs) (w ∷ ys) (suc j) x y a e f = zip_at R xs ys j x y a.1 e f

pub zip_long : {A B : Type 0} (R : A → B → Type 0) (xs : List A) (ys : List B) → AllZip R xs ys → length xs ≡ length ys
zip_long R [] [] a = refl
zip_long R [] (y ∷ ys) a = absurd a
zip_long R (x ∷ xs) [] a = absurd a
zip_long R (x ∷ xs) (y ∷ ys) a = ap suc (zip_long R xs ys a.1)

split : {A : Type 0} (xs ys : List A) (j : ℕ) (x : A) → slice_get (xs ++ ys) j ≡ Some x
    → (slice_get xs j ≡ Some x) ⊎ ((m : ℕ) × (j ≡ length xs + m) × (slice_get ys m ≡ Some x))
split [] ys j x e = inr (j, omega arith, e)
split (z ∷ xs) ys zero x e = inl e
split (z ∷ xs) ys (suc j) x e = elim (split xs ys j x e) [
  | inl early ↦ inl early
  | inr late ↦ (let same = late.1 in inr (late.0, omega (arith, same), late.2))
]

taken_front : {A : Type 0} (xs ys : List A) (j : ℕ) (x : A) → slice_get xs j ≡ Some x → take j (xs ++ ys) ≡ take j xs
taken_front [] ys j x e = absurd (let f : ⊥ = cc (e) in f)
taken_front (z ∷ xs) ys zero x e = refl
taken_front {A} (z ∷ xs) ys (suc j) x e = ap (λ (l : List A). z ∷ l) (taken_front xs ys j x e)

taken_past : {A : Type 0} (xs ys : List A) (m : ℕ) → take (length xs + m) (xs ++ ys) ≡ xs ++ take m ys
taken_past [] ys m = let e : 0 + m ≡ m = omega arith in ap (λ (n : ℕ). take n ys) e
taken_past {A} (x ∷ xs) ys m =
    let e : length (x ∷ xs) + m ≡ suc (length xs + m) = omega arith in
    ap (λ (n : ℕ). take n ((x ∷ xs) ++ ys)) e ∙ ap (λ (l : List A). x ∷ l) (taken_past xs ys m)

past_front : {A : Type 0} (xs ys : List A) (m : ℕ) → slice_get (xs ++ ys) (length xs + m) ≡ slice_get ys m
past_front [] ys m = let e : 0 + m ≡ m = omega arith in ap (slice_get ys) e
past_front {A} (x ∷ xs) ys m =
    let e : length (x ∷ xs) + m ≡ suc (length xs + m) = omega arith in
    ap (slice_get ((x ∷ xs) ++ ys)) e ∙ past_front xs ys m

entries_prefix : (log seen : List Told) → IsPrefix log seen → IsPrefix (entries_in log) (entries_in seen)
entries_prefix log seen p = (entries_in p.0, sym (map-append (λ (t : Told). t.entry) log p.0) ∙ ap entries_in p.1)

counted_both : {A : Type 0} (test : A → Bool) (xs ys : List A) → count_by test (xs ++ ys) ≡ count_by test xs + count_by test ys
counted_both test xs ys = sum_by-append (λ x. cond (test x) 1 0) xs ys

-- what a reached vector counts has its needs counted
needs_within : (chains : Chains) (v : Counts) → Reachable chains v → (r : ℕ) (n : ℕ) (head : Head) → r < 4
    → slice_get (chains r) n ≡ Some head → n < at v r → (q : ℕ) → q < 4 → at head.needs q ≤ at v q
needs_within chains v nothing r n head few there lt q low =
    let none = at-zeros r in absurd (let f : ⊥ = omega (arith, lt, none) in f)
needs_within chains v (next {v = w} region last before less at_end needs) r n head few there lt q low =
    let grown = at-one_more w region q low in
    let more : at w q ≤ at v q = up w region q low in
    elim (cases_lt n (at w r)) [
      | inl early ↦
          (let x = needs_within chains w before r n head few there early q low in omega (arith, x, more))
      | inr late ↦
          elim (cases_eq r region) [
            | inl same ↦
                (let m = at-one_more w region r few in
                let one = if_true (r == region) (at w r + 1) (at w r) (eq-eqb r region same) in
                let here : n ≡ at w r = omega (arith, late, lt, m, one) in
                let e : Some head ≡ Some last =
                sym there ∙ (ap (slice_get (chains r)) here
                ∙ subst (λ (k : ℕ). slice_get (chains k) (at w k) ≡ Some last) (sym same) at_end) in
                let is : head ≡ last = cc (e) in
                let x = within-at last.needs w needs q low in
                let y = ap (λ (h : Head). at h.needs q) is in
                omega (arith, x, y, more))
            | inr ne ↦
                (let m = at-one_more w region r few in
                let one = if_false (r == region) (at w r + 1) (at w r) (ne_eqb r region ne) in
                absurd (let f : ⊥ = omega (arith, late, lt, m, one) in f))
          ]
    ] where
      up : (w : Counts) (region q : ℕ) → q < 4 → at w q ≤ at (one_more w region) q
      up w region q low =
          let m = at-one_more w region q low in
          by_test _ (q == region)
          (λ t. let a = if_true (q == region) (at w q + 1) (at w q) t in omega (arith, m, a))
          (λ f. let a = if_false (q == region) (at w q + 1) (at w q) f in omega (arith, m, a))

-- PLAYS

none_placed : (own : ℕ) (seen : List Told) → ArePlacedAt own seen zeros []
none_placed own seen = record {
  order = [];
  shown = tt;
  placed = λ j p e. absurd (let f : ⊥ = cc (e) in f);
  needs = λ j p item e there r few. absurd (let f : ⊥ = cc (e) in f);
  whole = λ r few. sym (at-zeros r few);
}

module _ (own regions : ℕ) (seen : List Told) (lawful : IsColumnHistory own regions (dated own (entries_in seen))) where
  -- a play more
  more_placed : (from to : Counts) (nodes more : List PlacedNode) (log : List Told) → ArePlacedAt own seen from nodes
      → IsPrefix log seen → PlaysNodes own log from to more → ArePlacedAt own seen to (nodes ++ more)
  more_placed from to nodes more log old p plays = record {
    order = old.order ++ plays.order;
    shown = zip_more (IsAt own seen) old.order plays.order nodes more old.shown now;
    placed = λ j q e. elim (split old.order plays.order j q e) [
      | inl early ↦
          (let x = old.placed j q early in (
            x.0,
            x.1 ∙ ap (count_by (of_region q.region)) (sym (taken_front old.order plays.order j q early)),
            (let low = x.2 in let up = within-at from to plays.within q.region x.0 in omega (arith, low, up)),
          ))
      | inr late ↦
          (let few = region_low chains from to plays.order plays.reached plays.in_order late.0 q late.2 in (
            few,
            position_is chains from to plays.order plays.reached plays.in_order late.0 q late.2
                ∙ sym (so_far q.region few j late.0 late.1),
            place_short late.0 q late.2,
          ))
    ];
    needs = λ j q item e there r few. elim (split old.order plays.order j q e) [
      | inl early ↦
          (let x = old.needs j q item early (front_item j q item early there) r few in
          let same = ap (count_by (of_region r)) (taken_front old.order plays.order j q early) in
          omega (arith, x, same))
      | inr late ↦
          (let it = back_item j late.0 item late.1 there in
          let stands = (zip_at (λ place (i : PlacedNode). Stands chains place i.head × Names log i.head.key.id i.node)
          plays.order more late.0 q item plays.shown late.2 it).0 in
          let lows = region_low chains from to plays.order plays.reached plays.in_order late.0 q late.2 in
          let short = place_short late.0 q late.2 in
          let covered = needs_within chains to plays.reached q.region q.position item.head lows stands short r few in
          let x = needs_played chains from to plays.order plays.reached plays.in_order late.0 q item.head late.2 stands r few covered in
          let same = so_far r few j late.0 late.1 in
          omega (arith, x, same))
    ];
    whole = λ r few.
        counted_both (of_region r) old.order plays.order
        ∙ (let a = old.whole r few in
        let b = whole_order r few in
        omega (arith, a, b));
  } where
    chains : Chains
    chains = chain own (dated own (entries_in log))

    longer : (place : Place) (item : PlacedNode)
        → Stands chains place item.head × Names log item.head.key.id item.node → item.node.region ≡ place.region
        → IsAt own seen place item
    longer place item s region =
        let q = chain_later own regions (entries_in log) (entries_in seen) (entries_prefix log seen p) lawful place.region in (
          prefix_get (chain own (dated own (entries_in log)) place.region)
              (chain own (dated own (entries_in seen)) place.region) place.position item.head q s.0,
          names_longer log seen item.head.key.id item.node p s.1,
          region,
        )

    now : AllZip (IsAt own seen) plays.order more
    now =
        zip_as (λ place (item : PlacedNode). Stands chains place item.head × Names log item.head.key.id item.node)
        (λ place (item : PlacedNode). item.node.region ≡ place.region) (IsAt own seen) plays.order more longer plays.shown
        plays.regions

    so_far : (r : ℕ) → r < 4 → (j m : ℕ) → j ≡ length old.order + m
        → count_by (of_region r) (take j (old.order ++ plays.order)) ≡ at from r + count_by (of_region r) (take m plays.order)
    so_far r few j m is =
        ap (count_by (of_region r)) (ap (λ (n : ℕ). take n (old.order ++ plays.order)) is ∙ taken_past old.order plays.order m)
        ∙ (counted_both (of_region r) old.order (take m plays.order)
        ∙ ap (λ (n : ℕ). n + count_by (of_region r) (take m plays.order)) (old.whole r few))

    front_item : (j : ℕ) (q : Place) (item : PlacedNode) → slice_get old.order j ≡ Some q
        → slice_get (nodes ++ more) j ≡ Some item → slice_get nodes j ≡ Some item
    front_item j q item e there = elim (split nodes more j item there) [
      | inl early ↦ early
      | inr late ↦
          (let lt = slice_get_within old.order j q e in
          let long = zip_long (IsAt own seen) old.order nodes old.shown in
          let is = late.1 in
          absurd (let f : ⊥ = omega (arith, lt, long, is) in f))
    ]

    back_item : (j m : ℕ) (item : PlacedNode) → j ≡ length old.order + m → slice_get (nodes ++ more) j ≡ Some item
        → slice_get more m ≡ Some item
    back_item j m item is there =
        let long = zip_long (IsAt own seen) old.order nodes old.shown in
        let here : j ≡ length nodes + m = omega (arith, is, long) in
        sym (past_front nodes more m) ∙ (ap (slice_get (nodes ++ more)) (sym here) ∙ there)

    whole_order : (r : ℕ) → r < 4 → at from r + count_by (of_region r) plays.order ≡ at to r
    whole_order r few =
        let up = within-at from to plays.within r few in
        subst (λ (l : List Place). at from r + count_by (of_region r) l ≡ at to r)
        (take_all (length plays.order) plays.order (omega arith))
        (all_played chains from to plays.order plays.reached plays.in_order r few up)

    place_short : (m : ℕ) (q : Place) → slice_get plays.order m ≡ Some q → q.position < at to q.region
    place_short m q e = short_of chains from to plays.order plays.reached plays.in_order m q e

  pub are_placed : (counts : Counts) (items : List PlacedNode) → HasPlayed own seen counts items
      → ArePlacedAt own seen counts items
  are_placed counts items nothing_played = none_placed own seen
  are_placed counts items (played_then from to nodes more log before p plays) =
      more_placed from to nodes more log (are_placed from nodes before) p plays
