-- A stamped read has all keys that its columns ever have up to its stamp: so a later one's keys begin with its own.
use Rattle.std.proofs.Common.{◌≡◌, ◌⊎◌, ℕ, ◌<◌, ◌≤◌, List, [], ◌∷◌, ◌++◌, length, map, true, false, refl, ap, sym, subst, ◌∙◌, inl, inr, arith}
use Rattle.std.specs.List.{Contains, filter, fold}
use Rattle.std.proofs.lemmas.Bool.{cases_lt}
use Rattle.std.proofs.lemmas.List.{map-append}
use Rattle.std.proofs.lemmas.List.Elements.{All-contains}
use mathlib.Core.List.{IsPrefix}
use Rattle.log_node.specs.declared.ids.Key.{Key}
use Rattle.log_node.specs.declared.node.Head.{Head}
use Rattle.log_node.specs.Order.{key_below}
use Rattle.log_node.specs.Standings.{Standing}
use Rattle.log_node.proofs.CallerLemmas.{key-irrefl, key-trans, stamp-key}
use Rattle.object_fold.specs.Folds.{is_behind}
use Rattle.col_core.specs.declared.Entry.{Entry}
use Rattle.col_core.specs.Computed.{dated}
use Rattle.col_core.specs.Cuts.{chain}
use Rattle.col_core.specs.History.{clock, entries, line}
use Rattle.col_core.specs.Legal.{IsColumnHistory}
use Rattle.col_core.specs.RegionOrder.{IsRegionOrder, IsClearUpTo}
use Rattle.col_core.proofs.CallerLemmas.{In, contains_in, in_append, in_contains, in_filter, in_filter-back, in_left, in_right, opens_above}
use Rattle.playback.specs.Merging.{AreRising}
use Rattle.lawful_run.specs.Laws.{ReadItemsLast}
use Rattle.client_law.specs.Knowing.{SeesOn}
use Rattle.client_law.proofs.CallerLemmas.{chain_later}
use Rattle.log_client.specs.declared.store.Store.{Store}
use Rattle.log_client.specs.declared.client.Client.{Client}
use Rattle.log_client.specs.Fits.{HaveGoneOn}
use Rattle.log_client.specs.Clients.{holds_of, seen_of, caller_of, IsClient}
use Rattle.log_client.specs.Calls.{IsSame}
use Rattle.log_client.specs.StampedReads.{HasRead, IsAboveSeen, GoOnFrom, ReadsGoOn, last_key}
use Rattle.log_client.specs.Reading.{home_seen}
use Rattle.log_client.proofs.Going.GoingOn.{client_sees_on}
use Rattle.log_client.proofs.Read.Lines.{chain_keys}
use Rattle.log_client.proofs.Read.HiddenReads.{all_from}
use Rattle.log_client.proofs.Read.ClearedHolds.{clock_grows}
use Rattle.log_client.proofs.Read.ItemsRead.{made_of, made_from, rising_cons, rising_filter, rising_head, rising_same, rising_tail}

-- LINES THAT GO ON

-- a line grows at its end alone
pub line_longer : (own regions : ℕ) (old new : List Entry) → IsPrefix old new → IsColumnHistory own regions (dated own new)
    → IsPrefix (line old) (line new)
line_longer own regions old new p lawful =
    let q = chain_later own regions old new p lawful own in (
      map (λ (h : Head). h.key) q.0,
      ap (λ (l : List Key). l ++ map (λ (h : Head). h.key) q.0) (sym (chain_keys own old))
          ∙ (sym (map-append (λ (h : Head). h.key) (chain own (dated own old) own) q.0)
          ∙ (ap (map (λ (h : Head). h.key)) q.1 ∙ chain_keys own new)),
    )

-- The order of a region up to a stamp stays that of longer histories, where nothing up to it was open.
module _ {A : Type 0} (law : ReadItemsLast) (own regions stamp : ℕ) (xs : List A) (old new : A → List Entry)
    (more : (x : A) → In x xs → IsPrefix (old x) (new x))
    (lawful : (x : A) → In x xs → IsColumnHistory own regions (dated own (new x)))
    (clear : (x : A) → In x xs → (stamp ≤ clock (old x)) × IsClearUpTo stamp (old x)) where
  abbrev before : A → List Key
  before x = line (old x)

  abbrev after : A → List Key
  after x = line (new x)

  -- no key up to the stamp comes in
  none_new : (x : A) → In x xs → (key : Key) → key.stamp ≤ stamp → Contains (after x) key → Contains (before x) key
  none_new x i key low c =
      let p = more x i in
      law own regions (old x) p.0 stamp
      (subst (λ (h : List Entry). IsColumnHistory own regions (dated own h)) (sym p.1) (lawful x i)) (clear x i).0 (clear x i).1
      key low (subst (λ (h : List Entry). Contains (line h) key) (sym p.1) c)

  none_lost : (x : A) → In x xs → (key : Key) → Contains (before x) key → Contains (after x) key
  none_lost x i key c =
      let p = line_longer own regions (old x) (new x) (more x i) (lawful x i) in
      subst (λ (l : List Key). Contains l key) p.1
      (contains_in (before x ++ p.0) key (in_left key (before x) p.0 (in_contains (before x) key c)))

  pub order_longer : (keys : List Key) → IsRegionOrder (map before xs) stamp keys → IsRegionOrder (map after xs) stamp keys
  order_longer keys order = record {
    rising = order.rising;
    all = λ l key there inside low.
        let x = made_of after xs l (in_contains (map after xs) l there) in
        order.all (before x.0) key (contains_in (map before xs) (before x.0) (made_from before xs x.0 x.1))
        (none_new x.0 x.1 key low (subst (λ (ks : List Key). Contains ks key) (sym x.2) inside)) low;
    no_other = λ key there.
        let o = order.no_other key there in
        let x = made_of before xs o.1 (in_contains (map before xs) o.1 o.2) in (
          o.0,
          after x.0,
          contains_in (map after xs) (after x.0) (made_from after xs x.0 x.1),
          none_lost x.0 x.1 key (subst (λ (ks : List Key). Contains ks key) (sym x.2) o.3),
        );
  }

-- what is clear up to a stamp that the clock has reached stays so
pub clear_longer : (own regions stamp : ℕ) (old new : List Entry) → IsPrefix old new
    → IsColumnHistory own regions (dated own new) → stamp ≤ clock old → IsClearUpTo stamp old → IsClearUpTo stamp new
clear_longer own regions stamp old new p lawful reached clear =
    all_from (λ (e : Standing). e.settled ≡ false → stamp < e.key.stamp) (entries new)
    (λ e i opened. elim (cases_lt stamp e.key.stamp) [
      | inl above ↦ above
      | inr low ↦
          All-contains (λ (f : Standing). f.settled ≡ false → stamp < f.key.stamp) (entries old) e clear
          (opens_above own regions old p.0 e
          (subst (λ (l : List Entry). IsColumnHistory own regions (dated own l)) (sym p.1) lawful)
          (contains_in (entries (old ++ p.0)) e (subst (λ (l : List Entry). In e (entries l)) (sym p.1) i)) opened
          (omega (arith, low, reached))) opened
    ])

-- A READ THAT WAS DONE STAYS DONE

module _ (law : ReadItemsLast) (s : Store) (c d : Client) (is : IsClient s d) (same : IsSame c d)
    (goes : HaveGoneOn (holds_of c) (holds_of d)) (colours : List ℕ) (stamp : ℕ) (keys : List Key)
    (has : HasRead c colours stamp keys) where
  on : SeesOn (caller_of s d []) (seen_of c) (seen_of d)
  on = client_sees_on s c d [] is goes

  abbrev was : ℕ → List Entry
  was k = home_seen c k

  more : (k : ℕ) → IsPrefix (was k) (home_seen d k)
  more k = subst (λ (n : ℕ). IsPrefix (seen_of c n k) (home_seen d k)) same.1 (on.more d.region k)

  lawful : (k : ℕ) → IsColumnHistory d.region (length s.regions) (dated d.region (home_seen d k))
  lawful k = on.lawful d.region k

  clear_before : (k : ℕ) → In k colours → (stamp ≤ clock (was k)) × IsClearUpTo stamp (was k)
  clear_before k i = (
    All-contains (λ m. stamp ≤ clock (was m)) colours k has.reached (contains_in colours k i),
    All-contains (λ m. IsClearUpTo stamp (was m)) colours k has.clear (contains_in colours k i),
  )

  pub has_read_later : HasRead d colours stamp keys
  has_read_later = record {
    reached = all_from (λ k. stamp ≤ clock (home_seen d k)) colours
        (λ k i.
        let low = (clear_before k i).0 in
        let up = clock_grows d.region (length s.regions) (was k) (home_seen d k) (more k) (lawful k) in
        omega (arith, low, up));
    clear = all_from (λ k. IsClearUpTo stamp (home_seen d k)) colours
        (λ k i. clear_longer d.region (length s.regions) stamp (was k) (home_seen d k) (more k) (lawful k)
        (clear_before k i).0 (clear_before k i).1);
    order = order_longer law d.region (length s.regions) stamp colours was (λ k. home_seen d k) (λ k i. more k)
        (λ k i. lawful k) clear_before keys has.order;
  }

-- a stamp above what was seen of the clocks is not below that of an earlier read
pub read_above : (c : Client) (colours : List ℕ) (stamp later : ℕ) (keys : List Key) → 0 < length colours
    → HasRead c colours stamp keys → IsAboveSeen c colours later → stamp ≤ later
read_above c [] stamp later keys some has above = absurd (let f : ⊥ = omega (arith, some) in f)
read_above c (k ∷ colours) stamp later keys some has above =
    let low = All-contains (λ m. stamp ≤ clock (home_seen c m)) (k ∷ colours) k has.reached
    (contains_in (k ∷ colours) k (inl refl)) in
    let high = All-contains (λ m. clock (home_seen c m) ≤ later) (k ∷ colours) k above
    (contains_in (k ∷ colours) k (inl refl)) in
    omega (arith, low, high)

-- THE LAST KEY

last_in : (k : Key) (keys : List Key) → In (fold (λ last next. next) k keys) (k ∷ keys)
last_in k [] = inl refl
last_in k (x ∷ keys) = inr (last_in x keys)

last_above : (k : Key) (keys : List Key) → AreRising (k ∷ keys) → (x : Key) → In x (k ∷ keys)
    → (x ≡ fold (λ last next. next) k keys) ⊎ (key_below x (fold (λ last next. next) k keys) ≡ true)
last_above k [] r x (inl e) = inl (sym e)
last_above k [] r x (inr i) = absurd i
last_above k (y ∷ keys) r x (inl e) =
    inr (subst (λ (z : Key). key_below z (fold (λ last next. next) y keys) ≡ true) e
    (rising_head k (y ∷ keys) r (fold (λ last next. next) y keys) (last_in y keys)))
last_above k (y ∷ keys) r x (inr i) = last_above y keys (rising_tail k (y ∷ keys) r) x i

-- what comes behind the last comes behind all
pub behind_all : (keys : List Key) → AreRising keys → (x y : Key) → In x keys → is_behind (last_key keys) y ≡ true
    → key_below x y ≡ true
behind_all [] r x y i b = absurd i
behind_all (k ∷ keys) r x y i b = elim (last_above k keys r x i) [
  | inl same ↦ subst (λ (z : Key). key_below z y ≡ true) (sym same) b
  | inr under ↦ key-trans x (fold (λ last next. next) k keys) y under b
]

-- what comes behind all comes behind the last
pub behind_last : (keys : List Key) (y : Key) → ((x : Key) → In x keys → key_below x y ≡ true)
    → is_behind (last_key keys) y ≡ true
behind_last [] y low = refl
behind_last (k ∷ keys) y low = low (fold (λ last next. next) k keys) (last_in k keys)

rising_append : (xs ys : List Key) → AreRising xs → AreRising ys
    → ((x y : Key) → In x xs → In y ys → key_below x y ≡ true) → AreRising (xs ++ ys)
rising_append [] ys r q low = q
rising_append (x ∷ xs) ys r q low =
    rising_cons x (xs ++ ys)
    (λ k i. elim (in_append k xs ys i) [
      | inl early ↦ rising_head x xs r k early
      | inr late ↦ low x k (inl refl) late
    ])
    (rising_append xs ys (rising_tail x xs r) q (λ a b i j. low a b (inr i) j))

-- TWO ORDERS OF THE SAME LINES

module _ (lines : List (List Key)) (stamp later : ℕ) (up : stamp ≤ later) (first keys : List Key)
    (one : IsRegionOrder lines stamp first) (two : IsRegionOrder lines later keys) where
  abbrev new : List Key
  new = filter (is_behind (last_key first)) keys

  -- a key of the later order up to the stamp is one of the first
  early : (k : Key) → In k keys → k.stamp ≤ stamp → In k first
  early k i low =
      let o = two.no_other k (contains_in keys k i) in
      in_contains first k (one.all o.1 k o.2 o.3 low)

  kept : (k : Key) → In k first → In k keys
  kept k i =
      let o = one.no_other k (contains_in first k i) in
      let low = o.0 in
      in_contains keys k (two.all o.1 k o.2 o.3 (omega (arith, low, up)))

  under : (k : Key) → In k first → k.stamp ≤ stamp
  under k i = (one.no_other k (contains_in first k i)).0

  among_new : (k : Key) → In k keys → stamp < k.stamp → In k new
  among_new k i above =
      in_filter-back (is_behind (last_key first)) k keys i
      (behind_last first k (λ x j. let low = under x j in stamp-key x k (omega (arith, low, above))))

  new_above : (k : Key) → In k new → stamp < k.stamp
  new_above k i = elim (cases_lt stamp k.stamp) [
    | inl above ↦ above
    | inr low ↦
        (let f = in_filter (is_behind (last_key first)) k keys i in
        absurd (key-irrefl k (behind_all first one.rising k k (early k f.0 (omega (arith, low))) f.1)))
  ]

  pub go_on : GoOnFrom stamp first keys
  go_on = record {
    whole = rising_same keys (first ++ new) two.rising
        (rising_append first new one.rising (rising_filter (is_behind (last_key first)) keys two.rising)
        (λ x y i j. behind_all first one.rising x y i (in_filter (is_behind (last_key first)) y keys j).1))
        (λ k i. elim (cases_lt stamp k.stamp) [
          | inl above ↦ in_right k first new (among_new k i above)
          | inr low ↦ in_left k first new (early k i (omega (arith, low)))
        ])
        (λ k i. elim (in_append k first new i) [
          | inl early ↦ kept k early
          | inr late ↦ (in_filter (is_behind (last_key first)) k keys late).0
        ]);
    above = all_from (λ k. stamp < k.stamp) new new_above;
  }

pub reads_go_on : ReadItemsLast → ReadsGoOn
reads_go_on law s c d is same goes colours stamp keys has =
    let later = has_read_later law s c d is same goes colours stamp keys has in (
      later,
      λ upto all up has_all.
          go_on (map (λ k. line (home_seen d k)) colours) stamp upto up keys all later.order has_all.order,
    )
