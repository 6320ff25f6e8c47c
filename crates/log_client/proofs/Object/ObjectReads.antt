-- What is folded of stamped reads, while the client goes on and reads on.
use Rattle.std.proofs.Common.{◌≡◌, ◌⊎◌, inl, inr, ℕ, zero, suc, ◌+◌, ◌<◌, ◌≤◌, List, [], ◌∷◌, ◌++◌, length, map, take, drop, true, refl, ap, sym, subst, ◌∙◌, arith, append_assoc, append-nil, take-append-drop}
use Rattle.std.specs.Prelude.{Option, Some, None}
use Rattle.std.specs.List.{AllZip, filter, fold}
use Rattle.std.proofs.lemmas.List.{take_all}
use Rattle.log_node.specs.declared.ids.Key.{Key}
use Rattle.log_node.specs.Order.{key_below}
use Rattle.log_node.specs.Seen.{PlacedNode}
use Rattle.log_node.proofs.CallerLemmas.{key-irrefl}
use Rattle.object_fold.specs.Nodes.{ObjectNode, object_node, object_nodes}
use Rattle.object_fold.specs.Folds.{is_behind, last_after}
use Rattle.col_core.specs.Log.{Log}
use Rattle.col_core.specs.Keeping.{Kept}
use Rattle.col_core.proofs.CallerLemmas.{In, in_append, in_filter, in_filter-back, in_left, in_right}
use Rattle.playback.specs.Merging.{AreRising}
use Rattle.lawful_run.specs.Callers.{Caller}
use Rattle.lawful_run.specs.Objects.{IsObjectNode, AreObjectNodes}
use Rattle.client_law.specs.Knowing.{Rest, log_seen}
use Rattle.log_client.specs.declared.store.Store.{Store}
use Rattle.log_client.specs.declared.client.Client.{Client}
use Rattle.log_client.specs.declared.answers.StampedRead.{StampedRead}
use Rattle.log_client.specs.Fits.{FitsHolds}
use Rattle.log_client.specs.Clients.{holds_of, seen_of, caller_of}
use Rattle.log_client.specs.Calls.{IsExplained}
use Rattle.log_client.specs.Reading.{RestsOn, keys_of}
use Rattle.log_client.specs.StampedReads.{HasRead, IsAboveSeen, ReadsAs, ReadsOn, ReadsGoOn, ShowsItem, GoOnFrom, last_key}
use Rattle.log_client.specs.Objects.{FoldsRead, KeepsRead}
use Rattle.log_client.proofs.Known.Fitting.{fits_less}
use Rattle.log_client.proofs.Read.ItemsRead.{items_are_objects, rising_cons, rising_filter, rising_head, rising_same, rising_tail}
use Rattle.log_client.proofs.Read.ReadLater.{behind_all, behind_last, read_above}

-- KEYS

pub rising_front : (xs ys : List Key) → AreRising (xs ++ ys) → AreRising xs
rising_front [] ys r = λ i j d lt there. absurd (let f : ⊥ = omega (arith, there) in f)
rising_front (x ∷ xs) ys r =
    rising_cons x xs (λ k i. rising_head x (xs ++ ys) r k (in_left k xs ys i))
    (rising_front xs ys (rising_tail x (xs ++ ys) r))

rising_rest : (xs ys : List Key) → AreRising (xs ++ ys) → AreRising ys
rising_rest [] ys r = r
rising_rest (x ∷ xs) ys r = rising_rest xs ys (rising_tail x (xs ++ ys) r)

front_below : (xs ys : List Key) → AreRising (xs ++ ys) → (x y : Key) → In x xs → In y ys → key_below x y ≡ true
front_below [] ys r x y i j = absurd i
front_below (z ∷ xs) ys r x y (inl e) j =
    subst (λ (k : Key). key_below k y ≡ true) e (rising_head z (xs ++ ys) r y (in_right y xs ys j))
front_below (z ∷ xs) ys r x y (inr i) j = front_below xs ys (rising_tail z (xs ++ ys) r) x y i j

-- behind the last of the first keys come the others
pub others_behind : (front rest : List Key) → AreRising (front ++ rest)
    → filter (is_behind (last_key front)) (front ++ rest) ≡ rest
others_behind front rest r =
    rising_same (filter (is_behind (last_key front)) (front ++ rest)) rest
    (rising_filter (is_behind (last_key front)) (front ++ rest) r) (rising_rest front rest r)
    (λ k i.
    let f = in_filter (is_behind (last_key front)) k (front ++ rest) i in
    elim (in_append k front rest f.0) [
      | inl early ↦ absurd (key-irrefl k (behind_all front (rising_front front rest r) k k early f.1))
      | inr late ↦ late
    ])
    (λ k i.
    in_filter-back (is_behind (last_key front)) k (front ++ rest) (in_right k front rest i)
    (behind_last front k (λ x j. front_below front rest r x k j i)))

last_with : (key : Key) (keys more : List Key)
    → last_key ((key ∷ keys) ++ more) ≡ Some (fold (λ last next. next) (fold (λ last next. next) key keys) more)
last_with key [] more = refl
last_with key (k ∷ keys) more = last_with k keys more

last_more : (key : Key) (items : List PlacedNode)
    → Some (fold (λ (last next : Key). next) key (keys_of items)) ≡ last_after (Some key) items
last_more key [] = refl
last_more key (i ∷ items) = last_more i.head.key items

-- the last key of the first ones and of the items behind them
pub last_keys : (front : List Key) (items : List PlacedNode)
    → last_after (last_key front) items ≡ last_key (front ++ keys_of items)
last_keys [] [] = refl
last_keys [] (i ∷ items) = sym (last_more i.head.key items)
last_keys (key ∷ keys) items =
    sym (last_more (fold (λ last next. next) key keys) items) ∙ sym (last_with key keys (keys_of items))

-- NODES

zip_more : (log : Log) (xs ys : List Key) (ns ms : List ObjectNode) → AreObjectNodes log xs ns → AreObjectNodes log ys ms
    → AreObjectNodes log (xs ++ ys) (ns ++ ms)
zip_more log [] ys [] ms a b = b
zip_more log [] ys (n ∷ ns) ms a b = absurd a
zip_more log (x ∷ xs) ys [] ms a b = absurd a
zip_more log (x ∷ xs) ys (n ∷ ns) ms a b = (a.0, zip_more log xs ys ns ms a.1 b)

-- the first of the items that show keys show the first of these
first_shown : (log : Log) (keys : List Key) (items : List PlacedNode) → AllZip (ShowsItem log) keys items → (n : ℕ)
    → AllZip (ShowsItem log) (take n keys) (take n items)
first_shown log keys items all zero = tt
first_shown log [] [] all (suc n) = tt
first_shown log [] (i ∷ items) all (suc n) = absurd all
first_shown log (k ∷ keys) [] all (suc n) = absurd all
first_shown log (k ∷ keys) (i ∷ items) all (suc n) = (all.0, first_shown log keys items all.1 n)

keys_taken : (items : List PlacedNode) (n : ℕ) → keys_of (take n items) ≡ take n (keys_of items)
keys_taken items zero = refl
keys_taken [] (suc n) = refl
keys_taken (i ∷ items) (suc n) = ap (λ (l : List Key). i.head.key ∷ l) (keys_taken items n)

-- nodes that are as they were appended are so in each log with the same nodes
still_so : (s : Store) (c d : Client) (rest : Rest) (keys : List Key) (nodes : List ObjectNode)
    → AreObjectNodes (log_seen (seen_of c) rest) keys nodes → AreObjectNodes (log_seen (seen_of d) rest) keys nodes
still_so s c d rest [] [] all = tt
still_so s c d rest [] (n ∷ nodes) all = absurd all
still_so s c d rest (k ∷ keys) [] all = absurd all
still_so s c d rest (k ∷ keys) (n ∷ nodes) all = (
  record {
    appended = all.0.appended;
    there = all.0.there;
    same = all.0.same;
    key_is = all.0.key_is;
    colours = all.0.colours;
    text = all.0.text;
  },
  still_so s c d rest keys nodes all.1,
)

taken_past : {A : Type 0} (xs ys : List A) (n : ℕ) → take (length xs + n) (xs ++ ys) ≡ xs ++ take n ys
taken_past [] ys n = let e : 0 + n ≡ n = omega arith in ap (λ (m : ℕ). take m ys) e
taken_past {A} (x ∷ xs) ys n =
    let e : length (x ∷ xs) + n ≡ suc (length xs + n) = omega arith in
    ap (λ (m : ℕ). take m ((x ∷ xs) ++ ys)) e ∙ ap (λ (l : List A). x ∷ l) (taken_past xs ys n)

-- WHILE THE CLIENT GOES ON

pub reads_later : (law : ReadsGoOn) (s : Store) (c d : Client) (colours : List ℕ) (last : Option Key)
    (nodes : List ObjectNode) → RestsOn s c d → KeepsRead c colours last nodes → KeepsRead d colours last nodes
reads_later law s c d colours last nodes on (inl none) = inl none
reads_later law s c d colours last nodes on (inr f) = inr (record {
  stamp = f.stamp;
  keys = f.keys;
  has = (law s c d on.client on.same on.goes colours f.stamp f.keys f.has).0;
  count = f.count;
  last_is = f.last_is;
  appended = λ rest fits.
      still_so s c d rest (take f.count f.keys) nodes
      (f.appended rest (fits_less (holds_of c) (holds_of d) rest on.goes fits));
})

-- The keys of a read go on from those of what is folded.
pub record GoesOnFrom (d : Client) (last : Option Key) (nodes : List ObjectNode) (keys : List Key) : Type 0 where
  pub front : List Key
  pub others : List Key
  pub whole : keys ≡ front ++ others
  pub last_is : last ≡ last_key front
  pub appended : (rest : Rest) → FitsHolds (holds_of d) rest → AreObjectNodes (log_seen (seen_of d) rest) front nodes

module _ (law : ReadsGoOn) (s : Store) (c d : Client) (colours : List ℕ) (last : Option Key) (nodes : List ObjectNode)
    (read : StampedRead) (some : 0 < length colours) (on : RestsOn s c d) (above : IsAboveSeen c colours read.stamp)
    (reads : ReadsOn s c d colours last read) (kept : KeepsRead c colours last nodes) where
  goes_from : KeepsRead c colours last nodes → GoesOnFrom d last nodes reads.0
  goes_from (inl none) = record {
    front = [];
    others = reads.0;
    whole = refl;
    last_is = none.0;
    appended = λ rest fits. subst (AreObjectNodes (log_seen (seen_of d) rest) []) (sym none.1) tt;
  }
  goes_from (inr f) =
      let up = read_above c colours f.stamp read.stamp f.keys some f.has above in
      let g = (law s c d on.client on.same on.goes colours f.stamp f.keys f.has).1 read.stamp reads.0 up reads.1 in
      let new = filter (is_behind (last_key f.keys)) reads.0 in record {
        front = take f.count f.keys;
        others = drop f.count f.keys ++ new;
        whole = g.whole ∙ (ap (λ (l : List Key). l ++ new) (sym (take-append-drop f.count f.keys))
            ∙ append_assoc (take f.count f.keys) (drop f.count f.keys) new);
        last_is = f.last_is;
        appended = λ rest fits.
            still_so s c d rest (take f.count f.keys) nodes
            (f.appended rest (fits_less (holds_of c) (holds_of d) rest on.goes fits));
      }

  abbrev from : GoesOnFrom d last nodes reads.0
  from = goes_from kept

  rises : AreRising (from.front ++ from.others)
  rises = subst AreRising from.whole reads.1.order.rising

  -- the items are those of the others
  behind : filter (is_behind last) reads.0 ≡ from.others
  behind =
      ap (λ (l : Option Key). filter (is_behind l) reads.0) from.last_is
      ∙ (ap (filter (is_behind (last_key from.front))) from.whole ∙ others_behind from.front from.others rises)

  shown : (rest : Rest) → FitsHolds (holds_of d) rest → AllZip (ShowsItem (log_seen (seen_of d) rest)) from.others read.items
  shown rest fits = subst (λ (l : List Key). AllZip (ShowsItem (log_seen (seen_of d) rest)) l read.items) behind (reads.2.1 rest fits)

  keys_are : keys_of read.items ≡ from.others
  keys_are = reads.2.0 ∙ behind

  -- All that was read, in the order of the region.
  pub all_appended : (rest : Rest) → FitsHolds (holds_of d) rest
      → AreObjectNodes (log_seen (seen_of d) rest) reads.0 (nodes ++ object_nodes read.items)
  all_appended rest fits =
      subst (λ (l : List Key). AreObjectNodes (log_seen (seen_of d) rest) l (nodes ++ object_nodes read.items)) (sym from.whole)
      (zip_more (log_seen (seen_of d) rest) from.front from.others nodes (object_nodes read.items) (from.appended rest fits)
      (items_are_objects (log_seen (seen_of d) rest) from.others read.items (shown rest fits)))

  -- What explains it says so too.
  pub all_explained : (Has : List ObjectNode → Type 0) → Has (nodes ++ object_nodes read.items)
      → IsExplained s c d (λ log caller kept after. ReadsAs colours last read reads.0 log caller kept after
      × (ns : List ObjectNode) × AreObjectNodes log reads.0 ns × Has ns)
  all_explained Has has objects before finished keeps =
      let x = reads.3 objects before finished keeps in (
        x.0,
        x.1,
        λ rest fits. (x.2 rest fits, nodes ++ object_nodes read.items, all_appended rest fits, has),
      )

  -- What is folded where the first of the items were fed.
  pub first_kept : (n : ℕ)
      → KeepsRead d colours (last_after last (take n read.items)) (nodes ++ object_nodes (take n read.items))
  first_kept n =
      let first = from.front ++ take n from.others in
      let count = length from.front + n in
      let taken : take count reads.0 ≡ first = ap (take count) from.whole ∙ taken_past from.front from.others n in
      inr (record {
        stamp = read.stamp;
        keys = reads.0;
        has = reads.1;
        count = count;
        last_is = ap (λ (l : Option Key). last_after l (take n read.items)) from.last_is
            ∙ (last_keys from.front (take n read.items)
            ∙ (ap (λ (l : List Key). last_key (from.front ++ l))
            (keys_taken read.items n ∙ ap (take n) keys_are)
            ∙ ap last_key (sym taken)));
        appended = λ rest fits.
            subst (λ (l : List Key). AreObjectNodes (log_seen (seen_of d) rest) l (nodes ++ object_nodes (take n read.items)))
            (sym taken)
            (zip_more (log_seen (seen_of d) rest) from.front (take n from.others) nodes (object_nodes (take n read.items))
            (from.appended rest fits)
            (items_are_objects (log_seen (seen_of d) rest) (take n from.others) (take n read.items)
            (first_shown (log_seen (seen_of d) rest) from.others read.items (shown rest fits) n)));
      })

  -- and where all were fed
  pub all_kept : KeepsRead d colours (last_after last read.items) (nodes ++ object_nodes read.items)
  all_kept =
      subst (λ (l : List PlacedNode). KeepsRead d colours (last_after last l) (nodes ++ object_nodes l))
      (take_all (length read.items) read.items (omega arith)) (first_kept (length read.items))
