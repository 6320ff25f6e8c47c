-- Lists of nodes in rising key are merged, each key once.
use Rattle.std.proofs.Common.{◌≡◌, ℕ, zero, suc, ◌+◌, ◌≤◌, List, [], ◌∷◌, ◌++◌, length, take, drop, cond, Bool, true, false, refl, ap, sym, subst, ◌∙◌, inl, inr, ◌⊎◌, arith, append_assoc, append-nil}
use Rattle.std.specs.Prelude.{slice_get}
use Rattle.std.specs.Option.{option_map_or}
use Rattle.std.specs.List.{Contains, fold, prefix_len}
use Rattle.std.proofs.lemmas.List.{map-append}
use Rattle.log_node.specs.declared.ids.Key.{Key}
use Rattle.log_node.specs.Order.{same_key, key_below}
use Rattle.log_node.specs.Seen.{PlacedNode}
use Rattle.col_core.proofs.CallerLemmas.{In, by_test, contains_in, if_false, if_true, in_append, in_contains, in_left, in_right}
use Rattle.playback.specs.Merging.{merged, merged_behind}
use Rattle.log_client.specs.Reading.{keys_of}
use Rattle.log_client.specs.Items.{TakesUntil, AreMerged, AreMergedParts}

-- what is left of others behind a key
abbrev pub left_of : Key → List Key → List Key
left_of key [] = []
left_of key (other ∷ others) = cond (same_key other key) others (other ∷ others)

-- how many nodes come before it
abbrev pub count_before : Key → List PlacedNode → ℕ
count_before key others = prefix_len (λ (item : PlacedNode). key_below item.head.key key) others

behind_is : (key : Key) (rest : List Key → List Key) (others : List PlacedNode)
    → merged_behind key rest (keys_of others)
    ≡ keys_of (take (count_before key others) others) ++ key ∷ rest (left_of key (keys_of (drop (count_before key others) others)))
behind_is key rest [] = refl
behind_is key rest (other ∷ others) =
    by_test _ (key_below other.head.key key)
    (λ t. if_true (key_below other.head.key key) (other.head.key ∷ merged_behind key rest (keys_of others))
    (key ∷ rest (left_of key (keys_of (other ∷ others)))) t
    ∙ (ap (λ (l : List Key). other.head.key ∷ l) (behind_is key rest others)
    ∙ ap (λ (n : ℕ). keys_of (take n (other ∷ others)) ++ key ∷ rest (left_of key (keys_of (drop n (other ∷ others)))))
    (sym (more t))))
    (λ f. if_false (key_below other.head.key key) (other.head.key ∷ merged_behind key rest (keys_of others))
    (key ∷ rest (left_of key (keys_of (other ∷ others)))) f
    ∙ ap (λ (n : ℕ). keys_of (take n (other ∷ others)) ++ key ∷ rest (left_of key (keys_of (drop n (other ∷ others)))))
    (sym (if_false (key_below other.head.key key) (1 + count_before key others) 0 f))) where
      more : key_below other.head.key key ≡ true → count_before key (other ∷ others) ≡ suc (count_before key others)
      more t = if_true (key_below other.head.key key) (1 + count_before key others) 0 t ∙ omega arith

-- whether the node of the key stands at a position
abbrev pub stands : Key → List PlacedNode → ℕ → Bool
stands key others at = option_map_or (λ (item : PlacedNode). same_key item.head.key key) (slice_get others at) false

left_behind : (key : Key) (others : List PlacedNode) (at : ℕ) → stands key others at ≡ true
    → keys_of (drop (at + 1) others) ≡ left_of key (keys_of (drop at others))
left_behind key [] at t = absurd (none at t) where
  none : (n : ℕ) → option_map_or (λ (item : PlacedNode). same_key item.head.key key) (slice_get [] n) false ≡ true → ⊥
  none zero e = let f : ⊥ = cc in f
  none (suc n) e = let f : ⊥ = cc in f
left_behind key (other ∷ others) zero t =
    sym (if_true (same_key other.head.key key) (keys_of others) (other.head.key ∷ keys_of others) t)
left_behind key (other ∷ others) (suc at) t =
    let e : suc at + 1 ≡ suc (at + 1) = omega arith in
    ap (λ (n : ℕ). keys_of (drop n (other ∷ others))) e ∙ left_behind key others at t

left_there : (key : Key) (others : List PlacedNode) (at : ℕ) → stands key others at ≡ false
    → keys_of (drop at others) ≡ left_of key (keys_of (drop at others))
left_there key [] zero f = refl
left_there key [] (suc at) f = refl
left_there key (other ∷ others) zero f =
    sym (if_false (same_key other.head.key key) (keys_of others) (other.head.key ∷ keys_of others) f)
left_there key (other ∷ others) (suc at) f = left_there key others at f

none_dropped : (b : ℕ) → ◌≡◌ {A = List PlacedNode} (drop b []) []
none_dropped zero = refl
none_dropped (suc b) = refl

dropped : (a b : ℕ) (xs : List PlacedNode) → drop b (drop a xs) ≡ drop (a + b) xs
dropped zero b xs = let e : b ≡ zero + b = omega arith in ap (λ (n : ℕ). drop n xs) e
dropped (suc a) b [] = none_dropped b ∙ sym (none_dropped (suc a + b))
dropped (suc a) b (x ∷ xs) =
    let e : suc (a + b) ≡ suc a + b = omega arith in dropped a b xs ∙ ap (λ (n : ℕ). drop n (x ∷ xs)) e

key_dropped : (n : ℕ) (xs : List PlacedNode) → drop n (keys_of xs) ≡ keys_of (drop n xs)
key_dropped zero xs = refl
key_dropped (suc n) [] = refl
key_dropped (suc n) (x ∷ xs) = key_dropped n xs

in_dropped : (n : ℕ) (xs : List PlacedNode) (i : PlacedNode) → In i (drop n xs) → In i xs
in_dropped zero xs i j = j
in_dropped (suc n) [] i j = absurd j
in_dropped (suc n) (x ∷ xs) i j = inr (in_dropped n xs i j)

in_taken : (n : ℕ) (xs : List PlacedNode) (i : PlacedNode) → In i (take n xs) → In i xs
in_taken zero xs i j = absurd j
in_taken (suc n) [] i j = absurd j
in_taken (suc n) (x ∷ xs) i (inl e) = inl e
in_taken (suc n) (x ∷ xs) i (inr j) = inr (in_taken n xs i j)

-- what was taken, and then the item
pub taken : (item : PlacedNode) (others old new : List PlacedNode) (start next at : ℕ)
    → next ≡ start + count_before item.head.key (drop start others)
    → new ≡ (old ++ take (count_before item.head.key (drop start others)) (drop start others)) ++ item ∷ []
    → keys_of (drop at others) ≡ left_of item.head.key (keys_of (drop next others))
    → TakesUntil old new others start at item
taken item others old new start next at is made left = record {
  keys = λ rest.
      let key = item.head.key in
      let xs = drop start others in
      let n = count_before item.head.key (drop start others) in
      ap (λ (l : List Key). keys_of new ++ rest l) (key_dropped at others)
      ∙ (ap (λ (l : List PlacedNode). keys_of l ++ rest (keys_of (drop at others))) made
      ∙ (ap (λ (l : List Key). l ++ rest (keys_of (drop at others))) (keys_split)
      ∙ (joined (keys_of old) (keys_of (take n xs)) key (rest (keys_of (drop at others)))
      ∙ (ap (λ (l : List Key). keys_of old ++ (keys_of (take n xs) ++ key ∷ rest l))
      (left ∙ ap (λ (l : List PlacedNode). left_of key (keys_of l))
      (ap (λ (m : ℕ). drop m others) is ∙ sym (dropped start n others)))
      ∙ ap (λ (l : List Key). keys_of old ++ l)
      (sym (behind_is key rest xs) ∙ ap (merged_behind key rest) (sym (key_dropped start others)))))));
  among = λ i c.
      let xs = drop start others in
      let n = count_before item.head.key (drop start others) in
      let j = subst (In i) made (in_contains new i c) in
      elim (in_append i (old ++ take n xs) (item ∷ []) j) [
        | inl early ↦ elim (in_append i old (take n xs) early) [
          | inl first ↦ inl (inl (contains_in old i first))
          | inr other ↦ inl (inr (contains_in others i (in_dropped start others i (in_taken n xs i other))))
        ]
        | inr late ↦ elim late [ inl same ↦ inr (sym same) | inr none ↦ absurd none ]
      ];
} where
  keys_split : keys_of ((old ++ take (count_before item.head.key (drop start others)) (drop start others)) ++ item ∷ [])
      ≡ (keys_of old ++ keys_of (take (count_before item.head.key (drop start others)) (drop start others)))
      ++ item.head.key ∷ []
  keys_split =
      map-append (λ (i : PlacedNode). i.head.key)
      (old ++ take (count_before item.head.key (drop start others)) (drop start others)) (item ∷ [])
      ∙ ap (λ (l : List Key). l ++ item.head.key ∷ [])
      (map-append (λ (i : PlacedNode). i.head.key) old
      (take (count_before item.head.key (drop start others)) (drop start others)))

  joined : (a b : List Key) (k : Key) (c : List Key) → ((a ++ b) ++ k ∷ []) ++ c ≡ a ++ (b ++ k ∷ c)
  joined [] [] k c = refl
  joined [] (x ∷ b) k c = ap (λ (l : List Key). x ∷ l) (joined [] b k c)
  joined (x ∷ a) b k c = ap (λ (l : List Key). x ∷ l) (joined a b k c)

pub taken_then : (item : PlacedNode) (others old new : List PlacedNode) (start next at : ℕ)
    → next ≡ start + count_before item.head.key (drop start others)
    → new ≡ (old ++ take (count_before item.head.key (drop start others)) (drop start others)) ++ item ∷ []
    → stands item.head.key others next ≡ true → at ≡ next + 1 → TakesUntil old new others start at item
taken_then item others old new start next at is made there past =
    taken item others old new start next at is made
    (ap (λ (n : ℕ). keys_of (drop n others)) past ∙ left_behind item.head.key others next there)

pub taken_else : (item : PlacedNode) (others old new : List PlacedNode) (start next : ℕ)
    → next ≡ start + count_before item.head.key (drop start others)
    → new ≡ (old ++ take (count_before item.head.key (drop start others)) (drop start others)) ++ item ∷ []
    → stands item.head.key others next ≡ false → TakesUntil old new others start next item
taken_else item others old new start next is made not =
    taken item others old new start next next is made (left_there item.head.key others next not)

-- ALL OF THEM

-- what an item of a list is among others
pub into_left : (xs ys : List PlacedNode) (i : PlacedNode) → Contains xs i → Contains (xs ++ ys) i
into_left xs ys i c = contains_in (xs ++ ys) i (in_left i xs ys (in_contains xs i c))

pub into_right : (xs ys : List PlacedNode) (i : PlacedNode) → Contains ys i → Contains (xs ++ ys) i
into_right xs ys i c = contains_in (xs ++ ys) i (in_right i xs ys (in_contains ys i c))

-- The first items are merged with the first others: whatever comes behind, it is merged with the others that are left.
pub record MergedFirst (done others all : List PlacedNode) (next : ℕ) : Type 0 where
  pub within : next ≤ length others
  pub keys : (more : List PlacedNode) → keys_of all ++ merged (keys_of more) (drop next (keys_of others))
      ≡ merged (keys_of (done ++ more)) (keys_of others)
  pub among : (i : PlacedNode) → Contains all i → Contains done i ⊎ Contains others i

pub none_merged : (others : List PlacedNode) → MergedFirst [] others [] 0
none_merged others = record {
  within = omega arith;
  keys = λ more. refl;
  among = λ i c. absurd (in_contains [] i c);
}

pub merged_next : (done others old new : List PlacedNode) (start next : ℕ) (item : PlacedNode) → next ≤ length others
    → MergedFirst done others old start → TakesUntil old new others start next item
    → MergedFirst (done ++ item ∷ []) others new next
merged_next done others old new start next item within before one = record {
  within = within;
  keys = λ more.
      one.keys (merged (keys_of more))
      ∙ (before.keys (item ∷ more)
      ∙ ap (λ (l : List PlacedNode). merged (keys_of l) (keys_of others)) (sym (append_assoc done (item ∷ []) more)));
  among = λ i c. elim (one.among i c) [
    | inl other ↦ elim other [
      | inl early ↦ elim (before.among i early) [
        | inl first ↦ inl (into_left done (item ∷ []) i first)
        | inr second ↦ inr second
      ]
      | inr second ↦ inr second
    ]
    | inr same ↦ inl (into_right done (item ∷ []) i (contains_in (item ∷ []) i (inl (sym same))))
  ];
}

pub all_merged : (items others all end : List PlacedNode) (next : ℕ) → MergedFirst items others all next
    → end ≡ all ++ drop next others → AreMerged items others end
all_merged items others all end next f is = record {
  keys = ap keys_of is
      ∙ (map-append (λ (i : PlacedNode). i.head.key) all (drop next others)
      ∙ (ap (λ (l : List Key). keys_of all ++ l) (sym (key_dropped next others))
      ∙ (f.keys [] ∙ ap (λ (l : List PlacedNode). merged (keys_of l) (keys_of others)) (append-nil items))));
  among = λ i c. elim (in_append i all (drop next others) (subst (In i) is (in_contains end i c))) [
    | inl early ↦ f.among i (contains_in all i early)
    | inr late ↦ inr (contains_in others i (in_dropped next others i late))
  ];
}

-- MERGED, ONE PART AFTER ANOTHER

pub none_items : AreMergedParts [] []
none_items = record { keys = refl; among = λ i c. absurd (in_contains [] i c) }

folded : (parts : List (List PlacedNode)) (part : List PlacedNode) (keys : List Key)
    → fold (λ ks p. merged ks (keys_of p)) keys (parts ++ part ∷ [])
    ≡ merged (fold (λ ks p. merged ks (keys_of p)) keys parts) (keys_of part)
folded [] part keys = refl
folded (p ∷ parts) part keys = folded parts part (merged keys (keys_of p))

pub items_next : (parts : List (List PlacedNode)) (part items all : List PlacedNode) → AreMergedParts parts items
    → AreMerged items part all → AreMergedParts (parts ++ part ∷ []) all
items_next parts part items all before one = record {
  keys = one.keys ∙ (ap (λ (l : List Key). merged l (keys_of part)) before.keys ∙ sym (folded parts part []));
  among = λ i c. elim (one.among i c) [
    | inl early ↦
        (let x = before.among i early in
        (x.0, contains_in (parts ++ part ∷ []) x.0 (in_left x.0 parts (part ∷ []) (in_contains parts x.0 x.1)), x.2))
    | inr late ↦ (part, contains_in (parts ++ part ∷ []) part (in_right part parts (part ∷ []) (inl refl)), late)
  ];
}
