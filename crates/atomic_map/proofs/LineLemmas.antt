-- The nodes of a line in rising key, and a fold that goes on over its first ones.
use Rattle.std.proofs.Common.{◌≡◌, inl, inr, ℕ, true, ◌≤◌, List, [], ◌∷◌, ◌++◌, length, take, length-take-le, Result, Ok, Err, refl, ap, sym, subst, ◌∙◌, arith}
use Rattle.std.specs.Prelude.{OnOk, nat_le}
use Rattle.std.specs.List.{AllZip}
use Rattle.std.proofs.lemmas.Bool.{le-leb}
use Rattle.log_node.specs.declared.ids.Key.{Key}
use Rattle.log_node.specs.Order.{key_below}
use Rattle.log_node.specs.Seen.{PlacedNode}
use Rattle.object_fold.specs.Nodes.{ObjectNode, object_node, object_nodes}
use Rattle.col_core.specs.Log.{Log}
use Rattle.col_core.proofs.CallerLemmas.{In, choice, in_filter}
use Rattle.playback.specs.Merging.{AreRising}
use Rattle.lawful_run.specs.Objects.{AreObjectNodes, IsObjectNode}
use Rattle.log_client.specs.Reading.{keys_of}
use Rattle.log_client.proofs.CallerLemmas.{made_from, made_of, rising_head, rising_tail}
use Rattle.atomic_map.specs.Writes.{items_up_to}
use Rattle.atomic_map.proofs.LatestWrites.{Rising, not_both}

-- the one beside another
pub beside : {A B : Type 0} (R : A → B → Type 0) (xs : List A) (ys : List B) → AllZip R xs ys → (x : A) → In x xs
    → (y : B) × In y ys × R x y
beside R [] [] all x i = absurd i
beside R [] (y ∷ ys) all x i = absurd i
beside R (z ∷ xs) [] all x i = absurd all
beside {A} R (z ∷ xs) (y ∷ ys) all x (inl e) = (y, inl refl, subst (λ (k : A). R k y) e all.0)
beside R (z ∷ xs) (y ∷ ys) all x (inr i) = let r = beside R xs ys all.1 x i in (r.0, inr r.1, r.2)

pub beside_back : {A B : Type 0} (R : A → B → Type 0) (xs : List A) (ys : List B) → AllZip R xs ys → (y : B) → In y ys
    → (x : A) × In x xs × R x y
beside_back R [] [] all y i = absurd i
beside_back R [] (z ∷ ys) all y i = absurd all
beside_back R (x ∷ xs) [] all y i = absurd i
beside_back {A} {B} R (x ∷ xs) (z ∷ ys) all y (inl e) = (x, inl refl, subst (λ (k : B). R x k) e all.0)
beside_back R (x ∷ xs) (z ∷ ys) all y (inr i) = let r = beside_back R xs ys all.1 y i in (r.0, inr r.1, r.2)

-- IN RISING KEY

pub rises_items : (xs : List PlacedNode) → AreRising (keys_of xs) → Rising (object_nodes xs)
rises_items [] r = tt
rises_items (x ∷ xs) r = (
  λ m i.
      let y = made_of object_node xs m i in
      subst (λ (n : ObjectNode). key_below x.head.key n.key ≡ true) y.2
      (rising_head x.head.key (keys_of xs) r y.0.head.key (made_from (λ (item : PlacedNode). item.head.key) xs y.0 y.1)),
  rises_items xs (rising_tail x.head.key (keys_of xs) r),
)

-- and so those up to a stamp
pub rises_up_to : (stamp : ℕ) (xs : List PlacedNode) → Rising (object_nodes xs) → Rising (object_nodes (items_up_to stamp xs))
rises_up_to stamp [] r = tt
rises_up_to stamp (x ∷ xs) r =
    choice (λ (l : List PlacedNode). Rising (object_nodes l)) (nat_le x.head.key.stamp stamp) (x ∷ items_up_to stamp xs)
    (items_up_to stamp xs)
    (λ _. (
      λ m i.
          let y = made_of object_node (items_up_to stamp xs) m i in
          let f = in_filter (λ (item : PlacedNode). nat_le item.head.key.stamp stamp) y.0 xs y.1 in
          r.0 m (subst (λ (n : ObjectNode). In n (object_nodes xs)) y.2 (made_from object_node xs y.0 f.0)),
      rises_up_to stamp xs r.1,
    ))
    (λ _. rises_up_to stamp xs r.1)

-- nodes whose keys rise
pub rises_nodes : (log : Log) (keys : List Key) (nodes : List ObjectNode) → AreRising keys → AreObjectNodes log keys nodes
    → Rising nodes
rises_nodes log [] [] r all = tt
rises_nodes log [] (n ∷ nodes) r all = absurd all
rises_nodes log (k ∷ keys) [] r all = absurd all
rises_nodes log (k ∷ keys) (n ∷ nodes) r all = (
  λ m i.
      let x = beside_back (IsObjectNode log) keys nodes all.1 m i in
      subst (λ (j : Key). key_below j m.key ≡ true) (sym all.0.key_is)
      (subst (λ (j : Key). key_below k j ≡ true) (sym x.2.key_is) (rising_head k keys r x.0 x.1)),
  rises_nodes log keys nodes (rising_tail k keys r) all.1,
)

-- HOW MANY

-- a line that begins with so many nodes up to a stamp has no fewer
pub front_up_to : (stamp : ℕ) (xs more : List PlacedNode) → ((i : PlacedNode) → In i xs → i.head.key.stamp ≤ stamp)
    → length xs ≤ length (items_up_to stamp (xs ++ more))
front_up_to stamp [] more low = omega arith
front_up_to stamp (x ∷ xs) more low =
    choice (λ (l : List PlacedNode). length (x ∷ xs) ≤ length l) (nat_le x.head.key.stamp stamp)
    (x ∷ items_up_to stamp (xs ++ more)) (items_up_to stamp (xs ++ more))
    (λ _. let rest = front_up_to stamp xs more (λ i j. low i (inr j)) in omega (arith, rest))
    (λ f. absurd (not_both (nat_le x.head.key.stamp stamp) (le-leb x.head.key.stamp stamp (low x (inl refl))) f))

-- those that a line has up to a stamp are its first
pub part_long : (end : ℕ) (line part : List PlacedNode) → take end line ≡ part → end ≤ length line → length part ≡ end
part_long end line part taken within = ap length (sym taken) ∙ length-take-le end line within

pub first_whole : (end n : ℕ) (line part : List PlacedNode) → take end line ≡ part → end ≤ length line → end ≤ n
    → n ≤ length part → take n line ≡ part
first_whole end n line part taken within le low =
    let long = part_long end line part taken within in
    let same : n ≡ end = omega (arith, le, low, long) in
    ap (λ (k : ℕ). take k line) same ∙ taken

-- what follows from what holds at Ok
pub ok_so : {A E : Type 0} (r : Result A E) (P Q : Type 0) → (P → Q) → OnOk r P → OnOk r Q
ok_so (Ok a) P Q so p = so p
ok_so (Err e) P Q so p = tt
