-- The lines that a map of several keys keeps while its client goes on, and as they fold on.
use Rattle.std.proofs.Common.{◌≡◌, ◌≢◌, ◌⊎◌, inl, inr, ℕ, zero, suc, true, ◌<◌, ◌≤◌, ◌^◌, List, [], ◌∷◌, ◌++◌, length, length-set, take, Some, set, refl, ap, sym, subst, ◌∙◌, arith, append-nil}
use Rattle.std.specs.Prelude.{nat_lt, slice_get, slice_index_or}
use Rattle.std.specs.List.{All, list_all, range_with_len}
use Rattle.std.specs.Vec.{with_item}
use Rattle.std.proofs.lemmas.Bool.{and_from, cases_eq, lt-ltb}
use Rattle.std.proofs.lemmas.List.Elements.{All-cons, All-contains, All-nil}
use Rattle.std.proofs.lemmas.Option.{slice_get_read}
use Rattle.log_node.specs.declared.ids.Colours.{Colours}
use Rattle.log_node.specs.declared.ids.Key.{Key}
use Rattle.log_node.specs.declared.forms.Pair.{Pair}
use Rattle.log_node.specs.declared.limits.TheConstants.{MAX_COLOURS}
use Rattle.log_node.specs.Seen.{PlacedNode}
use Rattle.log_node.specs.Sets.{has, members}
use Rattle.col_core.specs.declared.Entry.{Entry}
use Rattle.col_core.specs.Computed.{dated}
use Rattle.col_core.specs.History.{clock, entries, line}
use Rattle.col_core.specs.Legal.{IsColumnHistory}
use Rattle.log_node.proofs.CallerLemmas.{has-low}
use Rattle.object_fold.specs.declared.kept_line.KeptLine.{KeptLine}
use Rattle.object_fold.specs.Tables.{value_at}
use Rattle.object_fold.specs.Folds.{FoldsFirst}
use Rattle.col_core.proofs.CallerLemmas.{In, clocks_rise, contains_in, in_append, in_filter, in_left, in_line, in_right}
use Rattle.lawful_run.specs.Asks.{keys_of_pairs as pair_keys, shards}
use Rattle.log_client.specs.declared.store.Store.{Store}
use Rattle.log_client.specs.declared.client.Client.{Client}
use Rattle.log_client.specs.Appends.{AreColoursOf}
use Rattle.log_client.specs.Clients.{IsClient, own_line, seen_of, tracks_of}
use Rattle.log_client.specs.Objects.{HasColoursOf}
use Rattle.log_client.specs.Reading.{RestsOn, home_seen, keys_of}
use Rattle.log_client.specs.StampedReads.{IsAboveSeen, ReadsGoOn}
use Rattle.log_client.proofs.CallerLemmas.{client_sees_on, folds_none, follows_later, line_first, line_rises, made_from, rests_same, shards_of_store, tracks_long}
use Rattle.atomic_map.specs.declared.line_writes.LastWrite.{LastWrite}
use Rattle.atomic_map.specs.declared.line_writes.LineWrites.{LineWrites}
use Rattle.atomic_map.specs.declared.atomic.AtomicMap.{AtomicMap}
use Rattle.atomic_map.specs.Colours.{AreFew}
use Rattle.atomic_map.specs.Writes.{HoldsShardWrites, items_up_to}
use Rattle.atomic_map.specs.Several.{CanGoOn, HasSameLast, IsAtomicMapOf, IsFolded, IsLineOf, Opens}
use Rattle.atomic_map.proofs.LineLemmas.{front_up_to}

-- COLOURS

pub few_tested : (colours : List ℕ) → All (λ c. c < MAX_COLOURS) colours → AreFew colours
few_tested colours few = each colours (λ c i. All-contains (λ k. k < MAX_COLOURS) colours c few (contains_in colours c i))
  where
    each : (xs : List ℕ) → ((c : ℕ) → In c xs → c < MAX_COLOURS) → AreFew xs
    each [] low = refl
    each (x ∷ xs) low =
        and_from (nat_lt x MAX_COLOURS) (list_all (λ c. nat_lt c MAX_COLOURS) xs)
        (lt-ltb x MAX_COLOURS (low x (inl refl))) (each xs (λ c i. low c (inr i)))

-- a set is that of the shards of keys
pub of_keys : (set : Colours) (found colours : List ℕ) (keys asked : List (List ℕ)) → members set ≡ shards found keys
    → found ≡ colours → keys ≡ asked → members set ≡ shards colours asked
of_keys set found colours keys asked are same all =
    are ∙ (ap (λ (l : List ℕ). shards l keys) same ∙ ap (shards colours) all)

module _ (s : Store) (c : Client) (colours : List ℕ) (is : IsClient s c) (are : HasColoursOf c colours) (keys : List (List ℕ))
    (some : 0 < length keys) (set : Colours) (bits : set.0 < 2 ^ MAX_COLOURS) (members_are : members set ≡ shards colours keys) where
  -- the set of the shards of keys is of the store
  pub of_store : AreColoursOf s set
  of_store = shards_of_store s c colours is are keys some set bits members_are

  -- and its colours are few
  pub few_members : (k : ℕ) → has set k ≡ true → k < MAX_COLOURS
  few_members k of = has-low set k bits of

pub keys_some : (pairs : List Pair) → 1 ≤ length pairs → 0 < length (pair_keys pairs)
keys_some [] none = absurd (let f : ⊥ = omega (arith, none) in f)
keys_some (p ∷ pairs) one = omega arith

-- a member of a set
has_member : (set : Colours) (k : ℕ) → In k (members set) → has set k ≡ true
has_member set k i = (in_filter (has set) k (range_with_len 0 MAX_COLOURS) i).1

all_of : (P : ℕ → Type 0) (xs : List ℕ) → ((x : ℕ) → In x xs → P x) → All P xs
all_of P [] each = All-nil P
all_of P (x ∷ xs) each = All-cons P x xs (each x (inl refl)) (all_of P xs (λ y i. each y (inr i)))

-- WHAT IS KEPT

-- what is kept stays right
pub lines_later : (s : Store) (c d : Client) (m : AtomicMap) → IsClient s c → RestsOn s c d → IsAtomicMapOf c m
    → IsAtomicMapOf d m
lines_later s c d m is on of = record {
  colours = record {
    some = of.colours.some;
    within = subst (λ (n : ℕ). All (λ k. k < n) m.colours) (sym (tracks_long s c d is on.client)) of.colours.within;
    few = of.colours.few;
  };
  lines = λ colour one at. let kept = of.lines colour one at in record {
    colours_are = kept.colours_are;
    folds = follows_later c d colour one.count (HoldsShardWrites one.state) on.grows kept.folds;
  };
}

-- whatever is known of reads
pub map_later : ReadsGoOn → (s : Store) (c d : Client) → RestsOn s c d → (m : AtomicMap) → IsClient s c → IsAtomicMapOf c m
    → IsAtomicMapOf d m
map_later law s c d on m is of = lines_later s c d m is on of

-- LINES THAT ARE NEW

pub opens_none : (m : AtomicMap) → Opens m m
opens_none m = record { same = (refl, refl, refl); lines = λ colour one at. inl at }

pub opens_same : (m n p : AtomicMap) → HasSameLast n p → p.lines.items ≡ n.lines.items → Opens m n → Opens m p
opens_same m n p same items o = record {
  same = (same.0 ∙ o.same.0, same.1 ∙ o.same.1, same.2 ∙ o.same.2);
  lines = λ colour one at. o.lines colour one (ap (λ (l : List (KeptLine LineWrites)). slice_get l colour) (sym items) ∙ at);
}

pub opens_more : (m n p : AtomicMap) (new : KeptLine LineWrites) → HasSameLast n p → p.lines.items ≡ n.lines.items ++ new ∷ []
    → new.count ≡ 0 → new.state.colours ≡ n.colours → new.state.writes.entries ≡ [] → Opens m n → Opens m p
opens_more m n p new same items none colours empty o = record {
  same = (same.0 ∙ o.same.0, same.1 ∙ o.same.1, same.2 ∙ o.same.2);
  lines = λ colour one at. elim (split n.lines.items colour one (ap (λ (l : List (KeptLine LineWrites)). slice_get l colour) (sym items) ∙ at)) [
    | inl early ↦ o.lines colour one early
    | inr is ↦ inr (
      ap (λ (x : KeptLine LineWrites). x.count) (sym is) ∙ none,
      ap (λ (x : KeptLine LineWrites). x.state.colours) (sym is) ∙ (colours ∙ o.same.1),
      ap (λ (x : KeptLine LineWrites). x.state.writes.entries) (sym is) ∙ empty,
    )
  ];
} where
  split : (xs : List (KeptLine LineWrites)) (k : ℕ) (one : KeptLine LineWrites) → slice_get (xs ++ new ∷ []) k ≡ Some one
      → (slice_get xs k ≡ Some one) ⊎ (new ≡ one)
  split [] zero one e = inr (let f : new ≡ one = cc (e) in f)
  split [] (suc k) one e = absurd (let f : ⊥ = cc (e) in f)
  split (x ∷ xs) zero one e = inl e
  split (x ∷ xs) (suc k) one e = split xs k one e

pub opens_map : (c : Client) (m n : AtomicMap) → Opens m n → IsAtomicMapOf c m → IsAtomicMapOf c n
opens_map c m n o of = record {
  colours = subst (HasColoursOf c) (sym o.same.1) of.colours;
  lines = λ colour one at. elim (o.lines colour one at) [
    | inl early ↦ subst (λ (cs : List ℕ). IsLineOf c cs colour one) (sym o.same.1) (of.lines colour one early)
    | inr new ↦ record {
      colours_are = new.1 ∙ sym o.same.1;
      folds = folds_none (own_line c colour) one.count (HoldsShardWrites one.state) new.0
          (λ key. ap (λ (es : List (List ℕ × LastWrite)). value_at es key) new.2);
    }
  ];
}

pub opens_goes : (c : Client) (m n : AtomicMap) (stamp : ℕ) (ks : List ℕ) → Opens m n → All (CanGoOn c m stamp) ks
    → All (CanGoOn c n stamp) ks
opens_goes c m n stamp ks o goes =
    all_of (CanGoOn c n stamp) ks
    (λ k i. let g = All-contains (CanGoOn c m stamp) ks k goes (contains_in ks k i) in record {
      within = g.within;
      few = g.few;
      rising = g.rising;
      low = λ one at. elim (o.lines k one at) [
        | inl early ↦ g.low one early
        | inr none ↦ (let zeros = none.0 in omega (arith, zeros))
      ];
    })

-- WHAT CAN FOLD ON

-- the stamps of a line are not above the clock
line_low : (own regions : ℕ) (h : List Entry) → IsColumnHistory own regions (dated own h) → (key : Key) → In key (line h)
    → key.stamp ≤ clock h
line_low own regions h lawful key i =
    let e = in_line (entries h) key i in
    let r = clocks_rise own regions h []
    (subst (λ (l : List Entry). IsColumnHistory own regions (dated own l)) (sym (append-nil h)) lawful) in
    subst (λ (k : Key). k.stamp ≤ clock h) e.2
    (subst (λ (l : List Entry). e.0.key.stamp ≤ clock l) (append-nil h)
    (r.stamps e.0 (contains_in (entries (h ++ [])) e.0
    (subst (λ (l : List Entry). In e.0 (entries l)) (sym (append-nil h)) e.1))))

played_low : (s : Store) (c : Client) (k : ℕ) → IsClient s c → k < length (tracks_of c) → (i : PlacedNode)
    → In i (own_line c k) → i.head.key.stamp ≤ clock (home_seen c k)
played_low s c k is lt i j =
    let p = line_first s c k is lt in
    line_low c.region (length s.regions) (home_seen c k)
    ((client_sees_on s c c [] is (rests_same s c is).goes).lawful c.region k) i.head.key
    (subst (In i.head.key) p.1
    (in_left i.head.key (keys_of (own_line c k)) p.0
    (made_from (λ (item : PlacedNode). item.head.key) (own_line c k) i j)))

-- what the client has read can be folded
pub can_go_on : (s : Store) (c d : Client) (m : AtomicMap) (set : Colours) (stamp : ℕ) → IsClient s c → RestsOn s c d
    → IsAtomicMapOf c m → AreColoursOf s set → ((k : ℕ) → has set k ≡ true → k < MAX_COLOURS)
    → IsAboveSeen c (members set) stamp → All (CanGoOn d m stamp) (members set)
can_go_on s c d m set stamp is on of of_set few above =
    all_of (CanGoOn d m stamp) (members set)
    (λ k i.
    let inside = has_member set k i in
    let lt = of_set.within k inside in record {
      within = let long = on.client.colours in omega (arith, lt, long);
      few = few k inside;
      rising = line_rises s d on.client k;
      low = λ one at.
          let f = (of.lines k one at).folds in
          let le = f.0 in
          let p = (on.grows k).1 in
          let high = All-contains (λ n. clock (seen_of c c.region n) ≤ stamp) (members set) k above (contains_in (members set) k i) in
          let front = front_up_to stamp (own_line c k) p.0 (λ j among.
          let low = played_low s c k is (let long = is.colours in omega (arith, lt, long)) j among in omega (arith, low, high)) in
          subst (λ (l : List PlacedNode). one.count ≤ length (items_up_to stamp l)) p.1 (omega (arith, le, front));
    })

-- WHILE THEY FOLD ON

set_there : (xs : List (KeptLine LineWrites)) (n : ℕ) (x y : KeptLine LineWrites) → slice_get xs n ≡ Some y → slice_get (set xs n x) n ≡ Some x
set_there [] n x y e = absurd (let f : ⊥ = cc (e) in f)
set_there (z ∷ xs) zero x y e = refl
set_there (z ∷ xs) (suc n) x y e = set_there xs n x y e

set_elsewhere : (xs : List (KeptLine LineWrites)) (n j : ℕ) (x : KeptLine LineWrites) → j ≢ n → slice_get (set xs n x) j ≡ slice_get xs j
set_elsewhere [] n j x ne = refl
set_elsewhere (z ∷ xs) zero zero x ne = absurd (ne refl)
set_elsewhere (z ∷ xs) zero (suc j) x ne = refl
set_elsewhere (z ∷ xs) (suc n) zero x ne = refl
set_elsewhere (z ∷ xs) (suc n) (suc j) x ne = set_elsewhere xs n j x (λ e. ne (ap suc e))

-- The lines of the first of these colours are folded up to the stamp.
pub record FoldsLines (c : Client) (old new : AtomicMap) (stamp : ℕ) (first left all : List ℕ) : Type 0 where
  pub same : HasSameLast old new
  pub map : IsAtomicMapOf c new
  pub long : length new.lines.items ≡ length old.lines.items
  pub apart : first ++ left ≡ all
  pub goes : All (CanGoOn c new stamp) all
  pub whole : All (IsFolded c new stamp) first

pub none_folded : (c : Client) (m : AtomicMap) (stamp : ℕ) (all : List ℕ) → IsAtomicMapOf c m → All (CanGoOn c m stamp) all
    → FoldsLines c m m stamp [] all all
none_folded c m stamp all of goes = record {
  same = (refl, refl, refl);
  map = of;
  long = refl;
  apart = refl;
  goes = goes;
  whole = All-nil (IsFolded c m stamp);
}

-- where none is left, all are folded
pub all_folded : (c : Client) (m n : AtomicMap) (stamp : ℕ) (first all : List ℕ) → FoldsLines c m n stamp first [] all
    → All (IsFolded c n stamp) all
all_folded c m n stamp first all f = subst (All (IsFolded c n stamp)) (sym (append-nil first) ∙ f.apart) f.whole

-- the next of the colours is one of theirs
pub next_of : (P : ℕ → Type 0) (first : List ℕ) (k : ℕ) (left all : List ℕ) → first ++ k ∷ left ≡ all → All P all → P k
next_of P first k left all apart each =
    All-contains P all k each (contains_in all k (subst (In k) apart (in_right k first (k ∷ left) (inl refl))))

module _ (c : Client) (m n : AtomicMap) (stamp k : ℕ) (first left all : List ℕ) (old : KeptLine LineWrites)
    (f : FoldsLines c m n stamp first (k ∷ left) all) (many : MAX_COLOURS ≤ length m.lines.items)
    (value : old ≡ slice_index_or n.lines.items k old) (shown : List PlacedNode) (shown_is : shown ≡ own_line c k) where
  goes : CanGoOn c n stamp k
  goes = next_of (CanGoOn c n stamp) first k left all f.apart f.goes

  there : slice_get n.lines.items k ≡ Some old
  there =
      let few = goes.few in
      let long = f.long in
      slice_get_read n.lines.items (length n.lines.items) k old refl (omega (arith, few, long, many)) value

  -- the next line can fold on
  pub next_folds : FoldsFirst shown old.count (HoldsShardWrites old.state)
  next_folds =
      subst (λ (l : List PlacedNode). FoldsFirst l old.count (HoldsShardWrites old.state)) (sym shown_is)
      (f.map.lines k old there).folds

  pub next_low : old.count ≤ length (items_up_to stamp shown)
  next_low =
      subst (λ (l : List PlacedNode). old.count ≤ length (items_up_to stamp l)) (sym shown_is) (goes.low old there)

  module _ (new : KeptLine LineWrites) (stays : new.state.colours ≡ old.state.colours)
      (folds_shown : FoldsFirst shown new.count (HoldsShardWrites new.state))
      (low_shown : new.count ≤ length (items_up_to stamp shown)) where
    is_line : IsLineOf c n.colours k new
    is_line = record {
      colours_are = stays ∙ (f.map.lines k old there).colours_are;
      folds = subst (λ (l : List PlacedNode). FoldsFirst l new.count (HoldsShardWrites new.state)) shown_is folds_shown;
    }

    low : new.count ≤ length (items_up_to stamp (own_line c k))
    low = subst (λ (l : List PlacedNode). new.count ≤ length (items_up_to stamp l)) shown_is low_shown

    -- the map with the line that went on
    abbrev then_map : AtomicMap
    then_map = record n { lines = with_item n.lines k new }

    -- the line of a colour is the new one, or as it was
    at_colour : (P : KeptLine LineWrites → Type 0) (j : ℕ) → (j ≡ k → P new)
        → ((one : KeptLine LineWrites) → slice_get n.lines.items j ≡ Some one → P one)
        → (one : KeptLine LineWrites) → slice_get then_map.lines.items j ≡ Some one → P one
    at_colour P j here other one at = elim (cases_eq j k) [
      | inl e ↦
          (let same : new ≡ one =
          let x : Some new ≡ Some one =
          sym (set_there n.lines.items k new old there) ∙ (ap (slice_get (set n.lines.items k new)) (sym e) ∙ at) in
          let g : new ≡ one = cc (x) in g in
          subst P same (here e))
      | inr ne ↦ other one (sym (set_elsewhere n.lines.items k j new ne) ∙ at)
    ]

    pub next_map : IsAtomicMapOf c then_map
    next_map = record {
      colours = f.map.colours;
      lines = λ j. at_colour (IsLineOf c n.colours j) j
          (λ e. subst (λ (i : ℕ). IsLineOf c n.colours i new) (sym e) is_line) (f.map.lines j);
    }

    next_goes : (j : ℕ) → CanGoOn c n stamp j → CanGoOn c then_map stamp j
    next_goes j g = record {
      within = g.within;
      few = g.few;
      rising = g.rising;
      low = at_colour (λ one. one.count ≤ length (items_up_to stamp (own_line c j))) j
          (λ e. subst (λ (i : ℕ). new.count ≤ length (items_up_to stamp (own_line c i))) (sym e) low) g.low;
    }

    -- where the line is folded up to the stamp
    pub folded_next : take new.count shown ≡ items_up_to stamp shown
        → FoldsLines c m then_map stamp (first ++ k ∷ []) left all
    folded_next whole = record {
      same = f.same;
      map = next_map;
      long = length-set n.lines.items k new ∙ f.long;
      apart = append_one first ∙ f.apart;
      goes = all_of (CanGoOn c then_map stamp) all
          (λ j i. next_goes j (All-contains (CanGoOn c n stamp) all j f.goes (contains_in all j i)));
      whole = all_of (IsFolded c then_map stamp) (first ++ k ∷ []) (λ j i. folded j (in_append j first (k ∷ []) i));
    } where
      append_one : (xs : List ℕ) → (xs ++ k ∷ []) ++ left ≡ xs ++ k ∷ left
      append_one [] = refl
      append_one (x ∷ xs) = ap (λ (l : List ℕ). x ∷ l) (append_one xs)

      whole_line : take new.count (own_line c k) ≡ items_up_to stamp (own_line c k)
      whole_line = subst (λ (l : List PlacedNode). take new.count l ≡ items_up_to stamp l) shown_is whole

      here : IsFolded c then_map stamp k
      here = record { line = new; there = set_there n.lines.items k new old there; whole = whole_line }

      folded : (j : ℕ) → In j first ⊎ In j (k ∷ []) → IsFolded c then_map stamp j
      folded j (inr (inl e)) = subst (IsFolded c then_map stamp) e here
      folded j (inr (inr none)) = absurd none
      folded j (inl i) = elim (cases_eq j k) [
        | inl e ↦ subst (IsFolded c then_map stamp) (sym e) here
        | inr ne ↦
            (let g = All-contains (IsFolded c n stamp) first j f.whole (contains_in first j i) in record {
              line = g.line;
              there = set_elsewhere n.lines.items k j new ne ∙ g.there;
              whole = g.whole;
            })
      ]
