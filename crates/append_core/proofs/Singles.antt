-- The point of an append to one colour.
use Rattle.std.proofs.Common.{◌≡◌, ℕ, ◌<◌, List, [], ◌∷◌, ◌++◌, length, take, Option, Some, None, slice_get, refl, ap, sym, subst, ◌∙◌, inl, inr, ◌⊎◌, append-nil}
use Rattle.std.specs.Prelude.{IfSome}
use Rattle.std.specs.List.{position}
use Rattle.std.proofs.lemmas.List.{length-map, map-append}
use Rattle.log_node.specs.declared.ids.Key.{Key}
use Rattle.log_node.specs.declared.node.At.{At}
use Rattle.log_node.specs.declared.node.Node.{Node}
use Rattle.log_node.specs.Order.{same_key}
use Rattle.col_core.specs.declared.Entry.{Entry}
use Rattle.col_core.specs.History.{entry_key, line}
use Rattle.col_core.specs.Computed.{dated}
use Rattle.col_core.specs.Legal.{IsColumnHistory}
use Rattle.col_core.specs.Ids.{IsFinal}
use Rattle.col_core.specs.Rows.{node_wants}
use Rattle.col_core.proofs.CallerLemmas.{singles_stay}
use Rattle.stamp_board.specs.declared.seats.Seat.{Seat}
use Rattle.stamp_board.specs.Seats.{seen as seat_seen}
use Rattle.stamp_board.specs.Views.{Grows}
use Rattle.stamp_board.proofs.CallerLemmas.{Grows-refl}
use Rattle.chain_store.specs.declared.told.Told.{Told}
use Rattle.chain_store.specs.declared.hold.Hold.{Hold}
use Rattle.chain_store.specs.declared.region.Region.{Region}
use Rattle.chain_store.specs.Histories.{entries_in}
use Rattle.chain_store.specs.Columns.{told_single}
use Rattle.chain_store.specs.Guarded.{wanted, IsNext, MakesNext}
use Rattle.chain_store.specs.Holds.{IsHold, SameBut, MakesOneIn, seen_in, entries_seen, view_of}
use Rattle.append_core.specs.declared.stood.Stood.{Stood}
use Rattle.chain_store.specs.Going.{GoesOn}
use Rattle.append_core.specs.Helping.{HelpsOpen}
use Rattle.append_core.specs.Standing.{IsSingleOf, HoldAppendsOne, HoldAppendsNext}
use Rattle.chain_store.proofs.CallerLemmas.{lawful_seen, goes_same, goes_then, goes_weaken, makes_on}
use Rattle.append_core.proofs.Helped.{helped_longer}
use Rattle.append_core.proofs.Places.{prefix_length, prefix_get, at_end, at_image}
use Rattle.append_core.proofs.Placed.{key_placed}

module _ (r : Region) (g m : Hold) (x : Node) (colour stamp : ℕ) (at : At)
    (one : MakesOneIn colour g m (told_single colour g.passes.number x stamp) at) where
  there : slice_get (seen_in m colour) (length one.before) ≡ Some (told_single colour g.passes.number x stamp)
  there = subst (λ (l : List Told). slice_get l (length one.before) ≡ Some (told_single colour g.passes.number x stamp))
      (sym one.adds) (at_end one.before (told_single colour g.passes.number x stamp))

  -- its key is final
  pub single_final : IsHold r m → colour < r.board.size.colours → IsFinal (entries_seen m colour) x.id stamp
  single_final is lt =
      let history = entries_seen m colour in
      let whole = subst (λ (l : List Entry). IsColumnHistory r.number r.regions (dated r.number l))
      (sym (append-nil history)) (lawful_seen r m colour is lt) in
      subst (λ (l : List Entry). IsFinal l x.id stamp) (append-nil history)
      (singles_stay r.number r.regions history [] x.id stamp whole (
        length one.before,
        (told_single colour g.passes.number x stamp).entry,
        x.floor,
        node_wants x colour,
        at_image (λ (t : Told). t.entry) (seen_in m colour) (length one.before)
            (told_single colour g.passes.number x stamp) there,
        refl,
        refl,
      )).final

  -- and stands where the answer says
  pub stands_alone : (h : Hold) (position : ℕ) (s : Stood) → SameBut colour g m → m.seat ≡ g.seat
      → GoesOn (λ c e. HelpsOpen m h e) m h
      → slice_get (line (entries_seen h colour)) position ≡ Some (entry_key stamp x.id)
      → s.key ≡ entry_key stamp x.id → s.points ≡ record { colour = colour; at = at; position = position } ∷ []
      → HoldAppendsOne g h x colour s
  stands_alone h position s but seat on stands key points = record {
    stamp = stamp;
    place = length one.before;
    position = position;
    key = key;
    point = points ∙ (λ i. record { colour = colour; at = one.place i; position = position } ∷ []);
    unseen = prefix_length (seen_in g colour) one.before one.more;
    entered = prefix_get (seen_in m colour) (seen_in h colour) (length one.before)
        (told_single colour g.passes.number x stamp) (on.more colour) there;
    stands = stands;
    goes = goes_then (λ c e. ((c ≡ colour) × IsSingleOf x.id e) ⊎ HelpsOpen g h e) g m h
        (makes_on (λ c e. ((c ≡ colour) × IsSingleOf x.id e) ⊎ HelpsOpen g h e) colour g m but
        (told_single colour g.passes.number x stamp) at one refl (inl (refl, refl)))
        (goes_weaken (λ c e. HelpsOpen g h e) m h (λ c e. ((c ≡ colour) × IsSingleOf x.id e) ⊎ HelpsOpen g h e)
        (λ c e it. inr it)
        (helped_longer (λ c e. (c ≡ colour) × IsSingleOf x.id e) (λ c e. HelpsOpen m h e) g m h h
        (makes_on (λ c e. (c ≡ colour) × IsSingleOf x.id e) colour g m but
        (told_single colour g.passes.number x stamp) at one refl (refl, refl))
        (subst (λ (t : Seat). Grows (view_of g) (seat_seen t)) (sym seat) (Grows-refl (view_of g)))
        (goes_same (λ c e. HelpsOpen m h e) h h refl) (Grows-refl (view_of h)) on));
  }

-- all that stood before the last
take_front : {A : Type 0} (xs ys : List A) → take (length xs) (xs ++ ys) ≡ xs
take_front [] ys = refl
take_front {A} (x ∷ xs) ys = ap (λ (l : List A). x ∷ l) (take_front xs ys)

-- an append that came next
module _ (r : Region) (g m : Hold) (x : Node) (colour stamp : ℕ) (at : At)
    (next : MakesNext g.passes.number (told_single colour g.passes.number x stamp) (wanted r.number colour x)
    (seen_in g colour) (seen_in m colour) at) where
  -- what was seen right before its event
  before_own : IsNext (take (length next.made.before) (entries_seen m colour)) (wanted r.number colour x)
  before_own =
      let t = told_single colour g.passes.number x stamp in
      let before = entries_in next.made.before in
      let whole : entries_seen m colour ≡ before ++ t.entry ∷ [] =
      ap entries_in next.made.adds ∙ map-append (λ (u : Told). u.entry) next.made.before (t ∷ []) in
      let is : take (length next.made.before) (entries_seen m colour) ≡ before =
      ap (take (length next.made.before)) whole
      ∙ ap (λ (n : ℕ). take n (before ++ t.entry ∷ [])) (sym (length-map next.made.before (λ (u : Told). u.entry)))
      ∙ take_front before (t.entry ∷ []) in
      subst (λ (l : List Entry). IsNext l (wanted r.number colour x)) (sym is) next.next

  pub next_alone : (position : ℕ) (s : Stood) → SameBut colour g m → m.seat ≡ g.seat
      → slice_get (line (entries_seen m colour)) (wanted r.number colour x) ≡ Some (entry_key stamp x.id)
      → position ≡ wanted r.number colour x → s.key ≡ entry_key stamp x.id
      → s.points ≡ record { colour = colour; at = at; position = position } ∷ []
      → HoldAppendsNext r.number g m x colour s
  unfolding stands_alone
  next_alone position s but seat stands is key points = record {
    one = stands_alone r g m x colour stamp at next.made m position s but seat
        (goes_same (λ c e. HelpsOpen m m e) m m refl)
        (subst (λ (n : ℕ). slice_get (line (entries_seen m colour)) n ≡ Some (entry_key stamp x.id)) (sym is) stands) key
        points;
    next = before_own;
    there = is;
    alone = makes_on (λ c e. (c ≡ colour) × IsSingleOf x.id e) colour g m but (told_single colour g.passes.number x stamp)
        at next.made refl (refl, refl);
  }

-- a known place of a key is its position
pub known_place : (keys : List Key) (key : Key) (found : Option ℕ)
    → found ≡ position (λ (k : Key). same_key k key) keys → IfSome found (λ p. slice_get keys p ≡ Some key)
known_place keys key None e = tt
known_place keys key (Some p) e = key_placed keys key p (sym e)
