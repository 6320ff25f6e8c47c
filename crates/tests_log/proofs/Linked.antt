-- The rings between two regions of a test, from when they are made to the end.
use Rattle.std.proofs.Common.{◌≡◌, ◌≢◌, ◌<◌, ◌⊎◌, ℕ, zero, suc, List, [], ◌∷◌, ◌++◌, length, Some, slice_get, inl, inr, refl, ap, sym, subst, ◌∙◌, arith}
use Rattle.std.specs.List.{All}
use Rattle.std.proofs.lemmas.List.Elements.{All-cons, All-nil}
use Rattle.std.proofs.lemmas.Option.{slice_get_within}
use Rattle.log_node.proofs.CallerLemmas.{same_some, get_within}
use Rattle.ring_ends.specs.declared.rings.Rings.{Rings}
use Rattle.ring_ends.specs.Rings.{names_of, RingNames, IsForRegions}
use Rattle.ring_ends.specs.NewRings.{AreAt, AreNewRings, IsJoined}
use Rattle.chain_store.specs.declared.region.Region.{Region}
use Rattle.chain_store.specs.declared.closed.ClosedRegion.{ClosedRegion}
use Rattle.chain_store.specs.declared.hold.Hold.{Hold}
use Rattle.chain_store.specs.Closing.{Closed}
use Rattle.stamp_board.specs.declared.view.Size.{Size}
use Rattle.stamp_board.proofs.CallerLemmas.{last_two}
use Rattle.chain_store.specs.Regions.{rings_at}
use Rattle.chain_store.specs.Opening.{AreNewEnds}
use Rattle.chain_store.specs.Joined.{ends_in, AreJoined}
use Rattle.tests_log.specs.Clients.{small, AreLinked, EndsSmall}

-- a region's ends of new rings
pub ends_new : (regions colours n : ℕ) (all : List (List Rings)) (ends : List Rings) → AreNewRings regions colours all
    → slice_get all n ≡ Some ends → (length ends ≡ colours) × AreNewEnds regions ends
ends_new regions colours n all ends new at = (
  new.colours_of n ends at,
  λ colour rings there. new.each n colour rings (ends, at, there),
)

-- two regions that have the ends of new rings are linked
pub new_linked : (east west : Region) (all : List (List Rings)) (xs ys : List Rings) → AreNewRings 2 2 all
    → slice_get all 0 ≡ Some xs → slice_get all 1 ≡ Some ys
    → ((colour : ℕ) (x : Rings) → slice_get xs colour ≡ Some x → rings_at east colour ≡ names_of x)
    → ((colour : ℕ) (y : Rings) → slice_get ys colour ≡ Some y → rings_at west colour ≡ names_of y)
    → AreLinked east west
new_linked east west all xs ys new at_east at_west of_east of_west = record {
  there = λ colour lt. let x = got_x colour lt in let y = got_y colour lt in
      ap (λ (n : RingNames). slice_get n.sends 0) (of_east colour x.0 x.1)
      ∙ new.joined colour 0 1 x.0 y.0 (λ e. absurd (let f : ⊥ = omega (arith, e) in f)) (xs, at_east, x.1) (ys, at_west, y.1)
      ∙ sym (ap (λ (n : RingNames). slice_get n.receives 0) (of_west colour y.0 y.1));
  back = λ colour lt. let x = got_x colour lt in let y = got_y colour lt in
      ap (λ (n : RingNames). slice_get n.sends 0) (of_west colour y.0 y.1)
      ∙ new.joined colour 1 0 y.0 x.0 (λ e. absurd (let f : ⊥ = omega (arith, e) in f)) (ys, at_west, y.1) (xs, at_east, x.1)
      ∙ sym (ap (λ (n : RingNames). slice_get n.receives 0) (of_east colour x.0 x.1));
} where
  got_x : (colour : ℕ) → colour < 2 → (x : Rings) × (slice_get xs colour ≡ Some x)
  got_x colour lt = let many = (ends_new 2 2 0 all xs new at_east).0 in get_within xs colour (omega (arith, lt, many))

  got_y : (colour : ℕ) → colour < 2 → (y : Rings) × (slice_get ys colour ≡ Some y)
  got_y colour lt = let many = (ends_new 2 2 1 all ys new at_west).0 in get_within ys colour (omega (arith, lt, many))

-- the two regions' ends, taken from the last on
pub both_ends : (regions colours : ℕ) (all ys xs : List (List Rings)) (t s : List Rings) → regions ≡ 2 → colours ≡ 2
    → AreNewRings regions colours all → all ≡ ys ++ t ∷ [] → ys ≡ xs ++ s ∷ []
    → AreNewRings 2 2 all × (slice_get all 0 ≡ Some s) × (slice_get all 1 ≡ Some t)
both_ends regions colours all ys xs t s two two' new e e' =
    let new' = subst (λ (n : ℕ). AreNewRings n 2 all) two (subst (λ (n : ℕ). AreNewRings regions n all) two' new) in
    let at = last_two all ys xs t s new'.regions_of e e' in
    (new', at.0, at.1)

-- The ends of two regions that are linked.
module _ (east west : Region) (x y : ClosedRegion) (linked : AreLinked east west) (ends_x : EndsSmall east x)
    (ends_y : EndsSmall west y) where
  abbrev all : List (List Rings)
  all = ends_in (x ∷ y ∷ [])

  two_at : (a : ℕ) (ends : List Rings) → slice_get all a ≡ Some ends
      → ((a ≡ 0) × (x.ends.items ≡ ends)) ⊎ ((a ≡ 1) × (y.ends.items ≡ ends))
  two_at zero ends at = inl (refl, same_some at)
  two_at (suc zero) ends at = inr (refl, same_some at)
  two_at (suc (suc a)) ends at = absurd (let f : ⊥ = cc (at) in f)

  long : (a : ℕ) (ends : List Rings) → slice_get all a ≡ Some ends → length ends ≡ 2
  long a ends at = elim (two_at a ends at) [
    | inl is ↦ ap length (sym is.1) ∙ ends_x.count
    | inr is ↦ ap length (sym is.1) ∙ ends_y.count
  ]

  pub ends_joined : AreJoined 2 2 (ends_in (x ∷ y ∷ []))
  ends_joined = record {
    regions_of = refl;
    colours_of = All-cons (λ (ends : List Rings). length ends ≡ 2) x.ends.items (y.ends.items ∷ []) ends_x.count
        (All-cons (λ (ends : List Rings). length ends ≡ 2) y.ends.items [] ends_y.count (All-nil (λ (ends : List Rings). length ends ≡ 2)));
    each = λ a colour rings at. elim (two_at a at.0 at.1) [
      | inl is ↦ (ends_x.rings colour rings (there x.ends.items at.0 colour rings is.1 at.2)).1
      | inr is ↦ (ends_y.rings colour rings (there y.ends.items at.0 colour rings is.1 at.2)).1
    ];
    joined = λ colour a b r s ne at_r at_s. both colour a b r s ne at_r.0 at_s.0 at_r.2 at_s.2 (long a at_r.0 at_r.1)
        (two_at a at_r.0 at_r.1) (two_at b at_s.0 at_s.1);
  } where
    there : (own ends : List Rings) (colour : ℕ) (rings : Rings) → own ≡ ends → slice_get ends colour ≡ Some rings
        → slice_get own colour ≡ Some rings
    there own ends colour rings is at = ap (λ (l : List Rings). slice_get l colour) is ∙ at

    both : (colour a b : ℕ) (r s : Rings) → a ≢ b → (ends ends' : List Rings) → slice_get ends colour ≡ Some r
        → slice_get ends' colour ≡ Some s → length ends ≡ 2
        → ((a ≡ 0) × (x.ends.items ≡ ends)) ⊎ ((a ≡ 1) × (y.ends.items ≡ ends))
        → ((b ≡ 0) × (x.ends.items ≡ ends')) ⊎ ((b ≡ 1) × (y.ends.items ≡ ends')) → IsJoined a b r s
    both colour a b r s ne ends ends' at_r at_s many (inl is) (inl is') = absurd (ne (is.0 ∙ sym is'.0))
    both colour a b r s ne ends ends' at_r at_s many (inr is) (inr is') = absurd (ne (is.0 ∙ sym is'.0))
    both colour a b r s ne ends ends' at_r at_s many (inl is) (inr is') =
        let first = (ends_x.rings colour r (there x.ends.items ends colour r is.1 at_r)).0 in
        let second = (ends_y.rings colour s (there y.ends.items ends' colour s is'.1 at_s)).0 in
        let lt = slice_get_within ends colour r at_r in
        let same : slice_get (names_of r).sends 0 ≡ slice_get (names_of s).receives 0 =
        ap (λ (n : RingNames). slice_get n.sends 0) first ∙ linked.there colour (omega (arith, lt, many))
        ∙ sym (ap (λ (n : RingNames). slice_get n.receives 0) second) in
        subst (λ (k : ℕ). IsJoined k b r s) (sym is.0) (subst (λ (k : ℕ). IsJoined 0 k r s) (sym is'.0) same)
    both colour a b r s ne ends ends' at_r at_s many (inr is) (inl is') =
        let first = (ends_y.rings colour r (there y.ends.items ends colour r is.1 at_r)).0 in
        let second = (ends_x.rings colour s (there x.ends.items ends' colour s is'.1 at_s)).0 in
        let lt = slice_get_within ends colour r at_r in
        let same : slice_get (names_of r).sends 0 ≡ slice_get (names_of s).receives 0 =
        ap (λ (n : RingNames). slice_get n.sends 0) first ∙ linked.back colour (omega (arith, lt, many))
        ∙ sym (ap (λ (n : RingNames). slice_get n.receives 0) second) in
        subst (λ (k : ℕ). IsJoined k b r s) (sym is.0) (subst (λ (k : ℕ). IsJoined 1 k r s) (sym is'.0) same)

-- a small region ends with its columns' ends of rings
pub ends_small : (r : Region) (hs : List Hold) (closed : ClosedRegion) → r.regions ≡ 2 → r.board.size ≡ small
    → Closed r hs closed → EndsSmall r closed
ends_small r hs closed two size ends = record {
  count = ends.ends ∙ ap (λ (z : Size). z.colours) size;
  rings = λ colour rings at. let k = ends.rings colour rings at in
      (k.0, subst (λ (n : ℕ). IsForRegions n rings) two k.1);
}
