-- One region more, which comes to those before it.
use Rattle.std.proofs.Common.{◌≡◌, ◌≢◌, ◌⊎◌, inl, inr, ℕ, ◌+◌, ◌-◌, ◌<◌, List, [], ◌∷◌, ◌++◌, length, Some, slice_get, ap, sym, subst, ◌∙◌, arith}
use Rattle.log_node.proofs.CallerLemmas.{get_push}
use Rattle.std.proofs.lemmas.Option.{slice_get_within}
use Rattle.std.proofs.lemmas.List.{length-map}
use Rattle.ring_ends.specs.declared.rings.Rings.{Rings}
use Rattle.ring_ends.specs.Places.{ring_place}
use Rattle.ring_ends.specs.Rings.{ring_sent, ring_received, names_of, IsForRegions}
use Rattle.ring_ends.specs.NewRings.{AreUnused, IsJoined}
use Rattle.ring_ends.specs.Making.{JoinsAt, Grows, AreJoined}
use Rattle.ring_ends.proofs.Lists.{one_more, get_old, get_new}

pub place_before : (own other : ℕ) → other < own → ring_place own other ≡ other
place_before own other lt = grind (arith, lt)

pub place_behind : (own other : ℕ) → own < other → ring_place own other ≡ other - 1
place_behind own other lt = grind (arith, lt)

-- a place among the other regions of one of k regions
pub place_within : (k own other : ℕ) → own < k → other < k → own ≢ other → ring_place own other < k - 1
place_within k own other lt lu ne = grind (arith, lt, lu, ne)

of_names : (k : ℕ) (x : Rings) → length (names_of x).sends ≡ k → length (names_of x).receives ≡ k
    → IsForRegions (k + 1) x
of_names k x s r =
    let less : k ≡ k + 1 - 1 = omega arith in (
      sym (length-map x.sends.items ring_sent) ∙ (s ∙ less),
      sym (length-map x.receives.items ring_received) ∙ (r ∙ less),
    )

pub joined_more : (k : ℕ) (newcomer : Rings) (old new : List Rings) → AreJoined k old → Grows (length old) newcomer old new
    → AreJoined (k + 1) (new ++ newcomer ∷ [])
joined_more k newcomer old new was g = record {
  regions_of = one_more new newcomer ∙ ap (λ n. n + 1) long;
  each = λ n x at. each n x (get_push new newcomer n x at);
  joined = λ a b x y ne at_a at_b. joined a b x y ne (get_push new newcomer a x at_a) (get_push new newcomer b y at_b);
} where
  long : length new ≡ k
  long = g.lengths ∙ was.regions_of

  -- one of the regions that were there
  Was : ℕ → Rings → Type 0
  Was n x = (x0 : Rings) × (slice_get old n ≡ Some x0) × JoinsAt n newcomer x0 x × (n < k)

  earlier : (n : ℕ) (x : Rings) → slice_get new n ≡ Some x → Was n x
  earlier n x at =
      let lt : n < k = subst (λ (m : ℕ). n < m) long (slice_get_within new n x at) in
      let b = g.before n x (subst (λ (m : ℕ). n < m) (sym was.regions_of) lt) at in
      (b.0, b.1, b.2, lt)

  sends_of : (n : ℕ) (x : Rings) (w : Was n x) → length (names_of w.0).sends ≡ k - 1
  sends_of n x w = length-map w.0.sends.items ring_sent ∙ (was.each n w.0 w.1).0.0

  receives_of : (n : ℕ) (x : Rings) (w : Was n x) → length (names_of w.0).receives ≡ k - 1
  receives_of n x w = length-map w.0.receives.items ring_received ∙ (was.each n w.0 w.1).0.1

  new_sends : length (names_of newcomer).sends ≡ k
  new_sends = g.sends ∙ was.regions_of

  new_receives : length (names_of newcomer).receives ≡ k
  new_receives = g.receives ∙ was.regions_of

  each : (n : ℕ) (x : Rings) → (slice_get new n ≡ Some x) ⊎ ((n ≡ length new) × (newcomer ≡ x))
      → IsForRegions (k + 1) x × AreUnused x
  each n x (inl at) =
      let w = earlier n x at in
      let lt = w.3 in
      let more : (k - 1) + 1 ≡ k = omega (arith, lt) in (
        of_names k x
            (ap (λ m. length m.sends) w.2.names ∙ one_more (names_of w.0).sends w.2.there
            ∙ ap (λ m. m + 1) (sends_of n x w) ∙ more)
            (ap (λ m. length m.receives) w.2.names ∙ one_more (names_of w.0).receives w.2.back
            ∙ ap (λ m. m + 1) (receives_of n x w) ∙ more),
        w.2.unused (was.each n w.0 w.1).1,
      )
  each n x (inr is) =
      subst (λ (r : Rings). IsForRegions (k + 1) r × AreUnused r) is.1
      (of_names k newcomer new_sends new_receives, g.unused)

  joined : (a b : ℕ) (x y : Rings) → a ≢ b → (slice_get new a ≡ Some x) ⊎ ((a ≡ length new) × (newcomer ≡ x))
      → (slice_get new b ≡ Some y) ⊎ ((b ≡ length new) × (newcomer ≡ y)) → IsJoined a b x y
  joined a b x y ne (inl at_a) (inl at_b) =
      let v = earlier a x at_a in
      let w = earlier b y at_b in
      let first : ring_place a b < length (names_of v.0).sends =
      subst (λ (m : ℕ). ring_place a b < m) (sym (sends_of a x v)) (place_within k a b v.3 w.3 ne) in
      let second : ring_place b a < length (names_of w.0).receives =
      subst (λ (m : ℕ). ring_place b a < m) (sym (receives_of b y w)) (place_within k b a w.3 v.3 (λ e. ne (sym e))) in
      ap (λ m. slice_get m.sends (ring_place a b)) v.2.names
      ∙ (get_old (names_of v.0).sends v.2.there (ring_place a b) first
      ∙ (was.joined a b v.0 w.0 ne v.1 w.1
      ∙ (sym (get_old (names_of w.0).receives w.2.back (ring_place b a) second)
      ∙ sym (ap (λ m. slice_get m.receives (ring_place b a)) w.2.names))))
  joined a b x y ne (inl at_a) (inr is) =
      let v = earlier a x at_a in
      let last : b ≡ k = is.0 ∙ long in
      let less : a < b = subst (λ (m : ℕ). a < m) (sym last) v.3 in
      let behind : length (names_of v.0).sends ≡ b - 1 = sends_of a x v ∙ ap (λ m. m - 1) (sym last) in
      ap (λ m. slice_get m.sends (ring_place a b)) v.2.names
      ∙ (get_new (names_of v.0).sends v.2.there (ring_place a b) (behind ∙ sym (place_behind a b less))
      ∙ (sym v.2.receives
      ∙ (ap (slice_get (names_of newcomer).receives) (sym (place_before b a less))
      ∙ ap (λ r. slice_get (names_of r).receives (ring_place b a)) is.1)))
  joined a b x y ne (inr is) (inl at_b) =
      let w = earlier b y at_b in
      let last : a ≡ k = is.0 ∙ long in
      let less : b < a = subst (λ (m : ℕ). b < m) (sym last) w.3 in
      let behind : length (names_of w.0).receives ≡ a - 1 = receives_of b y w ∙ ap (λ m. m - 1) (sym last) in
      sym (ap (λ r. slice_get (names_of r).sends (ring_place a b)) is.1)
      ∙ (ap (slice_get (names_of newcomer).sends) (place_before a b less)
      ∙ (w.2.sends
      ∙ (sym (get_new (names_of w.0).receives w.2.back (ring_place b a) (behind ∙ sym (place_behind b a less)))
      ∙ sym (ap (λ m. slice_get m.receives (ring_place b a)) w.2.names))))
  joined a b x y ne (inr is) (inr are) = absurd (ne (is.0 ∙ sym are.0))
