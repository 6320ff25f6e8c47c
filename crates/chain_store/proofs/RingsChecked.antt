-- Rings of which both ends were at hand.
use Rattle.std.proofs.Common.{Vec, Global, ◌≡◌, ◌≢◌, ℕ, ◌+◌, ◌<◌, List, [], ◌∷◌, ◌++◌, length, map, set, get_or, zero, suc, take, drop, Some, slice_get, refl, ap, sym, subst, ◌∙◌, arith, inl, inr}
use Rattle.std.specs.Vec.{with_item}
use Rattle.std.proofs.Math.Seq.{map-set_same}
use Rattle.std.proofs.lemmas.List.{length-drop, length-map, length-take-le, map-append, take_all, take-append-drop, take-append-le}
use Rattle.std.proofs.lemmas.Bool.{cases_eq, cases_order}
use Rattle.std.proofs.lemmas.Option.{slice_get_within, get_or_from_slice_get}
use mathlib.Core.List.{IsPrefix}
use Rattle.log_node.specs.Seen.{PlacedNode}
use Rattle.ring_ends.specs.declared.rings.Rings.{Rings}
use Rattle.ring_ends.specs.declared.sends.Sends.{Sends}
use Rattle.ring_ends.specs.declared.receives.Receives.{Receives}
use Rattle.ring_ends.specs.NewRings.{AreAt}
use Rattle.ring_ends.specs.Places.{ring_place}
use Rattle.ring_ends.specs.Rings.{gone, got, ring_received, ring_sent}
use Rattle.chain_store.specs.declared.closed.ClosedRegion.{ClosedRegion}
use Rattle.chain_store.specs.Joined.{AreBetween, AreAllBetween, AreCarriedAlong, AreJoined, BothAlong, EndedPast, IsAlong, RingsPast, ended_past, ends_in, past_of}
use Rattle.chain_store.proofs.Places.{at_image, image_at}
use Rattle.chain_store.proofs.Unused.{all_at}

-- what lists have in common by their elements

module _ {A B : Type 0} (f : A → B) (xs ys : List A) (same : map f xs ≡ map f ys) (k : ℕ) where
  pub kept_at : (x : A) → slice_get xs k ≡ Some x → (y : A) × (slice_get ys k ≡ Some y) × (f y ≡ f x)
  kept_at x at = image_at f ys k (f x) (ap (λ l. slice_get l k) (sym same) ∙ at_image f xs k x at)

  pub alike_at : (x y : A) → slice_get xs k ≡ Some x → slice_get ys k ≡ Some y → f x ≡ f y
  alike_at x y at bt =
      let two : Some (f x) ≡ Some (f y) =
      sym (at_image f xs k x at) ∙ ap (λ l. slice_get l k) same ∙ at_image f ys k y bt in cc (two)

pub alike_long : {A B : Type 0} (f : A → B) (xs ys : List A) → map f xs ≡ map f ys → length xs ≡ length ys
alike_long f xs ys same = sym (length-map xs f) ∙ ap length same ∙ length-map ys f

pub alike_set : {A B : Type 0} (f : A → B) (xs ys : List A) (k : ℕ) (new old : A) → map f xs ≡ map f ys
    → old ≡ get_or xs k old → f new ≡ f old → map f (set xs k new) ≡ map f ys
alike_set f xs ys k new old same e is = map-set_same f xs k new old (is ∙ ap f e) ∙ same

pub alike_put : {A B : Type 0} (f : A → B) (xs ys : List A) (k : ℕ) (new old : A) → map f xs ≡ map f ys
    → slice_get xs k ≡ Some old → f new ≡ f old → map f (set xs k new) ≡ map f ys
alike_put f xs ys k new old same at is = alike_set f xs ys k new old same (sym (get_or_from_slice_get xs k old old at)) is

-- one end was at hand, and is as it was

pub past_sends : (x : Rings) (k : ℕ) (new old : Sends) → old ≡ get_or x.sends.items k old
    → (ring_sent new ≡ ring_sent old) × (gone new ≡ gone old)
    → past_of (record { sends = with_item x.sends k new; receives = x.receives }) ≡ past_of x
past_sends x k new old e same =
    let names = alike_set ring_sent x.sends.items x.sends.items k new old refl e same.0 in
    let passed = alike_set gone x.sends.items x.sends.items k new old refl e same.1 in
    λ i. record {
      names = record { sends = names i; receives = map ring_received x.receives.items };
      gone_in = passed i;
      got_from = map got x.receives.items;
      left = map (λ (r : Receives). r.waiting.items) x.receives.items;
    }

pub past_receives : (x : Rings) (k : ℕ) (new old : Receives) → old ≡ get_or x.receives.items k old
    → (ring_received new ≡ ring_received old) × (got new ≡ got old) → new.waiting ≡ old.waiting
    → past_of (record { sends = x.sends; receives = with_item x.receives k new }) ≡ past_of x
past_receives x k new old e same waiting =
    let names = alike_set ring_received x.receives.items x.receives.items k new old refl e same.0 in
    let passed = alike_set got x.receives.items x.receives.items k new old refl e same.1 in
    let left = alike_set (λ (r : Receives). r.waiting.items) x.receives.items x.receives.items k new old refl e
    (ap (λ (w : Vec PlacedNode Global). w.items) waiting) in
    λ i. record {
      names = record { sends = map ring_sent x.sends.items; receives = names i };
      gone_in = map gone x.sends.items;
      got_from = passed i;
      left = left i;
    }

-- both were at hand
pub along_of : (a b : ℕ) (x y : Rings) (s : Sends) (r : Receives) → slice_get x.sends.items (ring_place a b) ≡ Some s
    → slice_get y.receives.items (ring_place b a) ≡ Some r → IsPrefix (got r) (gone s) → IsAlong a b x y
along_of a b x y s r at rat p other another bt rbt =
    let one : Some s ≡ Some other = sym at ∙ bt in
    let two : Some r ≡ Some another = sym rat ∙ rbt in
    let same : s ≡ other = cc (one) in
    let like : r ≡ another = cc (two) in
    subst (λ (z : Receives). IsPrefix (got z) (gone other)) like (subst (λ (z : Sends). IsPrefix (got r) (gone z)) same p)

-- what is said of ends is said of what went through them

module _ (x y : Rings) (same : past_of x ≡ past_of y) where
  sends_long : length x.sends.items ≡ length y.sends.items
  sends_long = alike_long gone x.sends.items y.sends.items (ap (λ (p : RingsPast). p.gone_in) same)

  receives_long : length x.receives.items ≡ length y.receives.items
  receives_long = alike_long got x.receives.items y.receives.items (ap (λ (p : RingsPast). p.got_from) same)

module _ (a b : ℕ) (x y p q : Rings) (first : past_of x ≡ past_of p) (second : past_of y ≡ past_of q) where
  pub between_past : (regions : ℕ) → AreBetween regions a b p q → AreBetween regions a b x y
  between_past regions are = record {
    first = (sends_long x p first ∙ are.first.0, receives_long x p first ∙ are.first.1);
    second = (sends_long y q second ∙ are.second.0, receives_long y q second ∙ are.second.1);
    there = ap (λ (z : RingsPast). slice_get z.names.sends (ring_place a b)) first ∙ are.there
        ∙ ap (λ (z : RingsPast). slice_get z.names.receives (ring_place b a)) (sym second);
    back = ap (λ (z : RingsPast). slice_get z.names.sends (ring_place b a)) second ∙ are.back
        ∙ ap (λ (z : RingsPast). slice_get z.names.receives (ring_place a b)) (sym first);
  }

  pub along_past : IsAlong a b x y → IsAlong a b p q
  along_past along s r at rat =
      let t = kept_at gone p.sends.items x.sends.items (ap (λ (z : RingsPast). z.gone_in) (sym first)) (ring_place a b) s at in
      let u = kept_at got q.receives.items y.receives.items (ap (λ (z : RingsPast). z.got_from) (sym second))
      (ring_place b a) r rat in
      subst (λ (l : List PlacedNode). IsPrefix l (gone s)) u.2
      (subst (λ (l : List PlacedNode). IsPrefix (got u.0) l) t.2 (along t.0 u.0 t.1 u.1))

-- and so it is by colour
module _ (a b : ℕ) (xs ys ps qs : List Rings) (first : map past_of xs ≡ map past_of ps)
    (second : map past_of ys ≡ map past_of qs) where
  pub between_at : (regions k : ℕ) (x y : Rings) → AreAllBetween regions a b ps qs → slice_get xs k ≡ Some x
      → slice_get ys k ≡ Some y → AreBetween regions a b x y
  between_at regions k x y all at bt =
      let p = kept_at past_of xs ps first k x at in
      let q = kept_at past_of ys qs second k y bt in
      between_past a b x y p.0 q.0 (sym p.2) (sym q.2) regions (all.1 k p.0 q.0 p.1 q.1)

  pub all_between : (regions : ℕ) → AreAllBetween regions a b ps qs → AreAllBetween regions a b xs ys
  all_between regions all = (
    alike_long past_of xs ps first ∙ all.0 ∙ sym (alike_long past_of ys qs second),
    λ k x y at bt. between_at regions k x y all at bt,
  )

  both_at : (k : ℕ) (x y p q : Rings) → slice_get xs k ≡ Some x → slice_get ys k ≡ Some y → slice_get ps k ≡ Some p
      → slice_get qs k ≡ Some q → IsAlong a b x y × IsAlong b a y x → IsAlong a b p q × IsAlong b a q p
  both_at k x y p q at bt pat qat along =
      let e = alike_at past_of xs ps first k x p at pat in
      let f = alike_at past_of ys qs second k y q bt qat in
      (along_past a b x y p q e f along.0, along_past b a y x q p f e along.1)

  pub both_more : (k : ℕ) (x y : Rings) → slice_get xs k ≡ Some x → slice_get ys k ≡ Some y → BothAlong k a b ps qs
      → IsAlong a b x y × IsAlong b a y x → BothAlong (k + 1) a b ps qs
  both_more k x y at bt old along j p q lt pat qat = elim (cases_eq j k) [
    | inl e ↦ both_at k x y p q at bt (ap (slice_get ps) (sym e) ∙ pat) (ap (slice_get qs) (sym e) ∙ qat) along
    | inr ne ↦ old j p q (omega (arith, lt, ne)) pat qat
  ]

  pub both_past : BothAlong (length xs) a b xs ys → BothAlong (length ps) a b ps qs
  both_past along j p q lt pat qat =
      let x = kept_at past_of ps xs (sym first) j p pat in
      let y = kept_at past_of qs ys (sym second) j q qat in
      both_at j x.0 y.0 p q x.1 y.1 pat qat (along j x.0 y.0 (slice_get_within xs j x.0 x.1) x.1 y.1)

-- the rings between a region and those before it

abbrev pub AlongBelow : ℕ → List ClosedRegion → ClosedRegion → ℕ → Type 0
AlongBelow n low last own =
    (a : ℕ) (x : ClosedRegion) → a < n → slice_get low a ≡ Some x
    → BothAlong (length x.ends.items) a own x.ends.items last.ends.items

pub ends_past : (x y : ClosedRegion) → ended_past x ≡ ended_past y
    → map past_of x.ends.items ≡ map past_of y.ends.items
ends_past x y same = ap (λ (p : EndedPast). p.rings) same

-- a region with other ends of the same past
pub ended_as : (x : ClosedRegion) (ends : Vec Rings Global) → map past_of ends.items ≡ map past_of x.ends.items
    → ended_past (record { columns = x.columns; rows = x.rows; ends = ends }) ≡ ended_past x
ended_as x ends same = λ i. record { columns = x.columns; rows = x.rows; rings = same i }

module _ (low first : List ClosedRegion) (last kept : ClosedRegion) (same : map ended_past low ≡ map ended_past first)
    (as_was : ended_past last ≡ ended_past kept) (own a : ℕ) (x : ClosedRegion) (at : slice_get low a ≡ Some x) where
  pub joined_now : (regions : ℕ)
      → ((b : ℕ) (y : ClosedRegion) → slice_get first b ≡ Some y
      → AreAllBetween regions b own y.ends.items kept.ends.items)
      → AreAllBetween regions a own x.ends.items last.ends.items
  joined_now regions all =
      let y = kept_at ended_past low first same a x at in
      all_between a own x.ends.items last.ends.items y.0.ends.items kept.ends.items (ends_past x y.0 (sym y.2))
      (ends_past last kept as_was) regions (all a y.0 y.1)

  pub below_more : AlongBelow a first kept own → BothAlong (length x.ends.items) a own x.ends.items last.ends.items
      → AlongBelow (a + 1) first kept own
  below_more old new b y lt bt = elim (cases_eq b a) [
    | inl e ↦
        subst (λ (k : ℕ). BothAlong (length y.ends.items) k own y.ends.items kept.ends.items) (sym e)
        (both_past a own x.ends.items last.ends.items y.ends.items kept.ends.items
        (ends_past x y (alike_at ended_past low first same a x y at (ap (slice_get first) (sym e) ∙ bt)))
        (ends_past last kept as_was) new)
    | inr ne ↦ old b y (omega (arith, lt, ne)) bt
  ]

-- a list that was split

module _ {A : Type 0} where
  pub get_front : (m : ℕ) (xs : List A) (a : ℕ) → a < m → slice_get (take m xs) a ≡ slice_get xs a
  get_front zero xs a lt = absurd (omega (arith, lt))
  get_front (suc m) [] a lt = refl
  get_front (suc m) (x ∷ xs) zero lt = refl
  get_front (suc m) (x ∷ xs) (suc a) lt = get_front m xs a (omega (arith, lt))

  pub get_back : (m : ℕ) (xs : List A) → slice_get (drop m xs) 0 ≡ slice_get xs m
  get_back zero xs = refl
  get_back (suc m) [] = refl
  get_back (suc m) (x ∷ xs) = get_back m xs

-- what is left of it where each part keeps what is known
pub parts_kept : {A B : Type 0} (f : A → B) (xs low high front back : List A) (own len : ℕ) → low ≡ take own xs
    → high ≡ drop own xs → len ≡ length xs → map f front ≡ map f low → map f back ≡ map f high
    → map f (take len ((front ++ back) ++ drop (length (front ++ back)) xs)) ≡ map f xs
parts_kept {A} {B} f xs low high front back own len is_low is_high is_long first second =
    let all = front ++ back in
    let same : map f all ≡ map f xs =
    map-append f front back ∙ (λ i. first i ++ second i) ∙ sym (map-append f low high)
    ∙ ap (map f) ((λ i. is_low i ++ is_high i) ∙ take-append-drop own xs) in
    let long = alike_long f all xs same in
    ap (map f) (take-append-le len all (drop (length all) xs) (omega (arith, long, is_long))
    ∙ take_all len all (omega (arith, long, is_long))) ∙ same

-- the rings of all regions

module _ (regions colours : ℕ) (first : List ClosedRegion) (joined : AreJoined regions colours (ends_in first)) where
  ends_at : (a : ℕ) (x : ClosedRegion) → slice_get first a ≡ Some x → slice_get (ends_in first) a ≡ Some x.ends.items
  ends_at a x at = at_image (λ (c : ClosedRegion). c.ends.items) first a x at

  joined_first : (a b : ℕ) (x y : ClosedRegion) → a ≢ b → slice_get first a ≡ Some x → slice_get first b ≡ Some y
      → AreAllBetween regions a b x.ends.items y.ends.items
  joined_first a b x y ne at bt = (
    all_at (λ (ends : List Rings). length ends ≡ colours) (ends_in first) a x.ends.items (ends_at a x at) joined.colours_of
        ∙ sym (all_at (λ (ends : List Rings). length ends ≡ colours) (ends_in first) b y.ends.items (ends_at b y bt)
        joined.colours_of),
    λ k p q pat qat.
        let here : AreAt (ends_in first) a k p = (x.ends.items, ends_at a x at, pat) in
        let there : AreAt (ends_in first) b k q = (y.ends.items, ends_at b y bt, qat) in record {
          first = joined.each a k p here;
          second = joined.each b k q there;
          there = joined.joined k a b p q ne here there;
          back = joined.joined k b a q p (λ e. ne (sym e)) there here;
        },
  )

  pub some_left : (xs high : List ClosedRegion) (own : ℕ) → map ended_past xs ≡ map ended_past first → own < regions
      → high ≡ drop own xs → 0 < length high
  some_left xs high own same lt is_high =
      let long = alike_long ended_past xs first same in
      let many = length-map first (λ (c : ClosedRegion). c.ends.items) in
      let all = joined.regions_of in
      let left = ap length is_high ∙ length-drop own xs in
      omega (arith, long, many, all, left, lt)

  -- rings of regions of which both ends were at hand, for those below a number
  abbrev pub AlongAll : ℕ → Type 0
  AlongAll n =
      (a b : ℕ) (x y : ClosedRegion) → a < b → b < n → slice_get first a ≡ Some x → slice_get first b ≡ Some y
      → BothAlong (length x.ends.items) a b x.ends.items y.ends.items

  module _ (xs : List ClosedRegion) (same : map ended_past xs ≡ map ended_past first) (low : List ClosedRegion) (own : ℕ)
      (is_low : low ≡ take own xs) (z : ClosedRegion) (at : slice_get xs own ≡ Some z) where
    low_long : length low ≡ own
    low_long =
        let near = slice_get_within xs own z at in
        ap length is_low ∙ length-take-le own xs (omega (arith, near))

    of_low : (a : ℕ) (x : ClosedRegion) → slice_get low a ≡ Some x → (a < own) × (slice_get xs a ≡ Some x)
    of_low a x there =
        let near = slice_get_within low a x there in
        let long = low_long in
        let lt : a < own = omega (arith, near, long) in
        (lt, sym (get_front own xs a lt) ∙ ap (λ l. slice_get l a) (sym is_low) ∙ there)

    pub below_joined : (a : ℕ) (x : ClosedRegion) → slice_get low a ≡ Some x
        → AreAllBetween regions a (length low) x.ends.items z.ends.items
    below_joined a x there =
        let t = of_low a x there in
        let lt = t.0 in
        let p = kept_at ended_past xs first same a x t.1 in
        let q = kept_at ended_past xs first same own z at in
        subst (λ (n : ℕ). AreAllBetween regions a n x.ends.items z.ends.items) (sym low_long)
        (all_between a own x.ends.items z.ends.items p.0.ends.items q.0.ends.items (ends_past x p.0 (sym p.2))
        (ends_past z q.0 (sym q.2)) regions
        (joined_first a own p.0 q.0 (λ e. omega (arith, e, lt)) p.1 q.1))

    pub all_more : AlongAll own
        → ((a : ℕ) (x : ClosedRegion) → slice_get low a ≡ Some x
        → BothAlong (length x.ends.items) a (length low) x.ends.items z.ends.items)
        → AlongAll (own + 1)
    all_more old new a b x y lt within there bt = elim (cases_eq b own) [
      | inl e ↦
          let less : a < own = omega (arith, lt, e) in
          let p = kept_at ended_past first xs (sym same) a x there in
          let here : slice_get low a ≡ Some p.0 =
          ap (λ l. slice_get l a) is_low ∙ get_front own xs a less ∙ p.1 in
          let along = subst (λ (n : ℕ). BothAlong (length p.0.ends.items) a n p.0.ends.items z.ends.items) low_long
          (new a p.0 here) in
          subst (λ (n : ℕ). BothAlong (length x.ends.items) a n x.ends.items y.ends.items) (sym e)
          (both_past a own p.0.ends.items z.ends.items x.ends.items y.ends.items (ends_past p.0 x p.2)
          (ends_past z y (alike_at ended_past xs first same own z y at (ap (slice_get first) (sym e) ∙ bt))) along)
      | inr ne ↦ old a b x y lt (omega (arith, within, ne)) there bt
    ]

  pub all_along : AlongAll regions → AreCarriedAlong (ends_in first)
  all_along all k a b x y ne here there =
      let c = image_at (λ (c : ClosedRegion). c.ends.items) first a here.0 here.1 in
      let d = image_at (λ (c : ClosedRegion). c.ends.items) first b there.0 there.1 in
      let xat : slice_get c.0.ends.items k ≡ Some x = ap (λ (l : List Rings). slice_get l k) c.2 ∙ here.2 in
      let yat : slice_get d.0.ends.items k ≡ Some y = ap (λ (l : List Rings). slice_get l k) d.2 ∙ there.2 in
      let long = sym (length-map first (λ (c : ClosedRegion). c.ends.items)) ∙ joined.regions_of in
      let first_in = slice_get_within first a c.0 c.1 in
      let second_in = slice_get_within first b d.0 d.1 in
      elim (cases_order a b) [
        | inl e ↦ absurd (ne e)
        | inr (inl less) ↦
            (all a b c.0 d.0 less (omega (arith, long, second_in)) c.1 d.1 k x y (slice_get_within c.0.ends.items k x xat)
            xat yat).0
        | inr (inr more) ↦
            (all b a d.0 c.0 more (omega (arith, long, first_in)) d.1 c.1 k y x (slice_get_within d.0.ends.items k y yat)
            yat xat).1
      ]
