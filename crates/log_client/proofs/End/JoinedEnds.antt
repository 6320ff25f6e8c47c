-- The rings of the regions with which a store ends: both ends of each are at hand.
use Rattle.std.proofs.Common.{◌≡◌, ◌≢◌, ℕ, zero, suc, ◌-◌, ◌<◌, ◌≤◌, List, [], ◌∷◌, length, map, Some, slice_get, refl, ap, sym, subst, ◌∙◌, inl, inr, ◌⊎◌, arith}
use Rattle.std.specs.Prelude.{nat_lt, if◌then◌else◌}
use Rattle.std.specs.List.{All}
use Rattle.std.proofs.lemmas.Bool.{cases_lt, lt-ltb, le-ltb}
use Rattle.std.proofs.lemmas.List.{length-map}
use Rattle.std.proofs.lemmas.List.Elements.{All-cons, All-nil}
use Rattle.std.proofs.lemmas.Option.{slice_get_within}
use Rattle.col_core.specs.Log.{Log}
use Rattle.col_core.specs.Computed.{dated}
use Rattle.col_core.specs.Legal.{IsColumnHistory}
use Rattle.col_core.proofs.CallerLemmas.{if_true, if_false}
use Rattle.column.specs.Columns.{ColumnState}
use Rattle.stamp_board.specs.declared.view.Size.{Size}
use Rattle.ring_ends.specs.declared.rings.Rings.{Rings}
use Rattle.ring_ends.specs.Places.{ring_place}
use Rattle.ring_ends.specs.Rings.{names_of, IsForRegions, RingNames}
use Rattle.ring_ends.specs.NewRings.{AreAt}
use Rattle.chain_store.specs.declared.hold.Hold.{Hold}
use Rattle.chain_store.specs.declared.region.Region.{Region}
use Rattle.chain_store.specs.declared.closed.ClosedRegion.{ClosedRegion}
use Rattle.chain_store.specs.Histories.{entries_in}
use Rattle.chain_store.specs.Regions.{rings_at, tag_at}
use Rattle.chain_store.specs.Rings.{IsCopied}
use Rattle.chain_store.specs.Joined.{ends_in, AreJoined, AreCarriedAlong, EndedPast, ended_past}
use Rattle.chain_store.proofs.CallerLemmas.{copied}
use Rattle.log_client.specs.Regions.{AreRegionsOf}
use Rattle.log_client.specs.Ending.{AreRegions}
use Rattle.log_client.specs.Closing.{HaveEnded, HasEnded, AreHoldsAt, EndsColumn, EndsRegion, EndsStore}
use Rattle.log_client.proofs.Lists.{got, mapped, same_items, unmapped}
use Rattle.log_client.proofs.End.Ends.{Ended, IsEnd}

abbrev ends_of : ClosedRegion → List Rings
ends_of e = e.ends.items

-- what holds of each item, by place
all_by : {A : Type 0} (P : A → Type 0) (xs : List A) → ((n : ℕ) (x : A) → slice_get xs n ≡ Some x → P x) → All P xs
all_by P [] each = All-nil P
all_by P (x ∷ xs) each = All-cons P x xs (each 0 x refl) (all_by P xs (λ n y at. each (suc n) y at))

-- another region's place is one of those of the other regions
place_within : (own other regions : ℕ) → own < regions → other < regions → own ≢ other → ring_place own other < regions - 1
place_within own other regions own_in other_in ne = elim (cases_lt other own) [
  | inl lt ↦
      let is = if_true (nat_lt other own) other (other - 1) (lt-ltb other own lt) in omega (arith, is, lt, own_in)
  | inr le ↦
      above (if_false (nat_lt other own) other (other - 1) (le-ltb other own le)) le (cases_lt own other)
] where
  above : ring_place own other ≡ other - 1 → own ≤ other → (own < other) ⊎ (other ≤ own) → ring_place own other < regions - 1
  above is le (inl lt) = omega (arith, is, lt, other_in)
  above is le (inr ge) = absurd (ne (omega (arith, le, ge)))

-- The regions of a store have ended, of which the clients had these holds.
module _ (size : Size) (rs : List Region) (are : AreRegionsOf size rs) (clients : List (List Hold)) (ends : List ClosedRegion)
    (ended : HaveEnded rs clients ends) where
  end_at : (n : ℕ) (e : ClosedRegion) → slice_get ends n ≡ Some e
      → (r : Region) × (slice_get rs n ≡ Some r) × HasEnded clients n r e
  end_at n e at =
      let lt = slice_get_within ends n e at in
      let many = ended.0 in
      let r = got rs n (omega (arith, lt, many)) in
      (r.0, r.1, ended.1 n r.0 e r.1 at)

  ends_long : (n : ℕ) (e : ClosedRegion) → slice_get ends n ≡ Some e → length e.ends.items ≡ size.colours
  ends_long n e at =
      let r = end_at n e at in
      r.2.closed.ends ∙ ap (λ (z : Size). z.colours) (are.each n r.0 r.1).size

  -- a column's ends, by region and colour
  ends_at : (n colour : ℕ) (x : Rings) → AreAt (ends_in ends) n colour x
      → (r : Region) × (slice_get rs n ≡ Some r) × (colour < size.colours) × (names_of x ≡ rings_at r colour)
      × IsForRegions r.regions x
  ends_at n colour x at =
      let e = unmapped ends_of ends n at.0 at.1 in
      let r = end_at n e.0 e.1 in
      let there : slice_get e.0.ends.items colour ≡ Some x = ap (λ (l : List Rings). slice_get l colour) e.2 ∙ at.2 in
      let lt = slice_get_within e.0.ends.items colour x there in
      let long = ends_long n e.0 e.1 in
      let c = r.2.closed.rings colour x there in
      (r.0, r.1, omega (arith, lt, long), c.0, c.1)

  pub joined_ends : AreJoined (length rs) size.colours (ends_in ends)
  joined_ends = record {
    regions_of = length-map ends ends_of ∙ ended.0;
    colours_of = all_by (λ (l : List Rings). length l ≡ size.colours) (ends_in ends)
        (λ n l at. let e = unmapped ends_of ends n l at in
        subst (λ (q : List Rings). length q ≡ size.colours) e.2 (ends_long n e.0 e.1));
    each = λ n colour x at.
        let r = ends_at n colour x at in
        subst (λ (k : ℕ). IsForRegions k x) (are.each n r.0 r.1).regions r.4;
    joined = λ colour a b x y ne at_x at_y.
        let r = ends_at a colour x at_x in
        let s = ends_at b colour y at_y in
        ap (λ (n : RingNames). slice_get n.sends (ring_place a b)) r.3
        ∙ (are.joined colour a b r.0 s.0 r.2 ne r.1 s.1
        ∙ ap (λ (n : RingNames). slice_get n.receives (ring_place b a)) (sym s.3));
  }

-- What came out of each ring is a beginning of what went into it: so what each region carried of another is copied.
module _ (rs : List Region) (regions colours : ℕ) (clients : List (List Hold)) (ends : List ClosedRegion)
    (are : AreRegions regions rs)
    (sizes : (n : ℕ) (r : Region) → slice_get rs n ≡ Some r → r.board.size.colours ≡ colours)
    (along : AreCarriedAlong (ends_in ends)) where
  pub copied_at : (n m colour : ℕ) (x y : Ended) → IsEnd rs clients ends n x → IsEnd rs clients ends m y → n < regions
      → m < regions → n ≢ m → colour < colours
      → IsCopied (tag_at x.r colour) (x.closed.logs colour) (y.closed.logs colour)
  copied_at n m colour x y is_x is_y n_in m_in ne lt =
      let x_is = (are n x.r is_x.region).0 in
      let y_is = (are m y.r is_y.region).0 in
      let x_rings = rings_of n x is_x in
      let y_rings = rings_of m y is_y in
      let fit_x = x.closed.rings colour x_rings.0 x_rings.1 in
      let fit_y = y.closed.rings colour y_rings.0 y_rings.1 in
      let x_many = (are n x.r is_x.region).1 in
      let y_many = (are m y.r is_y.region).1 in
      let x_for = fit_x.1.0 in
      let y_for = fit_y.1.1 in
      let x_place = place_within n m regions n_in m_in ne in
      let y_place = place_within m n regions m_in n_in (λ e. ne (sym e)) in
      let s = got x_rings.0.sends.items (ring_place n m) (omega (arith, x_place, x_for, x_many)) in
      let r = got y_rings.0.receives.items (ring_place m n) (omega (arith, y_place, y_for, y_many)) in
      let c = column_of n x is_x in
      copied (tag_at x.r colour) (x.closed.logs colour) (y.closed.logs colour) s.0 r.0 (fit_x.2.sent (ring_place n m) s.0 s.1)
      (fit_y.2.received x.r.number r.0 (omega (arith, n_in, x_is, y_many)) (λ e. ne (sym x_is ∙ (e ∙ y_is)))
      (ap (λ (i : ℕ). slice_get y_rings.0.receives.items (ring_place i x.r.number)) y_is
      ∙ (ap (λ (i : ℕ). slice_get y_rings.0.receives.items (ring_place m i)) x_is ∙ r.1)))
      (along colour n m x_rings.0 y_rings.0 ne (at_of n x is_x x_rings.0 x_rings.1) (at_of m y is_y y_rings.0 y_rings.1)
      s.0 r.0 s.1 r.1)
      c.1 where
        rings_of : (k : ℕ) (z : Ended) → IsEnd rs clients ends k z
            → (rings : Rings) × (slice_get z.e.ends.items colour ≡ Some rings)
        rings_of k z is =
            let many = z.closed.ends in
            let size = sizes k z.r is.region in
            got z.e.ends.items colour (omega (arith, many, size, lt))

        at_of : (k : ℕ) (z : Ended) → IsEnd rs clients ends k z → (rings : Rings)
            → slice_get z.e.ends.items colour ≡ Some rings → AreAt (ends_in ends) k colour rings
        at_of k z is rings at = (z.e.ends.items, mapped ends_of ends k z.e is.end, at)

        column_of : (k : ℕ) (z : Ended) → IsEnd rs clients ends k z
            → (c : ColumnState) × IsColumnHistory z.r.number z.r.regions (dated z.r.number (entries_in (z.closed.logs colour)))
        column_of k z is =
            let many = z.closed.count in
            let size = sizes k z.r is.region in
            let c = got z.e.columns colour (omega (arith, many, size, lt)) in
            (c.0, (z.closed.columns colour c.0 c.1).lawful)

-- what a store ends with rests on the columns and rows of its regions alone
pub ends_alike : (regions colours : ℕ) (clients : List (List Hold)) (es ds : List ClosedRegion) (l : Log)
    → map ended_past ds ≡ map ended_past es → EndsStore regions colours clients es l
    → EndsStore regions colours clients ds l
ends_alike regions colours clients es ds l same s = record {
  many = sym (length-map ds ended_past) ∙ (ap length same ∙ (length-map es ended_past ∙ s.many));
  lawful = s.lawful;
  makers = s.makers;
  ends_with = of_region;
  copies = s.copies;
  each_client = s.each_client;
  entered = s.entered;
} where
  of_region : (n : ℕ) (d : ClosedRegion) → slice_get ds n ≡ Some d
      → (ks : List Hold) × AreHoldsAt clients n ks × EndsRegion l regions colours n ks d
  of_region n d at =
      let e = unmapped ended_past es n (ended_past d)
      (ap (λ (q : List EndedPast). slice_get q n) (sym same) ∙ mapped ended_past ds n d at) in
      let w = s.ends_with n e.0 e.1 in (
        w.0,
        w.1,
        record {
          count = subst (λ (q : EndedPast). length q.columns ≡ colours) e.2 w.2.count;
          columns = subst (λ (q : EndedPast). (colour : ℕ) (column : ColumnState) → slice_get q.columns colour ≡ Some column
              → EndsColumn l regions n colour column) e.2 w.2.columns;
          rows = ap (λ (q : EndedPast). q.rows) (sym e.2) ∙ w.2.rows;
          lawful_rows = w.2.lawful_rows;
          in_order = w.2.in_order;
          by_client = w.2.by_client;
          of_clients = w.2.of_clients;
          listed = w.2.listed;
        },
      )
