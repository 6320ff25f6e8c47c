-- Rings that are made, as columns see them.
use Rattle.std.proofs.Common.{◌≡◌, ◌⊎◌, inl, inr, ℕ, ◌+◌, ◌<◌, List, [], ◌∷◌, ◌++◌, length, map, set, Some, slice_get, ap, sym, subst, ◌∙◌, arith, length-set}
use Rattle.std.specs.List.{All}
use Rattle.log_node.proofs.CallerLemmas.{get_longer, same_some}
use Rattle.ring_ends.specs.declared.sends.Sends.{Sends}
use Rattle.ring_ends.specs.declared.receives.Receives.{Receives}
use Rattle.ring_ends.specs.declared.rings.Rings.{Rings}
use Rattle.ring_ends.specs.Rings.{RingName, RingNames, ring_sent, ring_received, names_of}
use Rattle.ring_ends.specs.NewRings.{IsNewSends, IsNewReceives}
use Rattle.ring_ends.specs.Making.{with_sends, with_receives, Leads, Joins, JoinsAt, Grows}
use Rattle.ring_ends.proofs.Lists.{last_or_before, all_more, one_more, get_new, set_here, set_there, map_more}

same_names : (a b : RingNames) → a.sends ≡ b.sends → a.receives ≡ b.receives → a ≡ b
same_names a b e f i = record { sends = e i; receives = f i }

pub leads : (x x' y y' : Rings) (s : Sends) (r : Receives) → IsNewSends s → IsNewReceives r
    → ring_sent s ≡ ring_received r
    → x'.sends.items ≡ x.sends.items ++ s ∷ [] → x'.receives.items ≡ x.receives.items
    → y'.receives.items ≡ y.receives.items ++ r ∷ [] → y'.sends.items ≡ y.sends.items
    → Leads x x' y y'
leads x x' y y' s r new_s new_r one xs xr yr ys = record {
  ring = ring_sent s;
  from = same_names (names_of x') (with_sends (names_of x) (ring_sent s))
      (ap (map ring_sent) xs ∙ map_more ring_sent x.sends.items s)
      (ap (map ring_received) xr);
  to = same_names (names_of y') (with_receives (names_of y) (ring_sent s))
      (ap (map ring_sent) ys)
      (ap (map ring_received) yr ∙ map_more ring_received y.receives.items r
      ∙ ap (λ n. map ring_received y.receives.items ++ n ∷ []) (sym one));
  unused_from = λ u. (
    subst (All IsNewSends) (sym xs) (all_more IsNewSends x.sends.items s u.0 new_s),
    subst (All IsNewReceives) (sym xr) u.1,
  );
  unused_to = λ u. (
    subst (All IsNewSends) (sym ys) u.0,
    subst (All IsNewReceives) (sym yr) (all_more IsNewReceives y.receives.items r u.1 new_r),
  );
}

pub joins : (x x' x'' y y' y'' : Rings) → Leads x x' y y' → Leads y' y'' x' x'' → Joins x x'' y y''
joins x x' x'' y y' y'' one two = record {
  there = one.ring;
  back = two.ring;
  one = two.to ∙ ap (λ n. with_receives n two.ring) one.from;
  other = two.from ∙ ap (λ n. with_sends n two.ring) one.to;
  unused_one = λ u. two.unused_to (one.unused_from u);
  unused_other = λ u. two.unused_from (one.unused_to u);
}

-- the newcomer is joined with one column more
pub grows_more : (i : ℕ) (newcomer after y y' : Rings) (old now : List Rings) → Grows i newcomer old now
    → slice_get now i ≡ Some y → i < length now → Joins y y' newcomer after → Grows (i + 1) after old (set now i y')
grows_more i newcomer after y y' old now g at within j = record {
  lengths = length-set now i y' ∙ g.lengths;
  sends = ap (λ n. length n.sends) j.other ∙ one_more (names_of newcomer).sends j.back ∙ ap (λ n. n + 1) g.sends;
  receives =
      ap (λ n. length n.receives) j.other ∙ one_more (names_of newcomer).receives j.there
      ∙ ap (λ n. n + 1) g.receives;
  unused = j.unused_other g.unused;
  before = before;
  behind = λ n le. set_there now i n y' (omega (arith, le)) ∙ g.behind n (omega (arith, le));
} where
  in_sends : (n : ℕ) (r : RingName) → slice_get ((names_of newcomer).sends ++ j.back ∷ []) n ≡ Some r
      → slice_get (names_of after).sends n ≡ Some r
  in_sends n r e = ap (λ m. slice_get m.sends n) j.other ∙ e

  in_receives : (n : ℕ) (r : RingName) → slice_get ((names_of newcomer).receives ++ j.there ∷ []) n ≡ Some r
      → slice_get (names_of after).receives n ≡ Some r
  in_receives n r e = ap (λ m. slice_get m.receives n) j.other ∙ e

  here : JoinsAt i after y y'
  here = record {
    there = j.there;
    back = j.back;
    names = j.one;
    receives = in_receives i j.there (get_new (names_of newcomer).receives j.there i g.receives);
    sends = in_sends i j.back (get_new (names_of newcomer).sends j.back i g.sends);
    unused = j.unused_one;
  }

  earlier : (n : ℕ) (x z : Rings) → JoinsAt n newcomer x z → JoinsAt n after x z
  earlier n x z a = record {
    there = a.there;
    back = a.back;
    names = a.names;
    receives = in_receives n a.there (get_longer (names_of newcomer).receives (j.there ∷ []) n a.there a.receives);
    sends = in_sends n a.back (get_longer (names_of newcomer).sends (j.back ∷ []) n a.back a.sends);
    unused = a.unused;
  }

  before : (n : ℕ) (z : Rings) → n < i + 1 → slice_get (set now i y') n ≡ Some z
      → (x : Rings) × (slice_get old n ≡ Some x) × JoinsAt n after x z
  before n z lt e = by (last_or_before n i lt) where
    by : (n ≡ i) ⊎ (n < i) → (x : Rings) × (slice_get old n ≡ Some x) × JoinsAt n after x z
    by (inl is) =
        let same : y' ≡ z = same_some (sym (set_here now i y' within) ∙ ap (slice_get (set now i y')) (sym is) ∙ e) in (
          y,
          ap (slice_get old) is ∙ sym (g.behind i (omega arith)) ∙ at,
          subst (λ (m : ℕ). JoinsAt m after y z) (sym is) (subst (JoinsAt i after y) same here),
        )
    by (inr less) =
        let was = g.before n z less (sym (set_there now i n y' (omega (arith, less))) ∙ e) in
        (was.0, was.1, earlier n was.0 z was.2)
