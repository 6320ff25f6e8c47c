-- One colour more, whose columns the regions get.
use Rattle.std.proofs.Common.{◌≡◌, ◌≢◌, ◌⊎◌, inl, inr, ℕ, ◌+◌, ◌<◌, List, [], ◌∷◌, ◌++◌, length, set, Some, slice_get, ap, sym, subst, ◌∙◌, arith, length-set}
use Rattle.log_node.proofs.CallerLemmas.{get_push, same_some}
use Rattle.std.proofs.lemmas.Option.{slice_get_within}
use Rattle.ring_ends.specs.declared.rings.Rings.{Rings}
use Rattle.ring_ends.specs.Rings.{IsForRegions}
use Rattle.ring_ends.specs.NewRings.{AreUnused, IsJoined, AreAt, AreNewRings}
use Rattle.ring_ends.specs.Making.{AreJoined, Dealt}
use Rattle.ring_ends.proofs.Lists.{last_or_before, one_more, set_here, set_there}

-- one region more has got its column
pub dealt_more : (i : ℕ) (column : List Rings) (x : Rings) (ends : List Rings) (old now : List (List Rings))
    → Dealt column i old now → slice_get column i ≡ Some x → slice_get now i ≡ Some ends → i < length now
    → Dealt column (i + 1) old (set now i (ends ++ x ∷ []))
dealt_more i column x ends old now d at_x at within = record {
  lengths = length-set now i more ∙ d.lengths;
  before = before;
  behind = λ n le. set_there now i n more (omega (arith, le)) ∙ d.behind n (omega (arith, le));
} where
  more : List Rings
  more = ends ++ x ∷ []

  Got : ℕ → List Rings → Type 0
  Got n es = (before : List Rings) × (z : Rings) × (slice_get old n ≡ Some before) × (slice_get column n ≡ Some z)
      × (es ≡ before ++ z ∷ [])

  before : (n : ℕ) (es : List Rings) → n < i + 1 → slice_get (set now i more) n ≡ Some es → Got n es
  before n es lt e = by (last_or_before n i lt) where
    by : (n ≡ i) ⊎ (n < i) → Got n es
    by (inl is) =
        let same : more ≡ es = same_some (sym (set_here now i more within) ∙ ap (slice_get (set now i more)) (sym is) ∙ e) in
        subst (λ (m : ℕ). Got m es) (sym is) (ends, x, sym (d.behind i (omega arith)) ∙ at, at_x, sym same)
    by (inr less) = d.before n es less (sym (set_there now i n more (omega (arith, less))) ∙ e)

pub new_rings_more : (regions c : ℕ) (column : List Rings) (old new : List (List Rings)) → AreNewRings regions c old
    → AreJoined regions column → Dealt column (length column) old new → AreNewRings regions (c + 1) new
new_rings_more regions c column old new was j d = record {
  regions_of = d.lengths ∙ was.regions_of;
  colours_of = λ r ends at. let g = got r ends at in
      ap length g.4 ∙ one_more g.0 g.1 ∙ ap (λ n. n + 1) (was.colours_of r g.0 g.2);
  each = λ r colour x at. each r colour x (split r colour x at);
  joined = λ colour a b x y ne at_a at_b. joined colour a b x y ne (split a colour x at_a) (split b colour y at_b);
} where
  got : (r : ℕ) (ends : List Rings) → slice_get new r ≡ Some ends
      → (before : List Rings) × (x : Rings) × (slice_get old r ≡ Some before) × (slice_get column r ≡ Some x)
      × (ends ≡ before ++ x ∷ [])
  got r ends at =
      let within = slice_get_within new r ends at in
      let regions_new : length new ≡ length column = d.lengths ∙ was.regions_of ∙ sym j.regions_of in
      d.before r ends (subst (λ (m : ℕ). r < m) regions_new within) at

  -- a column of an earlier colour, or of this one
  Split : ℕ → ℕ → Rings → Type 0
  Split r colour x = (AreAt old r colour x × (colour < c)) ⊎ ((slice_get column r ≡ Some x) × (colour ≡ c))

  split : (r colour : ℕ) (x : Rings) → AreAt new r colour x → Split r colour x
  split r colour x at = by (get_push g.0 g.1 colour x (ap (λ l. slice_get l colour) (sym g.4) ∙ at.2)) where
    g : (before : List Rings) × (z : Rings) × (slice_get old r ≡ Some before) × (slice_get column r ≡ Some z)
        × (at.0 ≡ before ++ z ∷ [])
    g = got r at.0 at.1

    by : (slice_get g.0 colour ≡ Some x) ⊎ ((colour ≡ length g.0) × (g.1 ≡ x)) → Split r colour x
    by (inl is) = inl
        ((g.0, g.2, is), subst (λ (m : ℕ). colour < m) (was.colours_of r g.0 g.2) (slice_get_within g.0 colour x is))
    by (inr is) = inr (g.3 ∙ ap (λ (z : Rings). Some z) is.1, is.0 ∙ was.colours_of r g.0 g.2)

  each : (r colour : ℕ) (x : Rings) → Split r colour x → IsForRegions regions x × AreUnused x
  each r colour x (inl s) = was.each r colour x s.0
  each r colour x (inr s) = j.each r x s.0

  joined : (colour a b : ℕ) (x y : Rings) → a ≢ b → Split a colour x → Split b colour y → IsJoined a b x y
  joined colour a b x y ne (inl s) (inl t) = was.joined colour a b x y ne s.0 t.0
  joined colour a b x y ne (inr s) (inr t) = j.joined a b x y ne s.0 t.0
  joined colour a b x y ne (inl s) (inr t) = let lt = s.1 in let is = t.1 in absurd (let f : ⊥ = omega (arith, lt, is) in f)
  joined colour a b x y ne (inr s) (inl t) = let is = s.1 in let lt = t.1 in absurd (let f : ⊥ = omega (arith, lt, is) in f)
