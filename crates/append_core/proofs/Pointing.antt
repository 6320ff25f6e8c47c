-- Points of an append, one of which is set anew.
use Rattle.std.proofs.Common.{◌≡◌, ◌≢◌, ℕ, zero, suc, ◌<◌, List, [], ◌∷◌, set, Some, slice_get, true, refl, ap, sym, subst, ◌∙◌}
use Rattle.std.proofs.lemmas.Option.{get_or_from_slice_get}
use Rattle.std.proofs.Math.Seq.{map-set_same}
use Rattle.log_node.specs.declared.ids.Colours.{Colours}
use Rattle.log_node.specs.Seen.{BegunAppend}
use Rattle.log_node.specs.Sets.{has, members}
use Rattle.chain_store.specs.declared.hold.Hold.{Hold}
use Rattle.chain_store.specs.declared.region.Region.{Region}
use Rattle.chain_store.specs.Holds.{KnowsAppend}
use Rattle.chain_store.proofs.CallerLemmas.{member_has}
use Rattle.append_core.specs.declared.stood.Point.{Point}
use Rattle.append_core.specs.Inside.{ArePointsOf}
use Rattle.append_core.proofs.Marked.{colour_within}
use Rattle.append_core.proofs.Places.{at_image}

module _ {A : Type 0} where
  pub set_other : (xs : List A) (n : ℕ) (y : A) (i : ℕ) → i ≢ n → slice_get (set xs n y) i ≡ slice_get xs i
  set_other [] n y i ne = refl
  set_other (x ∷ xs) zero y zero ne = absurd (ne refl)
  set_other (x ∷ xs) zero y (suc i) ne = refl
  set_other (x ∷ xs) (suc n) y zero ne = refl
  set_other (x ∷ xs) (suc n) y (suc i) ne = set_other xs n y i (λ e. ne (ap suc e))

  pub set_here : (xs : List A) (n : ℕ) (y z : A) → slice_get (set xs n y) n ≡ Some z → z ≡ y
  set_here [] n y z e = absurd (let f : ⊥ = cc (e) in f)
  set_here (x ∷ xs) zero y z e = (let f : y ≡ z = cc (e) in sym f)
  set_here (x ∷ xs) (suc n) y z e = set_here xs n y z e

-- a point keeps its colour
pub colours_set : (points : List Point) (colours : Colours) (n : ℕ) (p q : Point) → slice_get points n ≡ Some p
    → q.colour ≡ p.colour → ArePointsOf points colours → ArePointsOf (set points n q) colours
colours_set points colours n p q at is of = record {
  same = map-set_same (λ (z : Point). z.colour) points n q p
      (is ∙ ap (λ (z : Point). z.colour) (sym (get_or_from_slice_get points n p p at))) ∙ of.same;
}

module _ (points : List Point) (colours : Colours) (of : ArePointsOf points colours) (n : ℕ) (p : Point)
    (at : slice_get points n ≡ Some p) where
  -- the colour of a point is the member at its place
  pub point_member : slice_get (members colours) n ≡ Some p.colour
  point_member = subst (λ (l : List ℕ). slice_get l n ≡ Some p.colour) of.same
      (at_image (λ (q : Point). q.colour) points n p at)

  pub point_has : has colours p.colour ≡ true
  point_has = member_has colours n p.colour point_member

-- and one of the region's
pub point_within : (r : Region) (h : Hold) (b : BegunAppend) (points : List Point) (n : ℕ) (p : Point)
    → KnowsAppend r h b → ArePointsOf points b.colours → slice_get points n ≡ Some p → p.colour < r.board.size.colours
point_within r h b points n p knows of at =
    colour_within r h b knows p.colour (point_has points b.colours of n p at)
