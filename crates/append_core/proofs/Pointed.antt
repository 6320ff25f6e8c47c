-- Points that get their positions one after another.
use Rattle.std.proofs.Common.{◌≡◌, ℕ, ◌+◌, ◌<◌, List, set as with_at, Option, Some, None, slice_get, refl, ap, sym, subst, ◌∙◌, arith, inl, inr}
use Rattle.std.specs.Prelude.{IfSome}
use Rattle.std.proofs.lemmas.Bool.{cases_eq}
use mathlib.Core.List.{IsPrefix}
use Rattle.log_node.specs.declared.ids.Key.{Key}
use Rattle.col_core.specs.History.{line}
use Rattle.chain_store.specs.declared.hold.Hold.{Hold}
use Rattle.chain_store.specs.declared.region.Region.{Region}
use Rattle.chain_store.specs.Holds.{IsHold, seen_in, entries_seen}
use Rattle.append_core.specs.declared.stood.Point.{Point}
use Rattle.append_core.specs.Inside.{HasPosition}
use Rattle.append_core.proofs.Placed.{stands_later}
use Rattle.append_core.proofs.Pointing.{set_here, set_other}

-- a known position
pub known_if : (o : Option ℕ) (P : ℕ → Type 0) → ((q : ℕ) → o ≡ Some q → P q) → IfSome o P
known_if None P f = tt
known_if (Some q) P f = f q refl

module _ (r : Region) (h k : Hold) (key : Key) (first points : List Point) (n : ℕ) (p q : Point) (position : ℕ)
    (is : IsHold r k) (more : (c : ℕ) → IsPrefix (seen_in h c) (seen_in k c))
    (inside : (i : ℕ) (z : Point) → slice_get first i ≡ Some z → z.colour < r.board.size.colours)
    (read : slice_get points n ≡ Some p) (write : slice_get points n ≡ Some q)
    (was : slice_get first n ≡ Some q)
    (stands : slice_get (line (entries_seen k p.colour)) position ≡ Some key) where
  abbrev new : Point
  new = record { colour = q.colour; at = q.at; position = position }

  pub placed_next : ((i : ℕ) (z : Point) → i < n → slice_get points i ≡ Some z → HasPosition h key first i z)
      → (i : ℕ) (z : Point) → i < n + 1
      → slice_get (with_at points n (record { colour = q.colour; at = q.at; position = position })) i ≡ Some z
      → HasPosition k key first i z
  placed_next before i z lt e = elim (cases_eq i n) [
    | inl same ↦
        let z_is = set_here points n new z
        (subst (λ (j : ℕ). slice_get (with_at points n new) j ≡ Some z) same e) in
        let one : p ≡ q = (let f : Some p ≡ Some q = sym read ∙ write in let d : p ≡ q = cc f in d) in (
          q,
          subst (λ (j : ℕ). slice_get first j ≡ Some q) (sym same) was,
          ap (λ (y : Point). y.colour) z_is,
          ap (λ (y : Point). y.at) z_is,
          subst (λ (y : Point). slice_get (line (entries_seen k y.colour)) y.position ≡ Some key) (sym z_is)
              (subst (λ (y : Point). slice_get (line (entries_seen k y.colour)) position ≡ Some key) one stands),
        )
    | inr ne ↦
        let b = before i z (omega (arith, lt, ne)) (sym (set_other points n new i ne) ∙ e) in
        let low = inside i b.0 b.1 in
        let below : z.colour < r.board.size.colours = subst (λ (c : ℕ). c < r.board.size.colours) (sym b.2) low in (
          b.0,
          b.1,
          b.2,
          b.3,
          stands_later r h k z.colour is below (more z.colour) z.position key b.4,
        )
  ]
