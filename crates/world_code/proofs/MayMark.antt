-- Whether a mark may be set, test by test.
use Rattle.std.proofs.Common.{◌≡◌, ℕ, ◌<◌, ◌≤◌, Bool, true, false, Some, refl, ap, ◌∙◌, arith}
use Rattle.std.specs.Prelude.{◌&&◌, slice_get}
use Rattle.std.proofs.lemmas.Bool.{false_from_ne_true}
use Rattle.std.proofs.lemmas.Option.{get_or_from_slice_get}
use Rattle.log_node.specs.declared.ids.Row.{Row}
use Rattle.log_node.specs.declared.node.Node.{Node}
use Rattle.log_node.specs.declared.limits.TheConstants.{MAX_COLOURS}
use Rattle.log_node.specs.Sets.{has}
use Rattle.log_node.specs.Outcomes.{is_missing}
use Rattle.world_laws.specs.Worlds.{no_row, row_of, is_begun, is_member, may_mark}
use Rattle.world_code.specs.WorldView.{WorldView, client_at, world_of, IsWhole}
use Rattle.world_code.proofs.Sets.{member_is}

module _ (code : WorldView) (w : IsWhole code) (row : Row) (colour : ℕ) (node : Node)
    (begun : is_begun (world_of code) row ≡ true)
    (node_is : slice_get (client_at code row.client).begun row.number ≡ Some node) where
  pub its_node : (row_of (world_of code) row).node ≡ node
  its_node = get_or_from_slice_get (client_at code row.client).begun row.number node no_row.node node_is

  abbrev missing : Bool
  missing = is_missing ((row_of (world_of code) row).marks colour)

  member_false : is_member node.colours colour ≡ false → false ≡ may_mark (world_of code) row colour
  member_false f =
      both (is_begun (world_of code) row) (is_member (row_of (world_of code) row).node.colours colour) missing begun
      (ap (λ (n : Node). is_member n.colours colour) its_node ∙ f) where
        both : (x y z : Bool) → x ≡ true → y ≡ false → false ≡ (x && (y && z))
        both x y z s t = rw (s, t) refl

  pub no_colour : code.shape.colours ≤ colour → false ≡ may_mark (world_of code) row colour
  no_colour le = member_false (false_from_ne_true (is_member node.colours colour) (λ t.
      let lt = (w.begun row.client row.number node node_is).within colour t in
      let x : ⊥ = omega (arith, lt, le) in x))

  pub not_has : colour < MAX_COLOURS → has node.colours colour ≡ false → false ≡ may_mark (world_of code) row colour
  not_has lt f = member_false (member_is node.colours colour lt ∙ f)

  pub by_mark : colour < MAX_COLOURS → has node.colours colour ≡ true → missing ≡ may_mark (world_of code) row colour
  by_mark lt t =
      both (is_begun (world_of code) row) (is_member (row_of (world_of code) row).node.colours colour) missing begun
      (ap (λ (n : Node). is_member n.colours colour) its_node ∙ (member_is node.colours colour lt ∙ t)) where
        both : (x y z : Bool) → x ≡ true → y ≡ true → z ≡ (x && (y && z))
        both x y z s t = rw (s, t) refl
