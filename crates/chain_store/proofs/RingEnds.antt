-- The ends of a column's rings to another region and from it.
use Rattle.std.proofs.Common.{◌≡◌, ◌≢◌, ◌<◌, ℕ, ◌-◌, ◌++◌, List, length, Some, slice_get, get_or, refl, ap, sym, subst, ◌∙◌}
use Rattle.std.specs.Prelude.{slice_set}
use Rattle.std.proofs.lemmas.Option.{slice_get_read}
use mathlib.Core.List.{IsPrefix}
use Rattle.log_node.specs.Seen.{PlacedNode}
use Rattle.ring_ends.specs.declared.sends.Sends.{Sends}
use Rattle.ring_ends.specs.declared.receives.Receives.{Receives}
use Rattle.ring_ends.specs.Places.{ring_place}
use Rattle.ring_ends.proofs.CallerLemmas.{place_within}
use Rattle.chain_store.specs.declared.seated.Seated.{Seated}
use Rattle.chain_store.specs.Columns.{waiting_in}
use Rattle.chain_store.proofs.RingsGrow.{set_there, waiting_at, waiting_now}

module _ (s : Seated) (k region : ℕ) (few : region < s.column.regions) (apart : region ≢ s.column.region)
    (place : k ≡ ring_place s.column.region region) where
  within : k < s.column.regions - 1
  within =
      subst (λ (n : ℕ). n < s.column.regions - 1) (sym place)
      (place_within s.column.regions s.column.region region s.within few (λ e. apart (sym e)))

  inside_sends : k < length s.rings.sends.items
  inside_sends = subst (λ (n : ℕ). k < n) (sym s.others.0) within

  inside_receives : k < length s.rings.receives.items
  inside_receives = subst (λ (n : ℕ). k < n) (sym s.others.1) within

  pub sends_within : k < s.rings.sends.len
  sends_within = subst (λ (n : ℕ). k < n) (sym s.rings.sends.ok.0) inside_sends

  pub receives_within : k < s.rings.receives.len
  receives_within = subst (λ (n : ℕ). k < n) (sym s.rings.receives.ok.0) inside_receives

  pub sends_there : (q : Sends) → q ≡ get_or s.rings.sends.items k q → slice_get s.rings.sends.items k ≡ Some q
  sends_there q is = slice_get_read s.rings.sends.items (length s.rings.sends.items) k q refl inside_sends is

  pub receives_there : (q : Receives) → q ≡ get_or s.rings.receives.items k q → slice_get s.rings.receives.items k ≡ Some q
  receives_there q is = slice_get_read s.rings.receives.items (length s.rings.receives.items) k q refl inside_receives is

-- an end that was set is the region's
pub set_end : {A : Type 0} (P : A → Type 0) (xs : List A) (k own region : ℕ) (x y : A) → k ≡ ring_place own region
    → slice_get (slice_set xs k x) (ring_place own region) ≡ Some y → P x → P y
set_end P xs k own region x y place at p =
    subst P (set_there xs k x y (ap (slice_get (slice_set xs k x)) place ∙ at)) p

-- what waited of the region still waits, in front of what was received
pub waits_on : (xs : List Receives) (k own region : ℕ) (q r : Receives) (more : List PlacedNode) → k ≡ ring_place own region
    → slice_get xs k ≡ Some q → r.waiting.items ≡ q.waiting.items ++ more
    → IsPrefix (waiting_in (slice_get xs (ring_place own region))) (waiting_in (slice_get (slice_set xs k r) (ring_place own region)))
waits_on xs k own region q r more place at kept = (
  more,
  ap (λ (l : List PlacedNode). l ++ more) (waiting_at xs k own region q place at)
      ∙ (sym kept ∙ sym (waiting_now xs k own region q r place at)),
)
