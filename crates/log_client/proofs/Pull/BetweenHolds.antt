-- What a pull leaves of a client's holds.
use Rattle.std.proofs.Common.{Result, Ok, Err, ◌≡◌, ◌≢◌, ℕ, List, Some, refl, ap, sym, ◌∙◌}
use Rattle.std.specs.Prelude.{IfOk, IfErr, ◌↔◌, slice_get, slice_set}
use Rattle.std.proofs.lemmas.Result.{IfOk-weaker}
use Rattle.chain_store.specs.declared.hold.Hold.{Hold}
use Rattle.chain_store.specs.declared.region.Region.{Region}
use Rattle.chain_store.specs.Going.{GoesOnIn}
use Rattle.region_pull.specs.declared.pulled.Pulled.{Pulled}
use Rattle.region_pull.specs.declared.pulled.PullFault.{PullFault}
use Rattle.region_pull.specs.declared.pulled.PullFault.TheVariants.{SameRegion, NoMemory}
use Rattle.region_pull.specs.Origins.{AsksForHeld}
use Rattle.region_pull.specs.Pulls.{PullsByHolds, CarriesNothing}
use Rattle.log_client.specs.Between.{ChangesTwo, PullsBetween, LeavesBetween}

pub changes_two : (n m i j : ℕ) (gs hs : List Hold) (g x g' h y h' : Hold) → i ≡ n → j ≡ m → n ≢ m
    → slice_get gs n ≡ Some x → g ≡ x → slice_get gs m ≡ Some y → h ≡ y → hs ≡ slice_set (slice_set gs i g') j h'
    → ChangesTwo n m gs hs g g' h h'
changes_two n m i j gs hs g x g' h y h' is_n is_m ne a is_x b is_y e = record {
  apart = ne;
  first = a ∙ ap (λ (z : Hold). Some z) (sym is_x);
  second = b ∙ ap (λ (z : Hold). Some z) (sym is_y);
  changed = e ∙ (ap (λ k. slice_set (slice_set gs k g') j h') is_n ∙ ap (λ k. slice_set (slice_set gs n g') k h') is_m);
}

module _ (from to : Region) (k : ℕ) (gs hs : List Hold) (g g' h h' : Hold)
    (ch : ChangesTwo from.number to.number gs hs g g' h h') (a : GoesOnIn from k g g') (b : GoesOnIn to k h h')
    (held : AsksForHeld from to k g h → AsksForHeld from to k g' h') where
  pub between_ok : (r : Result Pulled PullFault) → IfOk r (PullsByHolds from to k g g' h h')
      → IfOk r (PullsBetween from to k gs hs)
  between_ok r = IfOk-weaker r (PullsByHolds from to k g g' h h') (PullsBetween from to k gs hs)
      (λ p x. (g, g', h, h', ch, a, b, x, held))

  pub between_err : (r : Result Pulled PullFault) → (r ≡ Err SameRegion) ↔ (from.number ≡ to.number)
      → IfErr r (CarriesNothing from to k g g' h h') → IfErr r (LeavesBetween from to k gs hs)
  between_err (Ok p) same e = tt
  between_err (Err SameRegion) same e = absurd (ch.apart (same.0 refl))
  between_err (Err NoMemory) same e = (g, g', h, h', ch, a, b, refl, e.0, e.1, held)
