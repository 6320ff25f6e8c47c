-- Copies are true.
use Rattle.std.proofs.Common.{◌≡◌, ◌≢◌, ℕ, suc, ◌<◌, ◌≤◌, List, [], ◌∷◌, length, map, Some, slice_get, refl, ap, sym, ◌∙◌, arith, eqb-true}
use Rattle.std.specs.Prelude.{◌==◌}
use Rattle.log_node.specs.Outcomes.{greatest}
use Rattle.col_core.specs.declared.Entry.{Entry}
use Rattle.col_core.specs.declared.Event as event_types
use Rattle.col_core.specs.declared.Event.TheVariants as events
use Rattle.col_core.specs.Cuts.{Dated, chain, noted_from}
use Rattle.col_core.specs.Computed.{dated}
use Rattle.col_core.specs.Legal.{IsColumnHistory}
use Rattle.col_core.specs.Copies.{IsTrueCopy}
use Rattle.col_core.proofs.CallerLemmas.{choice, dated-is_dated}
use Rattle.lawful_run.proofs.CallerLemmas.{prefix_length}
use Rattle.client_law.specs.Origins.{CopyBegins, GivesAreHeld, LawfulCopiesAreTrue}
use Rattle.client_law.proofs.Lists.{map_at}
use Rattle.client_law.proofs.Keeping.{chain_later}

module _ (regions : ℕ) (histories : ℕ → List Entry)
    (lawful : (region : ℕ) → region < regions → IsColumnHistory region regions (dated region (histories region)))
    (copies : (origin copier : ℕ) → origin < regions → copier < regions → origin ≢ copier
    → CopyBegins histories origin copier)
    (gives : (region : ℕ) → region < regions → GivesAreHeld histories region)
    (origin copier : ℕ) (origin_in : origin < regions) (copier_in : copier < regions) (apart : origin ≢ copier) where
  abbrev ds : List Dated
  ds = dated copier (histories copier)

  most : (f : Dated → ℕ) (xs : List Dated) (bound : ℕ)
      → ((n : ℕ) (d : Dated) → slice_get xs n ≡ Some d → f d ≤ bound) → greatest (map f xs) ≤ bound
  most f [] bound each = omega arith
  most f (x ∷ xs) bound each =
      let a = each 0 x refl in
      let b = most f xs bound (λ n d e. each (suc n) d e) in
      omega (arith, a, b)

  abbrev held_now : ℕ
  held_now = length (chain copier ds origin)

  given : (e : Entry) (n : ℕ) → slice_get (histories origin) n ≡ Some e → noted_from copier e.event ≤ held_now
  given e n there = by_event e.event refl where
    by_event : (ev : event_types.Event) → e.event ≡ ev → noted_from copier ev ≤ held_now
    by_event (events.Single _ _ _) is = omega arith
    by_event (events.Propose _ _ _) is = omega arith
    by_event (events.Settle _ _) is = omega arith
    by_event (events.Raise _) is = omega arith
    by_event (events.Give other from) is =
        choice (λ (k : ℕ). k ≤ held_now) (other == copier) from 0
        (λ t. let g = gives origin origin_in n e copier from there
        (is ∙ ap (λ (r : ℕ). events.Give r from) (eqb-true other copier t)) in
        let grown = prefix_length (chain copier (dated copier g.0) origin) (chain copier ds origin)
        (chain_later copier regions g.0 (histories copier) g.1 (lawful copier copier_in) origin) in
        let le = g.2 in
        omega (arith, grown, le)) (λ f. omega arith)
    by_event (events.Carry _ _ _) is = omega arith
    by_event (events.Trim _) is = omega arith

  pub true_copy : IsTrueCopy origin copier (dated origin (histories origin)) ds
  true_copy = record {
    rest = (copies origin copier origin_in copier_in apart).0;
    beginning = (copies origin copier origin_in copier_in apart).1;
    noted_held = most (λ d. noted_from copier d.entry.event) (dated origin (histories origin)) held_now
        (λ n d e. given d.entry n
        (ap (λ (l : List Entry). slice_get l n) (sym ((dated-is_dated origin (histories origin)).same))
        ∙ map_at (λ (x : Dated). x.entry) (dated origin (histories origin)) n d e));
  }

pub copies_are_true : LawfulCopiesAreTrue
copies_are_true regions histories lawful copies gives origin copier origin_in copier_in apart =
    true_copy regions histories lawful copies gives origin copier origin_in copier_in apart
