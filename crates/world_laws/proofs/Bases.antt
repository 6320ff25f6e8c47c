-- Bases stay within the cuts, and every other region holds what is trimmed of an own chain.
use Rattle.std.proofs.Common.{◌≡◌, ℕ, zero, suc, ◌+◌, ◌<◌, ◌≤◌, min, List, [], ◌∷◌, ◌++◌, Some, false, refl, subst, ap, sym, inl, inr, arith, append_assoc}
use Rattle.std.specs.Prelude.{◌==◌, ◌≢◌, slice_get, if◌then◌else◌}
use Rattle.std.specs.List.{fold, range_with_len}
use Rattle.std.proofs.lemmas.Bool.{eqb-true, eq-eqb}
use Rattle.log_node.specs.declared.ids.Counts.{Counts}
use Rattle.log_node.specs.Vectors.{at, vector, IsWithin}
use Rattle.col_core.specs.declared.Event.{Event}
use Rattle.col_core.specs.declared.Event.TheVariants as events
use Rattle.col_core.specs.declared.Entry.{Entry}
use Rattle.col_core.specs.Cuts.{Dated, noted, noted_by_all, trimmed_to, base, base_from}
use Rattle.col_core.specs.Computed.{dated}
use Rattle.col_core.specs.Legal.{IsColumnHistory}
use Rattle.col_core.proofs.CallerLemmas.{choice, by_test, apart, within, within-at, In}
use Rattle.world_laws.specs.Worlds.{World, cut_after, base_after}
use Rattle.world_laws.specs.Laws.{TrimmedIsHeld}
use Rattle.world_laws.proofs.Held.{Held}
use Rattle.col_core.proofs.CallerLemmas.{cut_before_within}

-- One trim

-- the lesser of a number and what is noted for a region that is not the own one
abbrev lesser : ℕ → List Dated → ℕ → ℕ → ℕ
lesser own before n region = if region == own then n else min n (noted before region)

lesser-le : (own : ℕ) (before : List Dated) (n region : ℕ) → lesser own before n region ≤ n
lesser-le own before n region = choice (λ (m : ℕ). m ≤ n) (region == own) n (min n (noted before region))
    (λ _. omega arith) (λ _. omega arith)

lesser-noted : (own : ℕ) (before : List Dated) (n region : ℕ) → region ≢ own
    → lesser own before n region ≤ noted before region
lesser-noted own before n region ne =
    choice (λ (m : ℕ). m ≤ noted before region) (region == own) n (min n (noted before region))
    (λ t. absurd (ne (eqb-true region own t))) (λ _. omega arith)

least-le : (own : ℕ) (before : List Dated) (regions : List ℕ) (bound : ℕ)
    → fold (lesser own before) bound regions ≤ bound
least-le own before [] bound = omega arith
least-le own before (r ∷ rs) bound =
    let a = least-le own before rs (lesser own before bound r) in
    let b = lesser-le own before bound r in
    omega (arith, a, b)

least-noted : (own : ℕ) (before : List Dated) (regions : List ℕ) (bound region : ℕ) → In region regions
    → region ≢ own → fold (lesser own before) bound regions ≤ noted before region
least-noted own before [] bound region i ne = absurd i
least-noted own before (r ∷ rs) bound region (inl is) ne =
    let a = least-le own before rs (lesser own before bound r) in
    let b = lesser-noted own before bound r (subst (λ (x : ℕ). x ≢ own) (sym is) ne) in
    let c = ap (noted before) is in
    omega (arith, a, b, c)
least-noted own before (r ∷ rs) bound region (inr i) ne =
    least-noted own before rs (lesser own before bound r) region i ne

in_range : (r from n : ℕ) → from ≤ r → r < from + n → In r (range_with_len from n)
in_range r from zero le lt = absurd (let x : ⊥ = omega (arith, le, lt) in x)
in_range r from (suc n) le lt =
    by_test (In r (from ∷ range_with_len (from + 1) n)) (from == r) (λ t. inl (eqb-true from r t))
    (λ f. inr (in_range r (from + 1) n (above f) (omega (arith, lt)))) where
      above : (from == r) ≡ false → from + 1 ≤ r
      above f = let ne : from ≢ r = λ e. apart (from == r) (eq-eqb from r e) f in omega (arith, le, ne)

-- a trim raises no base above its cut
trimmed_within : (own regions : ℕ) (before : List Dated) (ev : Event) (cut : Counts) (region : ℕ)
    → trimmed_to own regions before ev cut region ≤ at cut region
trimmed_within own regions before (events.Single _ _ _) cut region = omega arith
trimmed_within own regions before (events.Propose _ _ _) cut region = omega arith
trimmed_within own regions before (events.Settle _ _) cut region = omega arith
trimmed_within own regions before (events.Raise _) cut region = omega arith
trimmed_within own regions before (events.Give _ _) cut region = omega arith
trimmed_within own regions before (events.Carry _ _ _) cut region = omega arith
trimmed_within own regions before (events.Trim counts) cut region =
    let bound = min (at counts region) (at cut region) in
    let a = least-le own before (range_with_len 0 regions) bound in
    choice (λ (n : ℕ). n ≤ at cut region) (region == own) (noted_by_all own regions before bound) bound
    (λ _. omega (arith, a)) (λ _. omega arith)

-- a trim raises the own base no higher than what is noted for each other region
trimmed_noted : (own regions : ℕ) (before : List Dated) (ev : Event) (cut : Counts) (other : ℕ) → other < regions
    → other ≢ own → trimmed_to own regions before ev cut own ≤ noted before other
trimmed_noted own regions before (events.Single _ _ _) cut other lt ne = omega arith
trimmed_noted own regions before (events.Propose _ _ _) cut other lt ne = omega arith
trimmed_noted own regions before (events.Settle _ _) cut other lt ne = omega arith
trimmed_noted own regions before (events.Raise _) cut other lt ne = omega arith
trimmed_noted own regions before (events.Give _ _) cut other lt ne = omega arith
trimmed_noted own regions before (events.Carry _ _ _) cut other lt ne = omega arith
trimmed_noted own regions before (events.Trim counts) cut other lt ne =
    let bound = min (at counts own) (at cut own) in
    let i = in_range other 0 regions (omega arith) (omega (arith, lt)) in
    choice (λ (n : ℕ). n ≤ noted before other) (own == own) (noted_by_all own regions before bound) bound
    (λ _. least-noted own before (range_with_len 0 regions) bound other i ne)
    (λ f. absurd (apart (own == own) (eq-eqb own own refl) f))

-- A history

noted_longer : (before more : List Dated) (region : ℕ) → noted before region ≤ noted (before ++ more) region
noted_longer [] more region = omega arith
noted_longer (d ∷ before) more region = let h = noted_longer before more region in omega (arith, h)

base_from_within : (own regions region : ℕ) (before ds : List Dated) (bound : ℕ)
    → ((n : ℕ) (d : Dated) → slice_get ds n ≡ Some d → at d.cut_before region ≤ bound)
    → base_from own regions region before ds ≤ bound
base_from_within own regions region before [] bound h = omega arith
base_from_within own regions region before (d ∷ ds) bound h =
    let a = trimmed_within own regions before d.entry.event d.cut_before region in
    let b = h 0 d refl in
    let c = base_from_within own regions region (before ++ d ∷ []) ds bound (λ n e at. h (suc n) e at) in
    omega (arith, a, b, c)

base_from_noted : (own regions other : ℕ) (before ds : List Dated) → other < regions → other ≢ own
    → base_from own regions own before ds ≤ noted (before ++ ds) other
base_from_noted own regions other before [] lt ne = omega arith
base_from_noted own regions other before (d ∷ ds) lt ne =
    let a = trimmed_noted own regions before d.entry.event d.cut_before other lt ne in
    let b = noted_longer before (d ∷ ds) other in
    let c = base_from_noted own regions other (before ++ d ∷ []) ds lt ne in
    let same = ap (λ (l : List Dated). noted l other) (append_assoc before (d ∷ []) ds) in
    omega (arith, a, b, c, same)

-- a vector has nothing else than the numbers that it is made of
at_vector : (f : ℕ → ℕ) (n : ℕ) → at (vector f) n ≤ f n
at_vector f zero = omega arith
at_vector f (suc zero) = omega arith
at_vector f (suc (suc zero)) = omega arith
at_vector f (suc (suc (suc zero))) = omega arith
at_vector f (suc (suc (suc (suc n)))) = omega arith

-- the base of a lawful history is within its cut
pub base_within_cut : (own regions : ℕ) (history : List Entry) → IsColumnHistory own regions (dated own history)
    → IsWithin (base_after regions own history) (cut_after own history)
base_within_cut own regions history lawful =
    let ds = dated own history in
    within (base own regions ds) (cut_after own history)
    (λ r lt.
    let a = at_vector (λ region. base_from own regions region [] ds) r in
    let b = base_from_within own regions r [] ds (at (cut_after own history) r)
    (λ n d e. within-at d.cut_before (cut_after own history)
    (cut_before_within own regions history lawful n d e) r lt) in
    omega (arith, a, b))

-- no more of an own chain is trimmed than what is noted for each other region
pub own_base_noted : (own regions other : ℕ) (history : List Entry) → other < regions → other ≢ own
    → at (base_after regions own history) own ≤ noted (dated own history) other
own_base_noted own regions other history lt ne =
    let ds = dated own history in
    let a = at_vector (λ region. base_from own regions region [] ds) own in
    let b = base_from_noted own regions other [] ds lt ne in
    omega (arith, a, b)

pub trimmed_is_held : (w : World) → Held w → TrimmedIsHeld w
trimmed_is_held w h origin region colour lo lr ne =
    let a = own_base_noted origin w.shape.regions region (w.histories origin colour) lr (λ e. ne (sym e)) in
    let b = (h.copies colour origin region lo lr ne).noted_held in
    omega (arith, a, b)
