-- A column's base only grows, so that the first number of events after which it is not below a vector tells whether it was that.
use Rattle.std.proofs.Common.{◌≡◌, ◌⊎◌, ◌∙◌, ap, sym, subst, Bool, true, false, ℕ, ◌+◌, ◌<◌, ◌≤◌, List, [], ◌++◌, take, drop, inl, inr, arith}
use Rattle.std.proofs.lemmas.Bool.{cases_lt}
use Rattle.std.proofs.lemmas.List.{take-append-drop, take-take}
use Rattle.log_node.specs.declared.ids.Counts.{Counts}
use Rattle.log_node.specs.Vectors.{IsWithin, is_within}
use Rattle.log_node.proofs.CallerLemmas.{at-vector, same_vectors, within-at, within-refl, within-trans}
use Rattle.col_core.specs.declared.Entry.{Entry}
use Rattle.col_core.specs.Computed.{dated}
use Rattle.col_core.specs.Cuts.{Dated, base, base_from}
use Rattle.col_core.specs.Laws.{CutsGrow}
use Rattle.col_core.specs.Legal.{IsColumnHistory}
use Rattle.col_core.proofs.CallerLemmas.{dates_longer, later, lawful_beginning}
use Rattle.column_track.specs.Tracks.{Tells, Tracked, mark_after}
use Rattle.column_track.specs.declared.marks.Mark.{Mark}
use Rattle.walk_law.specs.Bases.{IsFirstBase, WasBase, base_after}

-- bases that are within one another are one
base_is : (track : Tracked) (m n : ℕ) → IsWithin (base_after track m) (base_after track n)
    → IsWithin (base_after track n) (base_after track m) → base_after track m ≡ base_after track n
base_is track m n one other =
    let f : ℕ → ℕ → ℕ = λ k region. base_from track.region track.regions region [] (dated track.region (take k track.journal)) in
    same_vectors (f m) (f n) (λ r lt.
    let a = within-at (base_after track m) (base_after track n) one r lt in
    let b = within-at (base_after track n) (base_after track m) other r lt in
    let x = at-vector (f m) r lt in
    let y = at-vector (f n) r lt in
    omega (arith, a, b, x, y))

-- what a mark tells
pub mark_within : (track : Tracked) (events : ℕ) (mark : Mark) (shown : Counts)
    → mark ≡ mark_after track.region track.regions (take events track.journal) → is_within shown mark.base ≡ true
    → IsWithin shown (base_after track events)
mark_within track events mark shown is t = sym (ap (λ (m : Mark). is_within shown m.base) is) ∙ t

module _ (grow : CutsGrow) (track : Tracked)
    (lawful : IsColumnHistory track.region track.regions (dated track.region track.journal)) where
  abbrev own : ℕ
  own = track.region

  abbrev regions : ℕ
  regions = track.regions

  -- after more events it is no less
  pub base_grows : (m n : ℕ) → m ≤ n → IsWithin (base_after track m) (base_after track n)
  base_grows m n le =
      let now = take n track.journal in
      let before = take m now in
      let more = drop m now in
      let whole = take-append-drop m now in
      let so_far : IsColumnHistory own regions (dated own now) =
      lawful_beginning own regions now (drop n track.journal)
      (subst (λ (h : List Entry). IsColumnHistory own regions (dated own h)) (sym (take-append-drop n track.journal)) lawful) in
      let parts : IsColumnHistory own regions (dated own before ++ later own (dated own before) more) =
      subst (IsColumnHistory own regions) (dates_longer own before more)
      (subst (λ (h : List Entry). IsColumnHistory own regions (dated own h)) (sym whole) so_far) in
      let grown : IsWithin (base own regions (dated own before)) (base own regions (dated own now)) =
      subst (λ (ds : List Dated). IsWithin (base own regions (dated own before)) (base own regions ds))
      (sym (dates_longer own before more) ∙ ap (dated own) whole)
      (grow own regions (dated own before) (later own (dated own before) more) parts).base_more in
      subst (λ (h : List Entry). IsWithin (base own regions (dated own h)) (base own regions (dated own now)))
      (take-take m n track.journal le) grown

  -- where it is below a vector after so many events, it is after fewer
  pub base_below : (shown : Counts) (middle : ℕ) → (IsWithin shown (base_after track middle) → ⊥) → (n : ℕ) → n < middle + 1
      → IsWithin shown (base_after track n) → ⊥
  base_below shown middle fails n lt w =
      fails (within-trans shown (base_after track n) (base_after track middle) w (base_grows n middle (omega (arith, lt))))

  pub base_told : (from to : ℕ) (shown : Counts) (events : ℕ) → IsFirstBase track from to shown events → (b : Bool)
      → Tells b (base_after track events ≡ shown) → Tells b (WasBase track from to shown)
  base_told from to shown events is true same = (events, is.from_on, is.up_to, same)
  base_told from to shown events is false other = λ was. by was (cases_lt was.0 events) is.there where
    by : (was : WasBase track from to shown) → (was.0 < events) ⊎ (events ≤ was.0)
        → IsWithin shown (base_after track events) ⊎ (events ≡ to) → ⊥
    by was (inl lt) there =
        is.before was.0 was.1 lt (subst (λ (v : Counts). IsWithin v (base_after track was.0)) was.3 (within-refl (base_after track was.0)))
    by was (inr le) (inl w) =
        other (base_is track events was.0 (base_grows events was.0 le)
        (subst (λ (v : Counts). IsWithin v (base_after track events)) (sym was.3) w) ∙ was.3)
    by was (inr le) (inr last) =
        let up = was.2 in
        let e : events ≡ was.0 = omega (arith, le, up, last) in
        other (ap (base_after track) e ∙ was.3)
