-- A raise of a read that found no memory, to a stamp of nothing.
use Rattle.std.proofs.Common.{◌≡◌, ◌⊎◌, inl, inr, ℕ, zero, suc, ◌≤◌, List, [], ◌∷◌, ◌++◌, length, take}
use Rattle.std.proofs.Common.{refl, ap, sym, subst, ◌∙◌, arith, lit<, slice_get}
use Rattle.std.specs.List.{All, Contains}
use Rattle.col_core.specs.declared.Event.TheVariants.{Raise}
use Rattle.col_core.specs.declared.Entry.{Entry}
use Rattle.col_core.specs.History.{clock}
use Rattle.log_node.specs.Reach.{IsGreatestReachable}
use Rattle.col_core.specs.Cuts.{chain}
use Rattle.col_core.specs.Computed.{dated}
use Rattle.col_core.specs.Log.{places_of}
use Rattle.col_core.proofs.CallerLemmas.{cut-is_greatest, cut_unique}
use Rattle.log_node.specs.declared.ids.Counts.{Counts}
use Rattle.log_node.specs.Vectors.{at}
use Rattle.col_core.specs.Keeping.{Kept, nothing_kept}
use Rattle.log_node.specs.declared.node.At.TheVariants.{Event}
use Rattle.script_text.specs.declared.commands.What.TheVariants.{Scan}
use Rattle.lawful_run.specs.Callers.{caller_of}
use Rattle.lawful_run.specs.Reads.{RaisesClock, HidesRead, HidesSync, not_played, played}
use Rattle.lawful_run.specs.Refusals.{FindsNoMemory, nothing, gone, gave, hidden}
use Rattle.lawful_run.specs.Lawful.{LawfulRun}
use Rattle.wrong_reports.specs.Cases.{IsUnlawful, a, on_x, by, trims, counts}
use Rattle.wrong_reports.specs.Reads.{a_hidden_raise_to_nothing, a_hidden_look_at_nothing}
use Rattle.wrong_reports.proofs.Tools.{only, column_at, some_same}
use Rattle.wrong_reports.proofs.Told.{two, trim_says}
use Rattle.wrong_reports.proofs.WrongMoves.{trim_counts}

raised_to : (one other : ℕ) → Raise one ≡ Raise other → one ≡ other
raised_to one other e = cc (e)

module _ (run : LawfulRun a_hidden_raise_to_nothing.script a_hidden_raise_to_nothing.report) where
  history : by a (Raise 5) 0 ∷ [] ≡ run.log.histories 0 0
  history = (column_at a_hidden_raise_to_nothing run 0 _ refl).history

  -- what a read that found no memory hides
  hides_none : (after : Kept)
      → HidesRead run.log (caller_of a_hidden_raise_to_nothing.script 0) nothing_kept (0 ∷ []) after
      → 0 ∷ [] ≡ after.made 0 0 → ⊥
  hides_none after h made = by_stamp h.chosen where
    synced : h.synced.made 0 0 ≡ []
    synced = ap (λ (k : Kept). k.made 0 0) h.syncing.3

    is : h.synced.made 0 0 ++ h.places 0 ≡ after.made 0 0
    is = elim h.after_is [
      | inl f ↦ sym (ap (λ (k : Kept). k.made 0 0) f)
      | inr f ↦ sym (ap (λ (k : Kept). k.made 0 0) f)
    ]

    places : 0 ∷ [] ≡ h.places 0
    places = made ∙ sym is ∙ ap (λ ps. ps ++ h.places 0) synced

    P : ℕ → Type 0
    P place = Contains {X = ℕ} (0 ∷ []) 0
        × RaisesClock run.log (caller_of a_hidden_raise_to_nothing.script 0) nothing_kept h.stamp 0 (Event place)

    raised : RaisesClock run.log (caller_of a_hidden_raise_to_nothing.script 0) nothing_kept h.stamp 0 (Event 0)
    raised = (subst (All P) (sym places) (h.raises 0) 0 0 (lit< tt)).1

    five : 5 ≡ h.stamp
    five = raised_to _ _ (ap (λ (en : Entry). en.event) (some_same (by a (Raise 5) 0) _ (ap (λ
        (es : List Entry). slice_get es 0) history ∙ raised.2)))

    by_stamp : (◌≡◌ {A = ℕ} h.stamp 0)
        ⊎ ((colour : ℕ) × Contains {X = ℕ} (0 ∷ []) colour
        × (events : ℕ) × (zero ≤ events) × (events ≤ length (run.log.histories 0 colour))
        × All (λ place. events ≤ place) (h.places colour)
        × (h.stamp ≡ clock (take events (run.log.histories 0 colour)))) → ⊥
    by_stamp (inl f) = omega (arith, five, f)
    by_stamp (inr (colour, (zero, lt, same), events, le, there, early, stamp)) =
        let all = subst (λ c. All (λ place. events ≤ place) (h.places c)) (sym same) early in
        let e = subst (All (λ place. events ≤ place)) (sym places) all 0 0 (lit< tt) in
        let z : events ≡ 0 = omega (arith, e) in
        let f : h.stamp ≡ 0 = stamp ∙ ap (λ n. clock (take n (run.log.histories 0 colour))) z in
        omega (arith, five, f)
    by_stamp (inr (colour, (suc k, lt, same), events, le, there, early, stamp)) = let f : ⊥ = omega (arith, lt) in f

  found_none : (after : Kept)
      → FindsNoMemory run.log (caller_of a_hidden_raise_to_nothing.script 0) nothing_kept (Scan on_x) after
      → 0 ∷ [] ≡ after.made 0 0 → ⊥
  found_none after nothing made = cc (made)
  found_none after (gone colours text places asks is) made = asks
  found_none after (gave region colour looked too_low gives pull g) made = cc (pull)
  found_none after (hidden other hides) made = hides_none other hides made

pub hidden_raise : IsUnlawful a_hidden_raise_to_nothing
hidden_raise run =
    let client = run.clients 0 _ refl in
    let s = only run.log _ _ _ _ client.explained in
    let made = ap (places_of 0) (history run) ∙ client.made 0 0 (lit< tt) (lit< tt) in
    found_none run _ s.explained.1 (made ∙ ap (λ (k : Kept). k.made 0 0) s.after_is)

-- A SNAPSHOT OF NOTHING
abbrev pub too_much : Entry
too_much = trims a (counts 1 0)

pub reached : (events : ℕ) (v : Counts) → events ≤ 1
    → IsGreatestReachable (chain 0 (dated 0 (take events (too_much ∷ [])))) v → at v 0 ≡ 0
reached zero v le g = ap (λ v. at v 0) (cut_unique _ _ _ g (cut-is_greatest 0 (dated 0 [])))
reached (suc zero) v le g = ap (λ v. at v 0) (cut_unique _ _ _ g (cut-is_greatest 0 (dated 0 (too_much ∷ []))))
reached (suc (suc n)) v le g = absurd (omega (arith, le))

module _ (run : LawfulRun a_hidden_look_at_nothing.script a_hidden_look_at_nothing.report) where
  trimmed_history : too_much ∷ [] ≡ run.log.histories 0 0
  trimmed_history = (column_at a_hidden_look_at_nothing run 0 _ refl).history

  plays_none : (snapshot : Counts) (stamp : ℕ)
      → HidesSync run.log (caller_of a_hidden_look_at_nothing.script 0) nothing_kept 0 snapshot stamp
      → at snapshot 0 ≡ 0
  plays_none snapshot stamp not_played = refl
  plays_none snapshot stamp (played events snap syncs) =
      reached events snap (subst (λ (es : List Entry). events ≤ length es) (sym trimmed_history) syncs.there)
      (subst (λ (es : List Entry). IsGreatestReachable (chain 0 (dated 0 (take events es))) snap) (sym trimmed_history)
      syncs.cut)

  starts_none : (after : Kept)
      → FindsNoMemory run.log (caller_of a_hidden_look_at_nothing.script 0) nothing_kept (Scan on_x) after
      → at (after.starts 0) 0 ≡ 0
  starts_none after nothing = refl
  starts_none after (gone colours text places asks is) = absurd asks
  starts_none after (gave region colour looked too_low gives pull g) = absurd (let f : ⊥ = cc (pull) in f)
  starts_none after (hidden other hides) = by hides where
    by : HidesRead run.log (caller_of a_hidden_look_at_nothing.script 0) nothing_kept (0 ∷ []) other
        → at (other.starts 0) 0 ≡ 0
    by h =
        let is : other.starts 0 ≡ h.synced.starts 0 = elim h.after_is [
          | inl f ↦ ap (λ (k : Kept). k.starts 0) f
          | inr f ↦ ap (λ (k : Kept). k.starts 0) f
        ] in
        ap (λ v. at v 0) (is ∙ ap (λ (k : Kept). k.starts 0) h.syncing.3)
        ∙ plays_none h.syncing.0 h.syncing.1 h.syncing.2

pub hidden_look : IsUnlawful a_hidden_look_at_nothing
hidden_look run =
    let t = two run.log _ _ _ _ _ _ (run.clients 0 _ refl).explained in
    let trims = (trim_says run.log _ _ _ _ _ _ _ _ t.second).0.trimmed in
    let same = some_same too_much _ (ap (λ (es : List Entry). slice_get es 0) (trimmed_history run) ∙ trims) in
    let start = trim_counts _ _ (ap (λ (en : Entry). en.event) same) in
    let none = starts_none run _ t.first.explained.1 in
    let f : 1 ≡ 0 = ap (λ v. at v 0) start ∙ ap (λ (k : Kept). at (k.starts 0) 0) t.first.after_is ∙ none in
    omega (arith, f)
