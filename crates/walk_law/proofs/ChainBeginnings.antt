-- What a column holds of chains after some events is the beginning of the lines of their regions.
use Rattle.std.proofs.Common.{◌≡◌, ◌∙◌, refl, ap, sym, subst, ℕ, ◌<◌, ◌≤◌, List, [], ◌∷◌, ◌++◌, length, take, drop, take-append-drop, append_assoc, inl, inr, arith, append-nil}
use Rattle.std.specs.Prelude.{slice_get, ◌==◌}
use Rattle.std.specs.List.{flat_map}
use Rattle.std.proofs.lemmas.Bool.{both_ways, cases_lt, eq-eqb, eqb-true}
use Rattle.std.proofs.lemmas.List.{length-append}
use Rattle.std.proofs.lemmas.Option.{slice_get-get_or}
use mathlib.Core.List.{IsPrefix}
use Rattle.log_node.specs.declared.node.Head.{Head}
use Rattle.col_core.specs.declared.Event.{Event}
use Rattle.col_core.specs.declared.Event.TheVariants as events
use Rattle.col_core.specs.declared.Entry.{Entry}
use Rattle.col_core.specs.Computed.{dated}
use Rattle.col_core.specs.Cuts.{Dated, carried, chain, entries_of}
use Rattle.col_core.specs.History.{line}
use Rattle.col_core.specs.Legal.{IsColumnHistory, IsLawfulEvent}
use Rattle.col_core.proofs.CallerLemmas.{In, by_test, chains_grow, dates_longer, entries_dated, if_false, in_flat_map, in_slice, later, lawful_beginning, line_grows, line_rises}
use Rattle.column_track.specs.Tracks.{Tracked}
use Rattle.playback.specs.Merging.{AreRising}
use Rattle.walk_law.specs.Playing.{lines_of}
use Rattle.walk_law.specs.Walking.{MayWalk, Walked, journal_walked}
use Rattle.walk_law.proofs.HeadLemmas.{own_chain}

-- LINES

module _ (own regions : ℕ) (h : List Entry) (legal : IsColumnHistory own regions (dated own h)) (n : ℕ) where
  dates : dated own h ≡ dated own (take n h) ++ later own (dated own (take n h)) (drop n h)
  dates = ap (dated own) (sym (take-append-drop n h)) ∙ dates_longer own (take n h) (drop n h)

  longer : IsColumnHistory own regions (dated own (take n h) ++ later own (dated own (take n h)) (drop n h))
  longer = subst (IsColumnHistory own regions) dates legal

  pub line_begins : IsPrefix (line (take n h)) (line h)
  line_begins =
      let g = line_grows own regions (dated own (take n h)) (later own (dated own (take n h)) (drop n h)) longer in (
        g.0,
        ap (λ (es : List Entry). line es ++ g.0) (sym (entries_dated own (take n h)))
            ∙ (g.1 ∙ ap line (ap entries_of (sym dates) ∙ entries_dated own h)),
      )

  pub chain_begins : (region : ℕ) → IsPrefix (chain own (dated own (take n h)) region) (chain own (dated own h) region)
  chain_begins region =
      let g = chains_grow own regions (dated own (take n h)) (later own (dated own (take n h)) (drop n h)) longer region in
      (g.0, g.1 ∙ ap (λ (ds : List Dated). chain own ds region) (sym dates))

  taken : {A : Type 0} (xs ys : List A) → take (length xs) (xs ++ ys) ≡ xs
  taken [] [] = refl
  taken [] (y ∷ ys) = refl
  taken (x ∷ xs) ys = ap (λ l. x ∷ l) (taken xs ys)

  -- the line then is the first keys of the line after all
  pub line_first : (k : ℕ) → k ≡ length (line (take n h)) → take k (line h) ≡ line (take n h)
  line_first k is =
      ap (λ (j : ℕ). take j (line h)) is
      ∙ (ap (take (length (line (take n h)))) (sym line_begins.1) ∙ taken (line (take n h)) line_begins.0)

  pub line_shorter : length (line (take n h)) ≤ length (line h)
  line_shorter =
      let long = length-append (line (take n h)) line_begins.0 in
      let whole = ap length line_begins.1 in omega (arith, long, whole)

pub line_rising : (own regions : ℕ) (h : List Entry) → IsColumnHistory own regions (dated own h) → AreRising (line h)
line_rising own regions h legal i j d lt low =
    line_rises own regions (dated own h) legal i j _ _ lt
    (ap (λ (es : List Entry). slice_get (line es) i) (entries_dated own h)
    ∙ slice_get-get_or (line h) i d (let l : i < length (line h) = omega (arith, lt, low) in l))
    (ap (λ (es : List Entry). slice_get (line es) j) (entries_dated own h) ∙ slice_get-get_or (line h) j d low)

pub beginning_legal : (own regions : ℕ) (h : List Entry) (n : ℕ) → IsColumnHistory own regions (dated own h)
    → IsColumnHistory own regions (dated own (take n h))
beginning_legal own regions h n legal =
    lawful_beginning own regions (take n h) (drop n h)
    (subst (λ (l : List Entry). IsColumnHistory own regions (dated own l)) (sym (take-append-drop n h)) legal)

-- CHAINS

-- an event brings heads of a region by carrying them
carries : (region : ℕ) (event : Event) (head : Head) → In head (carried region event)
    → (start : ℕ) × (heads : List Head) × (event ≡ events.Carry region start heads)
carries region (events.Single id floor wants) head i = absurd i
carries region (events.Propose id floor wants) head i = absurd i
carries region (events.Settle id outcome) head i = absurd i
carries region (events.Raise to) head i = absurd i
carries region (events.Give other from) head i = absurd i
carries region (events.Carry other start heads) head i =
    by_test _ (other == region)
    (λ t. (start, heads, ap (λ (r : ℕ). events.Carry r start heads) (eqb-true other region t)))
    (λ f. absurd (subst (In head) (if_false (other == region) heads [] f) i))
carries region (events.Trim counts) head i = absurd i

none_there : {A : Type 0} (xs : List A) → ((x : A) → In x xs → ⊥) → xs ≡ []
none_there [] f = refl
none_there (x ∷ xs) f = absurd (f x (inl refl))

module _ (walked : Walked) (tracks : List Tracked) (may : MayWalk walked.script walked.report tracks) (own colour : ℕ)
    (lt : own < walked.script.shape.regions) (low : colour < walked.script.shape.colours)
    (legal : IsColumnHistory own walked.script.shape.regions (dated own (journal_walked walked own colour))) where
  abbrev h : List Entry
  h = journal_walked walked own colour

  -- of regions that are not in the shape nothing is held
  none_beyond : (region : ℕ) → walked.script.shape.regions ≤ region → chain own (dated own (journal_walked walked own colour)) region ≡ []
  none_beyond region beyond =
      if_false (region == own) _ _
      (by_test _ (region == own)
      (λ t. absurd (let e = eqb-true region own t in let f : ⊥ = omega (arith, e, lt, beyond) in f)) (λ f. f))
      ∙ none_there (flat_map (λ (d : Dated). carried region d.entry.event) (dated own h)) (λ head i.
      let d = in_flat_map (λ (d : Dated). carried region d.entry.event) (dated own h) head i in
      let at = in_slice (dated own h) d.0 d.1 in
      let carry = carries region d.0.entry.event head d.2 in
      let lawful = subst (λ (v : Event). IsLawfulEvent own walked.script.shape.regions (take at.0 (dated own h)) v d.0.entry.stamp)
      carry.2 (legal at.0 d.0 at.1) in
      let few = lawful.2 in omega (arith, few, beyond))

  whole_begins : (region : ℕ) → IsPrefix (chain own (dated own (journal_walked walked own colour)) region) (lines_of walked colour region)
  whole_begins region =
      by_test _ (region == own)
      (λ t.
      let e = eqb-true region own t in
      subst (λ (r : ℕ). IsPrefix (chain own (dated own h) r) (lines_of walked colour r)) (sym e) (
        [],
        append-nil (chain own (dated own h) own) ∙ own_chain own h,
      ))
      (λ f. elim (cases_lt region walked.script.shape.regions) [
        | inl less ↦
            (let copy = may.third.copies colour low region own less lt (λ e. absurd (both_ways (region == own) f (eq-eqb region own e))) in
            (copy.rest, copy.beginning ∙ own_chain region (journal_walked walked region colour)))
        | inr ge ↦ (lines_of walked colour region, ap (λ (l : List Head). l ++ lines_of walked colour region) (none_beyond region ge))
      ])

  -- what is held after some events begins the lines
  pub begins : (events region : ℕ) → IsPrefix (chain own (dated own (take events (journal_walked walked own colour))) region)
      (lines_of walked colour region)
  begins events region =
      let a = chain_begins own walked.script.shape.regions h legal events region in
      let b = whole_begins region in (
        a.0 ++ b.0,
        sym (append_assoc (chain own (dated own (take events h)) region) a.0 b.0)
            ∙ (ap (λ (l : List Head). l ++ b.0) a.1 ∙ b.1),
      )
