-- Which stamps the entries, the clock and the chains of a column have: those of its events.
use Rattle.std.proofs.Common.{◌≡◌, ℕ, ◌<◌, true, false, List, [], ◌∷◌, map, reverse, take, refl, ap, sym, subst, ◌∙◌, inl, inr}
use Rattle.std.specs.Prelude.{◌≢◌, ◌==◌}
use Rattle.std.specs.List.{flat_map}
use Rattle.std.proofs.lemmas.Bool.{eqb-true, eq-eqb}
use Rattle.log_node.specs.declared.ids.Key.{Key}
use Rattle.log_node.specs.declared.marks.Outcome.TheVariants.{Open, Gone, Final}
use Rattle.log_node.specs.declared.node.Head.{Head}
use Rattle.log_node.specs.Standings.{Standing, without_id}
use Rattle.col_core.specs.declared.Event.{Event}
use Rattle.col_core.specs.declared.Event.TheVariants as events
use Rattle.col_core.specs.declared.Entry.{Entry}
use Rattle.col_core.specs.Computed.{dated}
use Rattle.col_core.specs.Copies.{AreTrueCopies}
use Rattle.col_core.specs.Cuts.{Dated, entries_of, carried, chain, needs_of}
use Rattle.col_core.specs.History as history
use Rattle.col_core.specs.History.{event_number, with_event, entry_key}
use Rattle.col_core.specs.Legal.{IsColumnHistory, IsLawfulEvent}
use Rattle.col_core.proofs.CallerLemmas as laws
use Rattle.col_core.proofs.CallerLemmas.{In, in_append, in_left, in_right, in_reversed, in_slice, in_with, in_filter, in_line, choice, dated-is_dated, entries-of}
use Rattle.load_script.proofs.Counts.{in_map_back}
use Rattle.load_script.proofs.Traces.{of_greatest}
pub use Rattle.col_core.proofs.CallerLemmas.{in_take}
pub use Rattle.col_core.proofs.CallerLemmas.{in_flat_map}
pub use Rattle.col_core.proofs.CallerLemmas.{in_flat_map-back as to_flat_map}

module _ (F : ℕ → Type 0) where
  stamp_next : (es : List Standing) (ev : Event) (stamp : ℕ) → F (event_number ev stamp)
      → ((x : Standing) → In x es → F x.key.stamp) → (x : Standing) → In x (with_event es ev stamp) → F x.key.stamp
  stamp_next es (events.Single id floor wants) stamp f old x i =
      elim (in_with x (record { key = entry_key stamp id; settled = true }) es i) [
        | inl e ↦ subst (λ (y : Standing). F y.key.stamp) e f
        | inr j ↦ old x j
      ]
  stamp_next es (events.Propose id floor wants) stamp f old x i =
      elim (in_with x (record { key = entry_key stamp id; settled = false }) es i) [
        | inl e ↦ subst (λ (y : Standing). F y.key.stamp) e f
        | inr j ↦ old x j
      ]
  stamp_next es (events.Settle id Open) stamp f old x i = old x i
  stamp_next es (events.Settle id (Gone why)) stamp f old x i = old x (in_filter _ x es i).0
  stamp_next es (events.Settle id (Final n)) stamp f old x i =
      elim (in_with x (record { key = entry_key n id; settled = true }) (without_id id es) i) [
        | inl e ↦ subst (λ (y : Standing). F y.key.stamp) e f
        | inr j ↦ old x (in_filter _ x es j).0
      ]
  stamp_next es (events.Raise to) stamp f old x i = old x i
  stamp_next es (events.Give region from) stamp f old x i = old x i
  stamp_next es (events.Carry region start heads) stamp f old x i = old x i
  stamp_next es (events.Trim counts) stamp f old x i = old x i

  past_stamps : (past : List Entry) → ((e : Entry) → In e past → F (event_number e.event e.stamp))
      → (x : Standing) → In x (laws.entries past) → F x.key.stamp
  past_stamps [] all x i = absurd i
  past_stamps (e ∷ past) all x i =
      stamp_next (laws.entries past) e.event e.stamp (all e (inl refl)) (past_stamps past (λ d j. all d (inr j))) x i

  -- the stamps of the line
  pub line_stamps : (h : List Entry) → ((e : Entry) → In e h → F (event_number e.event e.stamp))
      → (key : Key) → In key (history.line h) → F key.stamp
  line_stamps h all key i =
      let e = in_line (history.entries h) key i in
      subst (λ (k : Key). F k.stamp) e.2
      (past_stamps (reverse h) (λ d j. all d (in_reversed d h j)) e.0
      (subst (λ (es : List Standing). In e.0 es) (entries-of h) e.1))

  pub clock_is : F 0 → (h : List Entry) → ((e : Entry) → In e h → F (event_number e.event e.stamp)) → F
      (history.clock h)
  clock_is none h all =
      of_greatest F none (map (λ (e : Entry). event_number e.event e.stamp) h) (λ n i.
      let r = in_map_back (λ (e : Entry). event_number e.event e.stamp) h n i in subst F r.2 (all r.0 r.1))

-- which event carries a head
carries : (region : ℕ) (ev : Event) (head : Head) → In head (carried region ev)
    → (start : ℕ) × (heads : List Head) × (ev ≡ events.Carry region start heads)
carries region (events.Single id floor wants) head i = absurd i
carries region (events.Propose id floor wants) head i = absurd i
carries region (events.Settle id outcome) head i = absurd i
carries region (events.Raise to) head i = absurd i
carries region (events.Give other from) head i = absurd i
carries region (events.Carry other start heads) head i =
    choice (λ (l : List Head). In head l → (s : ℕ) × (hs : List Head) ×
    (events.Carry other start heads ≡ events.Carry region s hs))
    (other == region) heads []
    (λ t _. (start, heads, ap (λ r. events.Carry r start heads) (eqb-true other region t))) (λ _ j. absurd j) i
carries region (events.Trim counts) head i = absurd i

-- an element of a dated history, by its entry
dated_of : (own : ℕ) (h : List Entry) (e : Entry) → In e h → (d : Dated) × In d (dated own h) × (d.entry ≡ e)
dated_of own h e i =
    in_map_back (λ (d : Dated). d.entry) (dated own h) e
    (subst (λ (es : List Entry). In e es) (sym (dated-is_dated own h).same) i)

entry_of : (own : ℕ) (h : List Entry) (d : Dated) → In d (dated own h) → In d.entry h
entry_of own h d i =
    subst (λ (es : List Entry). In d.entry es) (dated-is_dated own h).same (mapped (dated own h) i) where
      mapped : (ds : List Dated) → In d ds → In d.entry (entries_of ds)
      mapped [] j = absurd j
      mapped (y ∷ ys) (inl e) = inl (ap (λ (z : Dated). z.entry) e)
      mapped (y ∷ ys) (inr j) = inr (mapped ys j)

module _ (F : ℕ → Type 0) (regions : ℕ) (histories : ℕ → List Entry)
    (legal : (r : ℕ) → r < regions → IsColumnHistory r regions (dated r (histories r)))
    (copies : AreTrueCopies regions (λ r. dated r (histories r)))
    (all : (r : ℕ) → r < regions → (e : Entry) → In e (histories r) → F (event_number e.event e.stamp)) where
  -- of an own chain, over some of the events
  own_stamps : (own : ℕ) → own < regions → (h : List Entry) → ((e : Entry) → In e h → In e (histories own)) →
      (head : Head)
      → In head (chain own (dated own h) own) → F head.key.stamp
  own_stamps own lt h within head =
      choice (λ (l : List Head). In head l → F head.key.stamp) (own == own)
      (map (λ key. record { key = key; needs = needs_of (dated own h) key.id })
      (history.line (entries_of (dated own h))))
      (flat_map (λ (d : Dated). carried own d.entry.event) (dated own h))
      (λ _ i.
      let r = in_map_back (λ key. record { key = key; needs = needs_of (dated own h) key.id })
      (history.line (entries_of (dated own h))) head i in
      let key : r.0 ≡ head.key = ap (λ (x : Head). x.key) r.2 in
      subst (λ (k : Key). F k.stamp) key
      (line_stamps F h (λ e j. all own lt e (within e j)) r.0
      (subst (λ (es : List Entry). In r.0 (history.line es)) (dated-is_dated own h).same r.1)))
      (λ f. absurd (laws.apart (own == own) (eq-eqb own own refl) f))

  -- the stamps of what was carried
  other_stamps : (own count region : ℕ) → own < regions → region ≢ own → (head : Head)
      → In head (flat_map (λ (d : Dated). carried region d.entry.event) (dated own (take count (histories own))))
      → F head.key.stamp
  other_stamps own count region lt ne head i =
      let h = histories own in
      let f = in_flat_map (λ (d : Dated). carried region d.entry.event) (dated own (take count h)) head i in
      let e = in_take count h f.0.entry (entry_of own (take count h) f.0 f.1) in
      let d = dated_of own h f.0.entry e in
      let c = carries region f.0.entry.event head f.2 in
      let at = in_slice (dated own h) d.0 d.1 in
      let is : d.0.entry.event ≡ events.Carry region c.0 c.1 = ap (λ (x : Entry). x.event) d.2 ∙ c.2 in
      let l : IsLawfulEvent own regions (take at.0 (dated own h)) (events.Carry region c.0 c.1) d.0.entry.stamp =
      subst (λ (ev : Event). IsLawfulEvent own regions (take at.0 (dated own h)) ev d.0.entry.stamp) is
      (legal own lt at.0 d.0 at.1) in
      let held = to_flat_map (λ (x : Dated). carried region x.entry.event) (dated own h) d.0 head d.1
      (subst (λ (x : Entry). In head (carried region x.event)) (sym d.2) f.2) in
      let copy = copies region own l.2 lt ne in
      let front : In head (chain own (dated own h) region) =
      choice (λ (l : List Head). In head l) (region == own)
      (map (λ key. record { key = key; needs = needs_of (dated own h) key.id })
      (history.line (entries_of (dated own h))))
      (flat_map (λ (x : Dated). carried region x.entry.event) (dated own h))
      (λ t. absurd (ne (eqb-true region own t))) (λ _. held) in
      own_stamps region l.2 (histories region) (λ x j. j) head
      (subst (λ (l : List Head). In head l) copy.beginning (in_left head (chain own (dated own h) region) copy.rest
      front))

  -- the stamps of all chains
  pub chain_stamps : (own count region : ℕ) → own < regions → (head : Head)
      → In head (chain own (dated own (take count (histories own))) region) → F head.key.stamp
  chain_stamps own count region lt head i =
      let h = take count (histories own) in
      laws.by_test _ (region == own)
      (λ t. own_stamps own lt h (in_take count (histories own)) head
      (subst (λ r. In head (chain own (dated own h) r)) (eqb-true region own t) i))
      (λ f. other_stamps own count region lt (λ e. laws.apart (region == own) (eq-eqb region own e) f) head
      (choice (λ (l : List Head). In head l → In head (flat_map (λ (d : Dated). carried region d.entry.event)
      (dated own h)))
      (region == own)
      (map (λ key. record { key = key; needs = needs_of (dated own h) key.id })
      (history.line (entries_of (dated own h))))
      (flat_map (λ (d : Dated). carried region d.entry.event) (dated own h))
      (λ t. absurd (laws.apart (region == own) t f)) (λ _ j. j) i))
