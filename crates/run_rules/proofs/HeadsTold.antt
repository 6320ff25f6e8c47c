-- The nodes in chains are of clients that the report shows: carried heads are those of true copies.
use Rattle.std.proofs.Common.{◌≡◌, ◌∙◌, refl, ap, sym, subst, ℕ, List, [], ◌∷◌, length, map, take}
use Rattle.std.specs.Prelude.{◌≢◌, ◌==◌}
use Rattle.std.specs.List.{flat_map}
use Rattle.std.proofs.lemmas.Bool.{both_ways, eq-eqb, eqb-true}
use Rattle.log_node.specs.declared.ids.Key.{Key}
use Rattle.log_node.specs.declared.node.Head.{Head}
use Rattle.col_core.specs.declared.Event.{Event}
use Rattle.col_core.specs.declared.Event.TheVariants as events
use Rattle.col_core.specs.declared.Entry.{Entry}
use Rattle.col_core.specs.Computed.{dated}
use Rattle.col_core.specs.Cuts.{Dated, carried, chain, entries_of, needs_of}
use Rattle.col_core.specs.History.{line}
use Rattle.col_core.specs.Legal.{IsLawfulEvent}
use Rattle.col_core.specs.PlayOrder.{Place, Stands}
use Rattle.col_core.proofs.CallerLemmas.{In, by_test, dated-is_dated, if_false, if_true, in_flat_map, in_flat_map-back, in_left, in_map, in_map-back, in_slice, in_take, slice_in}
use Rattle.script_text.specs.declared.script.Script.{Script}
use Rattle.script_text.specs.Fitting.{IsFitting}
use Rattle.report_text.specs.declared.report.Report.{Report}
use Rattle.run_rules.specs.Told.{Account, IsTold}
use Rattle.run_rules.specs.Rules.{Rule1, Rule2, Rule3, Rule4, Rule5}
use Rattle.run_rules.specs.Agreeing.{HasColumn}
use Rattle.run_rules.proofs.KeysTold.{IsAbove, MovesNamed, column_of, key_above}

-- an event brings heads of a region by carrying them
carries : (region : ℕ) (event : Event) (head : Head) → In head (carried region event)
    → (start : ℕ) × (heads : List Head) × (event ≡ events.Carry region start heads)
carries region (events.Single id floor wants) head i = absurd i
carries region (events.Propose id floor wants) head i = absurd i
carries region (events.Settle id outcome) head i = absurd i
carries region (events.Raise to) head i = absurd i
carries region (events.Give other from) head i = absurd i
carries region (events.Carry other start heads) head i =
    by_test _ (other == region)
    (λ t. (start, heads, ap (λ (r : ℕ). events.Carry r start heads) (eqb-true other region t)))
    (λ f. absurd (subst (In head) (if_false (other == region) heads [] f) i))
carries region (events.Trim counts) head i = absurd i

take_all : (h : List Entry) → take (length h) h ≡ h
take_all [] = refl
take_all (e ∷ es) = ap (λ (l : List Entry). e ∷ l) (take_all es)

module _ (script : Script) (report : Report) (a : Account) (fits : IsFitting script) (told : IsTold script report a)
    (first : Rule1 script report a) (second : Rule2 script report) (third : Rule3 script a) (fourth : Rule4 script report a)
    (fifth : Rule5 script report a) (moves : MovesNamed script report a) where
  abbrev Above : Key → Type 0
  Above key = IsAbove script report a fits told first second third fourth fifth moves key

  line_above : (r c : ℕ) → HasColumn script r c → (key : Key) (n : ℕ) → In key (line (take n (a.log.histories r c)))
      → Above key
  line_above r c has key n i = key_above script report a fits told first second third fourth fifth moves r c has key n i

  -- a head of the own chain, after some events
  own_above : (r c : ℕ) → HasColumn script r c → (n : ℕ) (head : Head)
      → In head (chain r (dated r (take n (a.log.histories r c))) r) → Above head.key
  own_above r c has n head i =
      let h = take n (a.log.histories r c) in
      let is = if_true (r == r) (map (λ (key : Key). record { key = key; needs = needs_of (dated r h) key.id })
      (line (entries_of (dated r h)))) (flat_map (λ (d : Dated). carried r d.entry.event) (dated r h)) (eq-eqb r r refl) in
      let m = in_map (λ (key : Key). record { key = key; needs = needs_of (dated r h) key.id }) (line (entries_of (dated r h)))
      head (subst (In head) is i) in
      subst Above (ap (λ (x : Head). x.key) m.2)
      (line_above r c has m.0 n (subst (λ (es : List Entry). In m.0 (line es)) (dated-is_dated r h).same m.1))

  -- a head of another region's chain
  other_above : (r c : ℕ) → HasColumn script r c → (n region : ℕ) → region ≢ r → (head : Head)
      → In head (flat_map (λ (d : Dated). carried region d.entry.event) (dated r (take n (a.log.histories r c))))
      → Above head.key
  other_above r c has n region apart head i =
      let h = a.log.histories r c in
      let ds = dated r h in
      let d = in_flat_map (λ (d : Dated). carried region d.entry.event) (dated r (take n h)) head i in
      let among : In d.0.entry h = in_take n h d.0.entry
      (subst (In d.0.entry) (dated-is_dated r (take n h)).same
      (in_map-back (λ (x : Dated). x.entry) (dated r (take n h)) d.0 d.1)) in
      let e = in_map (λ (x : Dated). x.entry) ds d.0.entry (subst (In d.0.entry) (sym (dated-is_dated r h).same) among) in
      let carry = carries region d.0.entry.event head d.2 in
      let at = in_slice ds e.0 e.1 in
      let event : e.0.entry.event ≡ events.Carry region carry.0 carry.1 = ap (λ (x : Entry). x.event) e.2 ∙ carry.2 in
      let legal = subst (λ (v : Event). IsLawfulEvent r script.shape.regions (take at.0 ds) v e.0.entry.stamp) event
      ((column_of script report a fits told first second third fourth fifth moves r c has).0 at.0 e.0 at.1) in
      let low = legal.2 in
      let held : In head (flat_map (λ (x : Dated). carried region x.entry.event) ds) =
      in_flat_map-back (λ (x : Dated). carried region x.entry.event) ds e.0 head e.1
      (subst (λ (v : Event). In head (carried region v)) (ap (λ (x : Entry). x.event) (sym e.2)) d.2) in
      let copy = third.copies c has.1 region r low has.0 apart in
      let is : chain r ds region ≡ flat_map (λ (x : Dated). carried region x.entry.event) ds =
      if_false (region == r) (map (λ (key : Key). record { key = key; needs = needs_of ds key.id }) (line (entries_of ds)))
      (flat_map (λ (x : Dated). carried region x.entry.event) ds)
      (by_test _ (region == r) (λ t. absurd (apart (eqb-true region r t))) (λ f. f)) in
      let there : In head (chain region (dated region (a.log.histories region c)) region) =
      subst (In head) copy.beginning (in_left head (chain r ds region) copy.rest (subst (In head) (sym is) held)) in
      own_above region c (low, has.1) (length (a.log.histories region c)) head
      (subst (λ (l : List Entry). In head (chain region (dated region l) region)) (sym (take_all (a.log.histories region c))) there)

  -- the head at a place of a chain
  pub head_above : (r c : ℕ) → HasColumn script r c → (n : ℕ) (place : Place) (head : Head)
      → Stands (chain r (dated r (take n (a.log.histories r c)))) place head → Above head.key
  head_above r c has n place head s =
      let ds = dated r (take n (a.log.histories r c)) in
      let own = map (λ (key : Key). record { key = key; needs = needs_of ds key.id }) (line (entries_of ds)) in
      let rest = flat_map (λ (d : Dated). carried place.region d.entry.event) ds in
      let i = slice_in (chain r ds place.region) place.position head s in
      by_test _ (place.region == r)
      (λ t. own_above r c has n head
      (subst (λ (k : ℕ). In head (chain r ds k)) (eqb-true place.region r t) i))
      (λ f. other_above r c has n place.region
      (λ e. absurd (both_ways (place.region == r) f (eq-eqb place.region r e))) head
      (subst (In head) (if_false (place.region == r) own rest f) i))
