-- What a lawful history says of one id, of its open entries and of its clock, read off the statuses of its past.
use Rattle.std.proofs.Common.{◌≡◌, ℕ, ◌≤◌, max, List, [], ◌∷◌, ◌++◌, Option, Some}
use Rattle.std.proofs.Common.{None, Bool, true, false, refl, subst, ap, sym, ◌∙◌, inl, inr, ◌⊎◌, arith}
use Rattle.std.specs.Prelude.{◌||◌, not, map, reverse, slice_get, IsTrue}
use Rattle.std.specs.List.{Contains, filter}
use Rattle.std.proofs.lemmas.Bool.{true≢false, and_from, and_parts, or_left, or_right}
use Rattle.std.proofs.lemmas.List.Folds.{list_any-append}
use Rattle.std.proofs.lemmas.List.{reverse-append, reverse-reverse, take-append-le}
use Rattle.std.proofs.lemmas.List.Elements.{Contains-append_left}
use Rattle.std.proofs.lemmas.Option.{slice_get_within}
use Rattle.log_node.specs.declared.ids.Id.{Id}
use Rattle.log_node.specs.declared.ids.Key.{Key}
use Rattle.log_node.specs.declared.ids.Counts.{Counts}
use Rattle.log_node.specs.Order.{same_id, key_below}
use Rattle.log_node.specs.declared.marks.Outcome.{Outcome}
use Rattle.log_node.specs.declared.marks.Outcome.TheVariants.{Open, Gone, Final}
use Rattle.log_node.specs.Standings.{Standing, open_entry, is_open_id, is_delivered}
use Rattle.col_core.specs.declared.Event.TheVariants as events
use Rattle.col_core.specs.declared.Entry.{Entry}
use Rattle.col_core.specs.History.{line, entry_key, last_stamp, enters, has_entered, IsAtEnd}
use Rattle.col_core.specs.History as History
use Rattle.col_core.specs.Cuts.{Dated}
use Rattle.col_core.specs.Computed.{dated}
use Rattle.col_core.specs.Legal.{IsLawfulEvent, IsColumnHistory}
use Rattle.col_core.specs.Ids.{IsFinal, Singles, Proposes, Settles, HasCome, IsOver, alone, settled}
use Rattle.col_core.specs.Ids.{is_open_below, open_below}
use Rattle.col_core.specs.IdLaws.{OnlyLeave, IsSettled, IsAlone, IsProposed, ClockRises}
use Rattle.col_core.proofs.Basics.{same_id-refl, by_test, same_id-true}
use Rattle.col_core.proofs.KeyOrder.{key-stamps, key-total}
use Rattle.col_core.proofs.Pasts.{Status, Absent, Alone, Waits, Settled, status, standing_of, entries, clock}
use Rattle.col_core.proofs.Pasts.{IsLawfulPast}
use Rattle.col_core.proofs.Members.{In, Rises, rises, rises-filter, in_filter, in_filter-back, shown, stands}
use Rattle.col_core.proofs.LawfulPasts.{entries-of, clock-of, lawful_past, open_waits}
use Rattle.col_core.proofs.Growth.{entry_within, in_all}
use Rattle.col_core.proofs.ChainGrowth.{slice_longer}
use Rattle.col_core.proofs.DatedLaws.{later}
use Rattle.col_core.proofs.Facts.{dates_longer, entries_dated}
use Rattle.col_core.proofs.Elements.{in_contains, contains_in, in_slice, slice_in, in_reverse, in_reversed}
use Rattle.col_core.proofs.Elements.{fewer, fewer_less}
use Rattle.col_core.proofs.Statuses.{IsClosed, settled_status, alone_status, proposed_status, came_alone, came_open}
use Rattle.col_core.proofs.Statuses.{was_settled}
use Rattle.col_core.proofs.Statuses.{decided, entered_not_absent, open_by_status, finds, status_open, closed_by_status}
use Rattle.col_core.proofs.Statuses.{once_proposed, waited_before, clock_rises, past_clock_within}

-- a lawful history's past, and that of one more list of events
pub past_is_lawful : (own regions : ℕ) (history : List Entry) → IsColumnHistory own regions (dated own history)
    → IsLawfulPast (reverse history)
past_is_lawful own regions history h =
    subst (λ (x : List Entry). IsLawfulPast (reverse x)) (entries_dated own history)
    (lawful_past own regions (dated own history) h)

-- a lawful history's beginnings are lawful
pub lawful_beginning : (own regions : ℕ) (history more : List Entry)
    → IsColumnHistory own regions (dated own (history ++ more))
    → IsColumnHistory own regions (dated own history)
lawful_beginning own regions history more h n d there =
    let ds = dated own history in
    let rest = later own ds more in
    let whole : IsColumnHistory own regions (ds ++ rest) = subst (IsColumnHistory own regions)
    (dates_longer own history more) h in
    let lt = slice_get_within ds n d there in
    subst (λ (x : List Dated). IsLawfulEvent own regions x d.entry.event d.entry.stamp)
    (take-append-le n ds rest (omega (arith, lt)))
    (whole n d (slice_longer ds rest n d there))

in_past : (history : List Entry) (x : Standing) → Contains (History.entries history) x
    → In x (entries (reverse history))
in_past history x c = subst (λ (es : List Standing). In x es) (entries-of history)
    (in_contains (History.entries history) x c)

in_history : (history : List Entry) (x : Standing) → In x (entries (reverse history))
    → Contains (History.entries history) x
in_history history x i = contains_in (History.entries history) x
    (subst (λ (es : List Standing). In x es) (sym (entries-of history)) i)

event_at : (history : List Entry) (n : ℕ) (e : Entry) → slice_get history n ≡ Some e → In e (reverse history)
event_at history n e at = in_reverse e history (slice_in history n e at)

settle_in : (history : List Entry) (e : Entry) → Contains history e → In e (reverse history)
settle_in history e c = in_reverse e history (in_contains history e c)

open_of : (history : List Entry) (id : Id) (o : Option Standing) → open_entry id (entries (reverse history)) ≡ o
    → open_entry id (History.entries history) ≡ o
open_of history id o e = ap (open_entry id) (entries-of history) ∙ e

open_back : (history : List Entry) (id : Id) (o : Option Standing) → open_entry id (History.entries history) ≡ o
    → open_entry id (entries (reverse history)) ≡ o
open_back history id o e = ap (open_entry id) (sym (entries-of history)) ∙ e

-- What holds of a history holds of a longer one

pub settles_longer : (history more : List Entry) (id : Id) (o : Outcome) → Settles history id o
    → Settles (history ++ more) id o
settles_longer history more id o s = (s.0, Contains-append_left history more s.0 s.1, s.2)

pub singles_longer : (history more : List Entry) (id : Id) (stamp : ℕ) → Singles history id stamp
    → Singles (history ++ more) id stamp
singles_longer history more id stamp s = (s.0, s.1, s.2, s.3, slice_longer history more s.0 s.1 s.4, s.5, s.6)

pub proposes_longer : (history more : List Entry) (id : Id) (stamp : ℕ) → Proposes history id stamp
    → Proposes (history ++ more) id stamp
proposes_longer history more id stamp s = (s.0, s.1, s.2, s.3, slice_longer history more s.0 s.1 s.4, s.5, s.6)

pub entered_longer : (history more : List Entry) (id : Id) → has_entered id history ≡ true
    → has_entered id (history ++ more) ≡ true
entered_longer history more id t = list_any-append (λ (e : Entry). enters id e.event) history more
    ∙ or_left (has_entered id history) (has_entered id more) t

-- Open entries

-- an open entry under no later stamp was open before
pub opens_above : (own regions : ℕ) (history more : List Entry) (f : Standing)
    → IsColumnHistory own regions (dated own (history ++ more))
    → Contains (History.entries (history ++ more)) f → f.settled ≡ false → f.key.stamp ≤ History.clock history
    → Contains (History.entries history) f
opens_above own regions history more f h c unsettled le =
    let split = reverse-append history more in
    let l = past_is_lawful own regions (history ++ more) h in
    let shows = shown (reverse (history ++ more)) l f (in_past (history ++ more) f c) in
    let waits = open_waits f.key.id (status f.key.id (reverse (history ++ more))) f shows unsettled in
    let before : status f.key.id (reverse history) ≡ Waits f.key.stamp =
    waited_before (reverse more) (reverse history) (subst IsLawfulPast split l) f.key.id f.key.stamp
    (ap (status f.key.id) (sym split) ∙ waits) (subst (λ (n : ℕ). f.key.stamp ≤ n) (clock-of history) le) in
    in_history history f
    (stands (reverse history) (past_is_lawful own regions history
    (lawful_beginning own regions history more h)) f.key.id f
    (ap (standing_of f.key.id) (before ∙ sym waits) ∙ shows))

rising : (own regions : ℕ) (history : List Entry) → IsColumnHistory own regions (dated own history)
    → Rises (History.entries history)
rising own regions history h = subst Rises (sym (entries-of history))
    (rises (reverse history) (past_is_lawful own regions history h))

module _ (own regions : ℕ) (history more : List Entry) (key : Key)
    (h : IsColumnHistory own regions (dated own (history ++ more)))
    (le : key.stamp ≤ History.clock history) where
  was_below : (z : Standing) → In z (open_below key (history ++ more)) → In z (open_below key history)
  was_below z i =
      let p = in_filter (is_open_below key) z (History.entries (history ++ more)) i in
      let q = and_parts (not z.settled) (key_below z.key key) p.1 in
      let low = key-stamps z.key key q.1 in
      in_filter-back (is_open_below key) z (History.entries history)
      (in_contains (History.entries history) z
      (opens_above own regions history more z h (contains_in (History.entries (history ++ more)) z p.0)
      (unsettled z.settled q.0) (omega (arith, low, le)))) p.1 where
        unsettled : (b : Bool) → not b ≡ true → b ≡ false
        unsettled true e = absurd (true≢false (sym e))
        unsettled false e = refl

  rises_later : Rises (open_below key (history ++ more))
  rises_later = rises-filter (is_open_below key) (History.entries (history ++ more))
      (rising own regions (history ++ more) h)

  missing : (f : Standing) → open_entry f.key.id (History.entries (history ++ more)) ≡ None
      → In f (open_below key (history ++ more)) → ⊥
  missing f none i =
      let p = in_filter (is_open_below key) f (History.entries (history ++ more)) i in
      let q = and_parts (not f.settled) (key_below f.key key) p.1 in
      let r = finds (is_open_id f.key.id) (History.entries (history ++ more)) f p.0
      (and_from (not f.settled) (same_id f.key.id f.key.id) q.0 (same_id-refl f.key.id)) in
      let e = r.1 in
      let s : None ≡ Some r.0 = sym none ∙ e in let x : ⊥ = cc in x

  pub only_leave : OnlyLeave history more key
  only_leave = record {
    fewer = fewer (open_below key (history ++ more)) (open_below key history) rises_later was_below;
    left = λ f c b none. fewer_less (open_below key (history ++ more)) (open_below key history) f rises_later
        (in_filter-back (is_open_below key) f (History.entries history)
        (in_contains (History.entries history) f c) b)
        (λ z i. (was_below z i, λ e. missing f none (subst (λ (x : Standing). In x (open_below key (history ++ more))) e i)));
  }

key_in : (es : List Standing) (e : Standing) → In e es → In e.key (map (λ (x : Standing). x.key) es)
key_in [] e i = absurd i
key_in (y ∷ es) e (inl is) = inl (ap (λ (x : Standing). x.key) is)
key_in (y ∷ es) e (inr i) = inr (key_in es e i)

-- a final entry stands in the line where no open one is below it
pub clear_stands : (own regions : ℕ) (history : List Entry) (id : Id) (stamp : ℕ)
    → IsColumnHistory own regions (dated own history) → IsFinal history id stamp
    → open_below (entry_key stamp id) history ≡ [] → Contains (line history) (entry_key stamp id)
clear_stands own regions history id stamp h final clear =
    contains_in (line history) key
    (key_in (filter (is_delivered es) es) e
    (in_filter-back (is_delivered es) e es i (in_all (λ (f : Standing). f.settled || key_below key f.key) es each))) where
      es : List Standing
      es = History.entries history

      key : Key
      key = entry_key stamp id

      e : Standing
      e = record { key = entry_key stamp id; settled = true }

      i : In (record { key = entry_key stamp id; settled = true }) (History.entries history)
      i = in_contains (History.entries history) (record { key = entry_key stamp id; settled = true }) final

      shows : (f : Standing) → In f (History.entries history) → standing_of f.key.id (status f.key.id (reverse history)) ≡ Some f
      shows f j = shown (reverse history) (past_is_lawful own regions history h) f
          (subst (λ (l : List Standing). In f l) (entries-of history) j)

      each : (f : Standing) → In f (History.entries history) → (f.settled || key_below (entry_key stamp id) f.key) ≡ true
      each f j =
          by_test _ f.settled (λ t. or_left f.settled _ t)
          (λ o. or_right f.settled _ (key-total f.key (entry_key stamp id)
          (λ same. let x : Some f ≡ Some (record { key = entry_key stamp id; settled = true }) = sym (shows f j)
          ∙ (ap (λ (k : Id). standing_of k (status k (reverse history))) (same_id-true f.key.id id same)
          ∙ shows (record { key = entry_key stamp id; settled = true }) i) in
          let g : f ≡ record { key = entry_key stamp id; settled = true } = cc in
          true≢false (sym (ap (λ (k : Standing). k.settled) g) ∙ o))
          (λ below. subst (λ (l : List Standing). In f l) clear
          (in_filter-back (is_open_below (entry_key stamp id)) f (History.entries history) j
          (and_from (not f.settled) _ (ap not o) below)))))

-- One id

pub entered_is_over : (own regions : ℕ) (history : List Entry) (id : Id)
    → IsColumnHistory own regions (dated own history)
    → IsTrue (has_entered id history) → open_entry id (History.entries history) ≡ None → IsOver history id
entered_is_over own regions history id h entered none = go (status id (reverse history)) refl where
  l : IsLawfulPast (reverse history)
  l = past_is_lawful own regions history h

  single_of : (s : ℕ) → (e : Entry) × (floor : ℕ) × (wants : Counts) × In e (reverse history) ×
      (e.event ≡ events.Single id floor wants) × (e.stamp ≡ s) → Singles history id s
  single_of s x = let at = in_slice history x.0 (in_reversed x.0 history x.3) in (at.0, x.0, x.1, x.2, at.1, x.4, x.5)

  settle_of : (o : Outcome) → (e : Entry) × In e (reverse history) × (e.event ≡ events.Settle id o)
      → Settles history id o
  settle_of o x = (x.0, contains_in history x.0 (in_reversed x.0 history x.1), x.2)

  go : (st : Status) → status id (reverse history) ≡ st → IsOver history id
  go Absent e = absurd (entered_not_absent (reverse history) id
      (ap (has_entered id) (reverse-reverse history) ∙ entered) e)
  go (Alone s) e = alone s (single_of s (came_alone (reverse history) id s e))
  go (Waits s) e = absurd
      (let some = open_of history id (Some (record { key = entry_key s id; settled = false }))
      (status_open (reverse history) l id s e) in
      let x : ⊥ = cc in x)
  go (Settled o) e = settled o (settle_of o (was_settled (reverse history) id o e))

settled_inj : (o p : Outcome) → Settled o ≡ Settled p → o ≡ p
settled_inj o p e = cc

settled_now : (own regions : ℕ) (history : List Entry) (id : Id) (outcome : Outcome)
    → IsColumnHistory own regions (dated own history)
    → Settles history id outcome → IsSettled history id outcome
settled_now own regions history id outcome h s = record {
  once = λ other t. settled_inj other outcome (sym (by other t) ∙ by outcome s);
  closed = open_of history id None (closed_by_status (reverse history) l id (subst IsClosed (sym (by outcome s)) tt));
  come = come outcome (by outcome s);
} where
  l : IsLawfulPast (reverse history)
  l = past_is_lawful own regions history h

  by : (o : Outcome) → Settles history id o → status id (reverse history) ≡ Settled o
  by o t = settled_status (reverse history) l id o t.0 (settle_in history t.0 t.1) t.2

  come : (o : Outcome) → status id (reverse history) ≡ Settled o → HasCome history id o
  come Open e = decided (reverse history) l id e
  come (Gone why) e = λ x. nothing x.0 (shown (reverse history) l x.0 (in_past history x.0 x.1)) x.2 where
    nothing : (f : Standing) → standing_of f.key.id (status f.key.id (reverse history)) ≡ Some f → f.key.id ≡ id → ⊥
    nothing f shows is =
        let a : standing_of id (status id (reverse history)) ≡ Some f = subst
        (λ (i : Id). standing_of i (status i (reverse history)) ≡ Some f) is shows in
        let b : standing_of id (Settled (Gone why)) ≡ Some f = ap (standing_of id) (sym e) ∙ a in cc
  come (Final f) e = in_history history (record { key = entry_key f id; settled = true })
      (stands (reverse history) l id (record { key = entry_key f id; settled = true }) (ap (standing_of id) e))

pub settled_stays : (own regions : ℕ) (history more : List Entry) (id : Id) (outcome : Outcome)
    → IsColumnHistory own regions (dated own (history ++ more)) → Settles history id outcome
    → IsSettled (history ++ more) id outcome
settled_stays own regions history more id outcome h s =
    settled_now own regions (history ++ more) id outcome h (settles_longer history more id outcome s)

alone_now : (own regions : ℕ) (history : List Entry) (id : Id) (stamp : ℕ)
    → IsColumnHistory own regions (dated own history)
    → Singles history id stamp → IsAlone history id stamp
alone_now own regions history id stamp h s = record {
  unsettled = λ o t. no_settle o (settled_status (reverse history) l id o t.0 (settle_in history t.0 t.1) t.2);
  closed = open_of history id None (closed_by_status (reverse history) l id (subst IsClosed (sym is) tt));
  final = in_history history (record { key = entry_key stamp id; settled = true })
      (stands (reverse history) l id (record { key = entry_key stamp id; settled = true }) (ap (standing_of id) is));
} where
  l : IsLawfulPast (reverse history)
  l = past_is_lawful own regions history h

  is : status id (reverse history) ≡ Alone stamp
  is = alone_status (reverse history) l id s.2 s.3 s.1 (event_at history s.0 s.1 s.4) s.5 ∙ ap (λ (n : ℕ). Alone n) s.6

  no_settle : (o : Outcome) → status id (reverse history) ≡ Settled o → ⊥
  no_settle o e = let x : Alone stamp ≡ Settled o = sym is ∙ e in let f : ⊥ = cc in f

pub singles_stay : (own regions : ℕ) (history more : List Entry) (id : Id) (stamp : ℕ)
    → IsColumnHistory own regions (dated own (history ++ more)) → Singles history id stamp
    → IsAlone (history ++ more) id stamp
singles_stay own regions history more id stamp h s =
    alone_now own regions (history ++ more) id stamp h (singles_longer history more id stamp s)

pub open_is_proposed : (own regions : ℕ) (history : List Entry) (id : Id) (e : Standing)
    → IsColumnHistory own regions (dated own history)
    → open_entry id (History.entries history) ≡ Some e → IsProposed history id e
open_is_proposed own regions history id e h some =
    let r = open_by_status (reverse history) (past_is_lawful own regions history h) id e
    (open_back history id (Some e) some) in
    record { of_id = r.0; unsettled = r.1; proposed = of (came_open (reverse history) id e.key.stamp r.2) } where
      of : (x : Entry) × (floor : ℕ) × (wants : Counts) × In x (reverse history) ×
          (x.event ≡ events.Propose id floor wants) × (x.stamp ≡ e.key.stamp) → Proposes history id e.key.stamp
      of x = let at = in_slice history x.0 (in_reversed x.0 history x.3) in (at.0, x.0, x.1, x.2, at.1, x.4, x.5)

pub proposed_is_open : (own regions : ℕ) (history : List Entry) (id : Id) (stamp : ℕ)
    → IsColumnHistory own regions (dated own history)
    → Proposes history id stamp → ((outcome : Outcome) → Settles history id outcome → ⊥)
    → open_entry id (History.entries history) ≡ Some (record { key = entry_key stamp id; settled = false })
proposed_is_open own regions history id stamp h p none =
    go (proposed_status (reverse history) l id p.2 p.3 p.1 (event_at history p.0 p.1 p.4) p.5) where
      l : IsLawfulPast (reverse history)
      l = past_is_lawful own regions history h

      settle_of : (o : Outcome) → (e : Entry) × In e (reverse history) × (e.event ≡ events.Settle id o)
          → Settles history id o
      settle_of o x = (x.0, contains_in history x.0 (in_reversed x.0 history x.1), x.2)

      go : (status id (reverse history) ≡ Waits p.1.stamp) ⊎ ((o : Outcome) × (status id (reverse history) ≡ Settled o))
          → open_entry id (History.entries history) ≡ Some (record { key = entry_key stamp id; settled = false })
      go (inl w) = open_of history id (Some (record { key = entry_key stamp id; settled = false }))
          (status_open (reverse history) l id stamp (w ∙ ap (λ (n : ℕ). Waits n) p.6))
      go (inr s) = absurd (none s.0 (settle_of s.0 (was_settled (reverse history) id s.0 s.1)))

pub proposed_once : (own regions : ℕ) (history : List Entry) (id : Id) (one other : ℕ)
    → IsColumnHistory own regions (dated own history)
    → Proposes history id one → Proposes history id other → one ≡ other
proposed_once own regions history id one other h p q =
    sym p.6
    ∙ (once_proposed (reverse history) (past_is_lawful own regions history h) id p.2 p.3 p.1 q.2 q.3 q.1
    (event_at history p.0 p.1 p.4) p.5 (event_at history q.0 q.1 q.4) q.5
    ∙ q.6)

-- Clocks

end_stays : (before after floor last : ℕ) → before ≤ after → after ≤ last → max before floor ≡ last
    → max after floor ≡ last
end_stays before after floor last a b e = omega (arith, a, b, e)

pub clocks_rise : (own regions : ℕ) (history more : List Entry)
    → IsColumnHistory own regions (dated own (history ++ more)) → ClockRises history more
clocks_rise own regions history more h = record {
  rises = up;
  within = within;
  ended = λ floor e. end_stays (History.clock history) (History.clock (history ++ more)) floor last_stamp up within e;
  stamps = λ e c. subst (λ (n : ℕ). e.key.stamp ≤ n) (sym (clock-of (history ++ more)))
      (entry_within (reverse (history ++ more)) l e (in_past (history ++ more) e c));
} where
  l : IsLawfulPast (reverse (history ++ more))
  l = past_is_lawful own regions (history ++ more) h

  within : History.clock (history ++ more) ≤ last_stamp
  within = subst (λ (n : ℕ). n ≤ last_stamp) (sym (clock-of (history ++ more)))
      (past_clock_within (reverse (history ++ more)) l)

  up : History.clock history ≤ History.clock (history ++ more)
  up =
      let a = clock-of history in
      let b = clock-of (history ++ more) ∙ ap clock (reverse-append history more) in
      let c = clock_rises (reverse more) (reverse history) in
      omega (arith, a, b, c)
