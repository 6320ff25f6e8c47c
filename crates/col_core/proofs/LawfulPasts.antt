-- A lawful history, read from its newest entry on, is a lawful past.
use Rattle.std.proofs.Common.{◌≡◌, ℕ, suc, ◌+◌, ◌<◌, max, List, [], ◌∷◌, ◌++◌, take, Option, Some, None, Bool, true, false, refl, subst, ap, sym, ◌∙◌, inl, inr, append_assoc, append-nil}
use Rattle.std.specs.Prelude.{not, reverse, slice_get, IsSomeAnd}
use Rattle.std.specs.List.{find}
use Rattle.std.proofs.lemmas.List.{reverse-append, reverse-reverse, map-append}
use Rattle.std.proofs.lemmas.List.Folds.{list_any-append}
use Rattle.std.proofs.lemmas.Bool.{or_parts, true≢false, and_parts}
use Rattle.std.proofs.lemmas.Grind.{fold-append}
use Rattle.log_node.specs.declared.ids.Id.{Id}
use Rattle.log_node.specs.Order.{same_id}
use Rattle.log_node.specs.declared.marks.Outcome.{Outcome}
use Rattle.log_node.specs.declared.marks.Outcome.TheVariants.{Open, Gone, Final}
use Rattle.log_node.specs.Standings.{Standing, open_entry, is_open_id}
use Rattle.col_core.specs.declared.Event.{Event}
use Rattle.col_core.specs.declared.Event.TheVariants as events
use Rattle.col_core.specs.declared.Entry.{Entry}
use Rattle.col_core.specs.History as History
use Rattle.col_core.specs.History.{with_event, event_number, enters, has_entered, entry_key}
use Rattle.col_core.specs.Cuts.{Dated, entries_of}
use Rattle.col_core.specs.Legal as Legal
use Rattle.col_core.specs.Legal.{IsLawfulEvent, IsColumnHistory}
use Rattle.col_core.proofs.Appending.{clock-append}
use Rattle.col_core.proofs.Basics.{by_test, if_true, if_false, not_true, same_id-true}
use Rattle.col_core.proofs.Pasts.{Status, Absent, Alone, Waits, Settled, status, after_event, standing_of, clock, entries, MayEnter, MaySettle, IsLawfulNext, IsLawfulPast}
use Rattle.col_core.proofs.Members.{In, shown, no_standing}

pub reverse-cons : {A : Type 0} (x : A) (xs : List A) → reverse (x ∷ xs) ≡ reverse xs ++ x ∷ []
reverse-cons x xs = reverse-append (x ∷ []) xs

pub reverse-push : {A : Type 0} (x : A) (xs : List A) → reverse (xs ++ x ∷ []) ≡ x ∷ reverse xs
reverse-push x xs = reverse-append xs (x ∷ [])

entries-reverse : (past : List Entry) → History.entries (reverse past) ≡ entries past
entries-reverse [] = refl
entries-reverse (e ∷ past) =
    let step = λ (standing : List Standing) (d : Entry). with_event standing d.event d.stamp in
    ap History.entries (reverse-cons e past)
    ∙ (fold-append step [] (reverse past) (e ∷ []) ∙ ap (λ (standing : List Standing). with_event standing e.event e.stamp) (entries-reverse past))

pub entries-of : (h : List Entry) → History.entries h ≡ entries (reverse h)
entries-of h = sym (ap History.entries (reverse-reverse h)) ∙ entries-reverse (reverse h)

clock-reverse : (past : List Entry) → History.clock (reverse past) ≡ clock past
clock-reverse [] = refl
clock-reverse (e ∷ past) =
    ap History.clock (reverse-cons e past) ∙ (clock-append (reverse past) e ∙ ap (λ (n : ℕ). max n (event_number e.event e.stamp)) (clock-reverse past))

pub clock-of : (h : List Entry) → History.clock h ≡ clock (reverse h)
clock-of h = sym (ap History.clock (reverse-reverse h)) ∙ clock-reverse (reverse h)

-- an id that no event enters is absent
absent_next : (past : List Entry) (ev : Event) (stamp : ℕ) → IsLawfulNext past ev stamp → (id : Id) → status id past ≡ Absent → enters id ev ≡ false → after_event id ev stamp (status id past) ≡ Absent
absent_next past (events.Single other floor wants) stamp l id a none = if_false (same_id id other) (Alone stamp) (status id past) none ∙ a
absent_next past (events.Propose other floor wants) stamp l id a none = if_false (same_id id other) (Waits stamp) (status id past) none ∙ a
absent_next past (events.Settle other o) stamp l id a none =
    by_test _ (same_id id other)
    (λ t. let w = l.waits in let e : Absent ≡ Waits l.stamp = sym a ∙ (ap (λ (i : Id). status i past) (same_id-true id other t) ∙ w) in absurd (let f : ⊥ = cc in f))
    (λ f. if_false (same_id id other) (Settled o) (status id past) f ∙ a)
absent_next past (events.Raise _) stamp l id a none = a
absent_next past (events.Give _ _) stamp l id a none = a
absent_next past (events.Carry _ _ _) stamp l id a none = a
absent_next past (events.Trim _) stamp l id a none = a

absent : (past : List Entry) → IsLawfulPast past → (id : Id) → has_entered id (reverse past) ≡ false → status id past ≡ Absent
absent [] l id none = refl
absent (e ∷ past) l id none =
    let p = or_parts (has_entered id (reverse past)) (has_entered id (e ∷ [])) (sym (list_any-append (λ (d : Entry). enters id d.event) (reverse past) (e ∷ [])) ∙ (ap (has_entered id) (sym (reverse-cons e past)) ∙ none)) in
    let q = or_parts (enters id e.event) false p.1 in
    absent_next past e.event e.stamp l.0 id (absent past l.1 id p.0) q.0

-- the id of an entry has entered
pub shown_entered : (past : List Entry) → IsLawfulPast past → (x : Standing) → In x (entries past) → has_entered x.key.id (reverse past) ≡ true
shown_entered past l x i =
    by_test _ (has_entered x.key.id (reverse past)) (λ t. t)
    (λ f. absurd (no_standing x.key.id (status x.key.id past) x (absent past l x.key.id f) (shown past l x i)))

pub open_waits : (id : Id) (st : Status) (f : Standing) → standing_of id st ≡ Some f → f.settled ≡ false → st ≡ Waits f.key.stamp
open_waits id Absent f h o = absurd (let x : ⊥ = cc in x)
open_waits id (Alone s) f h o = let x : record { key = entry_key s id; settled = true } ≡ f = cc in absurd (true≢false (ap (λ (g : Standing). g.settled) x ∙ o))
open_waits id (Waits s) f h o = let x : record { key = entry_key s id; settled = false } ≡ f = cc in ap (λ (g : Standing). Waits g.key.stamp) x
open_waits id (Settled Open) f h o = absurd (let x : ⊥ = cc in x)
open_waits id (Settled (Gone why)) f h o = absurd (let x : ⊥ = cc in x)
open_waits id (Settled (Final n)) f h o = let x : record { key = entry_key n id; settled = true } ≡ f = cc in absurd (true≢false (ap (λ (g : Standing). g.settled) x ∙ o))

pub found : (test : Standing → Bool) (es : List Standing) (e : Standing) → find test es ≡ Some e → In e es × (test e ≡ true)
found test [] e h = absurd (let x : ⊥ = cc in x)
found test (f ∷ fs) e h =
    by_test _ (test f)
    (λ t. let s : Some f ≡ Some e = sym (if_true (test f) (Some f) (find test fs) t) ∙ h in let is : f ≡ e = cc in (inl is, subst (λ (x : Standing). test x ≡ true) is t))
    (λ no. let r = found test fs e (sym (if_false (test f) (Some f) (find test fs) no) ∙ h) in (inr r.0, r.1))

settling : (outcome : Outcome) (e : Standing) → Legal.IsSettling outcome e → Rattle.col_core.proofs.Pasts.IsSettling outcome e.key.stamp
settling Open e h = h
settling (Gone why) e h = h
settling (Final f) e h = h

settle_next : (past : List Entry) → IsLawfulPast past → (id : Id) (outcome : Outcome) (o : Option Standing) → open_entry id (entries past) ≡ o → IsSomeAnd o (Legal.IsSettling outcome) → MaySettle past id outcome 0
settle_next past l id outcome None is h = absurd h
settle_next past l id outcome (Some e) is h =
    let r = found (is_open_id id) (entries past) e is in
    let p = and_parts (not e.settled) (same_id e.key.id id) r.1 in
    let same = same_id-true e.key.id id p.1 in
    record {
      none = refl;
      stamp = e.key.stamp;
      waits = subst (λ (i : Id). status i past ≡ Waits e.key.stamp) same (open_waits e.key.id (status e.key.id past) e (shown past l e r.0) (not_true e.settled p.0));
      settling = settling outcome e h;
    }

-- the past of a dated history
abbrev pub past_of : List Dated → List Entry
past_of ds = reverse (entries_of ds)

lawful_next : (own regions : ℕ) (before : List Dated) (ev : Event) (stamp : ℕ) → IsLawfulPast (past_of before) → IsLawfulEvent own regions before ev stamp → IsLawfulNext (past_of before) ev stamp
lawful_next own regions before (events.Single id floor wants) stamp l h = record {
  fresh = absent (past_of before) l id (ap (has_entered id) (reverse-reverse (entries_of before)) ∙ h.fresh);
  stamped = h.stamped ∙ ap (λ (n : ℕ). max n floor + 1) (clock-of (entries_of before));
  in_range = h.in_range;
}
lawful_next own regions before (events.Propose id floor wants) stamp l h = record {
  fresh = absent (past_of before) l id (ap (has_entered id) (reverse-reverse (entries_of before)) ∙ h.fresh);
  stamped = h.stamped ∙ ap (λ (n : ℕ). max n floor + 1) (clock-of (entries_of before));
  in_range = h.in_range;
}
lawful_next own regions before (events.Settle id outcome) stamp l h =
    subst (λ (n : ℕ). MaySettle (past_of before) id outcome n) (sym h.0)
    (settle_next (past_of before) l id outcome (open_entry id (History.entries (entries_of before))) (ap (open_entry id) (sym (entries-of (entries_of before)))) h.1)
lawful_next own regions before (events.Raise to) stamp l h = record {
  none = h.0;
  above = subst (λ (n : ℕ). n < to) (clock-of (entries_of before)) h.1;
  in_range = h.2;
}
lawful_next own regions before (events.Give _ _) stamp l h = tt
lawful_next own regions before (events.Carry _ _ _) stamp l h = tt
lawful_next own regions before (events.Trim _) stamp l h = tt

past_of-push : (before : List Dated) (d : Dated) → past_of (before ++ d ∷ []) ≡ d.entry ∷ past_of before
past_of-push before d = ap reverse (map-append (λ (x : Dated). x.entry) before (d ∷ [])) ∙ reverse-push d.entry (entries_of before)

lawful_more : (own regions : ℕ) (before rest : List Dated) → IsLawfulPast (past_of before)
    → ((n : ℕ) (d : Dated) → slice_get rest n ≡ Some d → IsLawfulEvent own regions (before ++ take n rest) d.entry.event d.entry.stamp)
    → IsLawfulPast (past_of (before ++ rest))
lawful_more own regions before [] l h = subst (λ (ds : List Dated). IsLawfulPast (past_of ds)) (sym (append-nil before)) l
lawful_more own regions before (d ∷ rest) l h =
    let here = subst (λ (ds : List Dated). IsLawfulEvent own regions ds d.entry.event d.entry.stamp) (append-nil before) (h 0 d refl) in
    let next : IsLawfulPast (d.entry ∷ past_of before) = (lawful_next own regions before d.entry.event d.entry.stamp l here, l) in
    subst (λ (ds : List Dated). IsLawfulPast (past_of ds)) (append_assoc before (d ∷ []) rest)
    (lawful_more own regions (before ++ d ∷ []) rest (subst IsLawfulPast (sym (past_of-push before d)) next)
    (λ n e there. subst (λ (ds : List Dated). IsLawfulEvent own regions ds e.entry.event e.entry.stamp) (sym (append_assoc before (d ∷ []) (take n rest))) (h (suc n) e there)))

pub lawful_past : (own regions : ℕ) (history : List Dated) → IsColumnHistory own regions history → IsLawfulPast (past_of history)
lawful_past own regions history h = lawful_more own regions [] history tt h

pub lawful_front : (newer past : List Entry) → IsLawfulPast (newer ++ past) → IsLawfulPast past
lawful_front [] past l = l
lawful_front (d ∷ newer) past l = lawful_front newer past l.1
