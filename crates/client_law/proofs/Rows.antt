-- Appends to several colours: what began, what is settled, what is gone, and where an append stopped.
use Rattle.std.proofs.Common.{◌≡◌, ℕ, ◌<◌, ◌≤◌, List, ◌++◌, length, Some, slice_get, refl, ap, sym, subst, ◌∙◌, inl, inr, arith, eqb-true}
use Rattle.std.specs.Prelude.{◌==◌, Option, None, IsTrue}
use Rattle.std.specs.List.{All}
use Rattle.std.proofs.lemmas.List.Elements.{All-contains, All-weaker}
use mathlib.Core.List.{IsPrefix}
use Rattle.log_node.specs.declared.node.Node.{Node}
use Rattle.log_node.specs.Sets.{members}
use Rattle.log_node.specs.Standings.{Standing, open_entry}
use Rattle.col_core.specs.declared.Event as events
use Rattle.col_core.specs.declared.Entry.{Entry}
use Rattle.col_core.specs.History.{entries}
use Rattle.col_core.specs.Computed.{dated}
use Rattle.col_core.specs.Legal.{IsColumnHistory}
use Rattle.col_core.specs.Ids.{IsOver, Proposes, alone, settled, IsStepOf}
use Rattle.col_core.specs.Log.{is_own, places_of}
use Rattle.col_core.specs.Appending.{IsStepWithin}
use Rattle.col_core.specs.Keeping.{Kept, updated, seen_past, with_made, with_row}
use Rattle.col_core.proofs.CallerLemmas.{both, entered_is_over, lawful_beginning, open_is_proposed, proposes_longer, settled_stays, singles_stay}
use Rattle.lawful_run.specs.Callers.{Caller}
use Rattle.lawful_run.specs.Appends.{IsSettledIn, IsSettled}
use Rattle.lawful_run.proofs.CallerLemmas.{get_within, past_within, settled_by_now}
use Rattle.client_law.specs.Knowing.{Seen, Rest, log_seen, SeesOn}
use Rattle.client_law.specs.Making.{MakesAtHome}
use Rattle.client_law.specs.Kept.{IsKeptBy}
use Rattle.client_law.specs.Appends.{steps_since, EachStep, StepsOfMade, RowsBegin, KeptAfterRow, SeesSettledIn, SettledForGood, ClosedStays, NotOpenBetween, SeesSettled, GoneAtEnd, GoneForMemory, StopsStand}
use Rattle.client_law.proofs.Lists.{at_new}
use Rattle.client_law.proofs.Counting.{made_on_top, places_grow, places_stand}
use Rattle.client_law.proofs.Keeping.{keeps_on, seen_on, known_on, under_on, made_on}

pub steps_of_made : StepsOfMade
steps_of_made caller old new colour Is more on made all place e unseen there by own =
    All-contains (λ (x : Entry). IsTrue (is_own caller.client x.event) → Is x.event) more e all
    (made_on_top caller.client (old caller.own colour) (new caller.own colour) more place e (on.more caller.own colour)
    made unseen there by) own

-- At each place of late stands an own step, with an event of the kind that each has.
each_there : (caller : Caller) (old new : Seen) (colour : ℕ) (Is : events.Event → Type 0) → SeesOn caller old new
    → EachStep caller old new colour Is
    → All (λ place. (e : Entry) × (slice_get (new caller.own colour) place ≡ Some e) × (e.by ≡ caller.client)
    × Is e.event) (steps_since caller old new colour)
each_there caller old new colour Is on each k d lt =
    let s = places_stand caller.client (old caller.own colour) (new caller.own colour) (on.more caller.own colour) k d lt in
    let p = both (s.1.by == caller.client) (is_own caller.client s.1.event) s.3 in
    let by = eqb-true s.1.by caller.client p.0 in
    (s.1, s.2, by, each _ s.1 s.0 s.2 by p.1)

pub rows_begin : RowsBegin
rows_begin old new rest caller kept node on b = record {
  several = b.several;
  next = b.next;
  room = b.room;
  row = b.row;
  begun = b.begun;
  steps = λ colour n d lt.
      let t = each_there caller old new colour (IsStepOf node.id) on (b.steps colour) n d lt in
      let s = places_stand caller.client (old caller.own colour) (new caller.own colour) (on.more caller.own colour) n d lt in
      let s0 = s.0 in let before = b.before colour in
      (omega (arith, s0, before), t.0, t.1, t.2, t.3);
}

module _ (caller : Caller) (old new : Seen) (kept : Kept) (on : SeesOn caller old new) where
  -- what is seen after the steps of late, where no more was seen before
  pub steps_seen : (before : Kept) → ((r c : ℕ) → before.seen r c ≤ length (new r c)) → (r c : ℕ)
      → (with_made before caller.own (steps_since caller old new)).seen r c ≤ length (new r c)
  steps_seen before seen r c =
      at_new (λ (f : ℕ → ℕ). f c ≤ length (new r c)) before.seen caller.own
      (λ d. seen_past (before.seen caller.own d) (steps_since caller old new d)) r
      (λ e. subst (λ (x : ℕ). seen_past (before.seen caller.own c) (steps_since caller old new c) ≤ length (new x c))
      (sym e)
      (past_within (length (new caller.own c)) (before.seen caller.own c) (steps_since caller old new c)
      (seen caller.own c) within)) (λ _. seen r c) where
        within : All (λ place. place < length (new caller.own c)) (steps_since caller old new c)
        within k d lt =
            let s = places_stand caller.client (old caller.own c) (new caller.own c) (on.more caller.own c) k d lt in
            get_within (new caller.own c) _ s.1 s.2

  -- the places of its own steps, where it made none in other regions
  pub steps_made : IsKeptBy old caller kept → MakesAtHome caller.client caller.own old new → (r c : ℕ)
      → places_of caller.client (new r c)
      ≡ updated kept.made caller.own (λ d. kept.made caller.own d ++ steps_since caller old new d) r c
  steps_made k home r c =
      at_new (λ (f : ℕ → List ℕ). places_of caller.client (new r c) ≡ f c) kept.made caller.own
      (λ d. kept.made caller.own d ++ steps_since caller old new d) r
      (λ e. subst (λ (x : ℕ). places_of caller.client (new x c) ≡ kept.made caller.own c ++ steps_since caller old new c)
      (sym e)
      (places_grow caller.client (old caller.own c) (new caller.own c) (on.more caller.own c)
      ∙ ap (λ (l : List ℕ). l ++ steps_since caller old new c) (k.steps_made caller.own c)))
      (λ ne. made_on caller old new kept on k r c (home r c ne))

pub kept_after_row : KeptAfterRow
kept_after_row old new caller kept on home k =
    keeps_on caller old new kept (with_made (with_row kept) caller.own (steps_since caller old new)) on k refl
    (omega arith) (steps_seen caller old new kept on (with_row kept) (seen_on caller old new kept on k))
    (known_on caller old new kept on k) (λ c. under_on caller old new kept on k kept.floor c (omega arith))
    (steps_made caller old new kept on k home)

-- SETTLED, GONE, STOPPED

pub settled_for_good : SettledForGood
settled_for_good new rest caller node colour s = settled_by_now (log_seen new rest) caller node colour s

-- a beginning of a lawful history is lawful
lawful_before : (own regions : ℕ) (history longer : List Entry) → IsColumnHistory own regions (dated own longer)
    → IsPrefix history longer → IsColumnHistory own regions (dated own history)
lawful_before own regions history longer lawful p =
    lawful_beginning own regions history p.0
    (subst (λ (h : List Entry). IsColumnHistory own regions (dated own h)) (sym p.1) lawful)

pub closed_stays : ClosedStays
closed_stays own regions seen more id lawful p entered closed =
    subst (λ (h : List Entry). open_entry id (entries h) ≡ None) p.1
    (turn (entered_is_over own regions seen id (lawful_beginning own regions seen p.0 whole) entered closed)) where
      whole : IsColumnHistory own regions (dated own (seen ++ p.0))
      whole = subst (λ (h : List Entry). IsColumnHistory own regions (dated own h)) (sym p.1) lawful

      turn : IsOver seen id → open_entry id (entries (seen ++ p.0)) ≡ None
      turn (alone stamp s) = (singles_stay own regions seen p.0 id stamp whole s).closed
      turn (settled outcome s) = (settled_stays own regions seen p.0 id outcome whole s).closed

pub not_open_between : NotOpenBetween
not_open_between own regions old between new id lawful p q (inl over) =
    closed_stays own regions old between id (lawful_before own regions between new lawful q) p over.0 over.1
not_open_between own regions old between new id lawful p q (inr none) = turn (open_entry id (entries between)) refl where
  turn : (o : Option Standing) → open_entry id (entries between) ≡ o → o ≡ None
  turn None e = refl
  turn (Some x) e =
      let proposed = (open_is_proposed own regions between id x (lawful_before own regions between new lawful q) e).proposed in
      absurd (none x.key.stamp (subst (λ (h : List Entry). Proposes h id x.key.stamp) q.1
      (proposes_longer between q.0 id x.key.stamp proposed)))

settled_all : (new : Seen) (rest : Rest) (caller : Caller) (node : Node) → SeesSettled new rest caller node
    → IsSettled (log_seen new rest) caller node
settled_all new rest caller node s =
    All-weaker (SeesSettledIn new rest caller node) (IsSettledIn (log_seen new rest) caller node)
    (settled_for_good new rest caller node) (members node.colours) s

pub gone_at_end : GoneAtEnd
gone_at_end old new rest caller kept node colour on b ends over = record {
  begins = rows_begin old new rest caller kept node on b;
  ends = ends;
  settled = settled_all new rest caller node over;
}

pub gone_for_memory : GoneForMemory
gone_for_memory old new rest caller kept node on b outcome over = record {
  begins = rows_begin old new rest caller kept node on b;
  outcome = outcome;
  settled = settled_all new rest caller node over;
}

pub stops_stand : StopsStand
stops_stand old new rest caller kept node steps on b s = record {
  begins = rows_begin old new rest caller kept node on b;
  marked = s.marked;
  decided = s.decided;
  settled = λ n colour at within. settled_for_good new rest caller node colour (s.settled n colour at within);
  no_later = λ n colour at k d lt.
      let t = each_there caller old new colour (IsStepWithin n (length (members node.colours)) steps) on
      (s.no_later n colour at) k d lt in
      (t.0, t.1, t.3);
}
