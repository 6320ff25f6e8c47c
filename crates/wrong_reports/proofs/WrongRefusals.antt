-- What refused commands did that they may not have done, and refusals that do not come so.
use Rattle.std.proofs.Common.{◌≡◌, inl, inr, ℕ, zero, suc, ◌<◌, ◌≤◌, List, [], ◌∷◌, ◌++◌, length, take, refl, ap}
use Rattle.std.proofs.Common.{sym, subst, ◌∙◌, arith, lit<, lit≤, slice_get, codes}
use Rattle.std.proofs.Math.Nat.{le-max_right}
use Rattle.std.specs.Prelude.{max, slice_index_or}
use Rattle.std.specs.List.{All, Contains}
use Rattle.log_node.specs.declared.ids.Counts.{Counts}
use Rattle.log_node.specs.declared.ids.Colours.{Colours}
use Rattle.log_node.specs.declared.node.At.TheVariants.{Event}
use Rattle.log_node.specs.Sets.{members}
use Rattle.log_node.specs.Vectors.{at}
use Rattle.col_core.specs.declared.Event.TheVariants.{Raise}
use Rattle.col_core.specs.declared.Entry.{Entry}
use Rattle.col_core.specs.History.{clock}
use Rattle.log_node.specs.Reach.{IsGreatestReachable}
use Rattle.col_core.specs.Cuts.{chain, base}
use Rattle.col_core.specs.Computed.{dated}
use Rattle.col_core.specs.Log.{Log, first, places_of}
use Rattle.col_core.specs.Keeping.{Kept, nothing_kept, updated}
use Rattle.script_text.specs.declared.script.Object.{Object}
use Rattle.script_text.specs.declared.commands.What.TheVariants as whats
use Rattle.lawful_run.specs.Callers.{Caller, caller_of, node_of}
use Rattle.lawful_run.specs.Appends.{IsSettledIn}
use Rattle.lawful_run.specs.Reads.{RaisesClock, HidesRead, HidesSync, HidesSyncs, not_played, played}
use Rattle.lawful_run.specs.Moves.{GivesHeld, GivesTooLow, OnlyGives, kept_after_giving}
use Rattle.lawful_run.specs.Refusals.{FindsNoMemory, nothing, gone, gave, hidden}
use Rattle.lawful_run.specs.Lawful.{LawfulRun}
use Rattle.wrong_reports.specs.Cases.{IsUnlawful, a, x, y, by, on_x, on_both}
use Rattle.wrong_reports.specs.Rows.{proposed}
use Rattle.wrong_reports.specs.Proposals.{of_z}
use Rattle.wrong_reports.specs.Objects.{map, queue}
use Rattle.wrong_reports.specs.Hidden.{raised, on_yz, a_hidden_raise_below_the_floor, a_hidden_raise_below_a_clock}
use Rattle.wrong_reports.specs.Hidden.{a_hidden_raise_in_another_colour, a_gets_hidden_look_at_nothing}
use Rattle.wrong_reports.specs.Hidden.{a_dequeues_hidden_look_at_nothing, a_refused_pull_that_gives_twice}
use Rattle.wrong_reports.specs.Hidden.{a_refused_pull_that_carries, trimmed_by_nothing, a_stop_at_once_that_is_full}
use Rattle.wrong_reports.specs.Hidden.{the_stamps_end_of_what_is_open, a_base_behind_what_was_seen}
use Rattle.wrong_reports.specs.Hidden.{a_refused_give_of_more_than_was_held}
use Rattle.wrong_reports.specs.Moves.{given_from}
use Rattle.wrong_reports.proofs.Tools.{only, ends_with, same_end, column_at, some_same}
use Rattle.wrong_reports.proofs.Told.{two, trim_says, stood_says}
use Rattle.wrong_reports.proofs.BegunRows.{one_row}
use Rattle.wrong_reports.proofs.WrongMoves.{trim_counts, pull_says, given_number}
use Rattle.wrong_reports.proofs.WrongRows.{gone_at_end}
use Rattle.wrong_reports.proofs.WrongStops.{open_in_x}
use Rattle.wrong_reports.proofs.WrongHidden.{too_much, reached}

-- the client a of the one region e
abbrev pub in_e : List Object → Caller
in_e objects = record { client = 0; own = 0; regions = 1; rows = 1; objects = objects }

-- the syncs of a command that was refused make no events, and leave what was read
pub record Leaves (kept after : Kept) : Type 0 where
  pub made : after.made ≡ kept.made
  pub reads : after.reads ≡ kept.reads

pub syncs_leave : (log : Log) (caller : Caller) (kept after : Kept) (colours : List ℕ)
    → HidesSyncs log caller kept colours after → Leaves kept after
syncs_leave log caller kept after [] h = record { made = ap (λ (k : Kept). k.made) h; reads = ap (λ (k : Kept). k.reads) h }
syncs_leave log caller kept after (c ∷ cs) (snapshot, stamp, s, rest) =
    let l = syncs_leave log caller
    (record kept { floor = max kept.floor stamp; starts = updated kept.starts c snapshot }) after cs rest in
    record { made = l.made; reads = l.reads }

-- A SCAN'S RAISES
-- a scan that found no memory raised a colour by the first event there
record HiddenRaise (log : Log) (kept after : Kept) (colours : Colours) (colour : ℕ) : Type 0 where
  pub reads : HidesRead log (in_e []) kept (members colours) after
  pub there : Contains (members colours) colour
  pub raises : RaisesClock log (in_e []) kept reads.stamp colour (Event 0)

raised_first : (log : Log) (kept after : Kept) (colours : Colours) (colour : ℕ) → kept.made 0 colour ≡ []
    → 0 ∷ [] ≡ after.made 0 colour → FindsNoMemory log (in_e []) kept (whats.Scan colours) after
    → HiddenRaise log kept after colours colour
raised_first log kept after colours colour none made nothing = absurd (let f : 0 ∷ [] ≡ [] = made ∙ none in cc (f))
raised_first log kept after colours colour none made (gone set text places asks is) = absurd asks
raised_first log kept after colours colour none made (gave region other looked too_low gives pull g) =
    absurd (let f : ⊥ = cc (pull) in f)
raised_first log kept after colours colour none made (hidden other hides) = by other hides made where
  by : (other : Kept) → HidesRead log (in_e []) kept (members colours) other → 0 ∷ [] ≡ other.made 0 colour
      → HiddenRaise log kept other colours colour
  by other h made =
      let is : h.synced.made 0 colour ++ h.places colour ≡ other.made 0 colour = elim h.after_is [
        | inl f ↦ sym (ap (λ (k : Kept). k.made 0 colour) f)
        | inr f ↦ sym (ap (λ (k : Kept). k.made 0 colour) f)
      ] in
      let synced : h.synced.made 0 colour ≡ [] =
      ap (λ (m : ℕ → ℕ → List ℕ). m 0 colour) (syncs_leave log _ kept _ _ h.syncing).made ∙ none in
      let places : 0 ∷ [] ≡ h.places colour = made ∙ sym is ∙ ap (λ ps. ps ++ h.places colour) synced in
      let P : ℕ → Type 0 = λ place. Contains (members colours) colour
      × RaisesClock log (in_e []) kept h.stamp colour (Event place) in
      let first = subst (All P) (sym places) (h.raises colour) 0 0 (lit< tt) in
      record { reads = h; there = first.0; raises = first.1 }

raised_to : (one other : ℕ) → Raise one ≡ Raise other → one ≡ other
raised_to one other e = cc (e)

-- the stamp of a raise to 1
stamp_is : {log : Log} {kept after : Kept} {colours : Colours} {colour : ℕ} (r : HiddenRaise log kept after colours colour)
    → by a (Raise 1) 0 ∷ [] ≡ log.histories 0 colour → 1 ≡ r.reads.stamp
stamp_is r h =
    let there = r.raises.2 in
    raised_to _ _ (ap (λ (en : Entry). en.event)
    (some_same (by a (Raise 1) 0) _ (ap (λ (es : List Entry). slice_get es 0) h ∙ there)))

pub below_floor : IsUnlawful a_hidden_raise_below_the_floor
below_floor run =
    let client = run.clients 0 _ refl in
    let last = ends_with run.log _ (_ ∷ _ ∷ []) (_ ∷ _ ∷ []) _ _ _ client.explained in
    let t = two run.log _ _ _ _ _ _ last.before in
    let one = (stood_says run.log _ _ _ _ _ _ _ _ _ _ _ t.first).1 in
    let other = (stood_says run.log _ _ _ _ _ _ _ _ _ _ _ t.second).1 in
    let h = (column_at a_hidden_raise_below_the_floor run 2 (of_z (raised x)) refl).history in
    let made = ap (places_of 0) h ∙ client.made 0 2 (lit< tt) (lit< tt)
    ∙ ap (λ (k : Kept). k.made 0 2) last.last.after_is in
    let none : last.kept.made 0 2 ≡ [] = ap (λ (k : Kept). k.made 0 2) other ∙ ap (λ (k : Kept). k.made 0 2) one in
    let r = raised_first run.log last.kept last.last.answered on_yz 2 none made last.last.explained.1 in
    let s = stamp_is r h in
    let floor : last.kept.floor ≡ max t.kept.floor 2 = ap (λ (k : Kept). k.floor) other in
    let above = r.reads.above_floor in
    let le = le-max_right t.kept.floor 2 in
    omega (arith, s, floor, above, le)

pub below_clock : IsUnlawful a_hidden_raise_below_a_clock
below_clock run =
    let client = run.clients 0 _ refl in
    let last = ends_with run.log _ (_ ∷ _ ∷ []) (_ ∷ _ ∷ []) _ _ _ client.explained in
    let t = two run.log _ _ _ _ _ _ last.before in
    let one = (stood_says run.log _ _ _ _ _ _ _ _ _ _ _ t.first).1 in
    let other = t.second.after_is ∙ t.second.explained.4 in
    let h = (column_at a_hidden_raise_below_a_clock run 1 (raised y) refl).history in
    let of_x = (column_at a_hidden_raise_below_a_clock run 0 _ refl).history in
    let made = ap (places_of 0) h ∙ client.made 0 1 (lit< tt) (lit< tt)
    ∙ ap (λ (k : Kept). k.made 0 1) last.last.after_is in
    let none : last.kept.made 0 1 ≡ [] = ap (λ (k : Kept). k.made 0 1) other ∙ ap (λ (k : Kept). k.made 0 1) one in
    let r = raised_first run.log last.kept last.last.answered on_both 1 none made last.last.explained.1 in
    let s = stamp_is r h in
    let seen : last.kept.seen 0 0 ≡ 2 = ap (λ (k : Kept). k.seen 0 0) other in
    let d : clock (take (last.kept.seen 0 0) (run.log.histories 0 0)) ≡ 2 =
    ap (λ n. clock (take n (run.log.histories 0 0))) seen ∙ ap (λ (es : List Entry). clock (take 2 es)) (sym of_x) in
    let above = (r.reads.above_clocks 0 0 (lit< tt)).1 in
    omega (arith, s, d, above)

pub other_colour : IsUnlawful a_hidden_raise_in_another_colour
other_colour run =
    let client = run.clients 0 _ refl in
    let t = two run.log _ _ _ _ _ _ client.explained in
    let one = (stood_says run.log _ _ _ _ _ _ _ _ _ _ _ t.first).1 in
    let h = (column_at a_hidden_raise_in_another_colour run 1 (raised y) refl).history in
    let made = ap (places_of 0) h ∙ client.made 0 1 (lit< tt) (lit< tt) ∙ ap (λ (k : Kept). k.made 0 1) t.second.after_is in
    let none : t.kept.made 0 1 ≡ [] = ap (λ (k : Kept). k.made 0 1) one in
    not_x (raised_first run.log t.kept t.second.answered on_x 1 none made t.second.explained.1).there where
      not_x : Contains {X = ℕ} (0 ∷ []) 1 → ⊥
      not_x (zero, lt, same) = omega (arith, same)
      not_x (suc k, lt, same) = let f : ⊥ = omega (arith, lt) in f

-- OBJECTS
plays_none : (log : Log) (objects : List Object) → too_much ∷ [] ≡ log.histories 0 0 → (snapshot : Counts) (stamp : ℕ)
    → HidesSync log (in_e objects) nothing_kept 0 snapshot stamp → at snapshot 0 ≡ 0
plays_none log objects h snapshot stamp not_played = refl
plays_none log objects h snapshot stamp (played events snap syncs) =
    reached events snap (subst (λ (es : List Entry). events ≤ length es) (sym h) syncs.there)
    (subst (λ (es : List Entry). IsGreatestReachable (chain 0 (dated 0 (take events es))) snap) (sym h) syncs.cut)

syncs_none : (log : Log) (objects : List Object) (after : Kept) → too_much ∷ [] ≡ log.histories 0 0
    → HidesSyncs log (in_e objects) nothing_kept (0 ∷ []) after → at (after.starts 0) 0 ≡ 0
syncs_none log objects after h s = ap (λ (k : Kept). at (k.starts 0) 0) s.3 ∙ plays_none log objects h s.0 s.1 s.2

abbrev the_map : List Object
the_map = record { name = codes "o"; kind = map } ∷ []

abbrev the_queue : List Object
the_queue = record { name = codes "o"; kind = queue } ∷ []

got_none : (log : Log) (after : Kept) → too_much ∷ [] ≡ log.histories 0 0
    → FindsNoMemory log (in_e the_map) nothing_kept (whats.Get 0 (codes "k")) after → at (after.starts 0) 0 ≡ 0
got_none log after h nothing = refl
got_none log after h (gone colours text places asks is) = absurd asks
got_none log after h (gave region colour looked too_low gives pull g) = absurd (let f : ⊥ = cc (pull) in f)
got_none log after h (hidden other hides) = syncs_none log the_map other h hides

took_none : (log : Log) (after : Kept) → too_much ∷ [] ≡ log.histories 0 0
    → FindsNoMemory log (in_e the_queue) nothing_kept (whats.Deq 0) after → at (after.starts 0) 0 ≡ 0
took_none log after h nothing = refl
took_none log after h (gone colours text places asks is) =
    absurd (let s = is.begins.several in let l = ap (λ (cs : List ℕ). length cs) asks.0 in omega (arith, s, l))
took_none log after h (gave region colour looked too_low gives pull g) = absurd (let f : ⊥ = cc (pull) in f)
took_none log after h (hidden other hides) = syncs_none log the_queue other h hides

pub get_looks : IsUnlawful a_gets_hidden_look_at_nothing
get_looks run =
    let t = two run.log _ _ _ _ _ _ (run.clients 0 _ refl).explained in
    let trims = (trim_says run.log _ _ _ _ _ _ _ _ t.second).0.trimmed in
    let h = (column_at a_gets_hidden_look_at_nothing run 0 _ refl).history in
    let same = some_same too_much _ (ap (λ (es : List Entry). slice_get es 0) h ∙ trims) in
    let start = trim_counts _ _ (ap (λ (en : Entry). en.event) same) in
    let none = got_none run.log _ h t.first.explained.1 in
    let f : 1 ≡ 0 = ap (λ v. at v 0) start ∙ ap (λ (k : Kept). at (k.starts 0) 0) t.first.after_is ∙ none in
    omega (arith, f)

pub dequeue_looks : IsUnlawful a_dequeues_hidden_look_at_nothing
dequeue_looks run =
    let t = two run.log _ _ _ _ _ _ (run.clients 0 _ refl).explained in
    let trims = (trim_says run.log _ _ _ _ _ _ _ _ t.second).0.trimmed in
    let h = (column_at a_dequeues_hidden_look_at_nothing run 0 _ refl).history in
    let same = some_same too_much _ (ap (λ (es : List Entry). slice_get es 0) h ∙ trims) in
    let start = trim_counts _ _ (ap (λ (en : Entry). en.event) same) in
    let none = took_none run.log _ h t.first.explained.1 in
    let f : 1 ≡ 0 = ap (λ v. at v 0) start ∙ ap (λ (k : Kept). at (k.starts 0) 0) t.first.after_is ∙ none in
    omega (arith, f)

-- PULLS
-- what a pull of the region e made, which found no memory
made_by : (kept : Kept) (region colour looked own of : ℕ) (places : List ℕ) (too_low gives : List ℕ)
    → whats.Pull 0 0 ≡ whats.Pull region colour
    → places ≡ (kept_after_giving kept 1 region colour looked too_low gives).made own of
    → places ≡ (kept_after_giving kept 1 0 0 looked too_low gives).made own of
made_by kept region colour looked own of places too_low gives pull made =
    let r : region ≡ 0 = cc (pull) in
    let c : colour ≡ 0 = cc (pull) in
    subst (λ c. places ≡ (kept_after_giving kept 1 0 c looked too_low gives).made own of) c
    (subst (λ r. places ≡ (kept_after_giving kept 1 r colour looked too_low gives).made own of) r made)

module _ (run : LawfulRun a_refused_pull_that_gives_twice.script a_refused_pull_that_gives_twice.report) where
  abbrev b_of_w : Caller
  b_of_w = caller_of a_refused_pull_that_gives_twice.script 1

  two_gives : (looked : ℕ) (too_low gives : List ℕ) → All (GivesTooLow run.log b_of_w 0 0 0 looked) too_low
      → length gives ≤ 1 → 0 ∷ 1 ∷ [] ≡ too_low ++ gives → ⊥
  two_gives looked [] gives low few made =
      let l : 2 ≡ length gives = ap (λ (ps : List ℕ). length ps) made in
      omega (arith, few, l)
  two_gives looked (p ∷ ps) gives low few made =
      let first : 0 ≡ p = cc (made) in
      let h = (column_at a_refused_pull_that_gives_twice run 0 _ refl).history in
      let again = (subst (λ p. GivesTooLow run.log b_of_w 0 0 0 looked p) (sym first)
      (low 0 p (let l : 0 < length (p ∷ ps) = omega arith in l))).3 in
      let none : at (base 0 2 (dated 0 (take 0 (run.log.histories 0 0)))) 0 ≡ 0 =
      ap (λ (es : List Entry). at (base 0 2 (dated 0 (take 0 es))) 0) (sym h) in
      omega (arith, again, none)

  gave_twice : (after : Kept) → FindsNoMemory run.log b_of_w nothing_kept (whats.Pull 0 0) after
      → 0 ∷ 1 ∷ [] ≡ after.made 0 0 → ⊥
  gave_twice after nothing made = cc (made)
  gave_twice after (gone colours text places asks is) made = asks
  gave_twice after (gave region colour looked too_low gives pull g) made =
      let r : region ≡ 0 = cc (pull) in
      let c : colour ≡ 0 = cc (pull) in
      two_gives looked too_low gives (subst (λ c. All (GivesTooLow run.log b_of_w 0 c 0 looked) too_low) c
      (subst (λ r. All (GivesTooLow run.log b_of_w r colour 0 looked) too_low) r g.made_again)) g.once
      (made_by nothing_kept region colour looked 0 0 _ too_low gives pull made)
  gave_twice after (hidden other hides) made =
      let f : 0 ∷ 1 ∷ [] ≡ [] = made ∙ ap (λ (k : Kept). k.made 0 0) hides in
      cc (f)

pub gives_twice : IsUnlawful a_refused_pull_that_gives_twice
gives_twice run =
    let client = run.clients 1 _ refl in
    let s = only run.log _ _ _ _ client.explained in
    let h = (column_at a_refused_pull_that_gives_twice run 0 _ refl).history in
    let made = ap (places_of 1) h ∙ client.made 0 0 (lit< tt) (lit< tt) in
    gave_twice run _ s.explained.1 (made ∙ ap (λ (k : Kept). k.made 0 0) s.after_is)

carried_none : (log : Log) (after : Kept)
    → FindsNoMemory log (caller_of a_refused_pull_that_carries.script 1) nothing_kept (whats.Pull 0 0) after
    → 0 ∷ [] ≡ after.made 1 0 → ⊥
carried_none log after nothing made = cc (made)
carried_none log after (gone colours text places asks is) made = asks
carried_none log after (gave region colour looked too_low gives pull g) made =
    let f : 0 ∷ [] ≡ [] = made_by nothing_kept region colour looked 1 0 _ too_low gives pull made in
    cc (f)
carried_none log after (hidden other hides) made =
    let f : 0 ∷ [] ≡ [] = made ∙ ap (λ (k : Kept). k.made 1 0) hides in
    cc (f)

pub carries : IsUnlawful a_refused_pull_that_carries
carries run =
    let client = run.clients 1 _ refl in
    let s = only run.log _ _ _ _ client.explained in
    let h = (column_at a_refused_pull_that_carries run 1 _ refl).history in
    let made = ap (places_of 1) h ∙ client.made 1 0 (lit< tt) (lit< tt) in
    carried_none run.log _ s.explained.1 (made ∙ ap (λ (k : Kept). k.made 1 0) s.after_is)

-- b pulls of e twice: it gave for one node when it held none, and was refused; then it carried the node
module _ (run : LawfulRun a_refused_give_of_more_than_was_held.script a_refused_give_of_more_than_was_held.report) where
  abbrev b_who_pulls : Caller
  b_who_pulls = caller_of a_refused_give_of_more_than_was_held.script 1

  -- the base is never above 0
  none_low : (seen until : ℕ) → GivesTooLow run.log b_who_pulls 0 0 seen until 1 → ⊥
  none_low seen until g =
      let h = (column_at a_refused_give_of_more_than_was_held run 0 _ refl).history in
      let none : at (base 0 2 (dated 0 (take 1 (run.log.histories 0 0)))) 0 ≡ 0 =
      ap (λ (es : List Entry). at (base 0 2 (dated 0 (take 1 es))) 0) (sym h) in
      let low = g.3 in
      omega (arith, low, none)

  -- before any event nothing was held
  none_held : (looked : ℕ) → looked ≤ 0 → GivesHeld run.log b_who_pulls 0 0 0 looked 1 → ⊥
  none_held looked none g =
      let h = (column_at a_refused_give_of_more_than_was_held run 0 _ refl).history in
      let same = some_same (given_from 1) _ (ap (λ (es : List Entry). slice_get es 1) h ∙ g.1) in
      let from : 1 ≡ g.0 = given_number _ _ _ _ (ap (λ (en : Entry). en.event) same) in
      let asks = g.2 in
      let until = asks.2 in
      let at_first : asks.0 ≡ 0 = omega (arith, until, none) in
      let held : length (chain 1 (first run.log 1 0 asks.0) 0) ≡ 0 =
      ap (λ n. length (chain 1 (first run.log 1 0 n) 0)) at_first in
      let is = asks.3 in
      omega (arith, from, held, is)

  -- with gives that were too low later, the first event is not one of this pull, or it has seen an event
  abbrev Excludes : ℕ → ℕ → Type 0
  Excludes region colour = (looked : ℕ) (too_low gives low : List ℕ) (seen until : ℕ)
      → OnlyGives run.log b_who_pulls nothing_kept region colour looked too_low gives
      → All (GivesTooLow run.log b_who_pulls 0 0 seen until) low
      → 1 ∷ [] ≡ (kept_after_giving nothing_kept 1 region colour looked too_low gives).made 0 0 ++ low
      → (kept_after_giving nothing_kept 1 region colour looked too_low gives).seen 1 0 ≤ 0 → ⊥

  none_later : (low : List ℕ) (seen until : ℕ) → All (GivesTooLow run.log b_who_pulls 0 0 seen until) low
      → 1 ∷ [] ≡ low → ⊥
  none_later low seen until all is =
      none_low seen until (subst (All (GivesTooLow run.log b_who_pulls 0 0 seen until)) (sym is) all 0 1 (lit< tt))

  excluded : Excludes 0 0
  excluded looked [] [] low seen until g all made none = none_later low seen until all made
  excluded looked [] (p ∷ ps) low seen until g all made none =
      let first : 1 ≡ p = cc (made) in
      none_held looked none (subst (λ p. GivesHeld run.log b_who_pulls 0 0 0 looked p) (sym first)
      (g.given 0 p (let l : 0 < length (p ∷ ps) = omega arith in l)))
  excluded looked (p ∷ ps) gives low seen until g all made none =
      let first : 1 ≡ p = cc (made) in
      none_low 0 looked (subst (λ p. GivesTooLow run.log b_who_pulls 0 0 0 looked p) (sym first)
      (g.made_again 0 p (let l : 0 < length (p ∷ ps) = omega arith in l)))

  asked_first : (after : Kept) (low : List ℕ) (seen until : ℕ)
      → FindsNoMemory run.log b_who_pulls nothing_kept (whats.Pull 0 0) after
      → All (GivesTooLow run.log b_who_pulls 0 0 seen until) low → 1 ∷ [] ≡ after.made 0 0 ++ low
      → after.seen 1 0 ≤ 0 → ⊥
  asked_first after low seen until nothing all made none = none_later low seen until all made
  asked_first after low seen until (gone colours text places asks is) all made none = asks
  asked_first after low seen until (gave region colour looked too_low gives pull g) all made none =
      let r : 0 ≡ region = cc (pull) in
      let c : 0 ≡ colour = cc (pull) in
      subst (λ r. Excludes r colour) r (subst (λ c. Excludes 0 c) c excluded) looked too_low gives low seen until g all
      made none
  asked_first after low seen until (hidden other hides) all made none =
      none_later low seen until all (made ∙ ap (λ (k : Kept). k.made 0 0 ++ low) hides)

pub more_than_held : IsUnlawful a_refused_give_of_more_than_was_held
more_than_held run =
    let client = run.clients 1 _ refl in
    let t = two run.log _ _ _ _ _ _ client.explained in
    let p = pull_says run.log _ _ _ _ _ _ _ _ _ t.second in
    let h = (column_at a_refused_give_of_more_than_was_held run 0 _ refl).history in
    let places : 1 ∷ 2 ∷ [] ≡ (t.kept.made 0 0 ++ p.too_low) ++ 2 ∷ [] =
    ap (places_of 1) h ∙ client.made 0 0 (lit< tt) (lit< tt) ∙ ap (λ (k : Kept). k.made 0 0) p.after_is in
    let made = (same_end (1 ∷ []) (t.kept.made 0 0 ++ p.too_low) 2 2 places).0 in
    asked_first run _ p.too_low _ _ t.first.explained.1 p.says.made_again
    (made ∙ ap (λ (k : Kept). k.made 0 0 ++ p.too_low) t.first.after_is)
    (subst (λ (k : Kept). k.seen 1 0 ≤ 0) t.first.after_is p.says.carries.0)

-- REFUSALS
pub by_nothing : IsUnlawful trimmed_by_nothing
by_nothing run =
    let t = (only run.log _ _ _ _ (run.clients 0 _ refl).explained).explained.2.1 in
    let h = (column_at trimmed_by_nothing run 0 _ refl).history in
    let l : 0 ≡ length (run.log.histories 0 0) = ap (λ (es : List Entry). length es) h in
    let there = t.there in
    let n : t.events ≡ 0 = omega (arith, there, l) in
    let f : 1 ≡ 0 = ap (λ (v : Counts). at v 0) (t.is_base
    ∙ ap (λ n. base 0 1 (dated 0 (take n (run.log.histories 0 0)))) n
    ∙ ap (λ (es : List Entry). base 0 1 (dated 0 (take 0 es))) (sym h)) in
    omega (arith, f)

pub earlier_base : IsUnlawful a_base_behind_what_was_seen
earlier_base run =
    let s = two run.log _ _ _ _ _ _ (run.clients 0 _ refl).explained in
    let k = ap (λ (k : Kept). k.seen 0 0) (stood_says run.log _ _ _ _ _ _ _ _ _ _ _ s.first).1 in
    let t = s.second.explained.2.1 in
    let h = (column_at a_base_behind_what_was_seen run 0 _ refl).history in
    let l : 5 ≡ length (run.log.histories 0 0) = ap (λ (es : List Entry). length es) h in
    let there = t.there in
    let unseen = t.unseen in
    let n : t.events ≡ 5 = omega (arith, k, unseen, there, l) in
    let f : 1 ≡ 2 = ap (λ (v : Counts). at v 0) (t.is_base
    ∙ ap (λ n. base 0 1 (dated 0 (take n (run.log.histories 0 0)))) n
    ∙ ap (λ (es : List Entry). base 0 1 (dated 0 (take 5 es))) (sym h)) in
    omega (arith, f)

pub at_once : IsUnlawful a_stop_at_once_that_is_full
at_once run =
    let t = two run.log _ _ _ _ _ _ (run.clients 0 _ refl).explained in
    t.second.explained.1 on_both (codes "t") refl

pub still_open : IsUnlawful the_stamps_end_of_what_is_open
still_open run =
    let t = two run.log _ _ _ _ _ _ (run.clients 0 _ refl).explained in
    let said = t.first.explained.2 in
    let several : 2 ≤ length (members said.0) =
    subst (λ (cs : Colours). 2 ≤ length (members cs)) (sym said.2.0) (lit≤ tt) in
    let settled = (gone_at_end run.log _ _ _ _ _ several said.3).1.settled in
    let some = subst (λ (cs : Colours). 0 < length (members cs)) (sym said.2.0) (lit< tt) in
    let first : slice_index_or (members said.0) 0 0 ≡ 0 = ap (λ (cs : Colours). slice_index_or (members cs) 0 0)
    said.2.0 in
    let h = (column_at the_stamps_end_of_what_is_open run 0 (proposed x) refl).history in
    let caller = caller_of the_stamps_end_of_what_is_open.script 0 in
    let node = node_of caller nothing_kept said.0 said.1 in
    open_in_x run.log caller node _ _ refl refl refl h (one_row 0 (run.log.rows 0) _ run.begun.all)
    (subst (λ c. IsSettledIn run.log caller node c) first (settled 0 0 some))
