-- Replies that name other events or nodes than they may.
use Rattle.std.proofs.Common.{inl, inr, ◌≡◌, ℕ, ◌≤◌, List, [], ◌∷◌, length, take, Some, None, refl, ap, sym, subst}
use Rattle.std.proofs.Common.{◌∙◌, arith, lit<, slice_get}
use Rattle.log_node.specs.declared.ids.Id.{Id}
use Rattle.log_node.specs.declared.ids.Colours.{Colours}
use Rattle.script_text.specs.declared.script.Command.{Command}
use Rattle.report_text.specs.declared.report.ReplyLine.{ReplyLine}
use Rattle.report_text.specs.declared.report.ColumnReport.{ColumnReport}
use Rattle.col_core.specs.declared.Entry.{Entry}
use Rattle.col_core.specs.declared.Event.TheVariants.{Single}
use Rattle.std.specs.Prelude.{max}
use Rattle.log_node.specs.declared.ids.Counts.{Counts}
use Rattle.log_node.specs.Sets.{members}
use Rattle.col_core.specs.History.{clock, last_stamp, line}
use Rattle.col_core.specs.Log.{places_of}
use Rattle.col_core.specs.Keeping.{Kept}
use Rattle.lawful_run.specs.Lawful.{LawfulRun}
use Rattle.wrong_reports.specs.Cases.{IsUnlawful, alone, a, e, x, id, key, counts, empty, enters, column}
use Rattle.script_text.specs.declared.commands.What.TheVariants.{Sync}
use Rattle.wrong_reports.specs.Cases.{asks}
use Rattle.wrong_reports.specs.Naming.{an_append_that_reads, an_append_refused_for_a_trim, a_floor_that_is_forgotten}
use Rattle.wrong_reports.specs.Naming.{a_raise_that_no_reply_names, a_single_that_no_reply_names, synced_at, trim}
use Rattle.wrong_reports.specs.Naming.{trimmed, case, an_own_event_that_no_reply_names, an_event_named_twice}
use Rattle.wrong_reports.specs.Naming.{events_named_out_of_order, an_event_seen_before_it_is_made}
use Rattle.wrong_reports.specs.Naming.{a_look_behind_what_was_seen, an_event_that_is_not_there, one_node}
use Rattle.wrong_reports.specs.Naming.{an_append_at_another_position, an_append_under_another_stamp}
use Rattle.wrong_reports.specs.Naming.{an_append_not_above_the_floor, a_single_of_nobody, no_stamp_with_stamps_left}
use Rattle.wrong_reports.specs.Naming.{a_full_that_needs_no_row}
use Rattle.wrong_reports.proofs.Tools.{only, column_at, some_same}
use Rattle.wrong_reports.proofs.Told.{two, trim_says, stood_says, no_stamp_says}

-- the history of the one column
module _ (commands : List Command) (lines : List ReplyLine) (column : ColumnReport)
    (run : LawfulRun (alone commands) (case commands lines column).report) where
  history_is : column.journal ≡ run.log.histories column.region column.colour
  history_is = (column_at (case commands lines column) run 0 column refl).history

pub own_event_left_out : IsUnlawful an_own_event_that_no_reply_names
own_event_left_out run =
    let client = run.clients 0 _ refl in
    let s = only run.log _ _ _ _ client.explained in
    let h = history_is _ _ (trimmed (trim ∷ [])) run in
    let m = client.made 0 0 (lit< tt) (lit< tt) in
    let k = s.after_is ∙ s.explained.4 in
    let both : 0 ∷ [] ≡ [] = ap (places_of 0) h ∙ m ∙ ap (λ (kept : Kept). kept.made 0 0) k in
    cc (both)

pub named_twice : IsUnlawful an_event_named_twice
named_twice run =
    let t = two run.log _ _ _ _ _ _ (run.clients 0 _ refl).explained in
    let k = ap (λ (kept : Kept). kept.seen 0 0) (trim_says run.log _ _ _ _ _ _ _ _ t.first).1 in
    let u = (trim_says run.log _ _ _ _ _ _ _ _ t.second).0.unseen in
    omega (arith, k, u)

pub out_of_order : IsUnlawful events_named_out_of_order
out_of_order run =
    let t = two run.log _ _ _ _ _ _ (run.clients 0 _ refl).explained in
    let k = ap (λ (kept : Kept). kept.seen 0 0) (trim_says run.log _ _ _ _ _ _ _ _ t.first).1 in
    let u = (trim_says run.log _ _ _ _ _ _ _ _ t.second).0.unseen in
    omega (arith, k, u)

pub seen_before : IsUnlawful an_event_seen_before_it_is_made
seen_before run =
    let t = two run.log _ _ _ _ _ _ (run.clients 0 _ refl).explained in
    let k = ap (λ (kept : Kept). kept.seen 0 0) (t.first.after_is ∙ t.first.explained.4) in
    let u = (trim_says run.log _ _ _ _ _ _ _ _ t.second).0.unseen in
    omega (arith, k, u)

pub look_behind : IsUnlawful a_look_behind_what_was_seen
look_behind run =
    let t = two run.log _ _ _ _ _ _ (run.clients 0 _ refl).explained in
    let k = ap (λ (kept : Kept). kept.seen 0 0) (trim_says run.log _ _ _ _ _ _ _ _ t.first).1 in
    let u = t.second.explained.2.unseen in
    omega (arith, k, u)

pub not_there : IsUnlawful an_event_that_is_not_there
not_there run =
    let s = only run.log _ _ _ _ (run.clients 0 _ refl).explained in
    let t = (trim_says run.log _ _ _ _ _ _ _ _ s).0.trimmed in
    let h = history_is _ _ (empty e x) run in
    let n : None ≡ Some _ = ap (λ (es : List Entry). slice_get es 0) h ∙ t in
    cc (n)

-- AN APPEND
single_id : (i j : Id) (floor other : ℕ) (wants more : Counts) → Single i floor wants ≡ Single j other more → i ≡ j
single_id i j floor other wants more e = cc (e)

single_floor : (i j : Id) (floor other : ℕ) (wants more : Counts)
    → Single i floor wants ≡ Single j other more → floor ≡ other
single_floor i j floor other wants more e = cc (e)

pub another_position : IsUnlawful an_append_at_another_position
another_position run =
    let s = only run.log _ _ _ _ (run.clients 0 _ refl).explained in
    let t = (stood_says run.log _ _ _ _ _ _ _ _ _ _ _ s).0.stands in
    let h = history_is _ _ one_node run in
    let n : None ≡ Some _ = ap (λ (es : List Entry). slice_get (line es) 1) h ∙ t in
    cc (n)

pub another_stamp : IsUnlawful an_append_under_another_stamp
another_stamp run =
    let s = only run.log _ _ _ _ (run.clients 0 _ refl).explained in
    let t = (stood_says run.log _ _ _ _ _ _ _ _ _ _ _ s).0.entered in
    let h = history_is _ _ one_node run in
    let same = some_same (enters a (id a 0) 0 1) _ (ap (λ (es : List Entry). slice_get es 0) h ∙ t) in
    let f : 1 ≡ 2 = ap (λ (en : Entry). en.stamp) same in
    omega (arith, f)

pub not_above_floor : IsUnlawful an_append_not_above_the_floor
not_above_floor run =
    let s = only run.log _ _ _ _ (run.clients 0 _ refl).explained in
    let t = (stood_says run.log _ _ _ _ _ _ _ _ _ _ _ s).0.above in
    omega (arith, t)

pub of_nobody : IsUnlawful a_single_of_nobody
of_nobody run =
    let s = only run.log _ _ _ _ (run.clients 0 _ refl).explained in
    let t = (stood_says run.log _ _ _ _ _ _ _ _ _ _ _ s).0.entered in
    let h = history_is _ _ (column e x (enters a (id a 1) 0 1 ∷ []) 1 (key 1 (id a 1)
    ∷ []) [] (counts 1 0) (counts 0 0)) run in
    let same = some_same (enters a (id a 1) 0 1) _ (ap (λ (es : List Entry). slice_get es 0) h ∙ t) in
    let i = single_id _ _ _ _ _ _ (ap (λ (en : Entry). en.event) same) in
    let f : 1 ≡ 0 = ap (λ (i : Id). i.count) i in
    omega (arith, f)

pub stamps_left : IsUnlawful no_stamp_with_stamps_left
stamps_left run =
    let said = (only run.log _ _ _ _ (run.clients 0 _ refl).explained).explained.2 in
    let one = ap (λ (c : Colours). length (members c)) said.2.0 in
    let had = no_stamp_says run.log _ _ _ _ _ one said.3 in
    let h = history_is _ _ (empty e x) run in
    let ended = had.ended in
    let there = had.there in
    let l : length (run.log.histories 0 0) ≡ 0 = ap length (sym h) in
    let n : had.events ≡ 0 = omega (arith, there, l) in
    let c = ap (λ (es : List Entry). clock es) (ap (λ k. take k (run.log.histories 0 0)) n) in
    let f : 0 ≡ last_stamp = sym (ap (λ k. max k 0) c) ∙ ended in
    omega (arith, f)

pub no_row_needed : IsUnlawful a_full_that_needs_no_row
no_row_needed run =
    let said = (only run.log _ _ _ _ (run.clients 0 _ refl).explained).explained.3 in
    let s = said.3.several in
    let c = said.2.0 in
    let s1 : 2 ≤ 1 = subst (λ (c : Colours). 2 ≤ length (members c)) c s in
    omega (arith, s1)

pub forgotten : IsUnlawful a_floor_that_is_forgotten
forgotten run =
    let t = two run.log _ _ _ _ _ _ (run.clients 0 _ refl).explained in
    let k = (stood_says run.log _ _ _ _ _ _ _ _ _ _ _ t.first).1 in
    let s = (stood_says run.log _ _ _ _ _ _ _ _ _ _ _ t.second).0.entered in
    let h = (column_at a_floor_that_is_forgotten run 0 _ refl).history in
    let same = some_same (enters a (id a 1) 0 2) _ (ap (λ (es : List Entry). slice_get es 1) h ∙ s) in
    let floor : 0 ≡ t.kept.floor = single_floor _ _ _ _ _ _ (ap (λ (en : Entry). en.event) same) in
    let f : 0 ≡ 1 = floor ∙ ap (λ (k : Kept). k.floor) k in
    omega (arith, f)

-- what no reply names
unnamed : (journal : List Entry) (column : ColumnReport) → column.journal ≡ journal → column.region ≡ 0
    → column.colour ≡ 0
    → places_of 0 journal ≡ 0 ∷ []
    → LawfulRun (alone (asks 6 a (Sync x) ∷ [])) (case (asks 6 a (Sync x) ∷ []) (synced_at 6 0
    ∷ []) column).report → ⊥
unnamed journal column is region colour places run =
    let client = run.clients 0 _ refl in
    let s = only run.log _ _ _ _ client.explained in
    let h : journal ≡ run.log.histories 0 0 = (let g = history_is _ _ column run in cc (is, region, colour, g)) in
    let m = client.made 0 0 (lit< tt) (lit< tt) in
    let both : 0 ∷ [] ≡ [] = sym places ∙ ap (places_of 0) h ∙ m
    ∙ ap (λ (kept : Kept). kept.made 0 0) (s.after_is ∙ s.explained.4) in
    cc (both)

pub raise_unnamed : IsUnlawful a_raise_that_no_reply_names
raise_unnamed run = unnamed _ _ refl refl refl refl run

pub single_unnamed : IsUnlawful a_single_that_no_reply_names
single_unnamed run = unnamed _ _ refl refl refl refl run

pub reads_too : IsUnlawful an_append_that_reads
reads_too run = elim (only run.log _ _ _ _ (run.clients 0 _ refl).explained).explained.1 [
  | inl m ↦ cc (m)
  | inr m ↦ cc (m)
]

pub refused_for_trim : IsUnlawful an_append_refused_for_a_trim
refused_for_trim run = elim (only run.log _ _ _ _ (run.clients 0 _ refl).explained).explained.1 [
  | inl m ↦ cc (m)
  | inr n ↦ elim n [
    | inl m ↦ cc (m)
    | inr o ↦ elim o [
      | inl m ↦ cc (m)
      | inr m ↦ cc (m)
    ]
  ]
]
