-- Phantoms, appends that stop and go on, and wrong helpers.
use Rattle.std.proofs.Common.{◌≡◌, ◌≢◌, ◌⊎◌, inl, inr, ℕ, zero, suc, ◌+◌, ◌<◌, List, [], ◌∷◌, length, false, Some, None}
use Rattle.std.proofs.Common.{refl, ap, sym, subst, ◌∙◌, arith, lit<, slice_get}
use Rattle.std.specs.Prelude.{IsTrue}
use Rattle.std.specs.List.{All, Contains}
use Rattle.log_node.specs.declared.ids.Colours.{Colours}
use Rattle.log_node.specs.declared.node.Node.{Node}
use Rattle.log_node.specs.Sets.{members}
use Rattle.log_node.specs.declared.marks.ColourMark.{ColourMark}
use Rattle.log_node.specs.declared.marks.Mark.{Mark}
use Rattle.log_node.specs.declared.marks.Mark.TheVariants as marks
use Rattle.log_node.specs.declared.marks.Outcome.TheVariants.{Open}
use Rattle.log_node.specs.Standings.{Standing, open_entry}
use Rattle.col_core.specs.declared.Entry.{Entry}
use Rattle.col_core.specs.History.{entries}
use Rattle.col_core.specs.Rows.{BegunRow}
use Rattle.col_core.specs.Log.{Log, places_of}
use Rattle.col_core.specs.Keeping.{Kept, with_made, with_row}
use Rattle.col_core.specs.Appending.{IsStepWithin}
use Rattle.script_text.specs.declared.script.Command.{Command}
use Rattle.report_text.specs.declared.report.Answer.TheVariants as answers
use Rattle.report_text.specs.declared.report.ReplyLine.{ReplyLine}
use Rattle.report_text.specs.declared.report.SyncPiece.{SyncPiece}
use Rattle.report_text.specs.declared.report.ClientReport.{ClientReport}
use Rattle.lawful_run.specs.Callers.{Caller}
use Rattle.lawful_run.specs.Asks.{may_help}
use Rattle.lawful_run.specs.Deeds.{manner_of}
use Rattle.lawful_run.specs.Stops.{StopsAfter, Stops, stopped_at_once, stopped_after}
use Rattle.lawful_run.specs.Columns.{IsClientIn}
use Rattle.lawful_run.specs.Lawful.{LawfulRun, HasStopped, HasHelping}
use Rattle.wrong_reports.specs.Cases.{Case, IsUnlawful, a, b, x, y, id, proposes, on_both}
use Rattle.wrong_reports.specs.Rows.{settles, proposed}
use Rattle.wrong_reports.specs.Helping.{a_stop_for_the_stamps_end, phantom, a_phantom_of_another_region}
use Rattle.wrong_reports.specs.Helping.{a_phantom_of_nobody, a_stopped_append_that_goes_on, a_stop_before_its_steps}
use Rattle.wrong_reports.specs.Helping.{a_stop_after_other_steps, left_open_by_one_who_did_not_stop, a_row_left_open}
use Rattle.wrong_reports.specs.Helping.{helped_by_b, one_who_only_syncs_helps, one_who_only_stops_helps, one_of_another_region_helps}
use Rattle.wrong_reports.specs.Helping.{a_helped_append_left_open, a_helped_append_open_in_a_colour}
use Rattle.wrong_reports.proofs.Tools.{only, column_at, some_same}
use Rattle.wrong_reports.proofs.BegunRows.{one_row, second_row, only_row, at_row, in_rows}

-- PHANTOMS
module _ (client : ℕ) (run : LawfulRun (phantom client).script (phantom client).report) where
  of_client : IsClientIn (phantom client).script 1 client
  of_client =
      let one = second_row (run.log.rows 0) (run.log.rows 1) _ refl run.begun.all in
      let of = run.begun.of_clients 1 (lit< tt) in
      at_row (λ (r : BegunRow). IsClientIn (phantom client).script 1 r.row.client) one of

pub other_region : IsUnlawful a_phantom_of_another_region
other_region run = let o = (of_client a run).1 in cc (o)

pub nobody : IsUnlawful a_phantom_of_nobody
nobody run = let o = (of_client 2 run).0 in omega (arith, o)

-- STOPS
-- an append that stopped after its first step, or later
pub record Stopped (log : Log) (caller : Caller) (kept : Kept) (node : Node) (steps : ℕ) (after : Kept) : Type 0 where
  pub places : ℕ → List ℕ
  pub says : StopsAfter log caller kept node steps places
  pub after_is : after ≡ with_made (with_row kept) caller.own places

pub stopped_says : (log : Log) (caller : Caller) (kept : Kept) (node : Node) (steps : ℕ) (after : Kept) → 0 < steps
    → Stops log caller kept node steps after → Stopped log caller kept node steps after
stopped_says log caller kept node steps after some stopped_at_once = absurd (omega (arith, some))
stopped_says log caller kept node steps after some (stopped_after n places s) = record {
  places =
      places;
  says = s;
  after_is = refl;
}

pub goes_on : IsUnlawful a_stopped_append_that_goes_on
goes_on run =
    let client = run.clients 0 _ refl in
    let answers = only run.log _ _ _ _ client.explained in
    let said = answers.explained in
    let c : said.1 ≡ on_both = (let w = said.3 in cc (w)) in
    let stopped = stopped_says run.log _ _ _ 1 _ (lit< tt) said.4 in
    let h = (column_at a_stopped_append_that_goes_on run 0 (proposed x) refl).history in
    let made = client.made 0 0 (lit< tt) (lit< tt) in
    let p : 0 ∷ [] ≡ stopped.places 0 =
    ap (places_of 0) h ∙ made ∙ ap (λ (kept : Kept). kept.made 0 0) (answers.after_is ∙ stopped.after_is) in
    let first : slice_get (members said.1) 0 ≡ Some 0 = ap (λ (c : Colours). slice_get (members c) 0) c in
    let no = stopped.says.no_later 0 0 first in
    let Early : ℕ → Type 0 = λ place. (en : Entry) × (slice_get (run.log.histories 0 0) place ≡ Some en)
    × IsStepWithin 0 (length (members said.1)) 1 en.event in
    let at = subst (All Early) (sym p) no 0 0 (lit< tt) in
    let e : Some (proposes a (id a 0) 0 1) ≡ Some at.0 = ap (λ (es : List Entry). slice_get es 0) h ∙ at.1 in
    let same : proposes a (id a 0) 0 1 ≡ at.0 = cc (e) in
    let late : 0 + 1 < 1 =
    subst (λ (en : Entry). IsStepWithin 0 (length (members said.1)) 1 en.event) (sym same) at.2 in
    omega (arith, late)

pub before_its_steps : IsUnlawful a_stop_before_its_steps
before_its_steps run =
    let said = (only run.log _ _ _ _ (run.clients 0 _ refl).explained).explained in
    let c : said.1 ≡ on_both = (let w = said.3 in cc (w)) in
    let stopped = stopped_says run.log _ _ _ 2 _ (lit< tt) said.4 in
    let first : slice_get (members said.1) 0 ≡ Some 0 = ap (λ (c : Colours). slice_get (members c) 0) c in
    let m = stopped.says.marked 0 0 first (lit< tt) in
    let one = one_row 0 (run.log.rows 0) _ run.begun.all in
    let r = only_row _ m.2.0 (subst (λ (rows : List BegunRow). Contains rows m.2.0) one.rows_are m.2.1.begun) in
    let among = subst (λ (r : BegunRow). Contains r.marks (record { colour = 0; mark = m.0 })) (sym r) m.2.2 in
    unset m.0 m.1 among where
      unset : (mark : Mark) → mark ≢ marks.None
          → Contains {X = ColourMark} (record { colour = 0; mark = marks.None }
          ∷ record { colour = 1; mark = marks.None } ∷ []) (record { colour = 0; mark = mark }) → ⊥
      unset mark set (zero, lt, same) = set (let s : record {
        colour = 0;
        mark =
            marks.None;
      } ≡ record { colour = 0; mark = mark } = same in sym (ap (λ (m : ColourMark). m.mark) s))
      unset mark set (suc zero, lt, same) = let s : record {
        colour = 1;
        mark =
            marks.None;
      } ≡ record { colour = 0; mark = mark } = same in let f : 1 ≡ 0 =
          ap (λ (m : ColourMark). m.colour) s in omega (arith, f)
      unset mark set (suc (suc k), lt, same) = let f : ⊥ = omega (arith, lt) in f

pub other_steps : IsUnlawful a_stop_after_other_steps
other_steps run =
    let w = (only run.log _ _ _ _ (run.clients 0 _ refl).explained).explained.3 in
    cc (w)

-- a client whose second reply is to a sync, and the last, has not stopped
not_stopped : (case : Case) (shown : ClientReport) (one other : ReplyLine) (sync : SyncPiece) (count : ℕ)
    → slice_get case.report.clients 0 ≡ Some shown → shown.replies ≡ one ∷ other ∷ []
    → other.answer ≡ answers.Synced sync count
    → HasStopped case.report 0 → ⊥
not_stopped case shown one other sync count is replies synced s =
    let same : shown ≡ s.shown = some_same _ _ (sym is ∙ s.of_client) in
    let lines : one ∷ other ∷ [] ≡ s.shown.replies = sym replies ∙ ap (λ (c : ClientReport). c.replies) same in
    let l = s.last in
    let len : 2 ≡ length s.shown.replies = ap (λ (rs : List ReplyLine). length rs) lines in
    let n : s.before ≡ 1 = omega (arith, l, len) in
    let there = ap (λ (rs : List ReplyLine). slice_get rs 1) lines
    ∙ subst (λ k. slice_get s.shown.replies k ≡ Some s.reply) n s.there in
    let r : other ≡ s.reply = some_same _ _ there in
    let f : answers.Synced sync count ≡ answers.Stopped s.steps = sym synced
    ∙ ap (λ (r : ReplyLine). r.answer) r ∙ s.stopped in
    cc (f)

pub did_not_stop : IsUnlawful left_open_by_one_who_did_not_stop
did_not_stop run =
    let h = (column_at left_open_by_one_who_did_not_stop run 0 (proposed x) refl).history in
    let P = λ (s : Standing). IsTrue s.settled ⊎ HasStopped left_open_by_one_who_did_not_stop.report s.key.id.client in
    let all = subst (λ (es : List Entry). All P (entries es)) (sym h) (run.left_open.ids 0 0 (lit< tt) (lit< tt)) in
    elim (all 0 (record { key = record { stamp = 1; id = id a 0 }; settled = false }) (lit< tt)) [
      | inl t ↦ cc (t)
      | inr s ↦ not_stopped left_open_by_one_who_did_not_stop _ _ _ _ _ refl refl refl s
    ]

pub row_open : IsUnlawful a_row_left_open
row_open run =
    let one = one_row 0 (run.log.rows 0) _ run.begun.all in
    let P = λ (r : BegunRow). r.last ≡ Open → HasStopped a_row_left_open.report r.row.client in
    not_stopped a_row_left_open _ _ _ _ _ refl refl refl (at_row P one (run.left_open.rows 0 (lit< tt)) refl)

-- HELPING
abbrev help : Entry
help = settles b (id a 0) 1

only_syncs : HasHelping one_who_only_syncs_helps.script 1 → ⊥
only_syncs (command, (zero, lt, same), helps) = let m =
    ap (λ (c : Command). may_help (manner_of c.what)) same in cc (m, helps)
only_syncs (command, (suc k, lt, same), helps) = let f : ⊥ = omega (arith, lt) in f

pub syncs_only : IsUnlawful one_who_only_syncs_helps
syncs_only run =
    let h = (column_at one_who_only_syncs_helps run 0 (helped_by_b x) refl).history in
    let among = subst (λ (es : List Entry). Contains es help) h (1, lit< tt, refl) in
    only_syncs (run.helpers 0 0 help (lit< tt) (lit< tt) among (λ i. let f : 0 ≡ 1 = i in cc (f))).0

only_stops : HasHelping one_who_only_stops_helps.script 1 → ⊥
only_stops (command, (zero, lt, same), helps) = let m =
    ap (λ (c : Command). may_help (manner_of c.what)) same in cc (m, helps)
only_stops (command, (suc k, lt, same), helps) = let f : ⊥ = omega (arith, lt) in f

pub stops_only : IsUnlawful one_who_only_stops_helps
stops_only run =
    let h = (column_at one_who_only_stops_helps run 0 (helped_by_b x) refl).history in
    let among = subst (λ (es : List Entry). Contains es help) h (1, lit< tt, refl) in
    only_stops (run.helpers 0 0 help (lit< tt) (lit< tt) among (λ i. let f : 0 ≡ 1 = i in cc (f))).0

pub helps_elsewhere : IsUnlawful one_of_another_region_helps
helps_elsewhere run =
    let h = (column_at one_of_another_region_helps run 0 (helped_by_b x) refl).history in
    let among = subst (λ (es : List Entry). Contains es help) h (1, lit< tt, refl) in
    let o = (run.helpers 0 0 help (lit< tt) (lit< tt) among (λ i. let f : 0 ≡ 1 = i in cc (f))).1 in
    cc (o)

pub left_open : IsUnlawful a_helped_append_left_open
left_open run =
    let h = (column_at a_helped_append_left_open run 1 _ refl).history in
    let proposal = proposes b (id a 0) 0 2 in
    let among = subst (λ (es : List Entry). Contains es proposal) h (1, lit< tt, refl) in
    let one = one_row 0 (run.log.rows 0) _ run.begun.all in
    (run.helped 0 1 proposal _ (lit< tt) (lit< tt) among (λ i. let f : 0 ≡ 1 =
    i in cc (f)) (in_rows one) (sym one.id_is)).decided refl

pub stamps_end : IsUnlawful a_stop_for_the_stamps_end
stamps_end run = let f = (only run.log _ _ _ _ (run.clients 0 _ refl).explained).explained.1 in cc (f)

pub open_somewhere : IsUnlawful a_helped_append_open_in_a_colour
open_somewhere run =
    let h = (column_at a_helped_append_open_in_a_colour run 0 (helped_by_b x) refl).history in
    let k = (column_at a_helped_append_open_in_a_colour run 1 (proposed y) refl).history in
    let among = subst (λ (es : List Entry). Contains es help) h (1, lit< tt, refl) in
    let one = one_row 0 (run.log.rows 0) _ run.begun.all in
    let closed = (run.helped 0 0 help _ (lit< tt) (lit< tt) among (λ i. let f : 0 ≡ 1 =
    i in cc (f)) (in_rows one) (sym one.id_is)).open_nowhere 1 (lit< tt) in
    let none = subst (λ i. open_entry i (entries (proposed y).journal) ≡ None) one.id_is
    (subst (λ (es : List Entry). open_entry one.node.id (entries es) ≡ None) (sym k) closed) in
    cc (none)
