-- Rows, proposals and settlings that no command may leave so.
use Rattle.std.proofs.Common.{◌≡◌, ◌≤◌, ℕ, zero, suc, ◌+◌, ◌<◌, List, [], ◌∷◌, length, map, Some, refl, ap, sym}
use Rattle.std.proofs.Common.{subst, ◌∙◌, arith, lit<, slice_get, codes}
use Rattle.std.specs.List.{All, Contains}
use Rattle.log_node.specs.declared.ids.Id.{Id}
use Rattle.log_node.specs.declared.ids.Row.{Row}
use Rattle.log_node.specs.declared.ids.Counts.{Counts}
use Rattle.log_node.specs.declared.ids.Colours.{Colours}
use Rattle.log_node.specs.declared.node.Node.{Node}
use Rattle.log_node.specs.Sets.{members}
use Rattle.log_node.specs.Vectors.{at, zeros}
use Rattle.log_node.specs.declared.marks.ColourMark.{ColourMark}
use Rattle.log_node.specs.declared.marks.Mark.TheVariants as marks
use Rattle.log_node.specs.declared.marks.Why.TheVariants.{Memory}
use Rattle.log_node.specs.declared.marks.Outcome.TheVariants.{Open, Final}
use Rattle.col_core.specs.declared.Event.TheVariants.{Propose}
use Rattle.col_core.specs.declared.Entry.{Entry}
use Rattle.col_core.specs.Rows.{BegunRow, AreLawfulRows, FitsRow, FitsRows, IsMarkOf, FitsMarks, node_wants}
use Rattle.col_core.specs.Log.{places_of}
use Rattle.col_core.specs.Keeping.{Kept, nothing_kept}
use Rattle.script_text.specs.declared.commands.What.TheVariants.{Append}
use Rattle.lawful_run.specs.Callers.{caller_of, node_of}
use Rattle.col_core.specs.Ids.{IsStepOf}
use Rattle.col_core.specs.Appending.{IsStepWithin}
use Rattle.lawful_run.specs.Refusals.{FindsNoMemory, nothing, gone, gave, hidden}
use Rattle.lawful_run.specs.Lawful.{LawfulRun}
use Rattle.wrong_reports.specs.Cases.{IsUnlawful, a, b, e, x, id, by, counts, proposes, trims, on_both}
use Rattle.wrong_reports.specs.Rows.{row, settles, complete}
use Rattle.wrong_reports.specs.Proposals.{a_row_of_another_number, a_later_row_first, a_row_too_many}
use Rattle.wrong_reports.specs.Proposals.{a_proposal_with_other_wants, a_proposal_in_another_colour}
use Rattle.wrong_reports.specs.Proposals.{a_proposal_for_no_row, a_settling_with_a_stamp, taken_out}
use Rattle.wrong_reports.specs.Proposals.{a_stopped_append_that_settles, a_fence_of_what_was_proposed}
use Rattle.wrong_reports.specs.Proposals.{gone_without_a_fence, a_trim_made_by_an_append}
use Rattle.wrong_reports.proofs.Tools.{only, column_at, some_same, none_there}
use Rattle.wrong_reports.proofs.Told.{two, several_says}
use Rattle.wrong_reports.proofs.BegunRows.{begun, one_row, two_rows, no_row, at_row, only_row}
use Rattle.wrong_reports.proofs.WrongHelping.{stopped_says}

abbrev open_row : Node → BegunRow
open_row node = begun (row e a 0 (id a 1) marks.None marks.None Open) node

abbrev final_row : Node → BegunRow
final_row node = begun (row e a 1 (id a 0) (marks.Number 1) (marks.Number 1) (Final 1)) node

-- the row among two that is for the first node is the second of them
second_of : (one other : Node) (r : BegunRow) → one.id ≡ id a 1 → r.node.id ≡ id a 0
    → Contains (open_row one ∷ final_row other ∷ []) r → final_row other ≡ r
second_of one other r is of (zero, lt, same) =
    let i : one.id ≡ r.node.id = ap (λ (r : BegunRow). r.node.id) same in
    let f : 1 ≡ 0 = ap (λ (i : Id). i.count) (sym is ∙ i ∙ of) in
    absurd (omega (arith, f))
second_of one other r is of (suc zero, lt, same) = same
second_of one other r is of (suc (suc k), lt, same) = absurd (omega (arith, lt))

pub another_number : IsUnlawful a_row_of_another_number
another_number run =
    let t = two run.log _ _ _ _ _ _ (run.clients 0 _ refl).explained in
    let s = (several_says run.log _ _ _ _ _ _ _ _ _ _ t.first).2.begins in
    let rows = two_rows 0 (run.log.rows 0) _ _ run.begun.all in
    let among = subst (λ (rows : List BegunRow). Contains rows s.row) rows.rows_are s.begun.begun in
    let of : s.row.node.id ≡ id a 0 = ap (λ (n : Node). n.id) s.begun.of_node in
    let same = second_of rows.node rows.next s.row rows.id_is of among in
    let its = ap (λ (r : BegunRow). r.node.row) same ∙ ap (λ (n : Node). n.row) s.begun.of_node in
    let fits = subst (All (FitsRow 0)) rows.rows_are (run.begun.lawful 0 (lit< tt)).fit 1 (final_row rows.next) (lit< tt) in
    let r : Some (record { client = 0; number = 1 }) ≡ Some (record { client = 0; number = 0 }) = sym fits.row ∙ its in
    let n : 1 ≡ 0 = ap (λ (r : Row). r.number) (some_same _ _ r) in
    omega (arith, n)

pub later_first : IsUnlawful a_later_row_first
later_first run =
    let rows = two_rows 0 (run.log.rows 0) _ _ run.begun.all in
    let n = (subst (AreLawfulRows 0 2 (run.log.histories 0)) rows.rows_are (run.begun.lawful 0 (lit< tt))).in_order 0 in
    cc (n)

pub too_many : IsUnlawful a_row_too_many
too_many run =
    let t = two run.log _ _ _ _ _ _ (run.clients 0 _ refl).explained in
    let k = ap (λ (k : Kept). k.rows) (several_says run.log _ _ _ _ _ _ _ _ _ _ t.first).3 in
    let r = (stopped_says run.log _ _ _ 1 _ (lit< tt) t.second.explained.4).says.begins.room in
    omega (arith, k, r)

pub other_wants : IsUnlawful a_proposal_with_other_wants
other_wants run =
    let said = (only run.log _ _ _ _ (run.clients 0 _ refl).explained).explained in
    let c : said.1 ≡ on_both = (let w = said.3 in cc (w)) in
    let begins = (stopped_says run.log _ _ _ 2 _ (lit< tt) said.4).says.begins in
    let one = one_row 0 (run.log.rows 0) _ run.begun.all in
    let r = only_row _ begins.row (subst (λ (rows : List BegunRow). Contains rows begins.row) one.rows_are
    begins.begun.begun) in
    let h = (column_at a_proposal_with_other_wants run 0 _ refl).history in
    let f = subst (λ (es : List Entry). All (λ (en : Entry). FitsRows (run.log.rows 0) 0 en.event) es) (sym h)
    ((run.begun.lawful 0 (lit< tt)).events 0 (lit< tt)) 0 (by a (Propose (id a 0) 0 (counts 1 0)) 1) (lit< tt) in
    let g = subst (λ (rows : List BegunRow). Contains rows f.1) one.rows_are (there _ f.0 f.1 f.2) in
    let same = only_row _ f.1 g in
    let wants : node_wants f.1.node 0 ≡ zeros = ap (λ (r : BegunRow). node_wants r.node 0) (sym same ∙ r)
    ∙ ap (λ (n : Node). node_wants n 0) begins.begun.of_node
    ∙ ap (λ (cs : Colours). node_wants (node_of (caller_of a_proposal_with_other_wants.script 0) nothing_kept cs said.2)
    0) c in
    let n : 0 ≡ 1 = ap (λ (v : Counts). at v 0) (sym wants ∙ f.4) in
    omega (arith, n) where
      there : (rows : List BegunRow) (n : ℕ) (r : BegunRow) → slice_get rows n ≡ Some r → Contains rows r
      there [] n r is = absurd (none_there r is)
      there (s ∷ rows) zero r is = (0, omega arith, some_same s r is)
      there (s ∷ rows) (suc n) r is =
          let t = there rows n r is in
          let l = t.1 in
          (suc t.0, (let m : suc t.0 < length (s ∷ rows) = omega (arith, l) in m), t.2)

pub other_colour : IsUnlawful a_proposal_in_another_colour
other_colour run =
    let one = one_row 0 (run.log.rows 0) _ run.begun.all in
    let h = (column_at a_proposal_in_another_colour run 2 _ refl).history in
    let l = run.begun.lawful 0 (lit< tt) in
    let f = subst (λ (es : List Entry). All (λ (en : Entry). FitsRows (run.log.rows 0) 2 en.event) es) (sym h)
    (l.events 2 (lit< tt)) 0 (proposes a (id a 0) 0 1) (lit< tt) in
    let g = subst (λ (rows : List BegunRow). FitsRows rows 2 (Propose (id a 0) 0 zeros)) one.rows_are f in
    let marks = (at_row (FitsRow 0) one l.fit).a_mark_each in
    by one.node marks g.0 g.1 g.2 g.6 g.7 where
      no_z : (k : ℕ) → slice_get {X = ℕ} (0 ∷ 1 ∷ []) k ≡ Some 2 → ⊥
      no_z zero is = let f : 0 ≡ 2 = some_same 0 2 is in omega (arith, f)
      no_z (suc zero) is = let f : 1 ≡ 2 = some_same 1 2 is in omega (arith, f)
      no_z (suc (suc k)) is = none_there 2 is

      by : (node : Node) → 0 ∷ 1 ∷ [] ≡ members node.colours → (n : ℕ) (r : BegunRow)
          → slice_get (begun (row e a 0 (id a 0) marks.None marks.None Open) node ∷ []) n ≡ Some r
          → (k : ℕ) → slice_get (members r.node.colours) k ≡ Some 2 → ⊥
      by node cs zero r is k at =
          let same = some_same _ r is in
          let colours : 0 ∷ 1 ∷ [] ≡ members r.node.colours = cs ∙ ap (λ (r : BegunRow). members r.node.colours) same in
          no_z k (ap (λ cs. slice_get cs k) colours ∙ at)
      by node cs (suc n) r is k at = none_there r is

pub for_no_row : IsUnlawful a_proposal_for_no_row
for_no_row run =
    let h = (column_at a_proposal_for_no_row run 0 _ refl).history in
    let f = subst (λ (es : List Entry). All (λ (en : Entry). FitsRows (run.log.rows 0) 0 en.event) es) (sym h)
    ((run.begun.lawful 0 (lit< tt)).events 0 (lit< tt)) 0 (proposes b (id a 0) 0 1) (lit< tt) in
    let n = no_row 0 (run.log.rows 0) run.begun.all in
    none_there f.1 (ap (λ (rows : List BegunRow). slice_get rows f.0) (sym n) ∙ f.2)

pub with_stamp : IsUnlawful a_settling_with_a_stamp
with_stamp run =
    let s = ((column_at a_settling_with_a_stamp run 0 _ refl).legal 1 _ refl).0 in
    cc (s)

pub still_settles : IsUnlawful a_stopped_append_that_settles
still_settles run =
    let client = run.clients 0 _ refl in
    let answers = only run.log _ _ _ _ client.explained in
    let said = answers.explained in
    let c : said.1 ≡ on_both = (let w = said.3 in cc (w)) in
    let stopped = stopped_says run.log _ _ _ 4 _ (lit< tt) said.4 in
    let h = (column_at a_stopped_append_that_settles run 0 (complete x) refl).history in
    let made = client.made 0 0 (lit< tt) (lit< tt) in
    let p : 0 ∷ 1 ∷ [] ≡ stopped.places 0 =
    ap (places_of 0) h ∙ made ∙ ap (λ (kept : Kept). kept.made 0 0) (answers.after_is ∙ stopped.after_is) in
    let first : slice_get (members said.1) 0 ≡ Some 0 = ap (λ (c : Colours). slice_get (members c) 0) c in
    let no = stopped.says.no_later 0 0 first in
    let Early : ℕ → Type 0 = λ place. (en : Entry) × (slice_get (run.log.histories 0 0) place ≡ Some en)
    × IsStepWithin 0 (length (members said.1)) 4 en.event in
    let at = subst (All Early) (sym p) no 1 0 (lit< tt) in
    let same = some_same (settles a (id a 0) 1) at.0 (ap (λ (es : List Entry). slice_get es 1) h ∙ at.1) in
    let late : 0 + length (members said.1) + 2 < 4 =
    subst (λ (en : Entry). IsStepWithin 0 (length (members said.1)) 4 en.event) (sym same) at.2 in
    let k : length (members said.1) ≡ 2 = ap (λ (c : Colours). length (members c)) c in
    omega (arith, late, k)

pub fenced_too : IsUnlawful a_fence_of_what_was_proposed
fenced_too run =
    let one = one_row 0 (run.log.rows 0) _ run.begun.all in
    let m = at_row (λ (r : BegunRow). All (λ (m : ColourMark). IsMarkOf (run.log.histories 0 m.colour) r.node m.mark)
    r.marks) one (run.begun.lawful 0 (lit< tt)).marks 0 (record { colour = 0; mark = marks.Fenced Memory }) (lit< tt) in
    let h = (column_at a_fence_of_what_was_proposed run 0 (taken_out x) refl).history in
    m 1 (
      0,
      proposes a (id a 0) 0 1,
      0,
      zeros,
      ap (λ (es : List Entry). slice_get es 0) (sym h),
      ap (λ i. Propose i 0 zeros) (sym one.id_is),
      refl,
    )

pub without_fence : IsUnlawful gone_without_a_fence
without_fence run =
    let one = one_row 0 (run.log.rows 0) _ run.begun.all in
    let k = at_row (λ (r : BegunRow). FitsMarks (map (λ (m : ColourMark). m.mark) r.marks) r.last) one
    (run.begun.lawful 0 (lit< tt)).outcomes in
    cc (k)

-- what may have been done without memory
module _ (run : LawfulRun a_trim_made_by_an_append.script a_trim_made_by_an_append.report) where
  found : (after : Kept)
      → FindsNoMemory run.log (caller_of a_trim_made_by_an_append.script 0) nothing_kept (Append on_both (codes "s")) after
      → 0 ∷ [] ≡ after.made 0 0 → ⊥
  found after nothing made = cc (made)
  found after (gone colours text places asks is) made =
      let h = (column_at a_trim_made_by_an_append run 0 _ refl).history in
      let places_are : 0 ∷ [] ≡ places 0 = made in
      let Steps : ℕ → Type 0 = λ place. (0 ≤ place) × (en : Entry) × (slice_get (run.log.histories 0 0) place ≡ Some en)
      × (en.by ≡ 0) × IsStepOf (node_of (caller_of a_trim_made_by_an_append.script 0) nothing_kept colours text).id
      en.event in
      let step = subst (All Steps) (sym places_are) (is.begins.steps 0) 0 0 (lit< tt) in
      let same = some_same (trims a (counts 0 0)) step.1 (ap (λ (es : List Entry). slice_get es 0) h ∙ step.2) in
      subst (λ (en : Entry). IsStepOf (id 0 0) en.event) (sym same) step.4
  found after (gave region colour looked too_low gives pull g) made = cc (pull)
  found after (hidden other hides) made =
      let f : 0 ∷ [] ≡ [] = made ∙ ap (λ (k : Kept). k.made 0 0) hides in
      cc (f)

pub trim_made : IsUnlawful a_trim_made_by_an_append
trim_made run =
    let client = run.clients 0 _ refl in
    let s = only run.log _ _ _ _ client.explained in
    let h = (column_at a_trim_made_by_an_append run 0 _ refl).history in
    let made = ap (places_of 0) h ∙ client.made 0 0 (lit< tt) (lit< tt) in
    found run _ s.explained.1 (made ∙ ap (λ (k : Kept). k.made 0 0) s.after_is)
