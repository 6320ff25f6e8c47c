-- Rows and singles of nodes that are not theirs, and the stamps' end of another colour than the least.
use Rattle.std.proofs.Common.{◌≡◌, ℕ, zero, suc, ◌≤◌, List, [], ◌∷◌, length, Some, refl, ap, sym, subst, ◌∙◌, arith}
use Rattle.std.proofs.Common.{lit<, lit≤, slice_get}
use Rattle.std.specs.Prelude.{slice_index_or, ◌<◌, ◌≢◌}
use Rattle.std.specs.List.{All, Contains}
use Rattle.log_node.specs.declared.ids.Id.{Id}
use Rattle.log_node.specs.declared.ids.Colours.{Colours}
use Rattle.log_node.specs.declared.node.Node.{Node}
use Rattle.log_node.specs.Sets.{members}
use Rattle.log_node.specs.declared.marks.ColourMark.{ColourMark}
use Rattle.log_node.specs.declared.marks.Mark.{Mark}
use Rattle.log_node.specs.declared.marks.Mark.TheVariants as marks
use Rattle.log_node.specs.declared.marks.Why.TheVariants.{StampEnd}
use Rattle.log_node.specs.declared.marks.Outcome.TheVariants.{Final}
use Rattle.report_text.specs.declared.report.RowReport.{RowReport}
use Rattle.col_core.specs.declared.Entry.{Entry}
use Rattle.col_core.specs.Rows.{BegunRow, FitsRows}
use Rattle.col_core.specs.Keeping.{Kept}
use Rattle.wrong_reports.specs.Cases.{IsUnlawful, a, e, id, enters, proposes}
use Rattle.wrong_reports.specs.Several.{the_stamps_end_of_a_greater_colour, a_single_with_a_rows_node}
use Rattle.wrong_reports.specs.Several.{a_row_of_an_unknown_node, full_of_another_number}
use Rattle.wrong_reports.specs.Several.{a_proposal_over_another_floor}
use Rattle.wrong_reports.specs.Rows.{row}
use Rattle.wrong_reports.proofs.Tools.{only, column_at, some_same, none_there}
use Rattle.wrong_reports.proofs.Told.{two, several_says}
use Rattle.wrong_reports.proofs.BegunRows.{begun, one_row, only_row, at_row, in_rows}
use Rattle.wrong_reports.proofs.WrongRows.{gone_at_end}

-- a mark of x among two fences for the stamps' end
fenced : (mark : Mark) → Contains {X = ColourMark} (record { colour = 0; mark = marks.Fenced StampEnd }
    ∷ record { colour = 1; mark = marks.Fenced StampEnd } ∷ []) (record { colour = 0; mark = mark })
    → marks.Fenced StampEnd ≡ mark
fenced mark (zero, lt, same) = ap (λ (m : ColourMark). m.mark) same
fenced mark (suc zero, lt, same) = let f : 1 ≡ 0 = ap (λ (m : ColourMark). m.colour) same in absurd (omega (arith, f))
fenced mark (suc (suc k), lt, same) = absurd (omega (arith, lt))

pub greater_colour : IsUnlawful the_stamps_end_of_a_greater_colour
greater_colour run =
    let said = (only run.log _ _ _ _ (run.clients 0 _ refl).explained).explained.2 in
    let two : 2 ≤ length (members said.0) =
    subst (λ (cs : Colours). 2 ≤ length (members cs)) (sym said.2.0) (lit≤ tt) in
    let gone = (gone_at_end run.log _ _ _ _ _ two said.3).1 in
    let some = subst (λ (cs : Colours). 0 < length (members cs)) (sym said.2.0) (lit< tt) in
    let first : slice_index_or (members said.0) 0 0 ≡ 0 = ap (λ (cs : Colours). slice_index_or (members cs) 0 0)
    said.2.0 in
    let m = gone.ends.least 0 0 some (subst (λ n. n < 1) (sym first) (lit< tt)) in
    let one = one_row 0 (run.log.rows 0) _ run.begun.all in
    let row = m.3 in
    let r = only_row _ row.0 (subst (λ (rows : List BegunRow). Contains rows row.0) one.rows_are row.1.begun) in
    let among = subst (λ c. Contains row.0.marks (record { colour = c; mark = m.0 })) first row.2 in
    let here = subst (λ (r : BegunRow). Contains r.marks (record { colour = 0; mark = m.0 })) (sym r) among in
    m.2 (sym (fenced m.0 here))

pub has_row : IsUnlawful a_single_with_a_rows_node
has_row run =
    let h = (column_at a_single_with_a_rows_node run 0 _ refl).history in
    let one = one_row 0 (run.log.rows 0) _ run.begun.all in
    let l = run.begun.lawful 0 (lit< tt) in
    let f = subst (λ (es : List Entry). All (λ (en : Entry). FitsRows (run.log.rows 0) 0 en.event) es) (sym h)
    (l.events 0 (lit< tt)) 0 (enters a (id a 0) 0 1) (lit< tt) in
    at_row (λ (r : BegunRow). r.node.id ≢ id a 0) one f one.id_is

pub unknown_node : IsUnlawful a_row_of_an_unknown_node
unknown_node run =
    let client = run.clients 0 _ refl in
    let s = only run.log _ _ _ _ client.explained in
    let kept = (several_says run.log _ _ _ _ _ _ _ _ _ _ s).3 in
    let n : length (run.log.nodes 0) ≡ 1 = client.nodes ∙ ap (λ (k : Kept). k.ids) kept in
    let one = one_row 0 (run.log.rows 0) _ run.begun.all in
    let there = client.row_nodes _ (in_rows one) refl in
    beyond (run.log.nodes 0) one.node n (subst (λ (i : Id). slice_get (run.log.nodes 0) i.count ≡ Some one.node)
    one.id_is there) where
      beyond : (nodes : List Node) (node : Node) → length nodes ≡ 1 → slice_get nodes 1 ≡ Some node → ⊥
      beyond [] node l h = none_there node h
      beyond (n ∷ []) node l h = none_there node h
      beyond (n ∷ m ∷ ns) node l h = omega (arith, l)

pub other_number : IsUnlawful full_of_another_number
other_number run =
    let t = two run.log _ _ _ _ _ _ (run.clients 0 _ refl).explained in
    let kept = ap (λ (k : Kept). k.rows) (several_says run.log _ _ _ _ _ _ _ _ _ _ t.first).3 in
    let shown = t.second.explained.3.3.shown in
    omega (arith, kept, shown)

pub other_floor : IsUnlawful a_proposal_over_another_floor
other_floor run =
    let s = only run.log _ _ _ _ (run.clients 0 _ refl).explained in
    let begins = (several_says run.log _ _ _ _ _ _ _ _ _ _ s).2.begins in
    let one = one_row 0 (run.log.rows 0) _ run.begun.all in
    let r = only_row _ begins.row (subst (λ (rows : List BegunRow). Contains rows begins.row) one.rows_are
    begins.begun.begun) in
    let floor : one.node.floor ≡ 0 = ap (λ (r : BegunRow). r.node.floor) r
    ∙ ap (λ (n : Node). n.floor) begins.begun.of_node in
    let h = (column_at a_proposal_over_another_floor run 0 _ refl).history in
    let f = subst (λ (es : List Entry). All (λ (en : Entry). FitsRows (run.log.rows 0) 0 en.event) es) (sym h)
    ((run.begun.lawful 0 (lit< tt)).events 0 (lit< tt)) in
    let fits = f 0 (proposes a (id a 0) 1 2) (lit< tt) in
    let there = ap (λ (rows : List BegunRow). slice_get rows fits.0) (sym one.rows_are) ∙ fits.2 in
    by one.node floor fits.0 fits.1 there fits.5 where
      shown : RowReport
      shown = row e a 0 (id a 0) (marks.Number 2) (marks.Number 1) (Final 2)

      by : (node : Node) → node.floor ≡ 0 → (n : ℕ) (r : BegunRow) → slice_get (begun shown node ∷ []) n ≡ Some r
          → r.node.floor ≡ 1 → ⊥
      by node floor zero r there is =
          let same = ap (λ (r : BegunRow). r.node.floor) (some_same (begun shown node) r there) in
          omega (arith, floor, same, is)
      by node floor (suc n) r there is = none_there r there
