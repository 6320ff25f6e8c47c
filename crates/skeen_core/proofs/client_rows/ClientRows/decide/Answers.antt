use Rattle.std.proofs.Common.{◌<◌, ◌≤◌, List, length, Option, ap, sym, ◌∙◌, arith}
use Rattle.std.specs.Prelude.{slice_get}
use Rattle.std.proofs.lemmas.Option.{slice_get_past, slice_get_read}
use Rattle.skeen_core.specs.Boards.{BoardRow, RowsOfClient, changed_at, changed_by, decided, outcome_in, marks_in}
use Rattle.skeen_core.specs.KeptRows.{row_kept}
use Rattle.skeen_core.proofs.RowMarks.{outcome-from}
use Rattle.skeen_core.proofs.KeptRows.{no-row, row-here, row-decided, outcome-read}
use Rattle.skeen_core.proofs.client_rows.ClientRows.decide.Goals as goal

pub returns-then-at-len-clause-outcome : goal.returns-then-at-len-clause-outcome
returns-then-at-len-clause-outcome c =
    let i = c.self.inside in
    let past : length i.begun.items ≤ c.args.number =
    let out = c.if-at-len.true in let len = c.len.ensures in let ok = i.begun.ok.0 in omega (arith, out, len, ok) in
    sym (ap outcome_in (no-row i.colours i.marks.items 0 i.begun.items c.args.number
    (slice_get_past i.begun.items c.args.number past)))
    ∙ ap (λ r. outcome_in (slice_get r.begun c.args.number)) c.self.view_is

pub returns-then-at-len-clause-rows : goal.returns-then-at-len-clause-rows
returns-then-at-len-clause-rows c =
    let i = c.self.inside in
    let past : length i.begun.items ≤ c.args.number =
    let out = c.if-at-len.true in let len = c.len.ensures in let ok = i.begun.ok.0 in omega (arith, out, len, ok) in
    let none = ap (λ r. slice_get r.begun c.args.number) (sym c.self.view_is)
    ∙ no-row i.colours i.marks.items 0 i.begun.items c.args.number (slice_get_past i.begun.items c.args.number past) in
    ap (λ (o : Option BoardRow). record c.args.self.now { begun = changed_by c.args.self.now.begun c.args.number decided o })
    (sym none)

pub returns-clause-outcome : goal.returns-clause-outcome
returns-clause-outcome c =
    let i = c.self.inside in
    let t = c.tally.result in
    let head = c.index.result.now in
    let within : c.args.number < i.begun.len =
    let in_range = c.if-at-len.false in let len = c.len.ensures in omega (arith, in_range, len) in
    let there = slice_get_read i.begun.items i.begun.len c.args.number head i.begun.ok.0 within c.index.ensures in
    let row = ap (λ r. slice_get r.begun c.args.number) (sym c.self.view_is)
    ∙ row-here i.colours i.marks.items i.begun.items c.args.number head there in
    c.outcome_of_tally-outcome.ensures
    ∙ (outcome-from (marks_in (slice_get c.args.self.now.begun c.args.number) head.colours) t.missing t.stamp_end t.memory
    t.greatest c.tally.ensures.missing c.tally.ensures.stamp_end c.tally.ensures.memory c.tally.ensures.greatest
    ∙ outcome-read (slice_get c.args.self.now.begun c.args.number) (row_kept i.colours i.marks.items c.args.number head) row)

pub returns-clause-rows : goal.returns-clause-rows
returns-clause-rows c =
    let i = c.self.inside in
    let t = c.tally.result in
    let head = c.index.result.now in
    let within : c.args.number < i.begun.len =
    let in_range = c.if-at-len.false in let len = c.len.ensures in omega (arith, in_range, len) in
    let there = slice_get_read i.begun.items i.begun.len c.args.number head i.begun.ok.0 within c.index.ensures in
    let again = slice_get_read i.begun.items i.begun.len c.args.number c.index_mut.result.now i.begun.ok.0 within
    c.index_mut.ensures.value in
    let row = ap (λ r. slice_get r.begun c.args.number) (sym c.self.view_is)
    ∙ row-here i.colours i.marks.items i.begun.items c.args.number head there in
    let outcome = c.outcome_of_tally-outcome.ensures
    ∙ (outcome-from (marks_in (slice_get c.args.self.now.begun c.args.number) head.colours) t.missing t.stamp_end t.memory
    t.greatest c.tally.ensures.missing c.tally.ensures.stamp_end c.tally.ensures.memory c.tally.ensures.greatest
    ∙ (outcome-read (slice_get c.args.self.now.begun c.args.number) (row_kept i.colours i.marks.items c.args.number head) row
    ∙ ap (λ r. outcome_in (slice_get r.begun c.args.number)) (sym c.self.view_is))) in
    ap (λ (bs : List BoardRow). let r : RowsOfClient = record { begun = bs; colours = i.colours; rows = i.rows } in r)
    (row-decided i.colours i.marks.items i.begun.items c.args.number c.index_mut.result.now
    c.outcome_of_tally-outcome.result again outcome)
    ∙ ap (λ (r : RowsOfClient). record r { begun = changed_at r.begun c.args.number decided }) c.self.view_is
