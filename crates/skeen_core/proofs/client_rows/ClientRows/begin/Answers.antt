use Rattle.std.proofs.Common.{◌≡◌, ◌<◌, ◌++◌, ◌∷◌, [], ap, sym, subst, refl, ◌∙◌, arith, ℕ, List, length}
use Rattle.std.specs.Prelude.{replicate, vec_capacity}
use Rattle.log_node.specs.declared.marks.Mark.{Mark}
use Rattle.log_node.specs.declared.marks.Mark.TheVariants as mark
use Rattle.log_node.specs.declared.marks.Outcome.TheVariants.{Open}
use Rattle.skeen_core.specs.Boards.{BoardRow, RowsOfClient, fresh_row}
use Rattle.skeen_core.specs.KeptRows.{rows_kept, IsKept}
use Rattle.skeen_core.specs.declared.client_rows.RowHead.{RowHead}
use Rattle.skeen_core.proofs.KeptRows.{row-begun, rows-length, marks-fit, kept-begun}
use Rattle.skeen_core.proofs.client_rows.ClientRows.begin.Goals as goal

-- one more row may be begun
may_begin : (k rows : ℕ) (marks : List Mark) (heads : List RowHead) (now : RowsOfClient)
    → record { begun = rows_kept k marks 0 heads; colours = k; rows = rows } ≡ now → length now.begun < now.rows
    → length heads < rows
may_begin k rows marks heads now view lt =
    let long = rows-length k marks 0 heads in
    let same = ap (λ (r : RowsOfClient). length r.begun) view in
    let limit = ap (λ (r : RowsOfClient). r.rows) view in
    omega (arith, long, same, limit, lt)

pub push_unmarked-requires : goal.push_unmarked-requires
push_unmarked-requires c =
    let i = c.self.inside in
    marks-fit i.colours i.rows i.marks.items i.begun.items (vec_capacity i.marks) (vec_capacity i.begun) c.self.invariant
    (may_begin i.colours i.rows i.marks.items i.begun.items c.args.self.now c.self.view_is c.requires)

pub push_reserved-requires : goal.push_reserved-requires
push_reserved-requires c =
    let i = c.self.inside in
    let lt = may_begin i.colours i.rows i.marks.items i.begun.items c.args.self.now c.self.view_is c.requires in
    let room = c.self.invariant.heads_fit in
    let ok = i.begun.ok.0 in
    omega (arith, lt, room, ok)

pub invariant_of-self : goal.invariant_of-self
invariant_of-self c =
    let i = c.self.inside in
    let h : RowHead = record { id = c.args.id; colours = c.args.colours; last = Open } in
    let begun = kept-begun i.colours i.rows i.marks.items i.begun.items h (vec_capacity i.marks) (vec_capacity i.begun)
    c.self.invariant (may_begin i.colours i.rows i.marks.items i.begun.items c.args.self.now c.self.view_is c.requires) in
    let marks = subst (λ (ms : List Mark). IsKept i.colours i.rows ms (i.begun.items ++ h ∷ []) (vec_capacity i.marks)
    (vec_capacity i.begun)) (sym c.push_unmarked.ensures.items) begun in
    let heads = subst (λ (hs : List RowHead). IsKept i.colours i.rows c.push_unmarked.new.marks.items hs
    (vec_capacity i.marks) (vec_capacity i.begun)) (sym c.push_reserved.ensures.items) marks in
    let room = subst (λ (n : ℕ). IsKept i.colours i.rows c.push_unmarked.new.marks.items c.push_reserved.new.self.items n
    (vec_capacity i.begun)) (sym c.push_unmarked.ensures.room) heads in
    subst (λ (n : ℕ). IsKept i.colours i.rows c.push_unmarked.new.marks.items c.push_reserved.new.self.items
    (vec_capacity c.push_unmarked.new.marks) n) (sym c.push_reserved.ensures.capacity) room

pub returns : goal.returns
returns c =
    let i = c.self.inside in
    let h : RowHead = record { id = c.args.id; colours = c.args.colours; last = Open } in
    let with_begun = λ (bs : List BoardRow). let r : RowsOfClient = record { begun = bs; colours = i.colours; rows = i.rows } in r in
    ap (λ (ms : List Mark). with_begun (rows_kept i.colours ms 0 c.push_reserved.new.self.items)) c.push_unmarked.ensures.items
    ∙ (ap (λ (hs : List RowHead). with_begun (rows_kept i.colours (i.marks.items ++ replicate i.colours mark.None) 0 hs))
    c.push_reserved.ensures.items
    ∙ (ap with_begun (row-begun i.colours i.marks.items i.begun.items c.args.id c.args.colours h refl
    c.self.invariant.all_marks)
    ∙ ap (λ (r : RowsOfClient). record r { begun = r.begun ++ fresh_row c.args.id c.args.colours ∷ [] }) c.self.view_is))
