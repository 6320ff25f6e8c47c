use Rattle.std.proofs.Common.{◌≡◌, ◌<◌, ◌+◌, ◌*◌, ℕ, List, get_or, length, refl, ap, sym, ◌∙◌, arith}
use Rattle.std.specs.Prelude.{slice_get}
use Rattle.std.proofs.lemmas.List.{get_or_read_under}
use Rattle.log_node.specs.declared.marks.Mark.{Mark}
use Rattle.log_node.specs.declared.marks.Mark.TheVariants as mark
use Rattle.skeen_core.specs.Boards.{BoardRow, RowsOfClient, mark_in, changed_at, with_mark}
use Rattle.skeen_core.specs.KeptRows.{rows_kept, IsKept}
use Rattle.skeen_core.specs.declared.client_rows.RowHead.{RowHead}
use Rattle.skeen_core.proofs.KeptRows.{mark-inside, mark-read, row-first, row-still, rows-length}
use Rattle.skeen_core.proofs.client_rows.ClientRows.mark.Goals as goal

-- what the call is given: its row is begun, its colour is one of the board's, and so its mark has a place
module _ (k rows : ℕ) (marks : List Mark) (heads : List RowHead) (marks_room heads_room : ℕ) (now : RowsOfClient) (n c : ℕ)
    (kept : IsKept k rows marks heads marks_room heads_room)
    (view : record { begun = rows_kept k marks 0 heads; colours = k; rows = rows } ≡ now)
    (begun : n < length now.begun) (colour : c < now.colours) where
  begun_here : n < length heads
  begun_here =
      let long = rows-length k marks 0 heads in
      let same = ap (λ (r : RowsOfClient). length r.begun) view in
      omega (arith, long, same, begun)

  low : c < k
  low = let same = ap (λ (r : RowsOfClient). r.colours) view in omega (arith, same, colour)

  inside : n * k + c < length marks
  inside = mark-inside k marks (length heads) n c kept.all_marks begun_here low

  before_is : (m : Mark) → m ≡ get_or marks (n * k + c) m → m ≡ mark_in (slice_get now.begun n) c
  before_is m read =
      get_or_read_under marks (n * k + c) (length marks) m mark.None read inside refl
      ∙ (sym (mark-read k marks heads n c kept.few_colours kept.all_marks low)
      ∙ ap (λ (r : RowsOfClient). mark_in (slice_get r.begun n) c) view)

  with_rows : (begun : List BoardRow) (new : Mark) → begun ≡ changed_at (rows_kept k marks 0 heads) n (with_mark c new)
      → record { begun = begun; colours = k; rows = rows }
      ≡ record now { begun = changed_at now.begun n (with_mark c new) }
  with_rows begun new e =
      ap (λ (bs : List BoardRow). let r : RowsOfClient = record { begun = bs; colours = k; rows = rows } in r) e
      ∙ ap (λ (r : RowsOfClient). record r { begun = changed_at r.begun n (with_mark c new) }) view

pub index-before-requires : goal.index-before-requires
index-before-requires c =
    let i = c.self.inside in
    let place = inside i.colours i.rows i.marks.items i.begun.items _ _ c.args.self.now c.args.number c.args.colour
    c.self.invariant c.self.view_is c.requires.begun c.requires.colour in
    let ok = i.marks.ok.0 in
    omega (arith, place, ok)

pub index_mut-requires : goal.index_mut-requires
index_mut-requires c =
    let i = c.self.inside in
    let place = inside i.colours i.rows i.marks.items i.begun.items _ _ c.args.self.now c.args.number c.args.colour
    c.self.invariant c.self.view_is c.requires.begun c.requires.colour in
    let ok = i.marks.ok.0 in
    omega (arith, place, ok)

pub returns-in-None-clause-before : goal.returns-in-None-clause-before
returns-in-None-clause-before c =
    let i = c.self.inside in
    before_is i.colours i.rows i.marks.items i.begun.items _ _ c.args.self.now c.args.number c.args.colour
    c.self.invariant c.self.view_is c.requires.begun c.requires.colour c.index-before.result.now c.index-before.ensures

pub returns-in-None-clause-rows : goal.returns-in-None-clause-rows
returns-in-None-clause-rows c =
    let i = c.self.inside in
    let k = c.self.invariant in
    let here = begun_here i.colours i.rows i.marks.items i.begun.items _ _ c.args.self.now c.args.number c.args.colour k
    c.self.view_is c.requires.begun c.requires.colour in
    let low = low i.colours i.rows i.marks.items i.begun.items _ _ c.args.self.now c.args.number c.args.colour k
    c.self.view_is c.requires.begun c.requires.colour in
    let place = inside i.colours i.rows i.marks.items i.begun.items _ _ c.args.self.now c.args.number c.args.colour k
    c.self.view_is c.requires.begun c.requires.colour in
    let none : get_or i.marks.items (c.args.number * i.colours + c.args.colour) mark.None ≡ mark.None =
    sym (get_or_read_under i.marks.items (c.args.number * i.colours + c.args.colour) (length i.marks.items)
    c.index-before.result.now mark.None c.index-before.ensures place refl) ∙ c.in-None.is in
    with_rows i.colours i.rows i.marks.items i.begun.items _ _ c.args.self.now c.args.number c.args.colour
    k c.self.view_is c.requires.begun c.requires.colour _ c.args.mark
    (row-first i.colours i.marks.items i.begun.items c.args.number c.args.colour c.args.mark k.few_colours low k.all_marks
    here none)

pub returns-in_default : goal.returns-in_default
returns-in_default c =
    let i = c.self.inside in
    let k = c.self.invariant in
    let here = begun_here i.colours i.rows i.marks.items i.begun.items _ _ c.args.self.now c.args.number c.args.colour k
    c.self.view_is c.requires.begun c.requires.colour in
    let low = low i.colours i.rows i.marks.items i.begun.items _ _ c.args.self.now c.args.number c.args.colour k
    c.self.view_is c.requires.begun c.requires.colour in
    let place = inside i.colours i.rows i.marks.items i.begun.items _ _ c.args.self.now c.args.number c.args.colour k
    c.self.view_is c.requires.begun c.requires.colour in
    let is = get_or_read_under i.marks.items (c.args.number * i.colours + c.args.colour) (length i.marks.items)
    c.index-before.result.now mark.None c.index-before.ensures place refl in
    record {
      before = before_is i.colours i.rows i.marks.items i.begun.items _ _ c.args.self.now c.args.number c.args.colour
          k c.self.view_is c.requires.begun c.requires.colour c.index-before.result.now c.index-before.ensures;
      rows = sym c.self.view_is
          ∙ with_rows i.colours i.rows i.marks.items i.begun.items _ _ c.args.self.now c.args.number c.args.colour
          k c.self.view_is c.requires.begun c.requires.colour _ c.args.mark
          (row-still i.colours i.marks.items i.begun.items c.args.number c.args.colour c.args.mark k.few_colours low
          k.all_marks here (λ none. c.in_default.not-None (is ∙ none)));
    }
