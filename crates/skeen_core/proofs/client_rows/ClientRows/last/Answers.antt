use Rattle.std.proofs.Common.{◌≡◌, ◌≤◌, get_or, length, Some, refl, ap, sym, ◌∙◌, arith}
use Rattle.std.specs.Prelude.{slice_get}
use Rattle.std.proofs.lemmas.Bool.{ltb-false, ltb-true}
use Rattle.std.proofs.lemmas.Option.{slice_get_past, slice_get_read}
use Rattle.skeen_core.specs.Boards.{last_in}
use Rattle.skeen_core.proofs.KeptRows.{last-read, last_kept}
use Rattle.skeen_core.proofs.client_rows.ClientRows.last.Goals as goal

pub returns-in-None : goal.returns-in-None
returns-in-None c =
    let i = c.self.inside in
    let past : length i.begun.items ≤ c.args.number =
    let out = ltb-false c.args.number (length c.deref.result.now) (sym c.in-None.ensures.lookup.0) in
    omega (arith, out, ap length c.deref.ensures.value) in
    sym (last-read i.colours i.marks.items i.begun.items c.args.number
    ∙ ap last_kept (slice_get_past i.begun.items c.args.number past))
    ∙ ap (λ r. last_in (slice_get r.begun c.args.number)) c.self.view_is

pub returns-in-Some : goal.returns-in-Some
returns-in-Some c =
    let i = c.self.inside in
    let row = c.in-Some.row.now in
    let within = ltb-true c.args.number (length c.deref.result.now) (sym c.in-Some.ensures.lookup.0) in
    let read : row ≡ get_or c.deref.result.now c.args.number row = c.in-Some.ensures.lookup.1 in
    let there : slice_get i.begun.items c.args.number ≡ Some row =
    ap (λ l. slice_get l c.args.number) (sym c.deref.ensures.value)
    ∙ slice_get_read c.deref.result.now (length c.deref.result.now) c.args.number row refl within read in
    sym (last-read i.colours i.marks.items i.begun.items c.args.number ∙ ap last_kept there)
    ∙ ap (λ r. last_in (slice_get r.begun c.args.number)) c.self.view_is
