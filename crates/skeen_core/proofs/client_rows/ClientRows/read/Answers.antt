use Rattle.std.proofs.Common.{◌≡◌, ◌<◌, ◌≤◌, ◌+◌, ◌*◌, get_or, length, refl, ap, sym, ◌∙◌, arith}
use Rattle.std.specs.Prelude.{slice_get}
use Rattle.std.proofs.lemmas.Bool.{ltb-false, ltb-true}
use Rattle.std.proofs.lemmas.List.{get_or_past, get_or_read_under}
use Rattle.log_node.specs.declared.marks.Mark.TheVariants as mark
use Rattle.skeen_core.specs.Boards.{mark_in}
use Rattle.skeen_core.proofs.KeptRows.{mark-read, no-mark}
use Rattle.skeen_core.proofs.client_rows.ClientRows.read.Goals as goal

pub returns-then-colour-self : goal.returns-then-colour-self
returns-then-colour-self c =
    let i = c.self.inside in
    let k = c.self.invariant in
    no-mark i.colours i.marks.items i.begun.items c.args.number c.args.colour k.few_colours c.if-colour-self.true
    ∙ ap (λ r. mark_in (slice_get r.begun c.args.number) c.args.colour) c.self.view_is

pub returns-in-None : goal.returns-in-None
returns-in-None c =
    let i = c.self.inside in
    let k = c.self.invariant in
    let low : c.args.colour < i.colours = let f = c.if-colour-self.false in omega (arith, f) in
    let place = c.args.number * i.colours + c.args.colour in
    let past : length i.marks.items ≤ place =
    let same = c.deref.ensures.value in let out = ltb-false place (length c.deref.result.now) (sym c.in-None.ensures.lookup.0) in
    omega (arith, out, ap length same) in
    sym (mark-read i.colours i.marks.items i.begun.items c.args.number c.args.colour k.few_colours k.all_marks low
    ∙ get_or_past i.marks.items place mark.None past)
    ∙ ap (λ r. mark_in (slice_get r.begun c.args.number) c.args.colour) c.self.view_is

pub returns-in-Some : goal.returns-in-Some
returns-in-Some c =
    let i = c.self.inside in
    let k = c.self.invariant in
    let low : c.args.colour < i.colours = let f = c.if-colour-self.false in omega (arith, f) in
    let place = c.args.number * i.colours + c.args.colour in
    let within = ltb-true place (length c.deref.result.now) (sym c.in-Some.ensures.lookup.0) in
    let there : c.in-Some.mark.now ≡ get_or c.deref.result.now place mark.None =
    get_or_read_under c.deref.result.now place (length c.deref.result.now) c.in-Some.mark.now mark.None
    c.in-Some.ensures.lookup.1 within refl in
    there ∙ (ap (λ l. get_or l place mark.None) c.deref.ensures.value
    ∙ (sym (mark-read i.colours i.marks.items i.begun.items c.args.number c.args.colour k.few_colours k.all_marks low)
    ∙ ap (λ r. mark_in (slice_get r.begun c.args.number) c.args.colour) c.self.view_is))
