use Rattle.std.proofs.Common.{◌≡◌, true, false, refl, sym, ◌∙◌}
use Rattle.script_text.specs.Table.{is_of}
use Rattle.script_text.proofs.FieldLaws.{object_found, object_unknown, object_below}
use Rattle.script_text.proofs.objects.object_at.Goals as goal

pub returns-in_default : goal.returns-in_default
returns-in_default c = object_unknown c.args.kinds c.args.objects.now c.args.field.now (sym c.number_of.ensures ∙ c.in_default.is)

pub bounds-as_slice-number : goal.bounds-as_slice-number
bounds-as_slice-number c = rw c.as_slice.ensures (object_below c.args.objects.now c.args.field.now c.in-Some.number (sym c.in-Some.ensures))

pub returns-then-not-is_of : goal.returns-then-not-is_of
returns-then-not-is_of c =
    let there = rw c.as_slice.ensures at (sym c.index-as_slice-number.is) in
    let lacks : is_of c.args.kinds c.index-as_slice-number.result.kind ≡ false = cc (c.is_of.ensures, c.if-not-is_of.true) in
    object_found c.args.kinds c.args.objects.now c.args.field.now c.in-Some.number c.index-as_slice-number.result (sym c.in-Some.ensures) there ∙ rw lacks refl

pub returns : goal.returns
returns c =
    let there = rw c.as_slice.ensures at (sym c.index-as_slice-number.is) in
    let has : is_of c.args.kinds c.index-as_slice-number.result.kind ≡ true = cc (c.is_of.ensures, c.if-not-is_of.false) in
    object_found c.args.kinds c.args.objects.now c.args.field.now c.in-Some.number c.index-as_slice-number.result (sym c.in-Some.ensures) there ∙ rw has refl
