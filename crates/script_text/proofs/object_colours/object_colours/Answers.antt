use Rattle.std.proofs.Common.{◌<◌, [], length, take, arith}
use Rattle.std.proofs.lemmas.Result.{err_from_is_err_and}
use Rattle.std.proofs.lemmas.List.{take_more}
use Rattle.script_text.specs.Readings.{each_at, fields_in}
use Rattle.script_text.proofs.EachLemmas.{each_more, each_ends, each_done, fields_get, fields_take, length-fields_in}
use Rattle.script_text.proofs.object_colours.object_colours.Invariants.{one}
use Rattle.script_text.proofs.object_colours.object_colours.Goals as goal

pub returns-in_err-colour : goal.returns-in_err-colour
returns-in_err-colour c =
    let all = fields_in c.args.fields.now in
    let i = c.loop-place.place in
    let this = one c.args.known.now c.args.alone in
    let p = err_from_is_err_and c.from_residual.result c.from_residual.ensures.1 in
    let within : i < length all = omega (arith, length-fields_in c.args.fields.now) in
    let failed = rw fields_take at c.in_err-colour.ensures in
    rw (p.1, p.2) (each_ends this (take i all) all c.loop-place.colours i _ c.in_err-colour.field-0.0 (each_at this [] all) within (fields_get c.args.fields.now i _ c.loop-place-test.true) failed c.loop-place.invariant)

pub loop-place-preserved : goal.loop-place-preserved
loop-place-preserved c =
    let all = fields_in c.args.fields.now in
    let i = c.loop-place.place in
    let this = one c.args.known.now c.args.alone in
    let within : i < length all = omega (arith, length-fields_in c.args.fields.now) in
    let read = rw fields_take at c.in_ok-colour.ensures in
    let at_place = fields_get c.args.fields.now i _ c.loop-place-test.true in
    rw (c.in_ok-push.ensures.ok, take_more all i [] within, at_place) (each_more this (take i all) all c.loop-place.colours i _ c.in_ok-colour.colour (each_at this [] all) within at_place read c.loop-place.invariant)

pub returns : goal.returns
returns c =
    let all = fields_in c.args.fields.now in
    let this = one c.args.known.now c.args.alone in
    each_done this (take c.loop-place.place all) all c.loop-place.colours c.loop-place.place (each_at this [] all) (omega (arith, length-fields_in c.args.fields.now)) c.loop-place.invariant
