use Rattle.std.proofs.Common.{◌<◌, length, arith}
use Rattle.std.proofs.lemmas.Result.{err_from_is_err_and}
use Rattle.script_text.specs.Readings.{new_name_at, new_names_at, fields_in}
use Rattle.script_text.proofs.EachLemmas.{each_more, each_ends, each_done, new_name_is, fields_get, length-fields_in}
use Rattle.script_text.proofs.names.new_names.Goals as goal

pub returns-in_err-name : goal.returns-in_err-name
returns-in_err-name c =
    let all = fields_in c.args.fields.now in
    let i = c.loop-field.field-index in
    let p = err_from_is_err_and c.from_residual.result c.from_residual.ensures.1 in
    let within : i < length all = omega (arith, length-fields_in c.args.fields.now) in
    let failed = c.in_err-name.ensures in
    rw (p.1, p.2) (each_ends new_name_at c.loop-field.names all c.loop-field.names i _ c.in_err-name.field-0.0 (new_names_at all) within (fields_get c.args.fields.now i _ c.loop-field-test.true) failed c.loop-field.invariant)

pub loop-field-preserved : goal.loop-field-preserved
loop-field-preserved c =
    let all = fields_in c.args.fields.now in
    let i = c.loop-field.field-index in
    let within : i < length all = omega (arith, length-fields_in c.args.fields.now) in
    let read = c.in_ok-name.ensures in
    let same = new_name_is c.loop-field.names _ c.in_ok-name.name read in
    rw c.in_ok-push.ensures.ok (rw (← same) at (each_more new_name_at c.loop-field.names all c.loop-field.names i _ c.in_ok-name.name (new_names_at all) within (fields_get c.args.fields.now i _ c.loop-field-test.true) read c.loop-field.invariant))

pub returns : goal.returns
returns c = each_done new_name_at c.loop-field.names (fields_in c.args.fields.now) c.loop-field.names c.loop-field.field-index (new_names_at (fields_in c.args.fields.now)) (omega (arith, length-fields_in c.args.fields.now)) c.loop-field.invariant
