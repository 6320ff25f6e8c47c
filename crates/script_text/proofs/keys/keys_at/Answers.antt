use Rattle.std.proofs.Common.{◌<◌, [], length, arith}
use Rattle.std.proofs.lemmas.Result.{err_from_is_err_and}
use Rattle.script_text.specs.Readings.{each_at, key_at, fields_in}
use Rattle.script_text.proofs.EachLemmas.{each_more, each_ends, each_done, fields_get, length-fields_in}
use Rattle.script_text.proofs.FieldLaws.{key_ok}
use Rattle.script_text.proofs.keys.keys_at.Goals as goal

pub returns-in_err-key : goal.returns-in_err-key
returns-in_err-key c =
    let all = fields_in c.args.fields.now in
    let i = c.loop-field.field-index in
    let p = err_from_is_err_and c.from_residual.result c.from_residual.ensures.1 in
    let within : i < length all = omega (arith, length-fields_in c.args.fields.now) in
    let failed = rw c.as_slice.ensures at c.in_err-key.ensures in
    rw (p.1, p.2) (each_ends key_at c.loop-field.keys all c.loop-field.keys i _ c.in_err-key.field-0.0 (each_at key_at [] all) within (fields_get c.args.fields.now i _ c.loop-field-test.true) failed c.loop-field.invariant)

pub loop-field-preserved : goal.loop-field-preserved
loop-field-preserved c =
    let all = fields_in c.args.fields.now in
    let i = c.loop-field.field-index in
    let within : i < length all = omega (arith, length-fields_in c.args.fields.now) in
    let read = rw c.as_slice.ensures at c.in_ok-key.ensures in
    let same = (key_ok c.loop-field.keys _ c.in_ok-key.key read).2 in
    rw c.in_ok-push.ensures.ok (rw (← same) at (each_more key_at c.loop-field.keys all c.loop-field.keys i _ c.in_ok-key.key (each_at key_at [] all) within (fields_get c.args.fields.now i _ c.loop-field-test.true) read c.loop-field.invariant))

pub returns : goal.returns
returns c = each_done key_at c.loop-field.keys (fields_in c.args.fields.now) c.loop-field.keys c.loop-field.field-index (each_at key_at [] (fields_in c.args.fields.now)) (omega (arith, length-fields_in c.args.fields.now)) c.loop-field.invariant
