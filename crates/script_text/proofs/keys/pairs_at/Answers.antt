use Rattle.std.proofs.Common.{ℕ, List, ◌<◌, ◌∷◌, [], ◌++◌, length, map, take, sym, ap, ◌∙◌, refl, arith}
use Rattle.std.proofs.lemmas.Result.{err_from_is_err_and}
use Rattle.std.proofs.lemmas.List.{take_more, map_push}
use Rattle.log_node.specs.declared.forms.Pair.{Pair}
use Rattle.script_text.specs.Grammar.{key_in}
use Rattle.script_text.specs.Readings.{each_at, pair_at, fields_in}
use Rattle.script_text.proofs.EachLemmas.{each_more, each_ends, each_done, each_begins, fields_get, length-fields_in}
use Rattle.script_text.proofs.FieldLaws.{pair_key_is}
use Rattle.script_text.proofs.keys.pairs_at.Goals as goal

pub loop-field-init : goal.loop-field-init
loop-field-init c = rw c.new-pairs.ensures (record { read = each_begins pair_at (fields_in c.args.fields.now); keys = refl })

pub returns-in_err-pair : goal.returns-in_err-pair
returns-in_err-pair c =
    let all = fields_in c.args.fields.now in
    let i = c.loop-field.field-index in
    let v = c.loop-field.invariant in
    let p = err_from_is_err_and c.from_residual.result c.from_residual.ensures.1 in
    let within : i < length all = omega (arith, length-fields_in c.args.fields.now) in
    let failed = rw (c.as_slice.ensures, v.keys) at c.in_err-pair.ensures in
    rw (p.1, p.2) (each_ends pair_at (take i all) all c.loop-field.pairs i _ c.in_err-pair.field-0.0 (each_at pair_at [] all) within (fields_get c.args.fields.now i _ c.loop-field-test.true) failed v.read)

pub loop-field-preserved : goal.loop-field-preserved
loop-field-preserved c =
    let all = fields_in c.args.fields.now in
    let i = c.loop-field.field-index in
    let v = c.loop-field.invariant in
    let within : i < length all = omega (arith, length-fields_in c.args.fields.now) in
    let read = rw (c.as_slice.ensures, v.keys) at c.in_ok-pair.ensures in
    let at_place = fields_get c.args.fields.now i _ c.loop-field-test.true in
    let more = each_more pair_at (take i all) all c.loop-field.pairs i _ c.in_ok-pair.pair (each_at pair_at [] all) within at_place read v.read in
    let key = pair_key_is (map key_in (take i all)) _ c.in_ok-pair.pair read in
    let fields = take_more all i [] within ∙ ap (λ (f : List ℕ). take i all ++ f ∷ []) at_place in
    rw c.in_ok-push.ensures.ok (record {
      read = rw fields more;
      keys = map_push (λ (p : Pair). p.key) c.loop-field.pairs c.in_ok-pair.pair ∙ ap (λ (ks : List (List ℕ)). ks ++ c.in_ok-pair.pair.key ∷ []) v.keys
          ∙ ap (λ (k : List ℕ). map key_in (take i all) ++ k ∷ []) key ∙ sym (map_push key_in (take i all) _) ∙ ap (λ (fs : List (List ℕ)). map key_in fs) (sym fields);
    })

pub returns : goal.returns
returns c = each_done pair_at (take c.loop-field.field-index (fields_in c.args.fields.now)) (fields_in c.args.fields.now) c.loop-field.pairs c.loop-field.field-index (each_at pair_at [] (fields_in c.args.fields.now)) (omega (arith, length-fields_in c.args.fields.now)) c.loop-field.invariant.read
