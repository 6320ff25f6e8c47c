use Rattle.std.proofs.Common.{◌≡◌, ◌<◌, ◌+◌, suc, [], length, take, drop, refl, arith}
use Rattle.std.proofs.lemmas.List.{take_all, length-drop}
use Rattle.std.proofs.lemmas.Result.{err_from_is_err_and}
use Rattle.script_text.specs.Pieces.{names_in}
use Rattle.script_text.specs.Readings.{colour_at, fresh_colour_at}
use Rattle.script_text.proofs.EachLemmas.{each_begins}
use Rattle.script_text.proofs.PieceLemmas.{comma_at, comma_none, first_name}
use Rattle.script_text.proofs.SetLaws.{stops, goes_on, gives, few}
use Rattle.script_text.proofs.names.colour_set.Goals as goal

pub loop-colour-init : goal.loop-colour-init
loop-colour-init c = record { read = record { earlier = []; order = []; so_far = each_begins (colour_at c.args.names.now) (names_in c.args.cols.now); numbered = tt; set_is = refl; count_is = refl }; fits = omega arith }

pub returns-in_err-colour-clause-value : goal.returns-in_err-colour-clause-value
returns-in_err-colour-clause-value c =
    let p = err_from_is_err_and c.from_residual.result c.from_residual.ensures.1 in
    let end = c.comma_front-end.ensures in
    let first = first_name c.loop-colour.rest.now c.comma_front-end.result end.within end.front end.stop in
    rw (p.1, p.2) (stops c.args.names.now c.args.cols.now c.loop-colour.rest.now c.loop-colour.set c.loop-colour.count c.loop-colour.invariant.read _ first.0 c.in_err-colour.field-0.0 first.1 c.in_err-colour.ensures.value)

pub returns-then-end-rest-clause-value : goal.returns-then-end-rest-clause-value
returns-then-end-rest-clause-value c =
    let names = c.args.names.now in
    let rest = c.loop-colour.rest.now in
    let end = c.comma_front-end.ensures in
    let whole : c.comma_front-end.result ≡ length rest = omega (arith, end.within, c.if-end-rest.true) in
    let read : fresh_colour_at names c.loop-colour.set rest ≡ _ = rw (whole, take_all (length rest) rest (omega arith)) at c.in_ok-colour.ensures.value in
    rw c.with-set.ensures (gives names c.args.cols.now rest c.loop-colour.set c.loop-colour.count c.loop-colour.invariant.read rest c.in_ok-colour.colour (comma_none rest (rw whole at end.front)) read)

pub returns-then-end-rest-clause-few : goal.returns-then-end-rest-clause-few
returns-then-end-rest-clause-few c =
    let names = c.args.names.now in
    let rest = c.loop-colour.rest.now in
    let end = c.comma_front-end.ensures in
    let whole : c.comma_front-end.result ≡ length rest = omega (arith, end.within, c.if-end-rest.true) in
    let read : fresh_colour_at names c.loop-colour.set rest ≡ _ = rw (whole, take_all (length rest) rest (omega arith)) at c.in_ok-colour.ensures.value in
    omega (
      arith,
      c.requires,
      few names c.args.cols.now rest c.loop-colour.set c.loop-colour.count c.loop-colour.invariant.read rest c.in_ok-colour.colour (comma_none rest (rw whole at end.front)) read,
    )

pub loop-colour-preserved : goal.loop-colour-preserved
loop-colour-preserved c =
    let rest = c.loop-colour.rest.now in
    let i = c.comma_front-end.result in
    let end = c.comma_front-end.ensures in
    let lt : i < length rest = omega (arith, c.if-end-rest.false) in
    let read = goes_on c.args.names.now c.args.cols.now rest c.loop-colour.set c.loop-colour.count c.loop-colour.invariant.read (take i rest) (drop (i + 1) rest) c.in_ok-colour.colour (comma_at rest i lt end.front (end.stop lt)) c.in_ok-colour.ensures.value in
    let shorter : length (drop (i + 1) rest) + suc i ≡ length rest = omega (arith, length-drop (i + 1) rest, lt) in
    rw (c.with-set.ensures, c.behind-rest.ensures) (record { read = read; fits = omega (arith, shorter, c.loop-colour.invariant.fits) })
