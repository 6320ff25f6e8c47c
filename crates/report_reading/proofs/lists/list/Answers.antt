use Rattle.std.proofs.Common.{◌≡◌, ◌++◌, ◌∷◌, [], ◌∙◌, sym, length}
use Rattle.std.proofs.lemmas.Result.{err_from_is_err_and}
use Rattle.report_reading.proofs.ListLemmas.{goes_on, ends, is_full, is_over}
use Rattle.report_reading.proofs.lists.list.Goals as goal
use Rattle.report_reading.proofs.lists.list.Goals.{then-loop-place-test+else-begins, else-loop-place-test}

pub returns-in_err-item : goal.returns-in_err-item
returns-in_err-item g c =
    let p = err_from_is_err_and c.from_residual.result c.from_residual.ensures.1 in
    let here = sym c.begins.ensures ∙ c.if-begins.true in
    rw (p.1, p.2) (ends _ _ c.in_err-item.field-0.0 c.loop-place.items (length c.args.bytes.now) c.loop-place.place c.loop-place.rest.now _ c.loop-place-test.true here c.in_err-item.ensures c.loop-place.invariant)

pub loop-place-preserved : goal.loop-place-preserved
loop-place-preserved g c =
    let here = sym c.begins.ensures ∙ c.if-begins.true in
    let e : c.push.new.self ≡ c.loop-place.items ++ c.in_ok-item.item ∷ [] = c.in_ok-push.ensures.ok in
    rw e (goes_on _ _ c.loop-place.items (length c.args.bytes.now) c.loop-place.place c.loop-place.rest.now c.in_ok-item.item c.in_ok-item.after.now _ c.loop-place-test.true here c.in_ok-item.ensures c.loop-place.invariant)

pub returns : goal.returns
returns g c = elim c.loop-place-test.branch [
  | then-loop-place-test+else-begins w ↦
      is_over _ _ c.loop-place.items (length c.args.bytes.now) c.loop-place.place c.loop-place.rest.now _ w.loop-place-test.true (sym w.begins.ensures ∙ w.if-begins.false) c.loop-place.invariant
  | else-loop-place-test w ↦
      is_full _ _ c.loop-place.items (length c.args.bytes.now) c.loop-place.place c.loop-place.rest.now _ w.loop-place-test.false c.loop-place.invariant
]
