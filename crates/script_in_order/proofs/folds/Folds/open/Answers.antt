use Rattle.std.proofs.Common.{List, ◌∷◌, [], ◌++◌, take, ap, sym, subst, ◌∙◌}
use Rattle.std.proofs.lemmas.List.{take_all, take_more}
use Rattle.script_text.specs.declared.script.Object.{Object}
use Rattle.script_in_order.specs.declared.folds.Fold.{Fold}
use Rattle.script_in_order.specs.Folds.{AreFolded}
use Rattle.script_in_order.proofs.CausalKept.{folds_more}
use Rattle.script_in_order.proofs.folds.Folds.open.Goals as goal

pub loop-object-preserved : goal.loop-object-preserved
loop-object-preserved c = λ w same.
    let l = c.loop-object in
    let o = c.object-item.result in
    let items = c.as_slice-object-items.result.now in
    subst (λ (xs : List Object). AreFolded w xs c.push.new.self.items)
    (ap (λ (x : Object). take l.object-index items ++ x ∷ []) c.object-item.is
    ∙ sym (take_more items l.object-index o c.loop-object-test.true))
    (subst (λ (all : List Fold). AreFolded w (take l.object-index items ++ o ∷ []) all) (sym c.in_ok-push.ensures.items)
    (folds_more w (take l.object-index items) l.of.items o c.in_ok-open_fold.field-0 (l.invariant w same)
    (c.in_ok-open_fold.ensures w same)))

pub returns : goal.returns
returns c = λ w same.
    let items = c.as_slice-object-items.result.now in
    subst (λ (xs : List Object). AreFolded w xs c.loop-object.of.items)
    (take_all c.loop-object.object-index items c.loop-object-test.false ∙ c.as_slice-object-items.ensures)
    (c.loop-object.invariant w same)
