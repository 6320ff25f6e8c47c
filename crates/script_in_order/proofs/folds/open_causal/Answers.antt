use Rattle.std.proofs.Common.{◌≡◌, List, [], ◌∷◌, length, Some, ap, subst, arith, length-append}
use Rattle.std.specs.Prelude.{slice_get}
use Rattle.object_fold.specs.declared.causal_map.CausalMap.{CausalMap}
use Rattle.script_in_order.proofs.CausalKept.{causal_more}
use Rattle.script_in_order.proofs.CausalSteps.{none_is_fed}
use Rattle.script_in_order.proofs.folds.open_causal.Goals as goal

pub loop-preserved : goal.loop-preserved
loop-preserved c =
    let l = c.loop in
    let items = c.in_ok-push.ensures.items in
    record {
      many = let a = length-append l.folds.items (c.new.result ∷ []) in
          let b = ap length items in let d = l.invariant.many in omega (arith, a, b, d);
      each = λ n fold there. causal_more l.folds.items c.new.result l.invariant.each (none_is_fed c.new.result c.new.ensures) n fold
          (subst (λ (xs : List CausalMap). slice_get xs n ≡ Some fold) items there);
    }
