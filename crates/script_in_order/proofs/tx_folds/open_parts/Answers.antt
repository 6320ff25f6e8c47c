use Rattle.std.proofs.Common.{[], ◌∷◌, length, ap, sym, subst, arith, length-append}
use Rattle.part_fold.specs.declared.part_fold.PartFold.{PartFold}
use Rattle.part_fold.specs.PartStates.{IsPart}
use Rattle.script_in_order.proofs.FoldsKept.{AreFirstParts, parts_more}
use Rattle.script_in_order.proofs.PartSteps.{part_opened}
use Rattle.script_in_order.proofs.tx_folds.open_parts.Goals as goal

pub loop-place-preserved : goal.loop-place-preserved
loop-place-preserved c =
    let l = c.loop-place in
    let items = c.in_ok-push.ensures.items in
    let kept = c.new.result in
    let its = c.open.ensures in
    record {
      many = let a = length-append l.parts.items (kept ∷ []) in
          let b = ap length items in let d = l.invariant.many in omega (arith, a, b, d);
      each = λ w home.
          subst (AreFirstParts w home c.args.colours.now) (sym items)
          (parts_more w home c.args.colours.now l.parts.items kept (l.invariant.each w home)
          (part_opened c.args.colours.now l.place (length l.parts.items) c.len-count.result kept c.open.result c.new.ensures.state its.part
          (sym l.invariant.many) c.len-count.ensures) c.new.ensures.count
          (subst (λ (s : PartFold). IsPart s []) (sym c.new.ensures.state) its.empty));
    }

pub returns : goal.returns
returns c = λ w home.
    let l = c.loop-place in record {
      all = let a = l.invariant.many in
          let b = c.loop-place-test.false in
          let d = l.auto.place-end in let e = c.len-count.ensures in omega (arith, a, b, d, e);
      each = l.invariant.each w home;
    }
