use Rattle.std.proofs.Common.{◌≡◌, List, [], ◌∷◌, length, Some, ap, sym, subst, ◌∙◌, arith, length-append}
use Rattle.std.specs.Prelude.{slice_get}
use Rattle.object_fold.specs.declared.kept_line.KeptLine.{KeptLine}
use Rattle.object_fold.specs.declared.shard_map.ShardMap.{ShardMap}
use Rattle.script_in_order.proofs.CausalKept.{shard_more}
use Rattle.script_in_order.proofs.FoldsKept.{shard_opened}
use Rattle.script_in_order.proofs.folds.open_shards.Goals as goal

pub loop-colour-preserved : goal.loop-colour-preserved
loop-colour-preserved c =
    let l = c.loop-colour in
    let items = c.in_ok-push.ensures.items in
    let kept = c.new.result in
    let its = c.open-map.ensures in
    record {
      many = let a = length-append l.shards.items (kept ∷ []) in
          let b = ap length items in let d = l.invariant.many in omega (arith, a, b, d);
      each = λ w home n fold there.
          shard_more w home c.args.colours.now l.shards.items kept (l.invariant.each w home)
          (shard_opened w home (length l.shards.items) c.args.colours.now c.open-map.result kept c.new.ensures.state
          c.new.ensures.count (its.colours ∙ (c.from.ensures ∙ (c.in_ok-copy.ensures.items ∙ c.as_slice.ensures)))
          (its.shard ∙ sym l.invariant.many) its.empty)
          n fold (subst (λ (xs : List (KeptLine ShardMap)). slice_get xs n ≡ Some fold) items there);
    }

pub returns : goal.returns
returns c = λ w home same.
    let l = c.loop-colour in record {
      all = let a = l.invariant.many in
          let b = c.loop-colour-test.false in let d = l.auto.colour-end in omega (arith, a, b, d, same);
      each = λ n fold there. l.invariant.each w home n fold there;
    }
