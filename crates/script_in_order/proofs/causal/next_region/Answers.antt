use Rattle.std.proofs.Common.{◌≡◌, false, sym, ◌∙◌}
use Rattle.world_code.specs.WorldView.{world_of}
use Rattle.script_in_order.specs.CausalFolds.{is_next}
use Rattle.script_in_order.proofs.causal.next_region.Goals as goal
use borrow.Author.Count.{below_more}

pub loop-region-preserved : goal.loop-region-preserved
loop-region-preserved c =
    below_more (λ r. is_next (world_of c.args.world.now) c.args.own c.args.colour c.args.counts r ≡ false)
    c.loop-region.region c.loop-region.invariant (sym c.is_next.ensures ∙ c.if-is_next.false)
