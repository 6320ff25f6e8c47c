use Rattle.std.proofs.Common.{◌≤◌, ◌∙◌, ℕ, ap, subst, arith}
use Rattle.log_node.specs.Vectors.{at}
use Rattle.world_laws.specs.Laws.{StaysWithinCuts}
use Rattle.world_laws.proofs.CallerLemmas.{of_reached}
use Rattle.report_text.specs.declared.report.SyncPiece.{SyncPiece}
use Rattle.world_code.specs.WorldView.{world_of}
use Rattle.script_in_order.proofs.GetSteps.{played_here}
use Rattle.script_in_order.proofs.PartSteps.{part_played, within_line}
use Rattle.script_in_order.proofs.tx_folds.fold_part.Goals as goal

pub fold_to-requires-clause-there : goal.fold_to-requires-clause-there
fold_to-requires-clause-there c =
    let w = world_of c.args.world.now in
    let own = c.home-region.result in
    let cuts = of_reached StaysWithinCuts c.stays_within_cuts.ensures w c.is_whole.ensures.reached in
    let count = ap (λ (s : SyncPiece). at s.counts own) c.sync_now-sync.ensures
    ∙ played_here w cuts c.args.client c.args.colour own c.home-region.ensures.home c.home-region.ensures.within
    c.is_whole.ensures.few_regions in record {
      region = c.home-region.ensures.within;
      colour = c.requires.colour;
      count = subst (λ (n : ℕ). at c.sync_now-sync.result.counts own ≤ n) count (omega arith);
    }

pub fold_to-requires-clause-behind : goal.fold_to-requires-clause-behind
fold_to-requires-clause-behind c =
    let w = world_of c.args.world.now in
    let own = c.home-region.result in
    let cuts = of_reached StaysWithinCuts c.stays_within_cuts.ensures w c.is_whole.ensures.reached in
    within_line w c.args.client c.args.colour own c.args.kept.now (at c.sync_now-sync.result.counts own)
    c.home-region.ensures.home
    (ap (λ (s : SyncPiece). at s.counts own) c.sync_now-sync.ensures
    ∙ played_here w cuts c.args.client c.args.colour own c.home-region.ensures.home c.home-region.ensures.within
    c.is_whole.ensures.few_regions) c.requires.folded

pub returns-clause-played : goal.returns-clause-played
returns-clause-played c =
    part_played (world_of c.args.world.now) c.args.client c.args.colour c.home-region.result c.sync_now-sync.result
    c.fold_to.new.kept c.home-region.ensures.home c.sync_now-sync.ensures c.in_ok-fold_to.ensures.ok
    c.fold_to.ensures.folded
