use Rattle.std.proofs.Common.{◌<◌, sym, subst}
use Rattle.log_node.specs.declared.ids.Counts.{Counts}
use Rattle.log_node.specs.Vectors.{IsWithin, one_more}
use Rattle.log_node.specs.Reach.{Reachable}
use Rattle.snapshot_cut.specs.Stuck.{left}
use Rattle.log_node.proofs.CallerLemmas.{within-trans, within-one_more, stuck_is_greatest}
use Rattle.snapshot_cut.proofs.Adding.{more_reached, less_left, free_inside}
use Rattle.snapshot_cut.proofs.cuts.admit.Goals as goal

pub loop-region-preserved : goal.loop-region-preserved
loop-region-preserved g c =
    let chains = g.V.NeedsView.chains c.args.view.now in
    let bases = g.V.NeedsView.bases c.args.view.now in
    let old = c.loop-region.invariant in (
      subst (λ (v : Counts). Reachable chains v) (sym c.one_more-cut.ensures)
          (more_reached chains c.loop-region.cut c.in-Some.region old.0 c.in-Some.ensures),
      subst (λ (v : Counts). IsWithin bases v) (sym c.one_more-cut.ensures)
          (within-trans bases c.loop-region.cut (one_more c.loop-region.cut c.in-Some.region) old.1 (within-one_more c.loop-region.cut c.in-Some.region)),
    )

pub loop-region-smaller : goal.loop-region-smaller
loop-region-smaller g c =
    let chains = g.V.NeedsView.chains c.args.view.now in
    let free = c.in-Some.ensures in
    subst (λ (v : Counts). left chains v < left chains c.loop-region.cut) (sym c.one_more-cut.ensures)
    (less_left chains c.loop-region.cut c.in-Some.region free.in_range
    (free_inside chains c.loop-region.cut c.in-Some.region free))

pub returns : goal.returns
returns g c = stuck_is_greatest (g.V.NeedsView.chains c.args.view.now) c.loop-region.cut c.loop-region.invariant.0
    c.in_default.ensures
