use Rattle.std.proofs.Common.{◌++◌, List, ap, subst, ◌∙◌}
use Rattle.log_node.specs.Seen.{PlacedNode}
use Rattle.object_fold.specs.Nodes.{object_nodes}
use Rattle.lawful_run.specs.Asks.{rising}
use Rattle.object_fold.specs.Folds.{FeedsFirst, told_of}
use Rattle.region_fold.proofs.ReadAnswers.{answers, kept_later, kept_on, last_stays, stays}
use Rattle.region_fold.proofs.fold.RegionFold.read_behind.Goals as goal

pub returns-in-Ok-told-clause-kept : goal.returns-in-Ok-told-clause-kept
returns-in-Ok-told-clause-kept g c =
    kept_on g.F.NodeFold.Holds c.reads_go_on.ensures c.args.store.now c.args.client.now c.fetch.new.client (rising c.args.colours.now)
    c.fetch.ensures.client c.stay_before.new.self
    (stays g.F.NodeFold.Holds c.args.client.now (rising c.args.colours.now) c.args.self.now.kept c.stay_before.new.self c.args.own
    c.stay_before.ensures.same c.stay_before.ensures.anew c.requires.kept)
    c.in-Ok.read c.in-Ok.ensures.ok c.told.new.self
    (subst (FeedsFirst g.F.NodeFold.Holds c.stay_before.new.self c.told.new.self) c.as_slice.ensures c.told.ensures.first)

pub returns-in-Err-told-clause-kept : goal.returns-in-Err-told-clause-kept
returns-in-Err-told-clause-kept g c =
    kept_on g.F.NodeFold.Holds c.reads_go_on.ensures c.args.store.now c.args.client.now c.fetch.new.client (rising c.args.colours.now)
    c.fetch.ensures.client c.stay_before.new.self
    (stays g.F.NodeFold.Holds c.args.client.now (rising c.args.colours.now) c.args.self.now.kept c.stay_before.new.self c.args.own
    c.stay_before.ensures.same c.stay_before.ensures.anew c.requires.kept)
    c.in-Ok.read c.in-Ok.ensures.ok c.told.new.self
    (subst (FeedsFirst g.F.NodeFold.Holds c.stay_before.new.self c.told.new.self) c.as_slice.ensures c.told.ensures.first)

pub returns-in-Ok-told-clause-ok : goal.returns-in-Ok-told-clause-ok
returns-in-Ok-told-clause-ok g c =
    answers g.F.NodeFold.Holds c.reads_go_on.ensures c.args.store.now c.args.client.now c.fetch.new.client (rising c.args.colours.now)
    c.fetch.ensures.client c.stay_before.new.self
    (stays g.F.NodeFold.Holds c.args.client.now (rising c.args.colours.now) c.args.self.now.kept c.stay_before.new.self c.args.own
    c.stay_before.ensures.same c.stay_before.ensures.anew c.requires.kept)
    c.in-Ok.read c.in-Ok.ensures.ok c.args.own c.stay_before.ensures.before g.F.NodeFold.told c.in-Ok-told.told
    (λ nodes is absent. c.in-Ok-told.ensures.ok nodes is absent
    ∙ ap (λ (l : List PlacedNode). told_of g.F.NodeFold.told (nodes ++ object_nodes l) c.args.own) c.as_slice.ensures)
    c.args.self.now.kept.last
    (last_stays g.F.NodeFold.Holds c.args.self.now.kept c.stay_before.new.self c.args.own c.stay_before.ensures.same
    c.stay_before.ensures.anew)

pub returns-in-Err-clause-kept : goal.returns-in-Err-clause-kept
returns-in-Err-clause-kept g c =
    kept_later g.F.NodeFold.Holds c.reads_go_on.ensures c.args.store.now c.args.client.now c.fetch.new.client
    c.fetch.ensures.client (rising c.args.colours.now) c.stay_before.new.self
    (stays g.F.NodeFold.Holds c.args.client.now (rising c.args.colours.now) c.args.self.now.kept c.stay_before.new.self c.args.own
    c.stay_before.ensures.same c.stay_before.ensures.anew c.requires.kept)
