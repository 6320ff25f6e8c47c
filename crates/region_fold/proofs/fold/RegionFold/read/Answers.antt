use Rattle.std.proofs.Common.{subst}
use Rattle.lawful_run.specs.Asks.{rising}
use Rattle.object_fold.specs.Folds.{FeedsAll, FeedsFirst}
use Rattle.region_fold.proofs.ReadAnswers.{has_nodes, kept_later, kept_on}
use Rattle.region_fold.proofs.fold.RegionFold.read.Goals as goal

pub returns-in-Ok-fold_on-clause-kept : goal.returns-in-Ok-fold_on-clause-kept
returns-in-Ok-fold_on-clause-kept g c =
    kept_on g.F.NodeFold.Holds c.reads_go_on.ensures c.args.store.now c.args.client.now c.fetch.new.client (rising c.args.colours.now)
    c.fetch.ensures.client
    c.args.self.now.kept c.requires.kept c.in-Ok.read c.in-Ok.ensures.ok c.fold_on.new.self
    (subst (FeedsFirst g.F.NodeFold.Holds c.args.self.now.kept c.fold_on.new.self) c.as_slice.ensures c.fold_on.ensures.first)

pub returns-in-Err-fold_on-clause-kept : goal.returns-in-Err-fold_on-clause-kept
returns-in-Err-fold_on-clause-kept g c =
    kept_on g.F.NodeFold.Holds c.reads_go_on.ensures c.args.store.now c.args.client.now c.fetch.new.client (rising c.args.colours.now)
    c.fetch.ensures.client
    c.args.self.now.kept c.requires.kept c.in-Ok.read c.in-Ok.ensures.ok c.fold_on.new.self
    (subst (FeedsFirst g.F.NodeFold.Holds c.args.self.now.kept c.fold_on.new.self) c.as_slice.ensures c.fold_on.ensures.first)

pub returns-in-Ok-fold_on-clause-ok : goal.returns-in-Ok-fold_on-clause-ok
returns-in-Ok-fold_on-clause-ok g c =
    has_nodes g.F.NodeFold.Holds c.reads_go_on.ensures c.args.store.now c.args.client.now c.fetch.new.client (rising c.args.colours.now)
    c.fetch.ensures.client
    c.args.self.now.kept c.requires.kept c.in-Ok.read c.in-Ok.ensures.ok c.fold_on.new.self
    (subst (FeedsAll g.F.NodeFold.Holds c.args.self.now.kept c.fold_on.new.self) c.as_slice.ensures c.in-Ok-fold_on.ensures.whole)

pub returns-in-Err-clause-kept : goal.returns-in-Err-clause-kept
returns-in-Err-clause-kept g c =
    kept_later g.F.NodeFold.Holds c.reads_go_on.ensures c.args.store.now c.args.client.now c.fetch.new.client
    c.fetch.ensures.client (rising c.args.colours.now) c.args.self.now.kept c.requires.kept
