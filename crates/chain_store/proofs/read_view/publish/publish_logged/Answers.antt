use Rattle.std.proofs.Common.{drop}
use Rattle.left_right.specs.Sides.{view}
use Rattle.chain_store.proofs.CopySteps.{finds}
use Rattle.chain_store.proofs.CopyKept.{goes_on, kept_after, knows_after}
use Rattle.chain_store.proofs.read_view.publish.publish_logged.Goals as goal

pub publish_as-writer-requires : goal.publish_as-writer-requires
publish_as-writer-requires g c new is =
    let w = c.args.writer in
    let f = goes_on w.desk.shown.value new (drop w.behind w.log.items) c.args.pass.now c.args.cut c.requires.kept is in
    finds _ _ w.desk.shown.value new f.0 f.1

pub returns-clause-kept : goal.returns-clause-kept
returns-clause-kept g c =
    let w = c.args.writer in
    let after = c.publish_as-writer.result.0 in
    kept_after c.publish_as-writer.result.1 w.desk.shown.value after.desk.shown.value (drop w.behind w.log.items)
    (drop after.behind after.log.items) c.args.pass.now c.args.cut c.requires.kept c.publish_as-writer.ensures.values

pub returns-clause-knows : goal.returns-clause-knows
returns-clause-knows g c =
    let w = c.args.writer in
    let after = c.publish_as-writer.result.0 in
    knows_after c.publish_as-writer.result.1 w.desk.shown.value after.desk.shown.value (drop w.behind w.log.items)
    (drop after.behind after.log.items) c.args.pass.now c.args.cut (view w.desk.place) (view after.desk.place)
    c.requires.kept c.requires.knows c.publish_as-writer.ensures.values c.publish_as-writer.ensures.rule
