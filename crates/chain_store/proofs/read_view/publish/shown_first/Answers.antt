use Rattle.std.proofs.Common.{drop}
use Rattle.chain_store.proofs.CopySteps.{finds}
use Rattle.chain_store.proofs.CopyKept.{goes_on, first_kept, kept_after}
use Rattle.chain_store.proofs.read_view.publish.shown_first.Goals as goal

pub publish_as-writer-requires : goal.publish_as-writer-requires
publish_as-writer-requires g c new is =
    let w = c.args.writer in
    let r = c.requires in
    let kept = first_kept w.desk.shown.value (drop w.behind w.log.items) c.args.pass.now c.args.cut r.none r.good r.of r.seen r.cut in
    let f = goes_on w.desk.shown.value new (drop w.behind w.log.items) c.args.pass.now c.args.cut kept is in
    finds _ _ w.desk.shown.value new f.0 f.1

pub returns-in-Ok-clause-kept : goal.returns-in-Ok-clause-kept
returns-in-Ok-clause-kept g c =
    let w = c.args.writer in
    let r = c.requires in
    let after = c.publish_as-writer.result.0 in
    kept_after c.publish_as-writer.result.1 w.desk.shown.value after.desk.shown.value (drop w.behind w.log.items)
    (drop after.behind after.log.items) c.args.pass.now c.args.cut
    (first_kept w.desk.shown.value (drop w.behind w.log.items) c.args.pass.now c.args.cut r.none r.good r.of r.seen r.cut)
    c.publish_as-writer.ensures.values
