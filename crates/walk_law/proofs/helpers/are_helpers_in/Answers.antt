use Rattle.walk_law.specs.Fourth.{MayHelp}
use Rattle.walk_law.proofs.Lists.{all_end, item_step, item_stop}
use Rattle.walk_law.proofs.helpers.are_helpers_in.Goals as goal

pub returns-then-not-is_helper : goal.returns-then-not-is_helper
returns-then-not-is_helper c =
    item_stop (MayHelp c.args.subject.now.script c.args.region) c.args.journal.now c.loop-entry.entry-index c.entry-item.result
    c.is_helper.result c.loop-entry-test.true c.entry-item.is c.is_helper.ensures c.if-not-is_helper.true

pub loop-entry-preserved : goal.loop-entry-preserved
loop-entry-preserved c =
    item_step (MayHelp c.args.subject.now.script c.args.region) c.args.journal.now c.loop-entry.entry-index c.entry-item.result
    c.is_helper.result c.loop-entry-test.true c.entry-item.is c.loop-entry.invariant c.is_helper.ensures c.if-not-is_helper.false

pub returns : goal.returns
returns c =
    all_end (MayHelp c.args.subject.now.script c.args.region) c.args.journal.now c.loop-entry.entry-index c.loop-entry-test.false
    c.loop-entry.invariant
