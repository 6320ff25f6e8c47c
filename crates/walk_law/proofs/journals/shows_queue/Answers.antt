use Rattle.std.proofs.Common.{◌∙◌, ap}
use Rattle.std.specs.Prelude.{is_none}
use Rattle.walk_law.proofs.ClosingLemmas.{shows_all}
use Rattle.walk_law.proofs.TableLemmas.{none_is}
use Rattle.walk_law.proofs.journals.shows_queue.Goals as goal

pub returns : goal.returns
returns c =
    shows_all c.args.track.now.journal c.args.queue.now c.loop-at.at c.loop-at-test.false c.loop-at.auto.at-end c.loop-at.invariant
    c.is_none.result (none_is c.waiting-2.result c.is_none.result c.is_none.ensures ∙ ap is_none c.waiting-2.ensures)
