use Rattle.std.proofs.Common.{◌∙◌, ap}
use Rattle.lawful_run.specs.Callers.{caller_of}
use Rattle.run_rules.specs.Telling.{replies_to}
use Rattle.run_rules.specs.Told.{stamp_told}
use Rattle.walk_law.specs.Walking.{log_walked}
use Rattle.object_law.proofs.TreeSteps.{change_said}
use Rattle.object_law.proofs.thirteenth.TreePlays.say_so.Goals as goal

pub returns-in-Changed-clause-told : goal.returns-in-Changed-clause-told
returns-in-Changed-clause-told c = λ step seen.
    change_said c.args.subject.now c.args.nodes.now c.args.client c.args.place c.args.keeping.now step seen c.command.result.now
    c.command.ensures c.reply.result.now c.reply.ensures c.in-Changed.failed c.in-Changed.stamp c.in-Changed.row c.in-Changed.points
    c.in-Changed.read_stamp _ _ c.in-Changed.is c.stamp_told.result c.next_id.result
    (λ kept is. c.stamp_told.ensures (replies_to c.args.subject.now.report c.args.client) kept is
    ∙ ap (stamp_told (log_walked c.args.subject.now) (caller_of c.args.subject.now.script c.args.client) kept c.in-Changed.row)
    c.as_slice.ensures)
    c.next_id.ensures
    c.tells_change.result c.tells_change.ensures.told
