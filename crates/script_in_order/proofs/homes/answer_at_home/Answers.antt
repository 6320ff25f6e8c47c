use Rattle.std.proofs.Common.{◌∙◌, sym}
use Rattle.report_text.specs.declared.report.Answer.TheVariants as answers
use Rattle.world_code.specs.WorldView.{world_of}
use Rattle.script_meaning.specs.Meaning.{done}
use Rattle.script_in_order.proofs.CommandKinds.{does_not_at_home, with_nodes}
use Rattle.script_in_order.proofs.GetSteps.{folded_on}
use Rattle.script_in_order.proofs.homes.answer_at_home.Goals as goal

pub returns-in-Some-clause-ok : goal.returns-in-Some-clause-ok
returns-in-Some-clause-ok c =
    let w = world_of c.args.world.now in
    with_nodes c.args.command.now (λ grants state. done c.args.objects.now grants state c.args.command.now) w w
    (answers.NotHome c.in-Some.home) c.new.result c.new.ensures
    (does_not_at_home c.args.objects.now c.args.command.now w c.in-Some.home
    (sym c.refusing_home.ensures ∙ c.in-Some.is))

pub returns-in_ok-answer-in-None-clause-folded : goal.returns-in_ok-answer-in-None-clause-folded
returns-in_ok-answer-in-None-clause-folded c =
    c.answer.ensures.folded (folded_on c.args.objects.now c.args.command.now (world_of c.args.world.now)
    (world_of c.answer.new.world) c.answer.new.nodes c.answer.result c.agrees.ensures
    (sym c.refusing_home.ensures ∙ c.in-None.is) c.answer.ensures.ok c.answer.ensures.err)
