use Rattle.std.proofs.Common.{[], None, Some, subst, Option, List}
use Rattle.std.specs.Prelude.{IfSome}
use Rattle.std.proofs.lemmas.Result.{IfOk-weaker}
use Rattle.log_node.specs.declared.forms.Version.{Version}
use Rattle.object_form.specs.Forms.{AreVersions}
use Rattle.report_text.specs.declared.report.Answer.{Answer}
use Rattle.report_text.specs.declared.report.Answer.TheVariants as answers
use Rattle.world_code.specs.WorldView.{world_of}
use Rattle.script_meaning.specs.Transactions.{committed_by}
use Rattle.script_in_order.specs.Doing.{DoneBy}
use Rattle.script_in_order.proofs.TransactionSteps.{commit_taken, no_read_taken}
use Rattle.script_in_order.proofs.transactions.commit.Goals as goal

pub commit_on-requires-clause-rests : goal.commit_on-requires-clause-rests
commit_on-requires-clause-rests c =
    subst (λ (t : Option (List Version)). IfSome t AreVersions) c.in-Some.is c.requires.rests

pub returns-in-None-clause-ok : goal.returns-in-None-clause-ok
returns-in-None-clause-ok c =
    let w = world_of c.args.world.now in
    commit_taken c.args.objects.now c.args.command.now c.args.object c.args.pairs.now c.args.taken None w w answers.NoTx
    c.in-None.is
    (no_read_taken c.args.objects.now c.args.command.now c.args.object c.args.pairs.now w)

pub returns-in-Some-clause-ok : goal.returns-in-Some-clause-ok
returns-in-Some-clause-ok c =
    let w = world_of c.args.world.now in
    let new = world_of c.commit_on.new.world in
    IfOk-weaker c.commit_on.result
    (λ (answer : Answer). DoneBy (λ grants state. committed_by c.args.objects.now grants state c.args.command.now
    c.args.object c.args.pairs.now (Some c.in-Some.reads)) c.args.command.now w new answer [])
    (λ (answer : Answer). DoneBy (λ grants state. committed_by c.args.objects.now grants state c.args.command.now
    c.args.object c.args.pairs.now c.args.taken) c.args.command.now w new answer [])
    (λ answer d. commit_taken c.args.objects.now c.args.command.now c.args.object c.args.pairs.now c.args.taken
    (Some c.in-Some.reads) w new answer c.in-Some.is d) c.commit_on.ensures.ok
