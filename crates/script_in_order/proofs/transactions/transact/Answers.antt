use Rattle.std.proofs.Common.{◌∙◌, List, Option, sym, subst}
use Rattle.std.proofs.lemmas.Result.{IfOk-weaker}
use Rattle.log_node.specs.declared.forms.Version.{Version}
use Rattle.report_text.specs.declared.report.Answer.{Answer}
use Rattle.script_text.specs.Fitting.{UsesObject}
use Rattle.world_code.specs.WorldView.{world_of}
use Rattle.script_meaning.specs.Transactions.{read_in}
use Rattle.script_meaning.specs.Meaning.{done}
use Rattle.script_in_order.specs.Transacting.{LeavesForCommit}
use Rattle.script_in_order.proofs.TransactionSteps.{away_left, read_left, commit_left, read_asks, commit_asks}
use Rattle.script_in_order.proofs.transactions.transact.Goals as goal

pub read-requires : goal.read-requires
read-requires c =
    let asks = read_asks c.args.command.now.what c.args.object c.in-Read._object c.in-Read.keys c.requires.kind
    c.in-Read.is in record {
      asks = asks;
      caller = c.requires.fits.caller;
      kinds = c.requires.fits.kinds;
      uses = subst (UsesObject c.args.objects.now) asks c.requires.fits.uses;
      folded = c.requires.folded;
    }

pub commit-requires : goal.commit-requires
commit-requires c = record {
  caller = c.requires.fits.caller;
  kinds = c.requires.fits.kinds;
  uses = subst (UsesObject c.args.objects.now)
      (commit_asks c.args.command.now.what c.args.object c.in-Commit._object c.in-Commit.pairs c.requires.kind
      c.in-Commit.is) c.requires.fits.uses;
  rests = c.requires.rests;
  folded = c.requires.folded;
}

pub returns-in-Some-clause-ok : goal.returns-in-Some-clause-ok
returns-in-Some-clause-ok c =
    away_left c.args.objects.now c.args.command.now c.args.object c.args.taken (world_of c.args.world.now)
    c.in-Some.home c.requires.kind (sym c.refusing_home.ensures ∙ c.in-Some.is)

pub returns-in-Read-clause-ok : goal.returns-in-Read-clause-ok
returns-in-Read-clause-ok c =
    let old = world_of c.args.world.now in
    let new = world_of c.read.new.world in
    IfOk-weaker c.read.result
    (λ (g : Answer × Option (List Version)). (taken : Option (List Version))
    → LeavesForCommit (λ grants state. read_in c.args.objects.now grants state c.args.command.now c.args.object c.in-Read.keys)
    c.args.command.now c.args.object taken old new g.0 g.1)
    (λ (g : Answer × Option (List Version)).
    LeavesForCommit (λ grants state. done c.args.objects.now grants state c.args.command.now)
    c.args.command.now c.args.object c.args.taken old new g.0 g.1)
    (λ g l. read_left c.args.objects.now c.args.command.now c.args.object c.args.taken old new g.0 g.1 c.in-Read.keys
    (read_asks c.args.command.now.what c.args.object c.in-Read._object c.in-Read.keys c.requires.kind c.in-Read.is)
    (sym c.refusing_home.ensures ∙ c.in-None.is) (l c.args.taken)) c.read.ensures.ok

pub returns-in_ok-answer-in-Commit-clause-ok : goal.returns-in_ok-answer-in-Commit-clause-ok
returns-in_ok-answer-in-Commit-clause-ok c =
    commit_left c.args.objects.now c.args.command.now c.args.object c.args.taken (world_of c.args.world.now)
    (world_of c.commit.new.world) c.in_ok-answer-in-Commit.answer c.in-Commit.pairs
    (commit_asks c.args.command.now.what c.args.object c.in-Commit._object c.in-Commit.pairs c.requires.kind
    c.in-Commit.is)
    (sym c.refusing_home.ensures ∙ c.in-None.is) c.in_ok-answer-in-Commit.ensures.ok
