use Rattle.std.proofs.Common.{◌∙◌, ap, sym, subst}
use Rattle.log_node.specs.declared.node.At.{At}
use Rattle.script_text.specs.Fitting.{IsWithin}
use Rattle.report_text.specs.declared.report.Answer.TheVariants as answers
use Rattle.lawful_run.specs.Callers.{caller_of}
use Rattle.run_rules.specs.Told.{kept_pulled}
use Rattle.run_rules.specs.Telling.{log_of, low_told, replies_to}
use Rattle.walk_law.specs.Keepings.{IsCounted}
use Rattle.walk_law.specs.Walking.{log_walked}
use Rattle.walk_law.proofs.Lists.{told_not, told_so}
use Rattle.walk_law.proofs.PullLemmas.{shows_pulled, pull_shown}
use Rattle.walk_law.proofs.keeping.Keeping.shows_pull.Goals as goal

pub returns-then-not-is_pull : goal.returns-then-not-is_pull
returns-then-not-is_pull c = λ told kept untold within low is x.
    let caller = caller_of c.args.subject.now.script c.args.client in
    let log = log_of c.args.subject.now.report told in
    let fits = subst (IsWithin c.args.subject.now.script.shape.regions c.args.subject.now.script.shape.colours) c.in-Pull.is within in
    told_not c.is_pull.result (c.is_pull.ensures told kept fits.0 fits.1 is) c.if-not-is_pull.true
    (pull_shown log (log_walked c.args.subject.now) untold caller kept c.args.what.now c.in-Pull.region c.in-Pull.colour c.in-Pull.is c.args.nodes
    c.in-Event.place c.args.give c.in-Event.is c.args.carry low x)

pub returns : goal.returns
returns c = λ told kept untold within low is.
    let caller = caller_of c.args.subject.now.script c.args.client in
    let log = log_of c.args.subject.now.report told in
    let fits = subst (IsWithin c.args.subject.now.script.shape.regions c.args.subject.now.script.shape.colours) c.in-Pull.is within in (
      shows_pulled log (log_walked c.args.subject.now) untold caller kept c.args.what.now c.in-Pull.region c.in-Pull.colour c.in-Pull.is
          c.args.nodes c.in-Event.place c.args.give c.in-Event.is c.args.carry low
          (told_so c.is_pull.result (c.is_pull.ensures told kept fits.0 fits.1 is) c.if-not-is_pull.false),
      subst (λ (g : At). IsCounted (replies_to c.args.subject.now.report c.args.client) (kept_pulled untold caller kept c.args.what.now g c.args.carry)
          c.pulled.new.self) (sym c.in-Event.is)
          (c.in_ok-pulled.ensures.kept (replies_to c.args.subject.now.report c.args.client) kept untold c.args.nodes
          (low ∙ ap (λ (g : At). low_told (log_walked c.args.subject.now) caller kept c.args.what.now (answers.Pulled c.args.nodes g c.args.carry))
          c.in-Event.is) is),
    )
