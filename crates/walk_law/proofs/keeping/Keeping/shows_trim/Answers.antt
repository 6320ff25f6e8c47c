use Rattle.std.proofs.Common.{sym, subst}
use Rattle.log_node.specs.declared.node.At.{At}
use Rattle.script_text.specs.Fitting.{IsWithin}
use Rattle.lawful_run.specs.Callers.{caller_of}
use Rattle.run_rules.specs.Told.{kept_trimmed}
use Rattle.run_rules.specs.Telling.{log_of, replies_to}
use Rattle.walk_law.specs.Keepings.{IsCounted}
use Rattle.walk_law.proofs.Lists.{told_so}
use Rattle.walk_law.proofs.keeping.Keeping.shows_trim.Goals as goal

pub returns : goal.returns
returns c = λ told kept untold within is.
    let caller = caller_of c.args.subject.now.script c.args.client in
    let log = log_of c.args.subject.now.report told in
    let replies = replies_to c.args.subject.now.report c.args.client in
    let low = subst (IsWithin c.args.subject.now.script.shape.regions c.args.subject.now.script.shape.colours) c.in-Trim.is within in (
      (
        c.in-Trim.colour,
        c.in-Trim.is,
        c.in-Event.place,
        c.in-Event.is,
        told_so c.is_trim.result (c.is_trim.ensures told kept low is) c.if-not-is_trim.false,
      ),
      subst (λ (a : At). IsCounted replies (kept_trimmed caller kept c.args.what.now a) c.trimmed.new.self) (sym c.in-Event.is)
          (c.in_ok-trimmed.ensures.kept replies caller kept (sym c.own.ensures.own) is),
    )
