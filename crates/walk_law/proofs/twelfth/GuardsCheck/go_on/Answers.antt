use Rattle.run_rules.specs.Told.{kept_at}
use Rattle.walk_law.specs.Twelfth.{open_in}
use Rattle.walk_law.proofs.GuardLemmas.{guarded_told, low_named}
use Rattle.walk_law.proofs.Lists.{told_not, told_so}
use Rattle.walk_law.proofs.twelfth.GuardsCheck.go_on.Goals as goal

pub returns-then-not-stands_first : goal.returns-then-not-stands_first
returns-then-not-stands_first c = λ step seen.
    let walked = c.args.subject.now in
    let may = c.agrees.ensures.may in
    told_not c.stands_first.result
    (guarded_told walked may.0 may.1 c.args.client c.args.place c.args.keeping.now step seen c.command.result.now c.command.ensures
    c.reply.result.now c.reply.ensures (open_in walked.script.shape.colours c.args.self.now.opens.by_column.items)
    c.stands_first.result
    (c.stands_first.ensures (kept_at step) seen.kept
    (low_named walked may.0 may.1 c.args.client c.args.place c.args.keeping.now step seen c.command.result.now c.command.ensures
    c.reply.result.now c.reply.ensures))) c.if-not-stands_first.true

pub returns : goal.returns
returns c = λ step seen.
    let walked = c.args.subject.now in
    let may = c.agrees.ensures.may in (
      told_so c.stands_first.result
          (guarded_told walked may.0 may.1 c.args.client c.args.place c.args.keeping.now step seen c.command.result.now
          c.command.ensures c.reply.result.now c.reply.ensures
          (open_in walked.script.shape.colours c.args.self.now.opens.by_column.items) c.stands_first.result
          (c.stands_first.ensures (kept_at step) seen.kept
          (low_named walked may.0 may.1 c.args.client c.args.place c.args.keeping.now step seen c.command.result.now
          c.command.ensures c.reply.result.now c.reply.ensures))) c.if-not-stands_first.false,
      c.in_ok-go_on.ensures.kept step seen,
    )
