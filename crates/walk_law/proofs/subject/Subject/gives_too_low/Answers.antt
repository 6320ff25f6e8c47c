use Rattle.std.proofs.Common.{◌∙◌, ap, refl}
use Rattle.std.specs.Prelude.{nat_lt}
use Rattle.log_node.specs.Vectors.{at}
use Rattle.column_track.specs.declared.marks.Mark.{Mark}
use Rattle.lawful_run.specs.Callers.{caller_of}
use Rattle.run_rules.specs.Telling.{log_of}
use Rattle.walk_law.proofs.MovingLemmas.{too_low_told}
use Rattle.walk_law.proofs.subject.Subject.gives_too_low.Goals as goal

pub returns-in-Some : goal.returns-in-Some
returns-in-Some c = λ told.
    let given = c.in-Some.ensures told in
    too_low_told (log_of c.args.self.now.report told) (caller_of c.args.self.now.script c.args.client) c.args.region c.args.colour
    c.args.seen c.args.until c.args.place c.in-Some.from c.of_region.result given.0 given.1
    (c.of_region.ensures ∙ ap (λ (m : Mark). at m.base c.args.region) c.mark.ensures) (nat_lt c.in-Some.from c.of_region.result) refl

pub returns-in-None : goal.returns-in-None
returns-in-None c = λ told x. c.in-None.ensures told x.0 x.1 x.2
