use Rattle.tests_log.proofs.Knowing.{append_later}
use Rattle.tests_log.proofs.tests.regions.propose.Goals as goal

pub returns-clause-hold : goal.returns-clause-hold
returns-clause-hold g c =
    let e = c.propose-at.ensures in (
      e.hold,
      append_later c.args.region.now c.args.hold.now c.propose-at.new.hold c.args.begun.now e.same.0 e.others.number
          c.requires.hold.1,
    )
