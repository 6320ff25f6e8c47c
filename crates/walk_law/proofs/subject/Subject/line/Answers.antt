use Rattle.std.proofs.Common.{subst, sym}
use Rattle.walk_law.specs.Behind.{StampsRise}
use Rattle.walk_law.proofs.PlayedLemmas.{line_stamps}
use Rattle.walk_law.proofs.subject.Subject.line.Goals as goal

pub returns-clause-rises : goal.returns-clause-rises
returns-clause-rises c = subst StampsRise (sym c.line.ensures) (line_stamps c.track-track.result.now.region
    c.track-track.result.now.regions c.track-track.result.now.journal c.agrees.ensures)
