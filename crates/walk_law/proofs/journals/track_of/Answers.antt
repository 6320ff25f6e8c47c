use Rattle.walk_law.proofs.ClosingLemmas.{track_none}
use Rattle.walk_law.proofs.journals.track_of.Goals as goal

pub returns-in_default : goal.returns-in_default
returns-in_default c =
    track_none c.args.script.now c.args.column.now c.as_slice-journal.result.now c.in_ok-track.field-0 c.as_slice-journal.ensures c.in_default.is
    c.in_ok-track.ensures
