use Rattle.column_track.proofs.ClosingLemmas.{lists_told}
use Rattle.column_track.proofs.closing.same_line.Goals as goal

pub returns : goal.returns
returns c = lists_told c.args.one.now c.args.other.now c.eq.result c.eq.ensures
