use Rattle.std.proofs.Common.{length}
use Rattle.walk_law.proofs.pieces.+are_colours.Given as goal

abbrev pub decreases-are_colours : goal.decreases-are_colours
decreases-are_colours g l = length l.pieces.now
