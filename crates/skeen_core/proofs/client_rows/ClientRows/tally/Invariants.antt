use Rattle.std.specs.Prelude.{slice_get}
use Rattle.log_node.specs.Sets.{members}
use Rattle.skeen_core.specs.Boards.{mark_in}
use Rattle.skeen_core.proofs.RowMarks.{IsTallied}
use Rattle.skeen_core.proofs.client_rows.ClientRows.tally.Given as goal

abbrev pub invariant-loop-colour : goal.invariant-loop-colour
invariant-loop-colour l = record {
  tallied : IsTallied (mark_in (slice_get l.self.begun l.number)) (members l.fn.colours) l.colour-iterator l.tally;
}
