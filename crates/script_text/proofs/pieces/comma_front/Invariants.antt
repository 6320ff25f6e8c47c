use Rattle.script_text.proofs.PieceLemmas.{HasNoComma}
use Rattle.script_text.proofs.pieces.comma_front.Given as goal

abbrev pub invariant-loop-at : goal.invariant-loop-at
invariant-loop-at l = HasNoComma l.bytes l.at
