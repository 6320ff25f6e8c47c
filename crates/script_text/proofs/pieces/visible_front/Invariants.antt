use Rattle.script_text.proofs.PieceLemmas.{IsVisibleFront}
use Rattle.script_text.proofs.pieces.visible_front.Given as goal

abbrev pub invariant-loop-at : goal.invariant-loop-at
invariant-loop-at l = IsVisibleFront l.bytes l.at
