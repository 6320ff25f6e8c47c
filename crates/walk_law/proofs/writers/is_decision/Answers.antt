use Rattle.std.proofs.Common.{sym, subst, Bool}
use Rattle.column_track.specs.Tracks.{Tells}
use Rattle.lawful_run.specs.Deeds.{ADecision, IsText}
use Rattle.walk_law.proofs.WriterLemmas.{decision_told}
use Rattle.walk_law.proofs.writers.is_decision.Goals as goal

pub returns : goal.returns
returns c =
    subst (λ (b : Bool). Tells b (IsText ADecision c.args.text.now)) (sym c.reads_decision.ensures) (decision_told c.args.text.now)
