use Rattle.std.proofs.Common.{◌≡◌, ◌∙◌, ap, subst}
use Rattle.log_node.specs.declared.marks.Outcome.{Outcome}
use Rattle.log_node.specs.Outcomes.{outcome_of}
use Rattle.log_node.specs.declared.marks.ColourMark.{ColourMark}
use Rattle.std.proofs.Common.{map, List}
use Rattle.column_track.specs.Tracks.{Tells}
use Rattle.walk_law.proofs.Lists.{told_not}
use Rattle.walk_law.proofs.RowLemmas.{outcome_fits}
use Rattle.walk_law.proofs.rows.has_outcome_of.Goals as goal

pub returns : goal.returns
returns c =
    outcome_fits c.args.row.now c.same_outcome-2.result (told_not c.same_outcome.result c.same_outcome.ensures c.if-same_outcome.false)
    (subst (λ (o : Outcome). Tells c.same_outcome-2.result (o ≡ c.args.row.now.last))
    (c.outcome.ensures
    ∙ ap outcome_of
    (c.deref.ensures.value
    ∙ (c.in_ok-marks.ensures ∙ ap (λ (ms : List ColourMark). map (λ (m : ColourMark). m.mark) ms) c.as_slice.ensures)))
    c.same_outcome-2.ensures)
