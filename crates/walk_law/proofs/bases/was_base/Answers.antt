use Rattle.std.proofs.Common.{◌≡◌, subst, ap}
use Rattle.log_node.specs.declared.ids.Counts.{Counts}
use Rattle.column_track.specs.Tracks.{Tells}
use Rattle.column_track.specs.declared.marks.Mark.{Mark}
use Rattle.walk_law.proofs.BaseLemmas.{base_told}
use Rattle.walk_law.proofs.bases.was_base.Goals as goal

pub returns : goal.returns
returns c =
    base_told c.cuts_grow.ensures c.args.track.now c.agrees.ensures c.args.from c.args.to c.args.base c.first_base-events.result
    c.first_base-events.ensures c.same_vector.result
    (subst (λ (v : Counts). Tells c.same_vector.result (v ≡ c.args.base)) (ap (λ (m : Mark). m.base) c.mark.ensures)
    c.same_vector.ensures)
