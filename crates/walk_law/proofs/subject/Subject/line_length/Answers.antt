use Rattle.std.proofs.Common.{◌∙◌, ap, take}
use Rattle.log_node.specs.Vectors.{at}
use Rattle.column_track.specs.declared.marks.Mark.{Mark}
use Rattle.walk_law.specs.Walking.{journal_walked}
use Rattle.walk_law.proofs.ReadingLemmas.{line_held}
use Rattle.walk_law.proofs.subject.Subject.line_length.Goals as goal

pub returns : goal.returns
returns c =
    c.of_region.ensures
    ∙ (ap (λ (m : Mark). at m.held c.args.region) c.mark.ensures
    ∙ line_held c.args.region c.requires.column.2.0 (take c.args.events (journal_walked c.args.self.now c.args.region c.args.colour)))
