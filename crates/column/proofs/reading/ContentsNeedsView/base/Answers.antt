use Rattle.std.proofs.Common.{ap, ◌∙◌}
use Rattle.log_node.specs.declared.ids.Counts.{Counts}
use Rattle.log_node.specs.Vectors.{at}
use Rattle.column.specs.Columns.{base_of}
use Rattle.column.proofs.reading.ContentsNeedsView.base.Goals as goal

pub returns : goal.returns
returns c =
    c.of_region.ensures
    ∙ ap (λ (v : Counts). at v c.args.region) (c.self.invariant.numbers_are.base_is ∙ ap base_of c.self.view_is)
