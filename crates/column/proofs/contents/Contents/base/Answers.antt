use Rattle.std.proofs.Common.{ap, ◌∙◌}
use Rattle.column.specs.Columns.{base_of}
use Rattle.column.proofs.contents.Contents.base.Goals as goal

pub returns : goal.returns
returns c = c.self.invariant.numbers_are.base_is ∙ ap base_of c.self.view_is
