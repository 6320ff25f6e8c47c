use Rattle.std.proofs.Common.{ap, ◌∙◌}
use Rattle.col_core.specs.History.{entries, open_count}
use Rattle.column.proofs.Opens.{count-is}
use Rattle.column.proofs.contents.Contents.open_count.Goals as goal

pub returns : goal.returns
returns c =
    c.open_count.ensures ∙ count-is c.self.inside.queue.entries
    ∙ ap open_count c.self.invariant.column_is.entries_are
    ∙ ap (λ q. open_count (entries q.journal)) c.self.view_is
