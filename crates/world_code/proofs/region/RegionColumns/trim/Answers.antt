use Rattle.column.specs.Columns.{ColumnState, after_trim}
use Rattle.world_code.proofs.RaiseSteps.{put_there}
use Rattle.world_code.proofs.region.RegionColumns.trim.Goals as goal

pub returns-clause-ok : goal.returns-clause-ok
returns-clause-ok c =
    put_there (λ (q : ColumnState). after_trim q c.args.by c.args.counts) c.args.colour _ c.self.view_is c.requires
    c.index_mut.ensures.value c.in_ok-at.ensures.column
