use Rattle.column.specs.Columns.{ColumnState, after_single, with_room}
use Rattle.world_code.proofs.RaiseSteps.{put_there, put_back, on_err}
use Rattle.world_code.proofs.region.RegionColumns.single.Goals as goal

pub returns-clause-ok : goal.returns-clause-ok
returns-clause-ok c =
    put_there (λ (q : ColumnState). after_single (with_room q) c.args.by c.args.node.value) c.args.colour _ c.self.view_is c.requires.colour
    c.index_mut.ensures.value c.in_ok-at.ensures.entry

pub returns-in_err-at-clause-err : goal.returns-in_err-at-clause-err
returns-in_err-at-clause-err c =
    on_err c.from_residual.result _ (put_back c.args.colour c.self.view_is c.index_mut.ensures.value c.in_err-at.ensures.err)
