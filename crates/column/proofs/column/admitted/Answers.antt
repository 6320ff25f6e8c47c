use Rattle.col_core.proofs.CallerLemmas.{cut-is_greatest, cut_unique}
use Rattle.column.specs.Columns.{chains_of, cut_of, history_of}
use Rattle.column.proofs.column.admitted.Goals as goal

pub returns : goal.returns
returns c =
    let k = c.args.contents.now in
    cut_unique (chains_of k) c.admit.result (cut_of k) c.admit.ensures (cut-is_greatest k.region (history_of k))
