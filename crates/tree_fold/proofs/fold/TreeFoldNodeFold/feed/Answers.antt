use Rattle.tree_fold.proofs.FoldLemmas.{tells_change}
use Rattle.tree_fold.proofs.fold.TreeFoldNodeFold.feed.Goals as goal

pub returns-clause-told : goal.returns-clause-told
returns-clause-told c nodes node key text is =
    tells_change nodes node c.args.key c.args.text.now c.feed.result key text (c.feed.ensures.told nodes is)

pub returns-clause-ok : goal.returns-clause-ok
returns-clause-ok c nodes node key text is = c.feed.ensures.ok nodes node text is
