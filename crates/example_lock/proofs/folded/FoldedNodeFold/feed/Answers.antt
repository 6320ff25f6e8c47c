use Rattle.example_lock.proofs.folded.FoldedNodeFold.feed.Goals as goal

pub returns-clause-told : goal.returns-clause-told
returns-clause-told c nodes node key text is = c.feed.ensures.told nodes node key text is

pub returns-clause-ok : goal.returns-clause-ok
returns-clause-ok c nodes node key text is = c.feed.ensures.ok nodes node key text is
