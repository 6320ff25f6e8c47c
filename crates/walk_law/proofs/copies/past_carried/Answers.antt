use Rattle.std.proofs.Common.{ℕ, ◌∙◌, subst, List}
use Rattle.log_node.specs.declared.node.Head.{Head}
use Rattle.walk_law.specs.Proposals.{PassesHeads, line_heads}
use Rattle.walk_law.proofs.CopiesLemmas.{carried_here}
use Rattle.walk_law.proofs.copies.past_carried.Goals as goal

pub returns-else-region-origin : goal.returns-else-region-origin
returns-else-region-origin c =
    subst (λ (hs : List Head). PassesHeads (line_heads c.args.origin c.args.journal.now) c.args.from hs c.past_heads.result)
    (c.as_slice.ensures
    ∙ carried_here c.args.origin c.in-Carry.region c.in-Carry.start c.in-Carry.heads c.args.event.now c.in-Carry.is c.if-region-origin.false)
    (subst (λ (r : ℕ). PassesHeads (line_heads r c.args.journal.now) c.args.from c.as_slice.result.now c.past_heads.result) c.requires.origin
    c.past_heads.ensures)
