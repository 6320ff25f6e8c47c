use Rattle.std.proofs.Common.{◌∙◌, cond, ap, List, ℕ, Some}
use Rattle.log_node.specs.declared.node.Node.{Node}
use Rattle.log_node.specs.Order.{same_id}
use Rattle.log_node.specs.Seen.{PlacedNode}
use Rattle.walk_law.specs.ShownTexts.{text_in}
use Rattle.walk_law.proofs.ShownTextLemmas.{one_text}
use Rattle.walk_law.proofs.shown_texts.TextTable.put.Goals as goal

pub returns : goal.returns
returns c = λ id.
    let old = text_in c.args.self.now id in
    let text = c.as_bytes.result.now in
    one_text c.args.self.now (record { by_id = c.insert.new.self }) c.item.inside.head.key.id c.as_bytes.result
    c.in_ok-insert.ensures.updates.0 id
    ∙ (ap (λ (item : PlacedNode). cond (same_id id item.head.key.id) (Some text) old) c.item.view_is
    ∙ ap (λ (t : List ℕ). cond (same_id id c.args.item.now.head.key.id) (Some t) old)
    (c.as_bytes.ensures ∙ ap (λ (n : Node). n.text) c.node.ensures))
