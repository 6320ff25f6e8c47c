use Rattle.std.proofs.Common.{◌∙◌, ◌++◌, ◌∷◌, [], List, ap, append-nil, append_assoc, sym}
use Rattle.log_node.specs.declared.node.Node.{Node}
use Rattle.object_law.specs.AccountTables.{as_shown}
use Rattle.object_law.proofs.GoingLemmas.{none_left}
use Rattle.object_law.proofs.account_tables.list_showing.Goals as goal

pub loop-node-init : goal.loop-node-init
loop-node-init c =
    ap (λ (l : List Node). l ++ as_shown c.args.texts.now c.into_iter-node-iterator.result.rest.items) c.new-shown.ensures

pub loop-node-preserved : goal.loop-node-preserved
loop-node-preserved c =
    let left = as_shown c.args.texts.now c.next.new.self.rest.items in
    ap (λ (l : List Node). l ++ left) c.in_ok-push.ensures.ok
    ∙ (append_assoc c.loop-node.shown (c.in_ok-node_showing.field-0 ∷ []) left
    ∙ (ap (λ (n : Node). c.loop-node.shown ++ n ∷ left) c.in_ok-node_showing.ensures
    ∙ (ap (λ (l : List Node). c.loop-node.shown ++ as_shown c.args.texts.now l) (sym c.in-Some.ensures.steps.0)
    ∙ c.loop-node.invariant)))

pub returns : goal.returns
returns c =
    let none = none_left c.loop-node.node-iterator.rest.items (sym c.loop-node.node-iterator.rest.ok.0 ∙ c.in-None.ensures.steps.0) in
    sym (append-nil c.loop-node.shown)
    ∙ (ap (λ (l : List Node). c.loop-node.shown ++ as_shown c.args.texts.now l) (sym none)
    ∙ (c.loop-node.invariant
    ∙ ap (as_shown c.args.texts.now) (c.into_iter-node-iterator.ensures.into_iter_gives.0 ∙ c.into_vec-node-items.ensures)))
