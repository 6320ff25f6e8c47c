use Rattle.std.proofs.Common.{◌∙◌, ◌++◌, ◌∷◌, [], List, ap, append-nil, append_assoc, map, sym}
use Rattle.log_node.specs.declared.node.Node.{Node}
use Rattle.lawful_run.specs.Callers.{commands_of}
use Rattle.object_law.specs.declared.drafts.Draft.{Draft}
use Rattle.object_law.specs.Drafts.{filled}
use Rattle.walk_law.specs.Finds.{finds_at}
use Rattle.object_law.proofs.GoingLemmas.{none_left}
use Rattle.object_law.proofs.node_told.client_nodes.Goals as goal

pub loop-draft-init : goal.loop-draft-init
loop-draft-init c =
    let fill = filled (commands_of c.args.subject.now.script c.args.client) (finds_at c.args.finds.now c.args.client) in
    ap (λ (l : List Node). l ++ map fill c.into_iter-draft-iterator.result.rest.items) c.new-nodes.ensures

pub loop-draft-preserved : goal.loop-draft-preserved
loop-draft-preserved c =
    let fill = filled (commands_of c.args.subject.now.script c.args.client) (finds_at c.args.finds.now c.args.client) in
    let left = map fill c.next.new.self.rest.items in
    ap (λ (l : List Node). l ++ left) c.in_ok-push.ensures.ok
    ∙ (append_assoc c.loop-draft.nodes (c.in_ok-filled.field-0 ∷ []) left
    ∙ (ap (λ (n : Node). c.loop-draft.nodes ++ n ∷ left) c.in_ok-filled.ensures
    ∙ (ap (λ (l : List Draft). c.loop-draft.nodes ++ map fill l) (sym c.in-Some.ensures.steps.0) ∙ c.loop-draft.invariant)))

pub returns : goal.returns
returns c =
    let fill = filled (commands_of c.args.subject.now.script c.args.client) (finds_at c.args.finds.now c.args.client) in
    let none = none_left c.loop-draft.draft-iterator.rest.items (sym c.loop-draft.draft-iterator.rest.ok.0 ∙ c.in-None.ensures.steps.0) in
    sym (append-nil c.loop-draft.nodes)
    ∙ (ap (λ (l : List Draft). c.loop-draft.nodes ++ map fill l) (sym none)
    ∙ (c.loop-draft.invariant
    ∙ (ap (map fill) (c.into_iter-draft-iterator.ensures.into_iter_gives.0 ∙ c.into_vec-draft-items.ensures)
    ∙ c.in_ok-client_drafts.ensures (finds_at c.args.finds.now) c.requires.keys)))
