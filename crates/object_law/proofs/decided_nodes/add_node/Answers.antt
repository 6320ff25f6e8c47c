use Rattle.std.proofs.Common.{◌≡◌, ◌∙◌, ap, append-nil, sym, ℕ, [], ◌∷◌, ◌++◌, Option}
use Rattle.log_node.specs.declared.node.Node.{Node}
use Rattle.log_node.proofs.CallerLemmas.{same_some}
use Rattle.script_text.specs.declared.script.Command.{Command}
use Rattle.lawful_run.specs.Callers.{commands_of}
use Rattle.walk_law.specs.Finds.{finds_at}
use Rattle.object_law.specs.Decided.{decider, drafted}
use Rattle.object_law.specs.Drafts.{filled}
use Rattle.object_law.specs.declared.decided_nodes.DecidedNode.{DecidedNode}
use Rattle.object_law.specs.declared.drafts.Draft.{Draft}
use Rattle.object_law.proofs.decided_nodes.add_node.Goals as goal

pub returns-in_ok-push-in-Some : goal.returns-in_ok-push-in-Some
returns-in_ok-push-in-Some c = λ command asks.
    let commands = commands_of c.args.subject.now.script c.args.client in
    let found = finds_at c.args.finds.now c.args.client in
    let same : c.command.result.now ≡ command = same_some (sym c.command.ensures ∙ asks) in
    c.in_ok-push-in-Some.ensures.ok
    ∙ (ap (λ (n : Node). let x : DecidedNode = record { node = n; place = c.decider-place.result } in c.args.nodes.now ++ x ∷ [])
    c.in_ok-node-in-Some.ensures
    ∙ (ap (λ (p : Option ℕ). let x : DecidedNode = record { node = filled commands found c.in-Some.draft; place = p } in c.args.nodes.now ++ x ∷ [])
    (c.decider-place.ensures ∙ ap (λ (m : Command). decider m.what c.args.place) same)
    ∙ ap (λ (o : Option Draft). c.args.nodes.now ++ drafted commands found command.what c.args.place o) (sym c.in-Some.is)))

pub returns-in-None : goal.returns-in-None
returns-in-None c = λ command asks.
    let commands = commands_of c.args.subject.now.script c.args.client in
    let found = finds_at c.args.finds.now c.args.client in
    sym (append-nil c.args.nodes.now)
    ∙ ap (λ (o : Option Draft). c.args.nodes.now ++ drafted commands found command.what c.args.place o) (sym c.in-None.is)
