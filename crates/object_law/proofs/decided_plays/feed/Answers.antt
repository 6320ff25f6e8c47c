use Rattle.std.proofs.Common.{◌≡◌, ◌∙◌, ap, sym, ℕ, Option, Some, None}
use Rattle.log_node.specs.declared.node.Node.{Node}
use Rattle.part_fold.specs.Decisions.{decision_text}
use Rattle.run_rules.specs.Said.{with_text}
use Rattle.object_law.specs.Decided.{node_deciding, said_by, text_decided}
use Rattle.walk_law.specs.Finds.{decision_at}
use Rattle.object_law.proofs.DecidedLemmas.{fed_none, fed_ok, node_said_by}
use Rattle.object_law.proofs.decided_plays.feed.Goals as goal

pub returns-in_default-clause-holds : goal.returns-in_default-clause-holds
returns-in_default-clause-holds c = λ before holds.
    let walked = c.args.subject.now in
    let decided = decision_at c.args.decisions.now in
    fed_none c.args.part.now before c.args.key (node_deciding walked decided c.args.key.id)
    (node_said_by walked c.args.nodes.now c.requires decided c.args.key.id None (sym c.in_default.ensures)) holds

pub returns-in_ok-text-in-Some-place-clause-holds : goal.returns-in_ok-text-in-Some-place-clause-holds
returns-in_ok-text-in-Some-place-clause-holds c = λ before holds.
    let walked = c.args.subject.now in
    let decided = decision_at c.args.decisions.now in
    let client = c.args.key.id.client in
    let it = c.in-Some.it.now in
    let its_text : decision_text (decided client c.in-Some-place.place) ≡ c.in_ok-text-in-Some-place.text =
    ap decision_text (sym c.decision-decision.ensures) ∙ sym c.in_ok-text-in-Some-place.ensures in
    fed_ok c.feed.result c.feed.new.self before c.args.key c.in_ok-text-in-Some-place.text (node_deciding walked decided c.args.key.id)
    (said_by (decided client) it)
    (node_said_by walked c.args.nodes.now c.requires decided c.args.key.id (Some it) (sym c.in-Some.ensures))
    (ap (λ (p : Option ℕ). let n : Node = with_text (text_decided (decided client) p) it.node in n.text) c.in-Some-place.is ∙ its_text)
    (λ n k t. c.feed.ensures.ok before n k t holds)

pub returns-in-None-clause-holds : goal.returns-in-None-clause-holds
returns-in-None-clause-holds c = λ before holds.
    let walked = c.args.subject.now in
    let decided = decision_at c.args.decisions.now in
    let client = c.args.key.id.client in
    let it = c.in-Some.it.now in
    fed_ok c.feed-in-None.result c.feed-in-None.new.self before c.args.key it.node.text (node_deciding walked decided c.args.key.id)
    (said_by (decided client) it)
    (node_said_by walked c.args.nodes.now c.requires decided c.args.key.id (Some it) (sym c.in-Some.ensures))
    (ap (λ (p : Option ℕ). let n : Node = with_text (text_decided (decided client) p) it.node in n.text) c.in-None.is)
    (λ n k t. c.feed-in-None.ensures.ok before n k t holds)
