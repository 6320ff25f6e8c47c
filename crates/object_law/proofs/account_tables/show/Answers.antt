use Rattle.std.proofs.Common.{◌≡◌, ◌∙◌, ◌++◌, ◌∷◌, [], List, ap, append-nil, append_assoc, map, sym}
use Rattle.log_node.specs.declared.node.Node.{Node}
use Rattle.report_text.specs.declared.report.Report.{Report}
use Rattle.run_rules.specs.Computing.{any_decisions, finds_of}
use Rattle.run_rules.specs.Nodes.{nodes_with}
use Rattle.object_law.specs.AccountTables.{as_shown}
use Rattle.object_law.specs.NodeTables.{nodes_at}
use Rattle.object_law.proofs.AccountLemmas.{lists_none, lists_shown}
use Rattle.object_law.proofs.GoingLemmas.{none_left}
use Rattle.object_law.proofs.account_tables.show.Goals as goal

pub loop-list-init : goal.loop-list-init
loop-list-init c =
    ap (λ (l : List (List Node)). l ++ map (as_shown c.args.texts.now) c.into_iter-list-iterator.result.rest.items)
    (lists_none _ c.in_ok-table.ensures.many)

pub loop-list-preserved : goal.loop-list-preserved
loop-list-preserved c =
    let shown = as_shown c.args.texts.now in
    let left = map shown c.next.new.self.rest.items in
    ap (λ (l : List (List Node)). l ++ left) c.in_ok-add_client.ensures
    ∙ (append_assoc c.loop-list.table (c.in_ok-list_showing.field-0 ∷ []) left
    ∙ (ap (λ (n : List Node). c.loop-list.table ++ n ∷ left) c.in_ok-list_showing.ensures
    ∙ (ap (λ (l : List (List Node)). c.loop-list.table ++ map shown l) (sym c.in-Some.ensures.steps.0)
    ∙ c.loop-list.invariant)))

pub returns : goal.returns
returns c = λ client.
    let walked = c.args.subject.now in
    let shown = as_shown c.args.texts.now in
    let found = nodes_with walked.script walked.report (finds_of walked.script walked.report) any_decisions client in
    let none = none_left c.loop-list.list-iterator.rest.items (sym c.loop-list.list-iterator.rest.ok.0 ∙ c.in-None.ensures.steps.0) in
    let all : c.loop-list.table ≡ map shown c.args.nodes =
    sym (append-nil c.loop-list.table)
    ∙ (ap (λ (l : List (List Node)). c.loop-list.table ++ map shown l) (sym none)
    ∙ (c.loop-list.invariant
    ∙ ap (map shown) (c.into_iter-list-iterator.ensures.into_iter_gives.0 ∙ c.into_lists-list-items.ensures))) in
    ap (λ (t : List (List Node)). nodes_at t client) all
    ∙ (lists_shown c.args.texts.now c.args.nodes client
    ∙ (ap shown (c.requires.nodes client)
    ∙ ap (λ (report : Report). as_shown report found) c.requires.texts))
