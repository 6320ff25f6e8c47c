use Rattle.std.proofs.Common.{◌∙◌, sym, None, Some}
use Rattle.lawful_run.specs.Callers.{commands_of}
use Rattle.object_law.specs.Drafts.{filled}
use Rattle.object_law.specs.Found.{node_finding}
use Rattle.walk_law.specs.Finds.{finds_at}
use Rattle.object_law.proofs.FoundLemmas.{fed, fed_none, filled_plain, filled_used, node_filled}
use Rattle.object_law.proofs.found_plays.feed.Goals as goal

pub returns-in_default : goal.returns-in_default
returns-in_default c = λ nodes holds.
    let walked = c.args.subject.now in
    let found = finds_at c.args.finds.now in
    fed_none c.args.state.now nodes c.args.key (node_finding walked found c.args.key.id)
    (node_filled walked c.args.drafts.now c.requires.drafts found c.requires.keys c.args.key.id None (sym c.in_default.ensures)) holds

pub returns-in_ok-_verdict-in-Some-used : goal.returns-in_ok-_verdict-in-Some-used
returns-in_ok-_verdict-in-Some-used c = λ nodes holds.
    let walked = c.args.subject.now in
    let found = finds_at c.args.finds.now in
    let id = c.args.key.id in
    let draft = c.in-Some.draft.now in
    let commands = commands_of walked.script id.client in
    fed c.feed.new.self nodes c.args.key c.in_ok-text-in-Some-used.text (node_finding walked found id) (filled commands (found id.client) draft)
    (node_filled walked c.args.drafts.now c.requires.drafts found c.requires.keys id (Some draft) (sym c.in-Some.ensures))
    (filled_used commands (found id.client) draft c.in-Some-used.used c.in-Some-used.is ∙ sym c.in_ok-text-in-Some-used.ensures)
    (λ n k t. c.in_ok-_verdict-in-Some-used.ensures.ok nodes n k t holds)

pub returns-in_ok-_verdict-in-None : goal.returns-in_ok-_verdict-in-None
returns-in_ok-_verdict-in-None c = λ nodes holds.
    let walked = c.args.subject.now in
    let found = finds_at c.args.finds.now in
    let id = c.args.key.id in
    let draft = c.in-Some.draft.now in
    let commands = commands_of walked.script id.client in
    fed c.feed-in-None.new.self nodes c.args.key draft.node.text (node_finding walked found id) (filled commands (found id.client) draft)
    (node_filled walked c.args.drafts.now c.requires.drafts found c.requires.keys id (Some draft) (sym c.in-Some.ensures))
    (filled_plain commands (found id.client) draft c.in-None.is)
    (λ n k t. c.in_ok-_verdict-in-None.ensures.ok nodes n k t holds)
