use Rattle.std.proofs.Common.{refl, rules}
use Rattle.report_text.specs.Replies.{reply_lines}
use Rattle.report_beside.proofs.PartLemmas.{none_yet, some_more, all_of, is_none}
use Rattle.report_beside.proofs.parts.push_replies.Goals as goal

pub loop-rest-init : goal.loop-rest-init
loop-rest-init c = none_yet reply_lines c.args.replies.now c.args.parts.now.items

pub loop-rest-preserved : goal.loop-rest-preserved
loop-rest-preserved c =
    some_more reply_lines c.args.replies.now c.loop-rest.rest.now c.split_at.result.0.now c.split_at.result.1.now c.args.parts.now.items
    c.loop-rest.parts.items c.push.new.self.items _ c.loop-rest.invariant (λ r. refl) (search rules) c.in_ok-push.ensures.items

pub returns : goal.returns
returns c = all_of reply_lines c.args.replies.now c.loop-rest.rest.now c.args.parts.now.items c.loop-rest.parts.items c.loop-rest.invariant
    (is_none c.loop-rest.rest.now c.is_empty.result c.is_empty.ensures c.loop-rest-test.false)
