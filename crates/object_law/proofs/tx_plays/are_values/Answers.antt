use Rattle.std.proofs.Common.{◌∙◌, ap, sym, arith}
use Rattle.object_fold.specs.Transactions.{value_of, writes_after}
use Rattle.object_law.proofs.AnswerLemmas.{answer_more, answer_none, answers_all, answers_at, at_place}
use Rattle.object_law.proofs.tx_plays.are_values.Goals as goal

pub loop-at-init : goal.loop-at-init
loop-at-init c = λ nodes is. answer_none (value_of (writes_after nodes)) c.args.asked.now c.args.shown.now

pub returns-then-not-is_answer : goal.returns-then-not-is_answer
returns-then-not-is_answer c = λ nodes is are.
    let value = value_of (writes_after nodes) in
    let same = c.if-asked-shown.false in
    let less = c.loop-at-test.true in
    let key = at_place c.args.asked.now c.loop-at.at c.index-asked-at.result less c.index-asked-at.is in
    let there = at_place c.args.shown.now c.loop-at.at c.index-shown-at.result (omega (arith, same, less)) c.index-shown-at.is in
    let one = answers_at value c.args.asked.now c.args.shown.now are c.loop-at.at c.index-asked-at.result c.index-shown-at.result
    key there in
    c.if-not-is_answer.ensures (one.0, one.1 ∙ sym (c.value.ensures nodes is ∙ ap value c.as_bytes.ensures))

pub loop-at-preserved : goal.loop-at-preserved
loop-at-preserved c = λ nodes is.
    let value = value_of (writes_after nodes) in
    let same = c.if-asked-shown.false in
    let less = c.loop-at-test.true in
    let key = at_place c.args.asked.now c.loop-at.at c.index-asked-at.result less c.index-asked-at.is in
    let there = at_place c.args.shown.now c.loop-at.at c.index-shown-at.result (omega (arith, same, less)) c.index-shown-at.is in
    let one = c.if-not-is_answer.ensures in
    answer_more value c.args.asked.now c.args.shown.now c.loop-at.at c.index-asked-at.result c.index-shown-at.result
    key there (c.loop-at.invariant nodes is)
    (one.0, one.1 ∙ (c.value.ensures nodes is ∙ ap value c.as_bytes.ensures))

pub returns : goal.returns
returns c = λ nodes is.
    let same = c.if-asked-shown.false in
    let end = c.loop-at-test.false in
    answers_all (value_of (writes_after nodes)) c.args.asked.now c.args.shown.now c.loop-at.at (omega (arith, same))
    (omega (arith, end)) (c.loop-at.invariant nodes is)
