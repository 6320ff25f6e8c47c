use Rattle.std.proofs.Common.{◌∙◌, ap, sym, arith}
use Rattle.object_fold.specs.Maps.{value_among}
use Rattle.object_law.proofs.AnswerLemmas.{answer_more, answer_none, answers_all, answers_at, at_place}
use Rattle.walk_law.proofs.CallerLemmas.{shard_low}
use Rattle.object_law.proofs.several_plays.are_values.Goals as goal

pub loop-at-init : goal.loop-at-init
loop-at-init c = λ nodes is. answer_none (value_among c.args.map.now.colours nodes) c.args.asked.now c.args.shown.now

pub returns-then-not-is_answer : goal.returns-then-not-is_answer
returns-then-not-is_answer c = λ nodes is are.
    let own = c.args.map.now.colours in
    let value = value_among own nodes in
    let same = c.if-asked-shown.false in
    let less = c.loop-at-test.true in
    let key = at_place c.args.asked.now c.loop-at.at c.index-asked-at.result less c.index-asked-at.is in
    let there = at_place c.args.shown.now c.loop-at.at c.index-shown-at.result (omega (arith, same, less)) c.index-shown-at.is in
    let one = answers_at value c.args.asked.now c.args.shown.now are c.loop-at.at c.index-asked-at.result c.index-shown-at.result
    key there in
    c.if-not-is_answer.ensures (
      one.0,
      one.1
          ∙ sym (c.get.ensures nodes is (shard_low own c.as_bytes.result.now c.requires) ∙ ap value c.as_bytes.ensures),
    )

pub loop-at-preserved : goal.loop-at-preserved
loop-at-preserved c = λ nodes is.
    let own = c.args.map.now.colours in
    let value = value_among own nodes in
    let same = c.if-asked-shown.false in
    let less = c.loop-at-test.true in
    let key = at_place c.args.asked.now c.loop-at.at c.index-asked-at.result less c.index-asked-at.is in
    let there = at_place c.args.shown.now c.loop-at.at c.index-shown-at.result (omega (arith, same, less)) c.index-shown-at.is in
    let one = c.if-not-is_answer.ensures in
    answer_more value c.args.asked.now c.args.shown.now c.loop-at.at c.index-asked-at.result c.index-shown-at.result
    key there (c.loop-at.invariant nodes is)
    (one.0, one.1 ∙ (c.get.ensures nodes is (shard_low own c.as_bytes.result.now c.requires) ∙ ap value c.as_bytes.ensures))

pub returns : goal.returns
returns c = λ nodes is.
    let same = c.if-asked-shown.false in
    let end = c.loop-at-test.false in
    answers_all (value_among c.args.map.now.colours nodes) c.args.asked.now c.args.shown.now c.loop-at.at (omega (arith, same))
    (omega (arith, end)) (c.loop-at.invariant nodes is)
