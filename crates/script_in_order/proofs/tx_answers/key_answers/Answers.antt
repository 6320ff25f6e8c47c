use Rattle.std.proofs.Common.{◌∙◌, ap}
use Rattle.std.proofs.lemmas.List.{take_all}
use Rattle.object_fold.specs.Transactions.{value_of, writes_after}
use Rattle.script_meaning.specs.Gets.{key_answers}
use Rattle.script_in_order.proofs.GetSteps.{answers_more}
use Rattle.script_in_order.proofs.tx_answers.key_answers.Goals as goal

pub loop-key-preserved : goal.loop-key-preserved
loop-key-preserved c = λ nodes is.
    c.in_ok-push.ensures.ok ∙ answers_more (value_of (writes_after nodes)) c.args.keys.now c.loop-key.key-index
    c.key-item.result c.in_ok-key.key c.in_ok-value.value c.loop-key.answers c.loop-key-test.true c.key-item.is
    (c.in_ok-key.ensures ∙ c.as_bytes-in-loop-key.ensures)
    (c.in_ok-value.ensures nodes is ∙ ap (value_of (writes_after nodes)) c.as_bytes.ensures)
    (c.loop-key.invariant nodes is)

pub returns : goal.returns
returns c = λ nodes is.
    c.loop-key.invariant nodes is
    ∙ ap (key_answers (value_of (writes_after nodes)))
    (take_all c.loop-key.key-index c.args.keys.now c.loop-key-test.false)
