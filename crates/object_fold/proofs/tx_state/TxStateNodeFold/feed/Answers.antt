use Rattle.std.proofs.Common.{◌≡◌, ℕ, List, Option, ap, sym, ◌∙◌}
use Rattle.std.proofs.lemmas.Result.{IfOk-weaker}
use Rattle.log_node.specs.declared.ids.Key.{Key}
use Rattle.object_form.specs.Readings.{form_of}
use Rattle.object_fold.specs.declared.verdict.Verdict.{Verdict}
use Rattle.object_fold.specs.Transactions.{writes_after, form_verdict, ruling}
use Rattle.object_fold.proofs.tx_state.TxStateNodeFold.feed.Goals as goal

pub returns-clause-told : goal.returns-clause-told
returns-clause-told c nodes node key text is =
    IfOk-weaker c.feed.result
    (λ (told : Option Verdict). told ≡ form_verdict c.args.key (writes_after nodes) (form_of c.args.text.now))
    (λ (told : Option Verdict). told ≡ ruling nodes node)
    (λ told e. e
    ∙ (ap (λ (k : Key). form_verdict k (writes_after nodes) (form_of c.args.text.now)) (sym key)
    ∙ ap (λ (t : List ℕ). form_verdict node.key (writes_after nodes) (form_of t)) (sym text)))
    (c.feed.ensures.verdict nodes is)
