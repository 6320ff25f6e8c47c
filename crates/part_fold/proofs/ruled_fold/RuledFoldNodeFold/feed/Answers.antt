use Rattle.std.proofs.Common.{Option, ap, subst, sym, ◌∙◌}
use Rattle.log_node.specs.declared.ids.Key.{Key}
use Rattle.log_node.proofs.CallerLemmas.{on_err}
use Rattle.object_fold.specs.declared.tx_state.TxState.{TxState}
use Rattle.object_fold.specs.States.{IsTxState}
use Rattle.object_fold.specs.Transactions.{ruling}
use Rattle.part_fold.specs.declared.decision.Decision.{Decision}
use Rattle.part_fold.specs.declared.ruled_fold.RuledFold.{RuledFold}
use Rattle.part_fold.specs.Ruled.{IsRuled, decided_then, decision_on}
use Rattle.part_fold.specs.PartStates.{decided_at}
use Rattle.part_fold.proofs.RuledLemmas.{ruled_as, ruled_more, still_ruled}
use Rattle.part_fold.proofs.ruled_fold.RuledFoldNodeFold.feed.Goals as goal

pub returns-in_err-verdict-clause-err : goal.returns-in_err-verdict-clause-err
returns-in_err-verdict-clause-err c nodes is =
    let new : RuledFold = record {
      map = c.feed.new.self;
      outcomes = c.settle.new.self.outcomes;
      latest = c.settle.new.self.latest;
    } in
    on_err c.from_residual-in_err-verdict.result (IsRuled new nodes)
    (still_ruled c.args.self.now new nodes is
    (c.in_err-verdict.ensures.err nodes (subst (λ (m : TxState). IsTxState m nodes) (sym c.settle.ensures.map) is.map))
    c.settle.ensures.outcomes)

pub returns-clause-told : goal.returns-clause-told
returns-clause-told c nodes node key text is =
    c.in_ok-verdict.ensures.verdict nodes (subst (λ (m : TxState). IsTxState m nodes) (sym c.settle.ensures.map) is.map)
    ∙ ruled_as c.args.key c.args.text.now nodes node key text

pub returns-clause-ok : goal.returns-clause-ok
returns-clause-ok c nodes node key text is =
    let before = subst (λ (m : TxState). IsTxState m nodes) (sym c.settle.ensures.map) is.map in
    ruled_more c.args.self.now _ nodes node is (c.in_ok-verdict.ensures.ok nodes node key text before)
    (λ k. ap (λ (o : Option Decision). decided_then (decided_at c.settle.new.self.outcomes k) o k) (sym c.in_ok-settle.ensures.ok)
    ∙ c.settle.ensures.outcomes k)
    (c.decision_on-self.ensures
    ∙ ap (decision_on c.args.key) (c.in_ok-verdict.ensures.verdict nodes before
    ∙ ruled_as c.args.key c.args.text.now nodes node key text)
    ∙ ap (λ (k : Key). decision_on k (ruling nodes node)) (sym key))
