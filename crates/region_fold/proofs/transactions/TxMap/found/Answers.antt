use Rattle.std.proofs.Common.{refl, subst, sym}
use Rattle.object_fold.specs.declared.tx_state.TxState.{TxState}
use Rattle.object_fold.specs.States.{IsTxState}
use Rattle.region_fold.proofs.transactions.TxMap.found.Goals as goal

pub returns : goal.returns
returns c = record {
  found = (
    refl,
    λ nodes has.
        let is = subst (λ (state : TxState). IsTxState state nodes) (sym c.state-writes.ensures) has in
        (c.in_ok-values.ensures nodes is, c.in_ok-versions.ensures nodes is),
  );
}
