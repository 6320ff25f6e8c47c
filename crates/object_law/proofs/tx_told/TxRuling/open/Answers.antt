use Rattle.std.proofs.Common.{◌∙◌, ap, subst, sym}
use Rattle.object_fold.specs.Transactions.{ruling}
use Rattle.playback.specs.Merging.{AreRising}
use Rattle.object_law.specs.ToldNodes.{told_each}
use Rattle.object_law.proofs.RulingLemmas.{keys_rising}
use Rattle.object_law.proofs.tx_told.TxRuling.open.Goals as goal

pub tell_each-requires : goal.tell_each-requires
tell_each-requires c =
    subst AreRising (sym c.keys.ensures)
    (keys_rising c.region_order_is_lawful.ensures c.args.subject.now c.agrees.ensures.may.0 c.agrees.ensures.may.1
    c.args.order c.requires)

pub returns-clause-holds : goal.returns-clause-holds
returns-clause-holds c = record {
  order = c.requires;
  told = c.in_ok-told.ensures ∙ ap (told_each ruling c.args.nodes.now) c.keys.ensures;
}
