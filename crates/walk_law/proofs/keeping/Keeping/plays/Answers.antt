use Rattle.std.proofs.Common.{sym, subst, rules}
use Rattle.log_node.specs.declared.ids.Counts.{Counts}
use Rattle.log_node.specs.Vectors.{IsWithin}
use Rattle.walk_law.proofs.PlayOrders.{least_short}
use Rattle.walk_law.proofs.PlayedShown.{played_told}
use Rattle.walk_law.proofs.keeping.Keeping.plays.Goals as goal

pub plays_keys-requires : goal.plays_keys-requires
plays_keys-requires c =
    subst (λ (v : Counts). IsWithin v c.args.sync.counts) (sym c.least-from.ensures) (least_short c.start.result c.args.sync.counts)

pub returns : goal.returns
returns c = λ told kept low is synced.
    played_told c.args.subject.now c.agrees.ensures.may.0 c.agrees.ensures.may.1 told c.args.client kept c.args.self.now is
    c.args.sync c.play_order_is_unique.ensures c.play_order_is_lawful.ensures synced c.own-own.result c.own-own.ensures.own
    c.own-own.ensures.within low (search rules) c.start.result c.start.ensures c.least-from.result c.least-from.ensures
    c.args.nodes.now c.plays_keys.result c.plays_keys.ensures
