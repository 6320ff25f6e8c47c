use Rattle.std.proofs.Common.{◌≡◌, ◌∙◌, arith, length, rules, subst, sym, vec_len, List}
use Rattle.log_node.specs.declared.ids.Key.{Key}
use Rattle.playback.specs.Merging.{AreRising}
use Rattle.object_law.specs.ToldNodes.{HasPlace}
use Rattle.object_law.proofs.RulingLemmas.{keys_rising, ruling_behind, ruling_none, ruling_up, ruling_within}
use Rattle.object_law.proofs.tx_told.TxRuling.verdict.Goals as goal

pub place_of-requires : goal.place_of-requires
place_of-requires c =
    subst AreRising (sym c.keys.ensures)
    (keys_rising c.region_order_is_lawful.ensures c.args.subject.now c.agrees.ensures.may.0 c.agrees.ensures.may.1
    c.args.self.now.order c.requires.order)

pub index-requires : goal.index-requires
index-requires c =
    let many : vec_len c.args.self.now.told ≡ length c.args.self.now.told.items = search rules in
    let lt = ruling_within c.region_order_is_lawful.ensures c.args.subject.now c.agrees.ensures.may.0 c.agrees.ensures.may.1
    c.args.nodes.now c.args.self.now c.requires c.args.own c.in-Some.place
    (subst (HasPlace c.args.self.now.order.keys.items c.args.own) c.in-Some.is
    (subst (λ (l : List Key). HasPlace l c.args.own c.place_of.result) c.keys.ensures c.place_of.ensures)) in
    omega (arith, many, lt)

pub returns-then-place-count : goal.returns-then-place-count
returns-then-place-count c =
    c.as_ref.ensures.value
    ∙ (c.index.ensures
    ∙ ruling_up c.region_order_is_lawful.ensures c.args.subject.now c.agrees.ensures.may.0 c.agrees.ensures.may.1
    c.args.nodes.now c.args.self.now c.requires c.args.own c.args.stamp c.count-count.result c.count-count.ensures.stamped
    c.in-Some.place
    (subst (HasPlace c.args.self.now.order.keys.items c.args.own) c.in-Some.is
    (subst (λ (l : List Key). HasPlace l c.args.own c.place_of.result) c.keys.ensures c.place_of.ensures)) c.if-place-count.true _)

pub returns-else-place-count : goal.returns-else-place-count
returns-else-place-count c =
    ruling_behind c.region_order_is_lawful.ensures c.args.subject.now c.agrees.ensures.may.0 c.agrees.ensures.may.1
    c.args.nodes.now c.args.self.now c.requires c.args.own c.args.stamp c.count-count.result c.count-count.ensures.stamped
    c.in-Some.place
    (subst (HasPlace c.args.self.now.order.keys.items c.args.own) c.in-Some.is
    (subst (λ (l : List Key). HasPlace l c.args.own c.place_of.result) c.keys.ensures c.place_of.ensures)) c.if-place-count.false

pub returns-in-None : goal.returns-in-None
returns-in-None c =
    ruling_none c.region_order_is_lawful.ensures c.args.subject.now c.agrees.ensures.may.0 c.agrees.ensures.may.1
    c.args.nodes.now c.args.self.now c.requires c.args.own c.args.stamp c.count-count.result c.count-count.ensures.stamped
    (subst (HasPlace c.args.self.now.order.keys.items c.args.own) c.in-None.is
    (subst (λ (l : List Key). HasPlace l c.args.own c.place_of.result) c.keys.ensures c.place_of.ensures))
