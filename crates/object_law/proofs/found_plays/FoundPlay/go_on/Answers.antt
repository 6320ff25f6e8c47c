use Rattle.std.proofs.Common.{◌≡◌, ◌∙◌, ◌<◌, List, ap, arith, get_or, length, subst, sym, take}
use Rattle.std.specs.List.{All}
use Rattle.log_node.specs.declared.ids.Key.{Key}
use Rattle.object_law.specs.Found.{StandsAs, found_nodes}
use Rattle.object_law.specs.declared.key_order.KeyOrder.{KeyOrder}
use Rattle.walk_law.specs.Finds.{finds_at}
use Rattle.object_law.proofs.FoundLemmas.{found_more, stands_at}
use Rattle.object_law.proofs.found_plays.FoundPlay.go_on.Goals as goal

pub feed-requires-clause-client : goal.feed-requires-clause-client
feed-requires-clause-client c =
    let keys = c.loop-self.self.order.keys.items in
    let n = c.loop-self.self.count in
    let key = c.key_at-key.result in
    let so = StandsAs c.args.subject.now (finds_at c.args.finds.now) in
    let less = c.loop-self-test.true in
    let all = subst (λ (o : KeyOrder). All so (take c.args.count o.keys.items)) (sym c.loop-self.invariant.2) c.requires.stand in
    let within = subst (λ (o : KeyOrder). n < length o.keys.items) (sym c.loop-self.invariant.2)
    (let w = c.requires.within in omega (arith, w, less)) in
    (stands_at so keys c.args.count n key all less within
    (c.key_at-key.ensures ∙ ap (λ (ks : List Key). get_or ks n key) c.keys.ensures)).client

pub loop-self-preserved : goal.loop-self-preserved
loop-self-preserved c =
    let walked = c.args.subject.now in
    let found = finds_at c.args.finds.now in
    let keys = c.loop-self.self.order.keys.items in
    let n = c.loop-self.self.count in
    let key = c.key_at-key.result in
    let so = StandsAs walked found in
    let less = c.loop-self-test.true in
    let all = subst (λ (o : KeyOrder). All so (take c.args.count o.keys.items)) (sym c.loop-self.invariant.2) c.requires.stand in
    let within = subst (λ (o : KeyOrder). n < length o.keys.items) (sym c.loop-self.invariant.2)
    (let w = c.requires.within in omega (arith, w, less)) in
    let is : key ≡ get_or keys n key = c.key_at-key.ensures ∙ ap (λ (ks : List Key). get_or ks n key) c.keys.ensures in
    let play = c.loop-self.invariant.0 in (
      record {
        order = play.order;
        count = omega (arith, within);
        state = found_more walked found keys n key within is (stands_at so keys c.args.count n key all less within is) c.feed.new.state
            (c.in_ok-feed.ensures (found_nodes walked (take n keys)) play.state);
      },
      omega (arith, less),
      c.loop-self.invariant.2,
    )
