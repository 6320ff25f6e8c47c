use Rattle.std.proofs.Common.{◌∙◌, ap, subst, List, take}
use Rattle.log_node.specs.declared.ids.Key.{Key}
use Rattle.playback.specs.Merging.{region_order}
use Rattle.part_fold.specs.Ruled.{IsRuled}
use Rattle.object_law.specs.KeysRead.{whole_lines}
use Rattle.object_law.specs.NodeTables.{nodes_under}
use Rattle.walk_law.specs.Walking.{log_walked}
use Rattle.object_law.proofs.ObjectOrders.{stamped_rising}
use Rattle.object_law.proofs.PartLemmas.{apart_under}
use Rattle.object_law.proofs.ruled_plays.RuledPlay.outcome.Goals as goal

pub returns-clause-told : goal.returns-clause-told
returns-clause-told c =
    let walked = c.args.subject.now in
    let may = c.agrees.ensures.may in
    let order = c.args.self.now.order in
    let lines = whole_lines (log_walked walked) order.region order.colours in
    let keys = region_order c.args.stamp lines in
    c.outcome.ensures (nodes_under c.args.nodes.now keys)
    (subst (λ (ks : List Key). IsRuled c.go_to.new.self.fold (nodes_under c.args.nodes.now ks))
    (ap (λ (ks : List Key). take c.count-place.result ks) c.keys.ensures ∙ c.count-place.ensures.stamped) c.in_ok-go_to.ensures.here)
    (apart_under c.args.nodes.now keys
    (stamped_rising c.region_order_is_lawful.ensures walked may.0 may.1 order.region c.requires.order.region order.colours
    c.requires.order.colours c.args.stamp))
