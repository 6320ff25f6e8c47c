use Rattle.std.proofs.Common.{◌∙◌, ap, sym, subst, ◌+◌, length, refl}
use Rattle.std.proofs.lemmas.Option.{slice_get_read}
use Rattle.log_node.specs.Order.{same_key}
use Rattle.log_node.specs.Seen.{PlacedNode}
use Rattle.log_node.specs.declared.ids.Counts.{Counts}
use Rattle.log_node.proofs.CallerLemmas.{same_key-is}
use Rattle.log_node.specs.Vectors.{all_regions}
use Rattle.walk_law.specs.Playing.{lines_of}
use Rattle.walk_law.proofs.PlayOrders.{PlaysOn, next_low, next_short, plays_first, plays_next, plays_none, plays_told, plays_unlike}
use Rattle.walk_law.proofs.subject.Subject.plays_keys.Goals as goal

pub loop-item-init : goal.loop-item-init
loop-item-init c =
    plays_first (lines_of c.args.self.now c.args.colour) c.args.from c.args.to c.args.nodes.now c.requires

pub returns-in_default : goal.returns-in_default
returns-in_default c =
    plays_none (lines_of c.args.self.now c.args.colour) c.args.from c.args.to c.args.nodes.now c.loop-item.played
    c.loop-item.item-index c.loop-item.invariant c.in_default.ensures c.item-item.result
    (slice_get_read c.args.nodes.now (length c.args.nodes.now) c.loop-item.item-index c.item-item.result refl c.loop-item-test.true c.item-item.is)

pub returns-then-not-is_same : goal.returns-then-not-is_same
returns-then-not-is_same c =
    plays_unlike (lines_of c.args.self.now c.args.colour) c.args.from c.args.to c.args.nodes.now c.loop-item.played
    c.loop-item.item-index c.loop-item.invariant c.in-Some.next.region
    (next_low (lines_of c.args.self.now c.args.colour) c.loop-item.played c.args.to c.in-Some.next.region c.in-Some.ensures.0)
    c.in-Some.ensures.0 c.item-item.result
    (slice_get_read c.args.nodes.now (length c.args.nodes.now) c.loop-item.item-index c.item-item.result refl c.loop-item-test.true c.item-item.is)
    c.in-Some.next.head
    c.in-Some.ensures.1 (sym (c.is_same.ensures
    ∙ ap (λ (p : PlacedNode). same_key c.in-Some.next.head.key p.head.key) c.item.view_is) ∙ c.if-not-is_same.true)

pub one_more-played-requires-clause-region : goal.one_more-played-requires-clause-region
one_more-played-requires-clause-region c =
    next_low (lines_of c.args.self.now c.args.colour) c.loop-item.played c.args.to c.in-Some.next.region c.in-Some.ensures.0

pub one_more-played-requires-clause-room : goal.one_more-played-requires-clause-room
one_more-played-requires-clause-room c =
    next_short (lines_of c.args.self.now c.args.colour) c.loop-item.played c.args.to all_regions c.in-Some.next.region
    c.in-Some.ensures.0

pub loop-item-preserved : goal.loop-item-preserved
loop-item-preserved c =
    subst (λ (v : Counts). PlaysOn (lines_of c.args.self.now c.args.colour) c.args.from c.args.to c.args.nodes.now v
    (c.loop-item.item-index + 1)) (sym c.one_more-played.ensures)
    (plays_next (lines_of c.args.self.now c.args.colour) c.args.from c.args.to c.args.nodes.now c.loop-item.played
    c.loop-item.item-index c.loop-item.invariant c.in-Some.next.region
    (next_low (lines_of c.args.self.now c.args.colour) c.loop-item.played c.args.to c.in-Some.next.region c.in-Some.ensures.0)
    c.in-Some.ensures.0 c.item-item.result
    (slice_get_read c.args.nodes.now (length c.args.nodes.now) c.loop-item.item-index c.item-item.result refl c.loop-item-test.true c.item-item.is)
    c.in-Some.next.head
    c.in-Some.ensures.1 (same_key-is c.in-Some.next.head.key c.item-item.result.head.key (sym (c.is_same.ensures
    ∙ ap (λ (p : PlacedNode). same_key c.in-Some.next.head.key p.head.key) c.item.view_is) ∙ c.if-not-is_same.false)))

pub returns : goal.returns
returns c =
    plays_told (lines_of c.args.self.now c.args.colour) c.args.from c.args.to c.args.nodes.now c.loop-item.played
    c.loop-item.item-index c.loop-item.invariant c.loop-item-test.false c.next-2.result c.next-2.ensures c.is_none.result
    c.is_none.ensures
