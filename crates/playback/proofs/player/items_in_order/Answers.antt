use Rattle.std.proofs.Common.{List, Some, ◌∙◌, ap, subst, sym}
use Rattle.log_node.specs.declared.ids.Counts.{Counts}
use Rattle.log_node.specs.Seen.{PlacedNode}
use Rattle.log_node.specs.Vectors.{one_more}
use Rattle.playback.specs.Inside.{AreInOrder}
use Rattle.playback.proofs.Steps.{IsPlaying, none_played, one_played, all_in_order}
use Rattle.playback.proofs.player.items_in_order.Goals as goal

pub loop-region-init : goal.loop-region-init
loop-region-init c =
    subst (IsPlaying c.args.view.now c.args.from c.args.from) (sym c.in_ok-items.ensures.items)
    (none_played c.args.view.now c.args.from c.requires.from c.requires.cut)

pub loop-region-preserved : goal.loop-region-preserved
loop-region-preserved c =
    let view = c.args.view.now in
    let item = c.in_ok-share.field-0 in
    let on = one_played view c.args.from c.loop-region.played c.loop-region.items.items c.in-Some.region item
    c.loop-region.invariant c.in-Some.ensures
    (c.next_item.ensures ∙ ap Some (sym c.in_ok-share.ensures)) in
    subst (λ (v : Counts). IsPlaying view c.args.from v c.push.new.self.items) (sym c.next_counts-played.ensures)
    (subst (IsPlaying view c.args.from (one_more c.loop-region.played c.in-Some.region))
    (sym {A = List PlacedNode} c.in_ok-push.ensures.items) on)

pub returns : goal.returns
returns c =
    let view = c.args.view.now in
    subst (AreInOrder view c.args.from) (sym c.from.ensures)
    (all_in_order view c.args.from c.loop-region.played c.loop-region.items.items c.loop-region.invariant
    c.in_default.ensures)
