use Rattle.std.proofs.Common.{◌≡◌, ◌∙◌, ap, sym, subst, List, take}
use Rattle.log_node.specs.declared.ids.Key.{Key}
use Rattle.playback.specs.Merging.{AreRising, up_to}
use Rattle.object_law.proofs.ObjectOrders.{order_rising, order_stamped}
use Rattle.object_law.proofs.key_order.KeyOrder.count.Goals as goal

pub count_up_to-requires : goal.count_up_to-requires
count_up_to-requires c = record {
  rising = subst AreRising (sym (c.as_slice.ensures.value ∙ c.requires.keys))
      (order_rising c.region_order_is_lawful.ensures c.args.subject.now c.agrees.ensures.may.0 c.agrees.ensures.may.1
      c.args.self.now.region c.requires.region c.args.self.now.colours c.requires.colours);
}

pub returns-clause-stamped : goal.returns-clause-stamped
returns-clause-stamped c =
    let n = c.count_up_to.result in
    let stamp = c.args.stamp in
    ap (λ (keys : List Key). take n keys) c.requires.keys
    ∙ order_stamped c.region_order_is_lawful.ensures c.args.subject.now c.agrees.ensures.may.0 c.agrees.ensures.may.1
    c.args.self.now.region c.requires.region c.args.self.now.colours c.requires.colours c.region_order_is_unique.ensures
    c.read_items_last.ensures stamp n c.ranges.stamp.fits
    (subst (λ (keys : List Key). take n keys ≡ up_to stamp keys) (c.as_slice.ensures.value ∙ c.requires.keys)
    c.count_up_to.ensures.taken)
