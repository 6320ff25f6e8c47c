use Rattle.std.proofs.Common.{refl, ap, drop, slice_get, slice_index_or, slice_set, sym, ◌∙◌, arith, take}
use Rattle.std.proofs.lemmas.Option.{slice_get-get_or}
use Rattle.chain_store.specs.Joined.{ended_past}
use Rattle.chain_store.proofs.RingsChecked.{all_along, all_more, alike_put, below_joined, get_back, parts_kept, some_left}
use Rattle.chain_store.proofs.ring_check.check_rings.Goals as goal

pub check_below-requires-clause-joined : goal.check_below-requires-clause-joined
check_below-requires-clause-joined c =
    let i = c.loop-own.invariant in
    let xs = c.loop-own.closed.items in
    let high = c.split_at_mut-low.result.1.now in
    let is_high = c.split_at_mut-low.ensures.back ∙ ap (drop c.loop-own.own) c.deref_mut.ensures.value in
    let some = some_left c.args.regions c.args.colours c.args.closed.now.items c.requires.joined xs high c.loop-own.own
    i.same c.loop-own-test.true is_high in
    let z = slice_index_or high 0 c.index-high-0.result in
    below_joined c.args.regions c.args.colours c.args.closed.now.items c.requires.joined xs i.same
    c.split_at_mut-low.result.0.now c.loop-own.own
    (c.split_at_mut-low.ensures.front ∙ ap (take c.loop-own.own) c.deref_mut.ensures.value) z
    (sym (get_back c.loop-own.own xs) ∙ ap (λ l. slice_get l 0) (sym is_high)
    ∙ slice_get-get_or high 0 c.index-high-0.result some)

pub loop-own-preserved : goal.loop-own-preserved
loop-own-preserved c =
    let i = c.loop-own.invariant in
    let xs = c.loop-own.closed.items in
    let own = c.loop-own.own in
    let low = c.split_at_mut-low.result.0.now in
    let high = c.split_at_mut-low.result.1.now in
    let is_low = c.split_at_mut-low.ensures.front ∙ ap (take own) c.deref_mut.ensures.value in
    let is_high = c.split_at_mut-low.ensures.back ∙ ap (drop own) c.deref_mut.ensures.value in
    let some = some_left c.args.regions c.args.colours c.args.closed.now.items c.requires.joined xs high own i.same
    c.loop-own-test.true is_high in
    let z = slice_index_or high 0 c.index-high-0.result in
    let zat = slice_get-get_or high 0 c.index-high-0.result some in
    let e = c.check_below.ensures in
    record {
      same = parts_kept ended_past xs low high c.check_below.new.low (slice_set high 0 c.check_below.new.last) own
          c.loop-own.closed.len is_low is_high c.loop-own.closed.ok.0 e.low
          (alike_put ended_past high high 0 c.check_below.new.last z refl zat e.last) ∙ i.same;
      along = all_more c.args.regions c.args.colours c.args.closed.now.items c.requires.joined xs i.same low own is_low z
          (sym (get_back own xs) ∙ ap (λ l. slice_get l 0) (sym is_high) ∙ zat) i.along e.along;
    }

pub returns-clause-checked : goal.returns-clause-checked
returns-clause-checked c =
    let i = c.loop-own.invariant in
    let end = c.loop-own-test.false in
    all_along c.args.regions c.args.colours c.args.closed.now.items c.requires.joined
    (λ a b x y lt within at bt. i.along a b x y lt (omega (arith, within, end)) at bt)
