use Rattle.std.proofs.Common.{◌<◌, ◌++◌, get_or, slice_get, slice_set, take, drop, length, ap, sym, subst, ◌∙◌, arith}
use Rattle.chain_store.specs.Holds.{IsHold}
use Rattle.log_client.proofs.Pull.TwoHolds.{low_at, high_at, parts_left, set_apart}
use Rattle.log_client.proofs.Pull.BetweenHolds.{changes_two, between_ok, between_err}
use Rattle.log_client.proofs.pulls.pull_between.Goals as goal

pub pull-requires-clause-to_hold : goal.pull-requires-clause-to_hold
pull-requires-clause-to_hold g c =
    let xs = c.args.holds.now.items in
    let high = c.split_at_mut-low.result.1.now in
    let y = c.requires.to_hold in
    let is_high = c.split_at_mut-low.ensures.back ∙ ap (drop c.number-own.result) c.deref_mut.ensures.value in
    let there = ap (λ n. slice_get xs n) c.number-own.ensures ∙ y.1 in
    subst (IsHold c.args.to.now) (sym (high_at xs high c.number-own.result y.0 c.index-high-0.result there is_high)) y.2

pub pull-requires-else-far-own-clause-from_hold : goal.pull-requires-else-far-own-clause-from_hold
pull-requires-else-far-own-clause-from_hold g c =
    let xs = c.args.holds.now.items in
    let high = c.split_at_mut-low-else-far-own.result.1.now in
    let x = c.requires.from_hold in
    let is_high = c.split_at_mut-low-else-far-own.ensures.back
    ∙ ap (drop c.number-far.result) c.deref_mut-else-far-own.ensures.value in
    let there = ap (λ n. slice_get xs n) c.number-far.ensures ∙ x.1 in
    subst (IsHold c.args.from.now)
    (sym (high_at xs high c.number-far.result x.0 c.index-high-0-else-far-own.result there is_high)) x.2

pub pull-requires-else-far-own-clause-to_hold : goal.pull-requires-else-far-own-clause-to_hold
pull-requires-else-far-own-clause-to_hold g c =
    let xs = c.args.holds.now.items in
    let low = c.split_at_mut-low-else-far-own.result.0.now in
    let y = c.requires.to_hold in
    let is_low = c.split_at_mut-low-else-far-own.ensures.front
    ∙ ap (take c.number-far.result) c.deref_mut-else-far-own.ensures.value in
    let there = ap (λ n. slice_get xs n) c.number-own.ensures ∙ y.1 in
    let not_less = c.if-far-own.false in
    let far = c.number-far.ensures in
    let own = c.number-own.ensures in
    let ne = c.requires.apart in
    subst (IsHold c.args.to.now)
    (sym (low_at xs low c.number-own.result c.number-far.result y.0 c.index-low-own.result there
    (omega (arith, not_less, far, own, ne)) is_low)) y.2

pub returns-then-far-own-clause-ok : goal.returns-then-far-own-clause-ok
returns-then-far-own-clause-ok g c =
    let xs = c.args.holds.now.items in
    let low = c.split_at_mut-low.result.0.now in
    let high = c.split_at_mut-low.result.1.now in
    let i = c.number-far.result in
    let j = c.number-own.result in
    let x = c.requires.from_hold in
    let y = c.requires.to_hold in
    let is_low = c.split_at_mut-low.ensures.front ∙ ap (take j) c.deref_mut.ensures.value in
    let is_high = c.split_at_mut-low.ensures.back ∙ ap (drop j) c.deref_mut.ensures.value in
    let at_x = ap (λ n. slice_get xs n) c.number-far.ensures ∙ x.1 in
    let at_y = ap (λ n. slice_get xs n) c.number-own.ensures ∙ y.1 in
    let less = c.if-far-own.true in
    let within = c.requires.within.1 in
    let own = c.number-own.ensures in
    let e = c.pull.ensures in
    let gx = low_at xs low i j x.0 c.index-low-far.result at_x less is_low in
    let hy = high_at xs high j y.0 c.index-high-0.result at_y is_high in
    let hs = take c.args.holds.now.len ((slice_set low i c.pull.new.from_hold ++ slice_set high 0 c.pull.new.to_hold)
    ++ drop (length (slice_set low i c.pull.new.from_hold ++ slice_set high 0 c.pull.new.to_hold)) xs) in
    let left = parts_left xs low high i j c.args.holds.now.len c.pull.new.from_hold c.pull.new.to_hold less
    (omega (arith, within, own)) c.args.holds.now.ok.0 is_low is_high in
    between_ok c.args.from.now c.args.to.now c.args.colour xs hs
    (get_or low i c.index-low-far.result) c.pull.new.from_hold (get_or high 0 c.index-high-0.result) c.pull.new.to_hold
    (changes_two c.args.from.now.number c.args.to.now.number i j xs hs
    (get_or low i c.index-low-far.result) x.0 c.pull.new.from_hold (get_or high 0 c.index-high-0.result) y.0 c.pull.new.to_hold
    c.number-far.ensures c.number-own.ensures c.requires.apart x.1 gx y.1 hy left)
    e.from_hold e.to_hold e.held c.pull.result e.ok

pub returns-else-far-own-clause-ok : goal.returns-else-far-own-clause-ok
returns-else-far-own-clause-ok g c =
    let xs = c.args.holds.now.items in
    let low = c.split_at_mut-low-else-far-own.result.0.now in
    let high = c.split_at_mut-low-else-far-own.result.1.now in
    let i = c.number-far.result in
    let j = c.number-own.result in
    let x = c.requires.from_hold in
    let y = c.requires.to_hold in
    let is_low = c.split_at_mut-low-else-far-own.ensures.front ∙ ap (take i) c.deref_mut-else-far-own.ensures.value in
    let is_high = c.split_at_mut-low-else-far-own.ensures.back ∙ ap (drop i) c.deref_mut-else-far-own.ensures.value in
    let at_x = ap (λ n. slice_get xs n) c.number-far.ensures ∙ x.1 in
    let at_y = ap (λ n. slice_get xs n) c.number-own.ensures ∙ y.1 in
    let not_less = c.if-far-own.false in
    let far = c.number-far.ensures in
    let own = c.number-own.ensures in
    let ne = c.requires.apart in
    let less : j < i = omega (arith, not_less, far, own, ne) in
    let within = c.requires.within.0 in
    let e = c.pull-else-far-own.ensures in
    let g' = c.pull-else-far-own.new.from_hold in
    let h' = c.pull-else-far-own.new.to_hold in
    let gx = high_at xs high i x.0 c.index-high-0-else-far-own.result at_x is_high in
    let hy = low_at xs low j i y.0 c.index-low-own.result at_y less is_low in
    let hs = take c.args.holds.now.len ((slice_set low j h' ++ slice_set high 0 g')
    ++ drop (length (slice_set low j h' ++ slice_set high 0 g')) xs) in
    let left = parts_left xs low high j i c.args.holds.now.len h' g' less (omega (arith, within, far))
    c.args.holds.now.ok.0 is_low is_high ∙ set_apart xs j i h' g' (λ z. omega (arith, z, less)) in
    between_ok c.args.from.now c.args.to.now c.args.colour xs hs
    (get_or high 0 c.index-high-0-else-far-own.result) g' (get_or low j c.index-low-own.result) h'
    (changes_two c.args.from.now.number c.args.to.now.number i j xs hs
    (get_or high 0 c.index-high-0-else-far-own.result) x.0 g' (get_or low j c.index-low-own.result) y.0 h'
    c.number-far.ensures c.number-own.ensures c.requires.apart x.1 gx y.1 hy left)
    e.from_hold e.to_hold e.held c.pull-else-far-own.result e.ok

pub returns-then-far-own-clause-err : goal.returns-then-far-own-clause-err
returns-then-far-own-clause-err g c =
    let xs = c.args.holds.now.items in
    let low = c.split_at_mut-low.result.0.now in
    let high = c.split_at_mut-low.result.1.now in
    let i = c.number-far.result in
    let j = c.number-own.result in
    let x = c.requires.from_hold in
    let y = c.requires.to_hold in
    let is_low = c.split_at_mut-low.ensures.front ∙ ap (take j) c.deref_mut.ensures.value in
    let is_high = c.split_at_mut-low.ensures.back ∙ ap (drop j) c.deref_mut.ensures.value in
    let at_x = ap (λ n. slice_get xs n) c.number-far.ensures ∙ x.1 in
    let at_y = ap (λ n. slice_get xs n) c.number-own.ensures ∙ y.1 in
    let less = c.if-far-own.true in
    let within = c.requires.within.1 in
    let own = c.number-own.ensures in
    let e = c.pull.ensures in
    let gx = low_at xs low i j x.0 c.index-low-far.result at_x less is_low in
    let hy = high_at xs high j y.0 c.index-high-0.result at_y is_high in
    let hs = take c.args.holds.now.len ((slice_set low i c.pull.new.from_hold ++ slice_set high 0 c.pull.new.to_hold)
    ++ drop (length (slice_set low i c.pull.new.from_hold ++ slice_set high 0 c.pull.new.to_hold)) xs) in
    let left = parts_left xs low high i j c.args.holds.now.len c.pull.new.from_hold c.pull.new.to_hold less
    (omega (arith, within, own)) c.args.holds.now.ok.0 is_low is_high in
    between_err c.args.from.now c.args.to.now c.args.colour xs hs
    (get_or low i c.index-low-far.result) c.pull.new.from_hold (get_or high 0 c.index-high-0.result) c.pull.new.to_hold
    (changes_two c.args.from.now.number c.args.to.now.number i j xs hs
    (get_or low i c.index-low-far.result) x.0 c.pull.new.from_hold (get_or high 0 c.index-high-0.result) y.0 c.pull.new.to_hold
    c.number-far.ensures c.number-own.ensures c.requires.apart x.1 gx y.1 hy left)
    e.from_hold e.to_hold e.held c.pull.result e.same_region e.err

pub returns-else-far-own-clause-err : goal.returns-else-far-own-clause-err
returns-else-far-own-clause-err g c =
    let xs = c.args.holds.now.items in
    let low = c.split_at_mut-low-else-far-own.result.0.now in
    let high = c.split_at_mut-low-else-far-own.result.1.now in
    let i = c.number-far.result in
    let j = c.number-own.result in
    let x = c.requires.from_hold in
    let y = c.requires.to_hold in
    let is_low = c.split_at_mut-low-else-far-own.ensures.front ∙ ap (take i) c.deref_mut-else-far-own.ensures.value in
    let is_high = c.split_at_mut-low-else-far-own.ensures.back ∙ ap (drop i) c.deref_mut-else-far-own.ensures.value in
    let at_x = ap (λ n. slice_get xs n) c.number-far.ensures ∙ x.1 in
    let at_y = ap (λ n. slice_get xs n) c.number-own.ensures ∙ y.1 in
    let not_less = c.if-far-own.false in
    let far = c.number-far.ensures in
    let own = c.number-own.ensures in
    let ne = c.requires.apart in
    let less : j < i = omega (arith, not_less, far, own, ne) in
    let within = c.requires.within.0 in
    let e = c.pull-else-far-own.ensures in
    let g' = c.pull-else-far-own.new.from_hold in
    let h' = c.pull-else-far-own.new.to_hold in
    let gx = high_at xs high i x.0 c.index-high-0-else-far-own.result at_x is_high in
    let hy = low_at xs low j i y.0 c.index-low-own.result at_y less is_low in
    let hs = take c.args.holds.now.len ((slice_set low j h' ++ slice_set high 0 g')
    ++ drop (length (slice_set low j h' ++ slice_set high 0 g')) xs) in
    let left = parts_left xs low high j i c.args.holds.now.len h' g' less (omega (arith, within, far))
    c.args.holds.now.ok.0 is_low is_high ∙ set_apart xs j i h' g' (λ z. omega (arith, z, less)) in
    between_err c.args.from.now c.args.to.now c.args.colour xs hs
    (get_or high 0 c.index-high-0-else-far-own.result) g' (get_or low j c.index-low-own.result) h'
    (changes_two c.args.from.now.number c.args.to.now.number i j xs hs
    (get_or high 0 c.index-high-0-else-far-own.result) x.0 g' (get_or low j c.index-low-own.result) y.0 h'
    c.number-far.ensures c.number-own.ensures c.requires.apart x.1 gx y.1 hy left)
    e.from_hold e.to_hold e.held c.pull-else-far-own.result e.same_region e.err
