use Rattle.std.proofs.Common.{◌≡◌, ◌+◌, ◌-◌, ◌∷◌, ◌++◌, ℕ, List, [], take, drop, refl, ap, sym, ◌∙◌, arith}
use Rattle.std.proofs.lemmas.List.{take_rest}
use Rattle.log_node.specs.declared.ids.Key.{Key}
use Rattle.playback.proofs.MergedLines.{count_below, took, left_behind, left_there}
use Rattle.playback.proofs.merging.take_to.Goals as goal

-- what was taken in two parts
taken : (key : Key) (old mid new xs part : List Key) (from count n : ℕ) → count ≡ n → mid ≡ old ++ part
    → part ≡ take (from + count - from) xs → new ≡ mid ++ key ∷ [] → new ≡ (old ++ take n xs) ++ key ∷ []
taken key old mid new xs part from count n is first part_is last =
    let e : from + count - from ≡ count = omega arith in
    last ∙ ap (λ (l : List Key). l ++ key ∷ []) (first ∙ ap (λ (l : List Key). old ++ l)
    (part_is ∙ ap (λ (m : ℕ). take m xs) (e ∙ is)))

pub returns-then-stands_at-clause-ok : goal.returns-then-stands_at-clause-ok
returns-then-stands_at-clause-ok c rest =
    let key = c.args.key in
    let others = c.args.others.now in
    let from = c.args.from in
    let n = count_below key (drop from others) in
    let value = c.count_below.ensures.value ∙ ap (count_below key) (take_rest others from) in
    took key others c.args.all.now.items c.push.new.self.items from (from + c.count_below.result)
    (from + c.count_below.result + 1) (ap (λ (m : ℕ). from + m) value)
    (taken key c.args.all.now.items c.extend_from_slice.new.self.items c.push.new.self.items (drop from others) _ from
    c.count_below.result n value c.in_ok-extend_from_slice.ensures.items refl c.in_ok-push.ensures.items)
    (left_behind key others (from + c.count_below.result) (sym c.if-stands_at.ensures)) rest

pub returns-else-stands_at-clause-ok : goal.returns-else-stands_at-clause-ok
returns-else-stands_at-clause-ok c rest =
    let key = c.args.key in
    let others = c.args.others.now in
    let from = c.args.from in
    let n = count_below key (drop from others) in
    let value = c.count_below.ensures.value ∙ ap (count_below key) (take_rest others from) in
    took key others c.args.all.now.items c.push.new.self.items from (from + c.count_below.result)
    (from + c.count_below.result) (ap (λ (m : ℕ). from + m) value)
    (taken key c.args.all.now.items c.extend_from_slice.new.self.items c.push.new.self.items (drop from others) _ from
    c.count_below.result n value c.in_ok-extend_from_slice.ensures.items refl c.in_ok-push.ensures.items)
    (left_there key others (from + c.count_below.result) (sym c.if-stands_at.ensures)) rest
