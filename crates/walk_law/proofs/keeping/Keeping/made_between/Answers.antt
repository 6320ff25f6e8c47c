use Rattle.std.proofs.Common.{◌∙◌, ◌-◌, ℕ, List, ap, arith, drop, length, of_calls, rules, subst, sym, take, take_all, true}
use Rattle.std.specs.Prelude.{nat_le, nat_lt, ◌&&◌}
use Rattle.std.specs.List.{filter}
use Rattle.std.specs.List.Sorted.{IsNonDecreasing}
use Rattle.std.proofs.lemmas.Fn.{always_returns_same}
use Rattle.std.proofs.lemmas.List.{length-drop}
use Rattle.std.proofs.lemmas.List.Sorted.{IsPartitionedBy-ltb}
use Rattle.col_core.specs.Keeping.{seen_past}
use Rattle.col_core.specs.Log.{places_of}
use Rattle.walk_law.specs.Behind.{HasColumn}
use Rattle.walk_law.specs.Walking.{journal_walked}
use Rattle.walk_law.proofs.BehindLemmas.{between_is, places_rise, take_rises}
use Rattle.walk_law.proofs.keeping.Keeping.made_between.Goals as goal

pub returns : goal.returns
returns c replies kept s =
    let walked = c.args.subject.now in
    let journal = journal_walked walked c.args.region c.args.colour in
    let xs = c.own_places-own.result.now in
    let to = c.partition_point.result in
    let from = c.partition_point-2.result in
    let past = c.past-past.result in
    let place = c.args.place in
    let has : HasColumn walked c.args.region c.args.colour true = c.if-not-has_column.ensures in
    let rise : IsNonDecreasing xs = subst IsNonDecreasing (sym c.own_places-own.ensures) (places_rise c.args.client 0 journal) in
    let one = c.partition_point.ensures.partitioned (λ (p : ℕ). nat_lt p place)
    (always_returns_same _ _ _ (λ a r f k. search (rules, of_calls))) (IsPartitionedBy-ltb (λ (p : ℕ). p) xs place rise) in
    let two = c.partition_point-2.ensures.partitioned (λ (p : ℕ). nat_lt p past)
    (always_returns_same _ _ _ (λ a r f k. search (rules, of_calls)))
    (IsPartitionedBy-ltb (λ (p : ℕ). p) (take to xs) past (take_rises xs to c.partition_point.ensures.bound rise)) in
    let long = length-drop from (take to xs) in
    take_all (length (take to xs) - from) (drop from (take to xs)) (omega (arith, long))
    ∙ (between_is xs past place to from (λ k d lt. one.0 k d (omega arith) lt) (λ k d le lt. one.1 k d le lt)
    c.partition_point.ensures.bound (λ k d lt. two.0 k d (omega arith) lt) (λ k d le lt. two.1 k d le lt) c.partition_point-2.ensures.bound
    ∙ (ap (λ (l : List ℕ). filter (λ p. nat_le past p && nat_lt p place) l) c.own_places-own.ensures
    ∙ ap (λ (n : ℕ). filter (λ p. nat_le n p && nat_lt p place) (places_of c.args.client journal))
    (c.past-past.ensures ∙ ap (seen_past 0) (s.made c.args.region c.args.colour has.2))))
