use Rattle.std.proofs.Common.{ℕ, List, map, ap, ◌∙◌, rules, tests}
use Rattle.std.specs.Ordering.{is_lt, nat_cmp}
use Rattle.std.specs.Cmp.Lexicographic.{slice_cmp}
use Rattle.std.proofs.lemmas.List.{take_all}
use Rattle.std.proofs.lemmas.List.MinMax.{ranks_by}
use Rattle.std.proofs.lemmas.Cmp.{nat_list_cmp_total}
use Rattle.object_fold.specs.declared.causal_map.LatestWrite.{LatestWrite}
use Rattle.object_fold.specs.CausalStates.{latest_at}
use Rattle.object_fold.proofs.SameCalls.{always}
use Rattle.object_fold.proofs.CausalLemmas.{answers}
use Rattle.object_fold.proofs.causal_map.CausalMap.get.Goals as goal

pub returns : goal.returns
returns c = λ played stands.
    let items = c.latest_of-write-items.result.now in
    let all = c.loop-write.invariant ∙ ap (map (λ (w : LatestWrite). w.value)) (take_all c.loop-write.write-index items c.loop-write-test.false ∙ c.latest_of-write-items.ensures) in
    let sorted = c.sort_unstable_by.ensures.sorted (λ x y. is_lt (slice_cmp nat_cmp x y)) (ranks_by nat_list_cmp_total (λ (x : List ℕ). x)) (always _ _ _ (λ a r q k. search (rules, tests))) in
    rw c.from.ensures (answers played c.args.key.now (latest_at c.args.self.now.latest.entries c.args.key.now) c.loop-write.values.items c.sort_unstable_by.new.self.items (stands.latest c.args.key.now) all c.sort_unstable_by.ensures.permutation sorted)
