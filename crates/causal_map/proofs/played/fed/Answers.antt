use Rattle.std.proofs.Common.{◌≡◌, ◌+◌, List, length, sym, subst, arith}
use Rattle.log_node.specs.declared.ids.Counts.{Counts}
use Rattle.log_node.specs.Vectors.{at}
use Rattle.object_fold.specs.declared.causal_map.CausalMap.{CausalMap}
use Rattle.object_fold.specs.Causal.{ChainNode}
use Rattle.object_fold.specs.CausalStates.{IsCausalMap, counts_of}
use Rattle.object_fold.proofs.CallerLemmas.{all_fed}
use Rattle.causal_map.proofs.played.fed.Goals as goal

-- the counts together are the number of the nodes
total : (v : Counts) (map : CausalMap) (played : List ChainNode) → v ≡ counts_of map → IsCausalMap map played
    → at v 0 + at v 1 + at v 2 + at v 3 ≡ length played
total v map played same is =
    subst (λ (u : Counts). at u 0 + at u 1 + at u 2 + at u 3 ≡ length played) (sym same) (all_fed map played is)

pub overflow_add-result : goal.overflow_add-result
overflow_add-result c =
    let t = total c.counts-counts.result c.args.map.now c.requires.0 c.counts-counts.ensures.value c.requires.1 in
    omega (arith, t, c.requires.2, c.of_region.ensures, c.of_region-2.ensures)

pub overflow_add-result-2 : goal.overflow_add-result-2
overflow_add-result-2 c =
    let t = total c.counts-counts.result c.args.map.now c.requires.0 c.counts-counts.ensures.value c.requires.1 in
    omega (arith, t, c.requires.2, c.of_region.ensures, c.of_region-2.ensures, c.of_region-3.ensures)

pub overflow_add-result-3 : goal.overflow_add-result-3
overflow_add-result-3 c =
    let t = total c.counts-counts.result c.args.map.now c.requires.0 c.counts-counts.ensures.value c.requires.1 in
    omega (arith, t, c.requires.2, c.of_region.ensures, c.of_region-2.ensures, c.of_region-3.ensures, c.of_region-4.ensures)

pub returns : goal.returns
returns c = λ played is.
    let t = total c.counts-counts.result c.args.map.now played c.counts-counts.ensures.value is in
    omega (arith, t, c.of_region.ensures, c.of_region-2.ensures, c.of_region-3.ensures, c.of_region-4.ensures)
