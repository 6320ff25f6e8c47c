-- The answer of a causal map is the same in whatever order its nodes are listed.
use Rattle.std.proofs.Common.{ℕ, List, [], map}
use Rattle.std.specs.Prelude.{unwrap_or}
use Rattle.std.specs.List.{filter}
use Rattle.std.specs.List.Sorted.{IsPermutation}
use Rattle.std.proofs.lemmas.List.Sorted.{IsPermutation-sym, IsPermutation-trans, IsPermutation-map, Contains-permutation}
use Rattle.object_fold.specs.Causal.{ChainNode, FollowsCausally, IsLatestWrite, IsCausalAnswer, written_value}
use Rattle.object_fold.specs.Causal.FollowsCausally.{at_once, through}
use Rattle.causal_map.proofs.Shuffles.{filtered}

follows_in : (ns ms : List ChainNode) → IsPermutation ns ms → {a b : ChainNode} → FollowsCausally ns a b → FollowsCausally ms a b
follows_in ns ms s (at_once h) = at_once h
follows_in ns ms s (through {between = b} inside h f) =
    through (Contains-permutation ns ms b s inside) h (follows_in ns ms s f)

latest_in : (ns ms : List ChainNode) (key : List ℕ) (node : ChainNode) → IsPermutation ns ms → IsLatestWrite ns key node
    → IsLatestWrite ms key node
latest_in ns ms key node s l = record {
  writes = l.writes;
  latest = λ later inside wrote f.
      l.latest later (Contains-permutation ms ns later (IsPermutation-sym ns ms s) inside) wrote
      (follows_in ms ns (IsPermutation-sym ns ms s) f);
}

pub answer_in : (ns ms : List ChainNode) (key : List ℕ) (values : List (List ℕ)) → IsPermutation ns ms
    → IsCausalAnswer ns key values → IsCausalAnswer ms key values
answer_in ns ms key values s a =
    let value : ChainNode → List ℕ = λ (node : ChainNode). unwrap_or (written_value key node) [] in record {
      is_latest = a.is_latest;
      exactly = λ node inside.
          let e = a.exactly node (Contains-permutation ms ns node (IsPermutation-sym ns ms s) inside) in (
            λ t. latest_in ns ms key node s (e.0 t),
            λ l. e.1 (latest_in ms ns key node (IsPermutation-sym ns ms s) l),
          );
      each_value = IsPermutation-trans values (map value (filter a.is_latest ns)) (map value (filter a.is_latest ms))
          a.each_value (IsPermutation-map value (filter a.is_latest ns) (filter a.is_latest ms) (filtered a.is_latest ns ms s));
      sorted = a.sorted;
    }
