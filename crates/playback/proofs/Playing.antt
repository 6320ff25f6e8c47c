-- The computed order plays one free node after another until all are played.
use Rattle.std.proofs.Common.{◌≡◌, ℕ, zero, suc, ◌+◌, ◌<◌, ◌≤◌, List, [], ◌∷◌, ◌++◌, Option, Some, None, refl, subst}
use Rattle.std.proofs.Common.{ap, arith}
use Rattle.std.specs.Prelude.{sum, map}
use Rattle.std.specs.Option.{option_map_or}
use Rattle.log_node.specs.declared.ids.Counts.{Counts}
use Rattle.log_node.specs.Vectors.{at, IsWithin, one_more, all_regions}
use Rattle.log_node.specs.Reach.{Chains, Reachable}
use Rattle.col_core.specs.PlayOrder.{Place, IsPlayOrder}
use Rattle.playback.specs.Orders.{next_place, next_region, order_of, play_order}
use Rattle.playback.proofs.NextRegions.{IsFirst, IsNext, next_is, among_all, among_four}
use Rattle.playback.proofs.PlayedTo.{IsPlayedTo, GoesNext, NoneFree, nothing_played, plays_on}
use Rattle.playback.proofs.Whole.{is_whole, all_played}

-- how many nodes a vector counts
abbrev pub count_all : Counts → ℕ
count_all v = sum (map (at v) all_regions)

pub goes_next : (chains : Chains) (played to : Counts) (r : ℕ) → IsFirst chains played to all_regions r
    → GoesNext chains played to (next_place played r)
goes_next chains played to r h = record {
  head = h.head;
  in_range = among_four r h.among;
  free = h.free;
  next = refl;
  first = λ region other lt f. h.first region (among_all region lt) other f;
}

none_free : (chains : Chains) (played to : Counts) → IsNext chains played to all_regions None → NoneFree chains played
    to
none_free chains played to none = λ region head lt f. none region (among_all region lt) head f

pub one_more_counts : (v : Counts) (r : ℕ) → r < 4 → count_all (one_more v r) ≡ count_all v + 1
one_more_counts v zero lt = omega arith
one_more_counts v (suc zero) lt = omega arith
one_more_counts v (suc (suc zero)) lt = omega arith
one_more_counts v (suc (suc (suc zero))) lt = omega arith
one_more_counts v (suc (suc (suc (suc r)))) lt = absurd (let f : ⊥ = omega (arith, lt) in f)

-- no more is counted, and no less of any region: each number is the same
all_equal : (v w : Counts) → count_all w ≤ count_all v → at v 0 ≤ at w 0 → at v 1 ≤ at w 1 → at v 2 ≤ at w 2
    → at v 3 ≤ at w 3 → (r : ℕ) → r < 4 → at v r ≡ at w r
all_equal v w le a b c d zero lt = omega (arith, le, a, b, c, d)
all_equal v w le a b c d (suc zero) lt = omega (arith, le, a, b, c, d)
all_equal v w le a b c d (suc (suc zero)) lt = omega (arith, le, a, b, c, d)
all_equal v w le a b c d (suc (suc (suc zero))) lt = omega (arith, le, a, b, c, d)
all_equal v w le a b c d (suc (suc (suc (suc r)))) lt = absurd (let f : ⊥ = omega (arith, lt) in f)

pub append_none : (order : List Place) → order ≡ order ++ []
append_none [] = refl
append_none (p ∷ ps) = ap (λ l. p ∷ l) (append_none ps)

pub append_one : (order : List Place) (p : Place) (rest : List Place) → (order ++ p ∷ []) ++ rest ≡ order ++ p ∷ rest
append_one [] p rest = refl
append_one (q ∷ qs) p rest = ap (λ l. q ∷ l) (append_one qs p rest)

-- what was played, and after it what is computed, is the whole order
pub played_on : (n : ℕ) (chains : Chains) (from played to : Counts) (order : List Place) → IsPlayedTo chains from played
    to order → count_all to ≤ count_all played + n
    → Reachable chains to → IsWithin from to → IsPlayOrder chains from to (order ++ order_of n chains played to)
played_on zero chains from played to order h enough reached w =
    let same = all_equal played to (omega (arith, enough)) (h.short w 0 (omega arith)) (h.short w 1 (omega arith))
    (h.short w 2 (omega arith)) (h.short w 3 (omega arith)) in
    subst (λ (l : List Place). IsPlayOrder chains from to l) (append_none order) (is_whole chains from played to order h
    same)
played_on (suc n) chains from played to order h enough reached w =
    step (λ v l i. played_on n chains from v to l i) (next_region chains played to all_regions)
    (next_is chains played to all_regions) where
      step : ((v : Counts) (l : List Place) → IsPlayedTo chains from v to l → count_all to ≤ count_all v + n
          → Reachable chains to → IsWithin from to
          → IsPlayOrder chains from to (l ++ order_of n chains v to)) → (o : Option ℕ) → IsNext chains played to
          all_regions o
          → IsPlayOrder chains from to
          (order ++ option_map_or
          (λ region. next_place played region ∷ order_of n chains (one_more played region) to) o [])
      step rest None none =
          subst (λ (l : List Place). IsPlayOrder chains from to l) (append_none order)
          (all_played chains from played to order h (none_free chains played to none) reached w)
      step rest (Some r) first =
          let g = goes_next chains played to r first in
          let on = plays_on chains from played to order h (next_place played r) g in
          let more = one_more_counts played r g.in_range in
          subst (λ (l : List Place). IsPlayOrder chains from to l) (append_one order (next_place played r)
          (order_of n chains (one_more played r) to))
          (rest (one_more played r) (order ++ next_place played r ∷ []) on (omega (arith, enough, more)) reached w)

pub order_is_played : (chains : Chains) (from to : Counts) → Reachable chains to → IsWithin from to
    → IsPlayOrder chains from to (play_order chains from to)
order_is_played chains from to reached w =
    played_on (count_all to) chains from from to [] (nothing_played chains from to) (omega arith) reached w
