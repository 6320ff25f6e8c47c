-- Where no node is free, all nodes are played.
use Rattle.std.proofs.Common.{◌≡◌, ℕ, ◌<◌, ◌≤◌, List}
use Rattle.std.proofs.Common.{cond, subst, ap, sym, ◌∙◌, inl, inr, ◌⊎◌, arith}
use Rattle.std.specs.Prelude.{slice_get}
use Rattle.std.proofs.lemmas.Bool.{cases_eq}
use Rattle.log_node.specs.declared.ids.Counts.{Counts}
use Rattle.log_node.specs.Vectors.{at, zeros, IsWithin, one_more}
use Rattle.log_node.specs.Reach.{Chains, Reachable, nothing, next}
use Rattle.col_core.specs.PlayOrder.{Place, is_between, IsPlayOrder}
use Rattle.log_node.proofs.CallerLemmas.{within, within-at}
use Rattle.col_core.proofs.CallerLemmas.{between_is, is_in_between}
use Rattle.playback.proofs.NextRegions.{IsFree}
use Rattle.playback.proofs.Counting.{more_here, more_there, no_less, zero_at, iff}
use Rattle.playback.proofs.PlayedTo.{IsPlayedTo, NoneFree}

-- where no node is free, what can be reached within the end is played
pub reached_played : (chains : Chains) (played to : Counts) → NoneFree chains played to → {w : Counts} → Reachable chains w
    → ((r : ℕ) → r < 4 → at w r ≤ at to r) → (r : ℕ) → r < 4 → at w r ≤ at played r
reached_played chains played to none nothing le r lt = let z : at zeros r ≡ 0 = zero_at r lt in omega (arith, z)
reached_played chains played to none (next {v} region head before inside there needs) le r lt =
    let below = reached_played chains played to none before (λ s l. let x = le s l in let y = no_less v region s l in
    omega (arith, x, y)) in
    pick below (cases_eq r region) where
      pick : ((s : ℕ) → s < 4 → at v s ≤ at played s) → (r ≡ region) ⊎ (r ≡ region → ⊥) → at (one_more v region) r ≤ at
          played r
      pick below (inr d) = let m = more_there v region r lt d in let x = below r lt in omega (arith, m, x)
      pick below (inl e) = subst
          (λ s. at (one_more v region) s ≤ at played s) (sym e) (step (cases_eq (at v region) (at played region))) where
            step : (at v region ≡ at played region) ⊎ (at v region ≡ at played region → ⊥) → at (one_more v region)
                region ≤
                at played region
            step (inr d) = let m = more_here v region inside in let x = below region inside in omega (arith, m, x, d)
            step (inl same) =
                let m = more_here v region inside in let x = le region inside in
                let f : IsFree chains played to region head = record {
                  wanted = omega (arith, same, m, x);
                  stands = ap (slice_get (chains region)) (sym same) ∙ there;
                  covered = within head.needs played (λ s l. let a = within-at head.needs v needs s l in
                      let b = below s l in omega (arith, a, b));
                } in absurd (none region head inside f)

between_same : (from v w : Counts) (p : Place) → ((r : ℕ) → r < 4 → at v r ≡ at w r) → is_between from v p
    ≡ is_between from w p
between_same from v w p same = iff (is_between from v p) (is_between from w p)
    (λ t. let b = between_is from v p t in
    is_in_between from w p (record {
      in_range = b.in_range;
      past = b.past;
      short = subst
          (λ n. p.position < n) (same p.region b.in_range) b.short;
    }))
    (λ t. let b = between_is from w p t in
    is_in_between from v p (record {
      in_range = b.in_range;
      past = b.past;
      short = subst
          (λ n. p.position < n) (sym (same p.region b.in_range)) b.short;
    }))

-- where as many nodes are played as are to be played, the order is whole
pub is_whole : (chains : Chains) (from played to : Counts) (order : List Place) → IsPlayedTo chains from played to order
    → ((r : ℕ) → r < 4 → at played r ≡ at to r) → IsPlayOrder chains from to order
is_whole chains from played to order h same = record {
  each_once = λ p. h.each_once p ∙ ap (λ b. cond b 1 0) (between_same from played to p same);
  after_needed = h.after_needed;
  least_first = h.least_first;
}

-- where no node is free, all are played
pub all_played : (chains : Chains) (from played to : Counts) (order : List Place) → IsPlayedTo chains from played to
    order → NoneFree chains played to → Reachable chains to → IsWithin from to → IsPlayOrder chains from to order
all_played chains from played to order h none reached w =
    let all = reached_played chains played to none reached (λ r lt. omega arith) in
    is_whole chains from played to order h (λ r lt. let a = all r lt in let b = h.short w r lt in omega (arith, a, b))
