-- The nodes of a lawful line have stamps that there are.
use Rattle.std.proofs.Common.{◌≡◌, ℕ, ◌≤◌, List, [], map, Some, refl, ap, sym, subst, ◌∙◌, arith, eq-eqb, append-nil}
use Rattle.std.specs.Prelude.{◌==◌, slice_get}
use Rattle.std.specs.List.{Contains}
use Rattle.log_node.specs.declared.limits.TheConstants.{MAX_STAMP}
use Rattle.log_node.specs.declared.ids.Key.{Key}
use Rattle.log_node.specs.declared.node.Head.{Head}
use Rattle.col_core.specs.declared.Entry.{Entry}
use Rattle.col_core.specs.History.{entries, line}
use Rattle.col_core.specs.Cuts.{chain}
use Rattle.col_core.specs.Computed.{dated}
use Rattle.col_core.specs.Legal.{IsColumnHistory}
use Rattle.col_core.proofs.CallerLemmas.{In, clocks_rise, entries_dated, head_with, if_true, contains_in, in_heads, in_line, slice_in}

-- a key of the line
pub line_stamped : (own regions : ℕ) (history : List Entry) → IsColumnHistory own regions (dated own history)
    → (k : Key) → In k (line history) → k.stamp ≤ MAX_STAMP
line_stamped own regions history lawful k i =
    let all = append-nil history in
    let rises = clocks_rise own regions history []
    (subst (λ (l : List Entry). IsColumnHistory own regions (dated own l)) (sym all) lawful) in
    let e = in_line (entries history) k i in
    let under = rises.stamps e.0
    (subst (λ (l : List Entry). Contains (entries l) e.0) (sym all) (contains_in (entries history) e.0 e.1)) in
    let within = rises.within in
    let same = ap (λ (q : Key). q.stamp) e.2 in
    omega (arith, under, within, same)

-- a node of the own chain
pub own_stamped : (own regions : ℕ) (history : List Entry) → IsColumnHistory own regions (dated own history)
    → (n : ℕ) (head : Head) → slice_get (chain own (dated own history) own) n ≡ Some head → head.key.stamp ≤ MAX_STAMP
own_stamped own regions history lawful n head at =
    let is : chain own (dated own history) own ≡ map (head_with (dated own history)) (line history) =
    if_true (own == own) _ _ (eq-eqb own own refl)
    ∙ ap (λ (h : List Entry). map (head_with (dated own history)) (line h)) (entries_dated own history) in
    let r = in_heads (dated own history) (line history) head
    (slice_in (map (head_with (dated own history)) (line history)) n head
    (ap (λ (l : List Head). slice_get l n) (sym is) ∙ at)) in
    let low = line_stamped own regions history lawful r.0 r.1 in
    let same = ap (λ (h : Head). h.key.stamp) r.2 in
    omega (arith, low, same)
