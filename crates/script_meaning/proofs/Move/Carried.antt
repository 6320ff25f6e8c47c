-- What a give and a carry change of what a column holds of another region's line.
use Rattle.std.proofs.Common.{◌≡◌, ◌≢◌, ℕ, ◌+◌, ◌≤◌, List, [], ◌∷◌, ◌++◌, length, take, drop, refl, ap, ◌∙◌, arith, eq-eqb, length-append}
use Rattle.std.specs.Prelude.{◌==◌}
use Rattle.std.proofs.lemmas.List.{length-drop, length-take-le}
use Rattle.log_node.specs.declared.node.Head.{Head}
use Rattle.col_core.specs.declared.Entry.{Entry}
use Rattle.col_core.specs.declared.Event.TheVariants as events
use Rattle.col_core.specs.History.{line}
use Rattle.col_core.specs.Computed.{dated}
use Rattle.col_core.proofs.CallerLemmas.{if_true}
use Rattle.world_laws.specs.Worlds.{chains_after}
use Rattle.world_laws.proofs.CallerLemmas.{chain_longer, own_chain_length, entries_dated}

-- a stretch of an own chain, where the line is as long
pub stretch_length : (own : ℕ) (h : List Entry) (from count : ℕ) → from + count ≤ length (line h)
    → length (drop from (take (from + count) (chains_after own h own))) ≡ count
stretch_length own h from count le =
    let a = own_chain_length own (dated own h) ∙ ap (λ (l : List Entry). length (line l)) (entries_dated own h) in
    let b = length-take-le (from + count) (chains_after own h own) (omega (arith, a, le)) in
    let c = length-drop from (take (from + count) (chains_after own h own)) in
    omega (arith, b, c)

-- what is held after a carry
pub carried_chain : (own region by start : ℕ) (heads : List Head) (h : List Entry) → region ≢ own
    → length (chains_after own
    (h ++ record { by = by; event = events.Carry region start heads; stamp = 0 } ∷ []) region)
    ≡ length (chains_after own h region) + length heads
carried_chain own region by start heads h ne =
    ap length (chain_longer own region h (record { by = by; event = events.Carry region start heads; stamp = 0 }) ne
    ∙ ap (λ (l : List Head). chains_after own h region ++ l)
    (if_true (region == region) heads [] (eq-eqb region region refl)))
    ∙ length-append (chains_after own h region) heads
