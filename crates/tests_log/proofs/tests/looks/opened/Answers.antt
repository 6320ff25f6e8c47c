use Rattle.std.proofs.Common.{◌≡◌, ℕ, List, [], ◌∷◌, ◌++◌, length, Some, slice_get, ap, sym, subst, ◌∙◌, arith, length-append}
use Rattle.stamp_board.specs.declared.view.Size.{Size}
use Rattle.turn_cell.proofs.CallerLemmas.{left_at}
use Rattle.chain_store.specs.declared.hold.Hold.{Hold}
use Rattle.chain_store.specs.declared.region.Region.{Region}
use Rattle.chain_store.specs.Holds.{IsHold}
use Rattle.chain_store.specs.Opening.{AreNewHolds}
use Rattle.tests_log.specs.Clients.{IsClient}
use Rattle.tests_log.proofs.tests.looks.opened.Goals as goal

-- three new holds, taken from the last on
three_clients : (r : Region) (all ys xs ws : List Hold) (u t s : Hold) → AreNewHolds r all → length all ≡ 3
    → all ≡ ys ++ u ∷ [] → ys ≡ xs ++ t ∷ [] → xs ≡ ws ++ s ∷ [] → IsClient r 0 0 s × IsHold r t × IsHold r u
three_clients r all ys xs ws u t s new many e e' e'' =
    let new_client : (n : ℕ) (h : Hold) → slice_get all n ≡ Some h → IsClient r n 0 h =
    λ n h at. let is = new.0.1 n h at in let none = (new.1 n h at).next in
    record { hold = is.0; number = is.1; given_out = omega (arith, none) } in
    let last = left_at all ys u (λ n h. IsClient r n 0 h) e new_client in
    let second = left_at ys xs t (λ n h. IsClient r n 0 h) e' last.0 in
    let first = left_at xs ws s (λ n h. IsClient r n 0 h) e'' second.0 in
    let none : length ws ≡ 0 = omega (
      arith,
      many,
      ap length e,
      length-append ys (u ∷ []),
      ap length e',
      length-append xs (t ∷ []),
      ap length e'',
      length-append ws (s ∷ []),
    ) in
    (subst (λ (n : ℕ). IsClient r n 0 s) none first.1, second.1.hold, last.1.hold)

pub returns-clause-holds : goal.returns-clause-holds
returns-clause-holds c =
    let s = c.in-Some-Some-Some in
    let e = c.in_ok-region.ensures in
    three_clients c.in_ok-region.region c.in_ok-region.holds c.pop.new.self.items c.pop-2.new.self.items
    c.pop-3.new.self.items s.three s.two s.one e.holds
    (e.holds.0.0 ∙ ap (λ (z : Size). z.clients) e.size ∙ c.in_ok-shape.ensures.2)
    (sym c.into_vec-holds.ensures ∙ s.ensures.items) s.ensures'.items s.ensures''.items
