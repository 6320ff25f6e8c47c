use Rattle.std.proofs.Common.{◌≡◌, ℕ, List, length, ap, sym, ◌∙◌}
use Rattle.stamp_board.proofs.CallerLemmas.{last_two}
use Rattle.tests_clients.proofs.tests.made.opened.Goals as goal

pub returns-clause-one : goal.returns-clause-one
returns-clause-one c =
    let s = c.in-Some-Some in
    let new = c.in_ok-store.ensures.clients in
    let many : length c.in_ok-store.clients ≡ 2 =
    new.0 ∙ ap (λ (homes : List ℕ). length homes) c.in_ok-shape.ensures.3 in
    let at = last_two c.in_ok-store.clients c.pop.new.self.items c.pop-2.new.self.items s.two s.one many
    (sym c.into_vec-clients.ensures ∙ s.ensures.items) s.ensures'.items in
    let n = new.1 0 s.one at.0 in
    (n.rests, n.number)

pub returns-clause-two : goal.returns-clause-two
returns-clause-two c =
    let s = c.in-Some-Some in
    let new = c.in_ok-store.ensures.clients in
    let many : length c.in_ok-store.clients ≡ 2 =
    new.0 ∙ ap (λ (homes : List ℕ). length homes) c.in_ok-shape.ensures.3 in
    let at = last_two c.in_ok-store.clients c.pop.new.self.items c.pop-2.new.self.items s.two s.one many
    (sym c.into_vec-clients.ensures ∙ s.ensures.items) s.ensures'.items in
    let n = new.1 1 s.two at.1 in
    (n.rests, n.number)
