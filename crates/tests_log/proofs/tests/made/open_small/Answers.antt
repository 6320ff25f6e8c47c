use Rattle.std.proofs.Common.{◌≡◌, length, ap, sym, ◌∙◌, arith}
use Rattle.stamp_board.specs.declared.view.Size.{Size}
use Rattle.stamp_board.proofs.CallerLemmas.{last_two}
use Rattle.tests_log.proofs.tests.made.open_small.Goals as goal

pub returns-clause-one : goal.returns-clause-one
returns-clause-one c =
    let s = c.in-Some-Some in
    let e = c.in_ok-region.ensures in
    let many : length c.in_ok-region.holds ≡ 2 =
    e.holds.0.0 ∙ ap (λ (z : Size). z.clients) e.size ∙ c.requires.shape.2 in
    let at = last_two c.in_ok-region.holds c.pop.new.self.items c.pop-2.new.self.items s.two s.one many
    (sym c.into_vec-holds.ensures ∙ s.ensures.items) s.ensures'.items in
    let h = e.holds.0.1 0 s.one at.0 in
    let none = (e.holds.1 0 s.one at.0).next in
    record { hold = h.0; number = h.1; given_out = omega (arith, none) }

pub returns-clause-used : goal.returns-clause-used
returns-clause-used c =
    let s = c.in-Some-Some in
    let e = c.in_ok-region.ensures in
    let many : length c.in_ok-region.holds ≡ 2 =
    e.holds.0.0 ∙ ap (λ (z : Size). z.clients) e.size ∙ c.requires.shape.2 in
    let at = last_two c.in_ok-region.holds c.pop.new.self.items c.pop-2.new.self.items s.two s.one many
    (sym c.into_vec-holds.ensures ∙ s.ensures.items) s.ensures'.items in
    (e.holds.1 0 s.one at.0).used

pub returns-clause-two : goal.returns-clause-two
returns-clause-two c =
    let s = c.in-Some-Some in
    let e = c.in_ok-region.ensures in
    let many : length c.in_ok-region.holds ≡ 2 =
    e.holds.0.0 ∙ ap (λ (z : Size). z.clients) e.size ∙ c.requires.shape.2 in
    let at = last_two c.in_ok-region.holds c.pop.new.self.items c.pop-2.new.self.items s.two s.one many
    (sym c.into_vec-holds.ensures ∙ s.ensures.items) s.ensures'.items in
    let h = e.holds.0.1 1 s.two at.1 in
    let none = (e.holds.1 1 s.two at.1).next in
    record { hold = h.0; number = h.1; given_out = omega (arith, none) }
