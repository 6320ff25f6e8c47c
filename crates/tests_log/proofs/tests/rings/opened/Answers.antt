use Rattle.std.proofs.Common.{sym, ◌∙◌}
use Rattle.tests_log.proofs.Linked.{both_ends, ends_new, new_linked}
use Rattle.tests_log.proofs.tests.rings.opened.Goals as goal

pub open_small-requires-clause-ends : goal.open_small-requires-clause-ends
open_small-requires-clause-ends c =
    let s = c.in-Some-Some in let all = c.in_ok-make_rings.field-0 in
    let both = both_ends c.in_ok-shape.shape.regions c.in_ok-shape.shape.colours all c.pop.new.self.items c.pop-2.new.self.items
    s.west_ends s.east_ends c.in_ok-shape.ensures.0 c.in_ok-shape.ensures.1 c.in_ok-make_rings.ensures
    (sym c.into_vec-rings.ensures ∙ s.ensures.items) s.ensures'.items in
    ends_new 2 2 0 all s.east_ends both.0 both.1

pub open_small-requires-in-Some-Some-clause-ends : goal.open_small-requires-in-Some-Some-clause-ends
open_small-requires-in-Some-Some-clause-ends c =
    let s = c.in-Some-Some in let all = c.in_ok-make_rings.field-0 in
    let both = both_ends c.in_ok-shape.shape.regions c.in_ok-shape.shape.colours all c.pop.new.self.items c.pop-2.new.self.items
    s.west_ends s.east_ends c.in_ok-shape.ensures.0 c.in_ok-shape.ensures.1 c.in_ok-make_rings.ensures
    (sym c.into_vec-rings.ensures ∙ s.ensures.items) s.ensures'.items in
    ends_new 2 2 1 all s.west_ends both.0 both.2

pub returns-clause-regions : goal.returns-clause-regions
returns-clause-regions c =
    let s = c.in-Some-Some in let all = c.in_ok-make_rings.field-0 in
    let both = both_ends c.in_ok-shape.shape.regions c.in_ok-shape.shape.colours all c.pop.new.self.items c.pop-2.new.self.items
    s.west_ends s.east_ends c.in_ok-shape.ensures.0 c.in_ok-shape.ensures.1 c.in_ok-make_rings.ensures
    (sym c.into_vec-rings.ensures ∙ s.ensures.items) s.ensures'.items in
    let east = c.in_ok-east-in-Some-Some in let west = c.in_ok-west-in-Some-Some in (
      east.ensures.region,
      west.ensures.region,
      new_linked east.east west.west all s.east_ends s.west_ends both.0 both.1 both.2 east.ensures.rings west.ensures.rings,
    )
