use Rattle.std.proofs.Common.{◌∙◌, ℕ, List, ap, arith, length, sym}
use Rattle.std.specs.Prelude.{slice_index}
use Rattle.std.proofs.lemmas.List.{get_or-take, length-take-le}
use Rattle.walk_law.specs.Keepings.{Counted, known_at}
use Rattle.walk_law.proofs.keeping.Keeping.known_in_all.Goals as goal

pub slice_bounds-result-end : goal.slice_bounds-result-end
slice_bounds-result-end c =
    let long = c.self.invariant.known_len in
    let same = ap length c.deref.ensures.value in
    sym (length-take-le 64 c.deref.result.now (omega (arith, long, same)))

pub returns-clause-many : goal.returns-clause-many
returns-clause-many c =
    let long = c.self.invariant.known_len in
    let same = ap length c.deref.ensures.value in
    length-take-le 64 c.deref.result.now (omega (arith, long, same))

pub returns-clause-each : goal.returns-clause-each
returns-clause-each c = λ colour low.
    get_or-take 64 c.deref.result.now colour 0 low
    ∙ (ap (λ (l : List ℕ). slice_index l colour) c.deref.ensures.value
    ∙ ap (λ (k : Counted). known_at k colour) c.self.view_is)
