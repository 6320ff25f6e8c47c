use Rattle.std.proofs.Common.{◌≡◌, take}
use Rattle.std.specs.Prelude.{not}
use Rattle.std.specs.List.{filter}
use Rattle.run_rules.specs.Telling.{is_among}
use Rattle.walk_law.specs.Walking.{places_printed}
use Rattle.walk_law.proofs.subject.Subject.steps.Given as goal

-- those so far that no reply prints
abbrev pub invariant-loop-place : goal.invariant-loop-place
invariant-loop-place l =
    l.places ≡ filter (λ p. not (is_among p (places_printed l.self l.client l.own l.colour))) (take l.place-index l.place-items)
