use Rattle.std.proofs.Common.{ℕ, List, take}
use Rattle.std.specs.List.{All}
use Rattle.log_node.specs.declared.node.Node.{Node}
use Rattle.lawful_run.specs.Callers.{caller_of}
use Rattle.lawful_run.specs.Moves.{GivesTooLow}
use Rattle.run_rules.specs.Telling.{log_of}
use Rattle.walk_law.proofs.subject.Subject.give_too_low.Given as goal

-- all so far
abbrev pub invariant-loop-place : goal.invariant-loop-place
invariant-loop-place l = (told : ℕ → List Node) → All (GivesTooLow (log_of l.self.report told) (caller_of l.self.script l.client)
    l.region l.colour l.seen l.until) (take l.place-index l.places)
