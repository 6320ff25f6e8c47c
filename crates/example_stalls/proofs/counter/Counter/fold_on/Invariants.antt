use Rattle.std.proofs.Common.{◌≡◌}
use Rattle.example_stalls.specs.Stalls.{CountsFirst}
use Rattle.example_stalls.proofs.counter.Counter.fold_on.Given as goal

-- the counter after the nodes so far
abbrev pub invariant-loop-place : goal.invariant-loop-place
invariant-loop-place l = record {
  here : l.self.folded ≡ l.place;
  name : l.self.name ≡ l.fn.self.name;
  first : CountsFirst l.self l.nodes;
}
