use Rattle.tests_log.specs.Clients.{HoldsBoth}
use Rattle.tests_log.proofs.tests.rings.do_steps.Given as goal

abbrev pub invariant-loop-place : goal.invariant-loop-place
invariant-loop-place g l = record {
  one : HoldsBoth l.east l.west 0 l.one.east l.one.west;
  two : HoldsBoth l.east l.west 1 l.two.east l.two.west;
}
