use Rattle.chain_store.specs.Holds.{IsHold}
use Rattle.tests_log.specs.Clients.{IsClient}
use Rattle.tests_log.proofs.tests.looks.do_steps.Given as goal

abbrev pub invariant-loop-place : goal.invariant-loop-place
invariant-loop-place g l = record {
  one : IsClient l.region 0 l.place l.one;
  two : IsHold l.region l.two;
  three : IsHold l.region l.three;
}
