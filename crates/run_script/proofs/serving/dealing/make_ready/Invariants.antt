use Rattle.std.proofs.Common.{map}
use Rattle.run_script.specs.Dealing.{AreIdle}
use Rattle.run_script.proofs.serving.dealing.make_ready.Given as goal

-- the clients so far, each with its share
abbrev pub invariant-loop-client : goal.invariant-loop-client
invariant-loop-client l = AreIdle l.objects (map (λ p. p.0) l.yielded) (map (λ p. p.1) l.yielded) l.served.items
