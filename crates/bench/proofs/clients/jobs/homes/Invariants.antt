use Rattle.std.proofs.Common.{◌≡◌, ◌<◌, length}
use Rattle.std.specs.List.{All}
use Rattle.bench.proofs.clients.jobs.homes.Given as goal

abbrev pub invariant-loop : goal.invariant-loop
invariant-loop l = record { many : length l.homes ≡ l.counter; each : All (λ home. home < 2) l.homes }
