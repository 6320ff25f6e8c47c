use Rattle.std.proofs.Common.{refl}
use Rattle.append_core.specs.Helping.{HelpsOpen}
use Rattle.chain_store.proofs.CallerLemmas.{goes_same, later_same}
use Rattle.append_core.proofs.stands.line_position.Goals as goal

pub returns-in-Some-clause-seat : goal.returns-in-Some-clause-seat
returns-in-Some-clause-seat g c = later_same c.args.hold.now.seat

pub returns-in-Some-clause-goes : goal.returns-in-Some-clause-goes
returns-in-Some-clause-goes g c =
    goes_same (λ k e. HelpsOpen c.args.hold.now c.args.hold.now e) c.args.hold.now c.args.hold.now refl
