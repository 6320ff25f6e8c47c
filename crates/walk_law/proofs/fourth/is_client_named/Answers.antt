use Rattle.std.proofs.Common.{subst, Option}
use Rattle.lawful_run.specs.Callers.{caller_of}
use Rattle.walk_law.specs.Fourth.{NamesAll}
use Rattle.walk_law.specs.Keepings.{Counted}
use Rattle.walk_law.specs.Walking.{WalksTo}
use Rattle.walk_law.proofs.FourthLemmas.{client_named}
use Rattle.walk_law.proofs.fourth.is_client_named.Goals as goal

pub returns-in-Some : goal.returns-in-Some
returns-in-Some c =
    let walked = c.args.subject.now in
    let client = c.args.client in
    client_named walked c.agrees.ensures.may.0 c.agrees.ensures.may.1 client c.in-Some.keeping c.has_made.result
    (subst (λ (o : Option Counted). WalksTo walked client (NamesAll walked (caller_of walked.script client)) o) c.in-Some.is
    c.in_ok-keeping.ensures) c.has_made.ensures
