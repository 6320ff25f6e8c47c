use Rattle.std.proofs.Common.{subst, sym}
use Rattle.lawful_run.specs.Callers.{caller_of}
use Rattle.walk_law.specs.Fourth.{Sees}
use Rattle.walk_law.proofs.FourthLemmas.{and_told, ok_to}
use Rattle.walk_law.proofs.fourth.names_begun.Goals as goal

pub returns : goal.returns
returns c = λ kept untold s ids left_out.
    let caller = caller_of c.args.subject.now.script c.args.seen.now.client in
    ok_to c.names_steps.result _ _ (λ b named. and_told _ _ b named)
    (c.names_steps.ensures kept kept untold s (subst (Sees caller kept) (sym c.copied-behind.ensures) s) ids left_out)
