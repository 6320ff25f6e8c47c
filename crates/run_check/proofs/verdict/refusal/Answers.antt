use Rattle.std.proofs.Common.{◌≡◌, ℕ, List, subst}
use Rattle.std.specs.Prelude.{IfOk, codes, decimal, string_bytes}
use Rattle.run_check.proofs.VerdictLemmas.{joined}
use Rattle.run_check.proofs.verdict.refusal.Goals as goal

pub returns : goal.returns
returns c =
    subst (λ (b : List ℕ). IfOk c.format.result (λ text. string_bytes text ≡ b))
    (joined (codes "refused: line ") (decimal c.args.line) (codes ": ") c.args.why.now (codes "\n"))
    c.format.ensures.ok
