use Rattle.std.proofs.Common.{◌≡◌, ℕ, List, subst}
use Rattle.std.specs.Prelude.{IfOk, codes, decimal, string_bytes}
use Rattle.load_script.specs.Summing.{lengths_text, four_from}
use Rattle.load_script.proofs.Made.{joined}
use Rattle.load_script.proofs.summary.Summary.text.Goals as goal

pub returns : goal.returns
returns c =
    let s = c.args.self.now in
    subst (λ (b : List ℕ). IfOk c.format.result (λ text. string_bytes text ≡ b))
    (joined (codes "load ") (decimal s.count) (codes "\neast ") (lengths_text (four_from s.lengths 0)) (codes "\nwest ")
    (lengths_text (four_from s.lengths 4)) (codes "\nnodes ") (decimal s.nodes) (codes " rows ") (decimal s.rows) (codes "\n"))
    c.format.ensures.ok
