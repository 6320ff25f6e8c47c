use Rattle.std.proofs.Common.{ℕ, nat_lt, ap, sym, ◌∙◌}
use Rattle.script_beside.specs.Begins.{node_begins}
use Rattle.script_beside.proofs.begins.may_take_row.Goals as goal

pub returns-in-Named : goal.returns-in-Named
returns-in-Named c = ap (λ (n : ℕ). nat_lt 1 n) c.count.ensures ∙ ap node_begins (sym c.in-Named.is ∙ c.node_of.ensures)
