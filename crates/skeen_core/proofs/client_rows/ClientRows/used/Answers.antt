use Rattle.std.proofs.Common.{ap, sym, ◌∙◌, arith, length}
use Rattle.skeen_core.proofs.KeptRows.{rows-length}
use Rattle.skeen_core.proofs.client_rows.ClientRows.used.Goals as goal

pub returns-clause-value : goal.returns-clause-value
returns-clause-value c =
    let i = c.self.inside in
    c.len.ensures ∙ (i.begun.ok.0 ∙ (sym (rows-length i.colours i.marks.items 0 i.begun.items)
    ∙ ap (λ r. length r.begun) c.self.view_is))

pub returns-clause-bound : goal.returns-clause-bound
returns-clause-bound c =
    let i = c.self.inside in
    let long = rows-length i.colours i.marks.items 0 i.begun.items in
    let same = ap (λ r. length r.begun) c.self.view_is in
    let rows = ap (λ r. r.rows) c.self.view_is in
    let few = c.self.invariant.begun in
    omega (arith, long, same, rows, few)
