use Rattle.std.proofs.Common.{refl, append-nil, rules}
use Rattle.report_text.proofs.Outputs.{writes}
use Rattle.report_text.proofs.page.Page.flush.Goals as goal

pub returns-clause-all : goal.returns-clause-all
returns-clause-all g c = writes _ _ _ _ c.write_all.result refl c.if-self.false (search rules) (append-nil _) c.clear-2.ensures (rw c.as_slice.ensures at c.write_all.ensures.ok) (rw c.as_slice.ensures at c.write_all.ensures.front) c.write_all.ensures.cause
