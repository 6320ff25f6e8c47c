use Rattle.std.proofs.Common.{refl, rules, ap, ◌++◌}
use Rattle.report_text.proofs.Outputs.{writes}
use Rattle.report_text.proofs.page.Page.begin.Goals as goal

pub returns : goal.returns
returns g c = writes _ _ _ _ c.write_all.result refl c.if-self.false (search rules) (ap (λ w. w ++ c.args.piece.now) c.requires) c.requires c.write_all.ensures.ok c.write_all.ensures.front c.write_all.ensures.cause
