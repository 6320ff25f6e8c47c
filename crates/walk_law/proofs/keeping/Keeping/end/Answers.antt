use Rattle.std.proofs.Common.{◌≡◌, ◌∙◌, sym, ap, subst, None}
use Rattle.script_text.specs.declared.uses.Use.{Use}
use Rattle.script_text.specs.declared.uses.Use.TheVariants.{OfObject}
use Rattle.script_text.specs.declared.uses.ReadUse.TheVariants.{UsesUp}
use Rattle.script_text.specs.Commands.{use_of}
use Rattle.lawful_run.specs.Refusals.{behind_by}
use Rattle.walk_law.specs.Keepings.{IsCounted}
use Rattle.walk_law.proofs.keeping.Keeping.end.Goals as goal

pub returns-in-OfObject-default-UsesUp-clause-kept : goal.returns-in-OfObject-default-UsesUp-clause-kept
returns-in-OfObject-default-UsesUp-clause-kept c replies kept s =
    let w = c.in-OfObject-default-UsesUp in
    let e : use_of c.args.what.now ≡ OfObject w.object UsesUp =
    sym c.use_of.ensures ∙ (w.is ∙ ap (OfObject w.object) w.read-is) in
    subst (λ (u : Use). IsCounted replies (behind_by u kept) c.keep_read.new.self) (sym e)
    (c.keep_read.ensures.kept replies kept None tt s)
