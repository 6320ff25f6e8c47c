use Rattle.std.proofs.Common.{◌≡◌, ◌∙◌, sym, ap, subst, Some}
use Rattle.script_text.specs.declared.uses.Use.{Use}
use Rattle.script_text.specs.declared.uses.Use.TheVariants.{OfObject}
use Rattle.script_text.specs.declared.uses.ReadUse.TheVariants.{Takes}
use Rattle.script_text.specs.Commands.{use_of}
use Rattle.walk_law.specs.Keepings.{IsCounted}
use Rattle.run_rules.specs.Told.{with_found}
use Rattle.walk_law.proofs.keeping.Keeping.found.Goals as goal

pub returns-in-OfObject-default-Takes-clause-kept : goal.returns-in-OfObject-default-Takes-clause-kept
returns-in-OfObject-default-Takes-clause-kept c replies kept found f s =
    let w = c.in-OfObject-default-Takes in
    let e : use_of c.args.what.now ≡ OfObject w.object Takes =
    sym c.use_of.ensures ∙ (w.is ∙ ap (OfObject w.object) w.read-is) in
    subst (λ (u : Use). IsCounted replies (with_found u found kept) c.keep_read.new.self) (sym e)
    (c.keep_read.ensures.kept replies kept (Some found) f s)
