use Rattle.std.proofs.Common.{◌∙◌, ◌≡◌, List, ℕ, ap, subst}
use Rattle.std.specs.Prelude.{IfOk}
use Rattle.std.specs.Option.{option_copied}
use Rattle.lawful_run.specs.Asks.{object_colours}
use Rattle.walk_law.proofs.AskedIs.{asked_is}
use Rattle.walk_law.proofs.asked.colours_asked.Goals as goal

pub returns : goal.returns
returns c = λ caller kept at found.
    subst (λ (l : List ℕ). IfOk c.asked_of.result (λ asked. asked ≡ l))
    (asked_is caller kept c.colours_of.result.now (option_copied c.args.found) c.args.what.now
    (c.colours_of.ensures ∙ ap object_colours (c.kind_asked.ensures.kind caller at)) found) c.asked_of.ensures
