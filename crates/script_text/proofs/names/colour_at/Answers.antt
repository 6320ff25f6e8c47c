use Rattle.script_text.specs.declared.script.Reason.TheVariants as reasons
use Rattle.script_text.proofs.NameLemmas.{number_ok}
use Rattle.script_text.proofs.names.colour_at.Goals as goal

pub returns-clause-below : goal.returns-clause-below
returns-clause-below c = (number_ok reasons.UnknownColour c.args.names.now c.args.field.now c.in_ok-colour.colour c.in_ok-colour.ensures).0
