use Rattle.std.proofs.Common.{arith}
use Rattle.script_text.specs.declared.script.Reason.TheVariants as reasons
use Rattle.script_text.proofs.NameLemmas.{number_ok}
use Rattle.script_text.proofs.names.new_colour.Goals as goal

pub has-requires : goal.has-requires
has-requires c =
    let below = (number_ok reasons.UnknownColour c.args.names.now c.args.field.now c.in_ok-colour.colour c.in_ok-colour.ensures).0 in
    omega (arith, below, c.requires)

pub returns-clause-below : goal.returns-clause-below
returns-clause-below c = (number_ok reasons.UnknownColour c.args.names.now c.args.field.now c.in_ok-colour.colour c.in_ok-colour.ensures).0
