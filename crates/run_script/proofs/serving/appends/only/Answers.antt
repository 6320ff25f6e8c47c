use Rattle.std.proofs.Common.{refl}
use Rattle.script_text.specs.declared.commands.What.TheVariants as whats
use Rattle.run_script.proofs.GivingCommands.{gives_unasked}
use Rattle.run_script.proofs.serving.appends.only.Goals as goal

pub returns-in-Err : goal.returns-in-Err
returns-in-Err g c =
    gives_unasked c.args.store.now c.args.client.now (whats.Only c.args.colour c.args.text) refl c.requires.client
