use Rattle.std.proofs.Common.{refl, sym, subst, List}
use Rattle.log_node.specs.Seen.{PlacedNode}
use Rattle.script_text.specs.declared.commands.What.TheVariants as whats
use Rattle.report_text.specs.declared.report.Answer.TheVariants as answers
use Rattle.run_script.specs.Serving.{ServesLog}
use Rattle.run_script.proofs.GivingCommands.{gives_unasked}
use Rattle.run_script.proofs.serving.scans.scan.Goals as goal

pub returns-in_default : goal.returns-in_default
returns-in_default g c =
    subst (λ (nodes : List PlacedNode). ServesLog c.args.store.now c.args.client.now c.args.client.now
    (whats.Scan c.args.colours) answers.NoMemory nodes) (sym c.new.ensures)
    (gives_unasked c.args.store.now c.args.client.now (whats.Scan c.args.colours) refl c.requires.client)

pub returns-in_default-with_capacity : goal.returns-in_default-with_capacity
returns-in_default-with_capacity g c =
    subst (λ (nodes : List PlacedNode). ServesLog c.args.store.now c.args.client.now c.args.client.now
    (whats.Scan c.args.colours) answers.NoMemory nodes) (sym c.new-in_default-with_capacity.ensures)
    (gives_unasked c.args.store.now c.args.client.now (whats.Scan c.args.colours) refl c.requires.client)
