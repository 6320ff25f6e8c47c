use Rattle.std.proofs.Common.{refl}
use Rattle.script_text.specs.declared.commands.What.TheVariants as whats
use Rattle.run_script.proofs.Giving.{gives_nothing}
use Rattle.run_script.proofs.GivingCommands.{gives_trimmed}
use Rattle.run_script.proofs.serving.moves.trim.Goals as goal

pub returns-in-Ok : goal.returns-in-Ok
returns-in-Ok g c =
    let e = c.in-Ok.ensures in
    gives_trimmed c.args.store.now c.args.client.now c.trim.new.self e.client e.same e.goes e.grows e.finished e.idle c.args.colour
    c.snapshot.result.counts c.in-Ok.at c.in-Ok.base c.snapshot.ensures.counts e.ok

pub returns-in-Err-NoMemory : goal.returns-in-Err-NoMemory
returns-in-Err-NoMemory g c =
    let e = c.in-Err-NoMemory.ensures in
    gives_nothing c.args.store.now c.args.client.now c.trim.new.self e.client e.same e.goes e.grows e.finished e.idle
    (whats.Trim c.args.colour) refl (rw c.in-Err-NoMemory.field-0-is at e.err).1
