use Rattle.run_script.proofs.GivingCommands.{gives_pulled, gives_same_region, gives_gave}
use Rattle.run_script.proofs.serving.moves.pull.Goals as goal

pub returns-in-Ok : goal.returns-in-Ok
returns-in-Ok g c =
    let e = c.in-Ok.ensures in
    gives_pulled c.args.store.now c.args.client.now c.pull.new.self e.client e.same e.goes e.grows e.finished e.idle c.args.region
    c.args.colour c.in-Ok.pulled e.ok

pub returns-in-Err-SameRegion : goal.returns-in-Err-SameRegion
returns-in-Err-SameRegion g c =
    let e = c.in-Err-SameRegion.ensures in
    gives_same_region c.args.store.now c.args.client.now c.pull.new.self e.client e.same e.goes e.grows e.finished e.idle
    c.args.region c.args.colour (rw c.in-Err-SameRegion.field-0-is at e.err)

pub returns-in-Err-NoMemory : goal.returns-in-Err-NoMemory
returns-in-Err-NoMemory g c =
    let e = c.in-Err-NoMemory.ensures in
    gives_gave c.args.store.now c.args.client.now c.pull.new.self e.client e.same e.goes e.grows e.finished e.idle c.args.region
    c.args.colour (rw c.in-Err-NoMemory.field-0-is at e.err)
