use Rattle.std.proofs.Common.{ap, ℕ, Some, None, ◌≢◌}
use Rattle.run_script.proofs.GivingCommands.{not_stopped, gives_full_stop, gives_stopped, gives_no_stop}
use Rattle.run_script.proofs.serving.appends.stop.Goals as goal

some : {n : ℕ} → Some n ≢ None
some e = let f : ⊥ = cc (e) in f

pub returns-in-Err-Full : goal.returns-in-Err-Full
returns-in-Err-Full g c =
    let e = c.in-Err-Full.ensures in
    gives_full_stop c.args.store.now c.args.client.now c.append.new.self e.client e.same e.goes e.grows c.args.colours c.args.text
    c.args.steps (e.idle some) c.in-Err-Full.used
    (λ none. absurd (let at_once = (e.at_once (ap Some none)).0 in
    let fault = c.in-Err-Full.field-0-is in let no : ⊥ = cc (at_once, fault) in no))
    (not_stopped c.args.client.now c.append.new.self _ (λ steps f. absurd (let fault = c.in-Err-Full.field-0-is in
    let no : ⊥ = cc (f, fault) in no)) e.finished)
    (rw c.in-Err-Full.field-0-is at e.err)

pub returns-in-Err-Stopped : goal.returns-in-Err-Stopped
returns-in-Err-Stopped g c =
    let e = c.in-Err-Stopped.ensures in
    gives_stopped c.args.store.now c.args.client.now c.append.new.self e.client e.same e.goes e.grows c.args.colours c.args.text
    c.args.steps (e.idle some) c.in-Err-Stopped.steps (rw c.in-Err-Stopped.field-0-is at e.err)

pub returns-in-Err-NoMemory : goal.returns-in-Err-NoMemory
returns-in-Err-NoMemory g c =
    let e = c.in-Err-NoMemory.ensures in
    gives_no_stop c.args.store.now c.args.client.now c.append.new.self e.client e.same e.goes e.grows c.args.colours c.args.text
    c.args.steps (e.idle some)
    (not_stopped c.args.client.now c.append.new.self _ (λ steps f. absurd (let fault = c.in-Err-NoMemory.field-0-is in
    let no : ⊥ = cc (f, fault) in no)) e.finished)
    (rw c.in-Err-NoMemory.field-0-is at e.err)
