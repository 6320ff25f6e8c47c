use Rattle.std.proofs.Common.{refl, subst, sym, List}
use Rattle.log_node.specs.Seen.{PlacedNode}
use Rattle.script_text.specs.declared.commands.What.TheVariants as whats
use Rattle.report_text.specs.declared.report.Answer.TheVariants as answers
use Rattle.run_script.specs.Serving.{ServesLog}
use Rattle.run_script.proofs.Giving.{gives_sync, gives_sync_trimmed, gives_nothing}
use Rattle.run_script.proofs.serving.syncs.sync.Goals as goal

pub returns-in-Ok : goal.returns-in-Ok
returns-in-Ok g c =
    let e = c.in-Ok.ensures in
    gives_sync c.args.store.now c.args.client.now c.sync_shown.new.self e.client e.same e.goes e.grows e.finished e.idle c.args.colour
    c.len-plays.result c.in-Ok.synced c.in-Ok.nodes e.nodes c.len-plays.ensures e.ok

pub returns-in-Err-Trimmed : goal.returns-in-Err-Trimmed
returns-in-Err-Trimmed g c =
    let e = c.in-Err-Trimmed.ensures in
    subst (λ (nodes : List PlacedNode). ServesLog c.args.store.now c.args.client.now c.sync_shown.new.self
    (whats.Sync c.args.colour) (answers.Trimmed c.in-Err-Trimmed.colour c.in-Err-Trimmed.base) nodes) (sym c.new.ensures)
    (gives_sync_trimmed c.args.store.now c.args.client.now c.sync_shown.new.self e.client e.same e.goes e.grows e.finished e.idle
    c.args.colour c.in-Err-Trimmed.colour c.in-Err-Trimmed.base (rw c.in-Err-Trimmed.field-0-is at e.err))

pub returns-in-Err-NoMemory : goal.returns-in-Err-NoMemory
returns-in-Err-NoMemory g c =
    let e = c.in-Err-NoMemory.ensures in
    subst (λ (nodes : List PlacedNode). ServesLog c.args.store.now c.args.client.now c.sync_shown.new.self
    (whats.Sync c.args.colour) answers.NoMemory nodes) (sym c.new-in-Err-NoMemory.ensures)
    (gives_nothing c.args.store.now c.args.client.now c.sync_shown.new.self e.client e.same e.goes e.grows e.finished e.idle
    (whats.Sync c.args.colour) refl (rw c.in-Err-NoMemory.field-0-is at e.err))
