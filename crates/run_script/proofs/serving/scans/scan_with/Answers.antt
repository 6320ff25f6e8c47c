use Rattle.std.proofs.Common.{◌∙◌, ap, sym, subst, arith, length, List}
use Rattle.std.proofs.lemmas.List.{length-map}
use Rattle.log_node.specs.Seen.{PlacedNode}
use Rattle.log_client.specs.declared.answers.Raised.{Raised}
use Rattle.log_client.specs.declared.answers.Synced.{Synced}
use Rattle.script_text.specs.declared.commands.What.TheVariants as whats
use Rattle.report_text.specs.declared.report.Answer.TheVariants as answers
use Rattle.run_script.specs.Serving.{ServesLog}
use Rattle.run_script.proofs.GivingScans.{gives_scan, gives_scan_trimmed, gives_scan_without}
use Rattle.run_script.proofs.serving.scans.scan_with.Goals as goal

pub read_shown-requires-clause-raises_room : goal.read_shown-requires-clause-raises_room
read_shown-requires-clause-raises_room g c =
    let long = sym (length-map c.in-Ok.read.raises (λ (r : Raised). r.colour)) ∙ ap length c.in-Ok.ensures.raises in
    let room = c.requires.raises_room in
    omega (arith, long, room)

pub read_shown-requires-clause-syncs_room : goal.read_shown-requires-clause-syncs_room
read_shown-requires-clause-syncs_room g c =
    let long = sym (length-map c.in-Ok.read.syncs (λ (y : Synced). y.snapshot.colour)) ∙ ap length c.in-Ok.ensures.syncs in
    let room = c.requires.syncs_room in
    omega (arith, long, room)

pub returns-in-Ok : goal.returns-in-Ok
returns-in-Ok g c =
    let e = c.in-Ok.ensures in
    gives_scan c.args.store.now c.args.client.now c.stamped_read.new.self e.client e.same e.goes e.grows e.finished c.args.colours
    c.in-Ok.read c.read_shown.result.0 c.read_shown.result.1 c.read_shown.ensures.answer c.read_shown.ensures.items e.ok

pub returns-in-Err-Trimmed : goal.returns-in-Err-Trimmed
returns-in-Err-Trimmed g c =
    let e = c.in-Err-Trimmed.ensures in
    subst (λ (nodes : List PlacedNode). ServesLog c.args.store.now c.args.client.now c.stamped_read.new.self
    (whats.Scan c.args.colours) (answers.Trimmed c.in-Err-Trimmed.colour c.in-Err-Trimmed.base) nodes) (sym c.new.ensures)
    (gives_scan_trimmed c.args.store.now c.args.client.now c.stamped_read.new.self e.client e.same e.goes e.grows e.finished
    c.args.colours c.in-Err-Trimmed.colour c.in-Err-Trimmed.base (rw c.in-Err-Trimmed.field-0-is at e.err))

pub returns : goal.returns
returns g c =
    let e = c.in-Err-NoMemory.ensures in
    subst (λ (nodes : List PlacedNode). ServesLog c.args.store.now c.args.client.now c.stamped_read.new.self
    (whats.Scan c.args.colours) answers.NoMemory nodes) (sym c.new-in-Err-NoMemory.ensures)
    (gives_scan_without c.args.store.now c.args.client.now c.stamped_read.new.self e.client e.same e.goes e.grows e.finished
    c.args.colours (rw c.in-Err-NoMemory.field-0-is at e.err))
