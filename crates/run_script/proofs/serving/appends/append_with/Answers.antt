use Rattle.std.proofs.Common.{◌∙◌, ap, sym, subst, arith, List, [], map, length}
use Rattle.std.proofs.lemmas.List.{length-map}
use Rattle.append_core.specs.declared.stood.Point.{Point}
use Rattle.script_text.specs.declared.commands.What.TheVariants as whats
use Rattle.report_text.specs.declared.report.Answer.TheVariants as answers
use Rattle.report_text.specs.declared.report.PointPiece.{PointPiece}
use Rattle.log_client.specs.Appends.{piece_of}
use Rattle.run_script.specs.Serving.{ServesLog}
use Rattle.run_script.proofs.GivingCommands.{not_stopped, gives_stood, gives_full, gives_ended, gives_gone}
use Rattle.run_script.proofs.serving.appends.append_with.Goals as goal

pub shown-requires-clause-room : goal.shown-requires-clause-room
shown-requires-clause-room g c =
    let points = c.in-Ok.appended.stood.points in
    let long = sym (length-map points (λ (p : Point). p.colour)) ∙ ap length c.in-Ok.ensures.points in
    let seen = ap length c.as_slice.ensures in
    let room = c.requires.room in
    omega (arith, long, seen, room)

pub returns-in-Ok : goal.returns-in-Ok
returns-in-Ok g c =
    let e = c.in-Ok.ensures in
    let a = c.in-Ok.appended in
    subst (λ (points : List PointPiece). ServesLog c.args.store.now c.args.client.now c.append.new.self
    (whats.Append c.args.colours c.args.text) (answers.Stood a.stood.key.stamp a.row points) [])
    (sym (c.shown.ensures ∙ ap (map piece_of) c.as_slice.ensures))
    (gives_stood c.args.store.now c.args.client.now c.append.new.self e.client e.same e.goes e.grows c.args.colours c.args.text a
    (not_stopped c.args.client.now c.append.new.self _ (λ steps f. absurd (let no : ⊥ = cc (f) in no)) e.finished) e.ok)

pub returns-in-Err-Full : goal.returns-in-Err-Full
returns-in-Err-Full g c =
    let e = c.in-Err-Full.ensures in
    gives_full c.args.store.now c.args.client.now c.append.new.self e.client e.same e.goes e.grows c.args.colours c.args.text
    c.in-Err-Full.used
    (not_stopped c.args.client.now c.append.new.self _ (λ steps f. absurd (let fault = c.in-Err-Full.field-0-is in
    let no : ⊥ = cc (f, fault) in no)) e.finished)
    (rw c.in-Err-Full.field-0-is at e.err)

pub returns-in-Err-StampEnd : goal.returns-in-Err-StampEnd
returns-in-Err-StampEnd g c =
    let e = c.in-Err-StampEnd.ensures in
    gives_ended c.args.store.now c.args.client.now c.append.new.self e.client e.same e.goes e.grows c.args.colours c.args.text
    c.in-Err-StampEnd.colour
    (not_stopped c.args.client.now c.append.new.self _ (λ steps f. absurd (let fault = c.in-Err-StampEnd.field-0-is in
    let no : ⊥ = cc (f, fault) in no)) e.finished)
    (rw c.in-Err-StampEnd.field-0-is at e.err)

pub returns : goal.returns
returns g c =
    let e = c.in-Err-NoMemory.ensures in
    gives_gone c.args.store.now c.args.client.now c.append.new.self e.client e.same e.goes e.grows c.args.colours c.args.text
    (not_stopped c.args.client.now c.append.new.self _ (λ steps f. absurd (let fault = c.in-Err-NoMemory.field-0-is in
    let no : ⊥ = cc (f, fault) in no)) e.finished)
    (rw c.in-Err-NoMemory.field-0-is at e.err)
