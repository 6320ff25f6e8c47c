use Rattle.std.proofs.Common.{◌∙◌, ap, sym, subst, arith, List, [], map, length}
use Rattle.script_text.specs.declared.commands.What.TheVariants as whats
use Rattle.report_text.specs.declared.report.Answer.TheVariants as answers
use Rattle.report_text.specs.declared.report.PointPiece.{PointPiece}
use Rattle.log_client.specs.Appends.{piece_of}
use Rattle.run_script.specs.Serving.{ServesLog}
use Rattle.run_script.proofs.GivingGuarded.{gives_next, gives_moved, gives_no_stamp, gives_not_done}
use Rattle.run_script.proofs.serving.appends.only_with.Goals as goal

pub shown-requires-clause-room : goal.shown-requires-clause-room
shown-requires-clause-room g c =
    let one = ap length c.in-Ok.ensures.point.2 in
    let seen = ap length c.as_slice.ensures in
    let room = c.requires.room in
    omega (arith, one, seen, room)

pub returns-in-Ok : goal.returns-in-Ok
returns-in-Ok g c =
    let e = c.in-Ok.ensures in
    let a = c.in-Ok.appended in
    subst (λ (points : List PointPiece). ServesLog c.args.store.now c.args.client.now c.only.new.self
    (whats.Only c.args.colour c.args.text) (answers.Stood a.stood.key.stamp a.row points) [])
    (sym (c.shown.ensures ∙ ap (map piece_of) c.as_slice.ensures))
    (gives_next c.args.store.now c.args.client.now c.only.new.self e.client e.idle c.args.colour c.args.text a e.ok)

pub returns-in-Err-Moved : goal.returns-in-Err-Moved
returns-in-Err-Moved g c =
    let e = c.in-Err-Moved.ensures in
    gives_moved c.args.store.now c.args.client.now c.only.new.self e.client e.idle c.args.colour c.args.text
    c.in-Err-Moved.length c.in-Err-Moved.waiting c.in-Err-Moved.events (rw c.in-Err-Moved.field-0-is at e.err)

pub returns-in-Err-StampEnd : goal.returns-in-Err-StampEnd
returns-in-Err-StampEnd g c =
    let e = c.in-Err-StampEnd.ensures in
    let is = rw c.in-Err-StampEnd.field-0-is at e.err in
    gives_no_stamp c.args.store.now c.args.client.now c.only.new.self e.client e.idle c.args.colour c.args.text is.2

pub returns : goal.returns
returns g c =
    let e = c.in-Err-NoMemory.ensures in
    gives_not_done c.args.store.now c.args.client.now c.only.new.self e.client e.idle c.args.colour c.args.text
    (rw c.in-Err-NoMemory.field-0-is at e.err)
