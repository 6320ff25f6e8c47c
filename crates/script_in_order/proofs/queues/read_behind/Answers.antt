use Rattle.std.proofs.Common.{ℕ, List, sym, subst}
use Rattle.log_node.specs.declared.forms.Form.TheVariants as forms
use Rattle.object_form.specs.Forms.{form_text}
use Rattle.report_text.specs.declared.report.PointPiece.{PointPiece}
use Rattle.world_code.specs.WorldView.{world_of}
use Rattle.script_in_order.specs.Folds.{IsQueueAt}
use Rattle.script_in_order.proofs.DequeueSteps.{StoodSo, entered_of, stood_so, one_there, colour_low, position_there, colour_same, behind_point, behind_ended, behind_read}
use Rattle.script_in_order.proofs.queues.read_behind.Goals as goal

pub bounds-as_slice-0 : goal.bounds-as_slice-0
bounds-as_slice-0 c =
    let command = c.args.command.now in
    let text = form_text forms.Dequeue in
    let before = c.requires.appended.0 in
    let v = world_of c.args.world.now in
    one_there command text c.args.colour before v c.in-Stood.stamp c.in-Stood.points c.as_slice.result.now
    c.as_slice.ensures
    (stood_so command text c.args.colour before v c.args.appended c.in-Stood.stamp c.in-Stood._row c.in-Stood.points
    c.in-Stood.is (entered_of command text c.args.colour before v c.args.appended c.requires.appended.1))

pub read_own-requires-clause-colour : goal.read_own-requires-clause-colour
read_own-requires-clause-colour c =
    let command = c.args.command.now in
    let text = form_text forms.Dequeue in
    let before = c.requires.appended.0 in
    let v = world_of c.args.world.now in
    colour_low command text c.args.colour before v c.in-Stood.stamp c.in-Stood.points c.as_slice.result.now
    c.as_slice.ensures
    (stood_so command text c.args.colour before v c.args.appended c.in-Stood.stamp c.in-Stood._row c.in-Stood.points
    c.in-Stood.is (entered_of command text c.args.colour before v c.args.appended c.requires.appended.1)) _
    c.args.world.now.shape.colours c.requires.colour

pub read_own-requires-clause-count : goal.read_own-requires-clause-count
read_own-requires-clause-count c =
    let command = c.args.command.now in
    let text = form_text forms.Dequeue in
    let before = c.requires.appended.0 in
    let v = world_of c.args.world.now in
    position_there command text c.args.colour before v c.in-Stood.stamp c.in-Stood.points c.as_slice.result.now
    c.as_slice.ensures
    (stood_so command text c.args.colour before v c.args.appended c.in-Stood.stamp c.in-Stood._row c.in-Stood.points
    c.in-Stood.is (entered_of command text c.args.colour before v c.args.appended c.requires.appended.1)) _

-- how the append stood
abbrev stood_text : List ℕ
stood_text = form_text forms.Dequeue

pub read_own-requires-clause-folded : goal.read_own-requires-clause-folded
read_own-requires-clause-folded c =
    let command = c.args.command.now in
    let before = c.requires.appended.0 in
    let v = world_of c.args.world.now in
    let f = c.requires.folded in (
      f.0,
      subst (λ (n : ℕ). IsQueueAt v command.client f.0 c.args.object n)
          (sym (colour_same command stood_text c.args.colour before v c.in-Stood.stamp c.in-Stood.points
          c.as_slice.result.now c.as_slice.ensures
          (stood_so command stood_text c.args.colour before v c.args.appended c.in-Stood.stamp c.in-Stood._row
          c.in-Stood.points c.in-Stood.is
          (entered_of command stood_text c.args.colour before v c.args.appended c.requires.appended.1)) _)) f.1,
      f.2,
    )

pub read_own-requires-clause-behind : goal.read_own-requires-clause-behind
read_own-requires-clause-behind c = λ fold there.
    let command = c.args.command.now in
    let before = c.requires.appended.0 in
    let v = world_of c.args.world.now in
    behind_point command stood_text c.args.colour before v c.in-Stood.stamp c.in-Stood.points
    c.as_slice.result.now c.as_slice.ensures
    (stood_so command stood_text c.args.colour before v c.args.appended c.in-Stood.stamp c.in-Stood._row
    c.in-Stood.points c.in-Stood.is
    (entered_of command stood_text c.args.colour before v c.args.appended c.requires.appended.1)) _
    c.requires.appended.3 fold.count (c.requires.appended.2 fold there)

pub returns-in-Stood-clause-folded : goal.returns-in-Stood-clause-folded
returns-in-Stood-clause-folded c = λ objects at f.
    let command = c.args.command.now in
    let before = c.requires.appended.0 in
    let v = world_of c.args.world.now in
    c.read_own.ensures.folded objects
    (subst (λ (n : ℕ). IsQueueAt v command.client objects c.args.object n)
    (sym (colour_same command stood_text c.args.colour before v c.in-Stood.stamp c.in-Stood.points
    c.as_slice.result.now c.as_slice.ensures
    (stood_so command stood_text c.args.colour before v c.args.appended c.in-Stood.stamp c.in-Stood._row
    c.in-Stood.points c.in-Stood.is
    (entered_of command stood_text c.args.colour before v c.args.appended c.requires.appended.1)) _)) at) f

pub returns-in-Stood-clause-done : goal.returns-in-Stood-clause-done
returns-in-Stood-clause-done c = λ before d.
    let command = c.args.command.now in
    let text = form_text forms.Dequeue in
    let v = world_of c.args.world.now in
    behind_read command c.args.colour before v (world_of c.read_own.new.world) c.read_own.result c.in-Stood.stamp
    c.as_slice.result.now _
    (subst (λ (l : List PointPiece). StoodSo command text c.args.colour before v c.in-Stood.stamp l)
    (sym c.as_slice.ensures)
    (stood_so command text c.args.colour before v c.args.appended c.in-Stood.stamp c.in-Stood._row c.in-Stood.points
    c.in-Stood.is (entered_of command text c.args.colour before v c.args.appended d)))
    c.read_own.ensures.reads

pub returns-in_default-clause-done : goal.returns-in_default-clause-done
returns-in_default-clause-done c = λ before d.
    behind_ended c.args.command.now c.args.colour before (world_of c.args.world.now) c.args.appended
    c.in_default.not-Stood
    (entered_of c.args.command.now (form_text forms.Dequeue) c.args.colour before (world_of c.args.world.now)
    c.args.appended d)
