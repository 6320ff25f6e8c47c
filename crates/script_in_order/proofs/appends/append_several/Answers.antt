use Rattle.std.proofs.Common.{◌≡◌, ◌∙◌, ◌<◌, [], ◌∷◌, List, ap, sym, subst, ℕ, length, map}
use Rattle.std.specs.List.{All}
use Rattle.log_node.specs.Sets.{members}
use Rattle.log_node.specs.declared.node.Shape.{Shape}
use Rattle.log_node.specs.declared.ids.Row.{Row}
use Rattle.log_node.specs.declared.ids.Id.{Id}
use Rattle.log_node.specs.declared.ids.Colours.{Colours}
use Rattle.report_text.specs.declared.report.PointPiece.{PointPiece}
use Rattle.report_text.specs.declared.report.Answer.TheVariants as answers
use Rattle.world_laws.specs.declared.steps.Step.TheVariants.{Begin}
use Rattle.world_laws.specs.Laws.{IsBounded, CanComplete, RowsStay, IsReached}
use Rattle.world_laws.specs.Completing.{complete_steps}
use Rattle.world_laws.specs.Worlds.{World, run_steps}
use Rattle.world_laws.proofs.CallerLemmas.{of_reached, after_reached}
use Rattle.world_code.specs.declared.completing.Completed.{Completed}
use Rattle.world_code.specs.Completed.{IsCompleted}
use Rattle.world_code.specs.Replies.{begun_reply}
use Rattle.world_code.specs.WorldView.{world_of}
use Rattle.script_meaning.specs.Appends.{appended_several}
use Rattle.script_in_order.specs.Doing.{DoneBy}
use Rattle.script_in_order.proofs.FirstSteps.{Begins, begins, fills, nothing_begun}
use Rattle.script_in_order.proofs.Finals.{several_final, several_begun, run_shape}
use Rattle.script_in_order.proofs.ListsChanged.{colours_of_places}
use Rattle.script_in_order.proofs.AppendsAndStops.{fills_several, ends_several}
use Rattle.script_in_order.proofs.appends.append_several.Goals as goal

-- the shape stays
shape_then : (w w1 w2 : World) (client : ℕ) (colours : Colours) (text : List ℕ) (row : Row) (id : Id)
    (completed : Completed)
    → Begins w client colours text row id w1 → IsCompleted w1 client row w2 completed → w2.shape ≡ w.shape
shape_then w w1 w2 client colours text row id completed b done =
    run_shape w w2 (Begin client colours text ∷ complete_steps w1 client row done.found)
    (ap (λ (x : World). run_steps x (complete_steps w1 client row done.found)) (sym b.world) ∙ sym done.world)

pub complete-completed-requires : goal.complete-completed-requires
complete-completed-requires c =
    (begins (world_of c.args.world.now) c.args.command.now.client c.args.colours c.in_ok-text.text c.in-Some.begun.row
    c.in-Some.begun.id
    (world_of c.begin.new.self) (ap begun_reply (sym c.in-Some.is) ∙ c.in_ok-new.ensures.reply) c.in_ok-new.ensures.ok).begun

pub end-requires : goal.end-requires
end-requires c =
    let w = world_of c.args.world.now in
    let w1 = world_of c.begin.new.self in
    let w2 = world_of c.complete-completed.new.self in
    let client = c.args.command.now.client in
    let row = c.in-Some.begun.row in
    let done = c.complete-completed.ensures in
    let b = begins w client c.args.colours c.in_ok-text.text row c.in-Some.begun.id w1
    (ap begun_reply (sym c.in-Some.is) ∙ c.in_ok-new.ensures.reply) c.in_ok-new.ensures.ok in
    let shape = shape_then w w1 w2 client c.args.colours c.in_ok-text.text row c.in-Some.begun.id c.complete-completed.result
    b done in
    let reached : IsReached w1 =
    subst IsReached (sym b.world) (after_reached w (Begin client c.args.colours c.in_ok-text.text)
    c.is_whole.ensures.reached) in
    let mine : client ≡ row.client = ap (λ (r : Row). r.client) (sym b.row_is) in record {
      caller = subst (λ (n : ℕ). n < length c.complete-completed.new.self.shape.homes) mine
          (subst (λ (s : Shape). client < length s.homes) (sym shape) c.requires.caller);
      within = subst (λ (s : Shape). All (λ k. k < s.colours) (members c.args.colours)) (sym shape) c.requires.within;
      begun = several_begun w1 w2 client row c.complete-completed.result
          (of_reached RowsStay c.log_only_grows.ensures.rows w1 reached) b.begun done;
      placed = ap (map (λ (p : PointPiece). p.colour)) c.in_ok-places.ensures ∙ colours_of_places w client
          (members c.args.colours);
      decided = done.decided;
      stamped = several_final w w1 w2 client c.args.colours c.in_ok-text.text row c.in-Some.begun.id
          c.complete-completed.result
          (of_reached CanComplete c.can_complete.ensures w1 reached) b done;
    }

pub returns-in-Some-clause-ok : goal.returns-in-Some-clause-ok
returns-in-Some-clause-ok c =
    let w = world_of c.args.world.now in
    let w1 = world_of c.begin.new.self in
    let b = begins w c.args.command.now.client c.args.colours c.in_ok-text.text c.in-Some.begun.row c.in-Some.begun.id w1
    (ap begun_reply (sym c.in-Some.is) ∙ c.in_ok-new.ensures.reply) c.in_ok-new.ensures.ok in
    subst (λ (t : List ℕ). DoneBy (λ grants state. appended_several grants state c.args.command.now c.args.colours t)
    c.args.command.now w (world_of c.end.new.world) c.end.result []) (c.in_ok-text.ensures ∙ c.as_bytes.ensures)
    (ends_several c.args.command.now c.args.colours c.in_ok-text.text c.in-Some.begun.row c.in-Some.begun.id
    c.complete-completed.result
    c.in_ok-places.places.items w w1 (world_of c.complete-completed.new.self) (world_of c.end.new.world) c.end.result b
    c.complete-completed.ensures c.in_ok-places.ensures c.end.ensures)

pub returns-in-None-clause-ok : goal.returns-in-None-clause-ok
returns-in-None-clause-ok c =
    let w = world_of c.args.world.now in
    let client = c.args.command.now.client in
    let whole = c.is_whole.ensures in
    let answer = ap begun_reply (sym c.in-None.is) ∙ c.in_ok-new.ensures.reply in
    let same = nothing_begun w (world_of c.begin.new.self) client c.args.colours c.in_ok-text.text answer
    c.in_ok-new.ensures.ok in
    let full = fills w client c.args.colours c.in_ok-text.text c.requires.caller
    (whole.homes client 0 c.requires.caller)
    c.requires.many c.requires.within (of_reached IsBounded c.is_lawful.ensures.bounds w whole.reached) answer in
    subst (λ (x : World). DoneBy
    (λ grants state. appended_several grants state c.args.command.now c.args.colours c.args.text.now) c.args.command.now w
    x
    (answers.Full c.shape.result.now.rows) []) (sym same)
    (fills_several c.args.command.now c.args.colours c.args.text.now c.shape.result.now.rows w full
    (ap (λ (s : Shape). s.rows) c.shape.ensures ∙ ap (λ (x : World). x.shape.rows) same))
