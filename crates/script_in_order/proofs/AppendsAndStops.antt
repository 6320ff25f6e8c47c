-- Appends and stops, by what their calls did.
use Rattle.std.proofs.Common.{◌≡◌, ℕ, suc, Bool, true, false, List, [], ◌∷◌, ◌++◌, length, map, take, Some, None, refl}
use Rattle.std.proofs.Common.{ap, sym, subst, ◌∙◌}
use Rattle.std.specs.Prelude.{if◌then◌else◌}
use Rattle.log_node.specs.declared.ids.Id.{Id}
use Rattle.log_node.specs.declared.ids.Row.{Row}
use Rattle.log_node.specs.declared.ids.Colours.{Colours}
use Rattle.log_node.specs.declared.node.At.TheVariants.{Event}
use Rattle.log_node.specs.Sets.{members}
use Rattle.log_node.specs.declared.marks.Outcome.TheVariants.{Gone, Final}
use Rattle.log_node.specs.declared.marks.Why.TheVariants.{Memory, StampEnd}
use Rattle.std.specs.List.{fold}
use Rattle.col_core.specs.History.{entry_key, line}
use Rattle.world_laws.specs.declared.steps.Step.TheVariants.{Begin, Single, Seen}
use Rattle.world_laws.specs.Worlds.{World, after, run_steps, home_history, row_of, may_single, single_stamp, next_id}
use Rattle.world_laws.specs.Worlds.{next_row}
use Rattle.world_laws.specs.Completing.{complete_steps}
use Rattle.world_code.specs.Completed.{IsCompleted, IsPartCompleted}
use Rattle.world_code.specs.declared.completing.Completed.{Completed}
use Rattle.script_text.specs.declared.script.Command.{Command}
use Rattle.report_text.specs.declared.report.Answer.{Answer}
use Rattle.report_text.specs.declared.report.Answer.TheVariants as answers
use Rattle.report_text.specs.declared.report.PointPiece.{PointPiece}
use Rattle.script_meaning.specs.States.{State, Grants, all_granted, answered, position_of}
use Rattle.script_meaning.specs.Helping.{Helping, cleared, all_cleared}
use Rattle.script_meaning.specs.Appends.{appended_one, appended_several, appended_by, append_steps, stopped, ended_colour}
use Rattle.script_meaning.specs.Appends.{with_single, point_in}
use Rattle.script_in_order.specs.Doing.{DoneBy, with_replies}
use Rattle.script_in_order.specs.Helps.{HelpsLead}
use Rattle.script_in_order.specs.Points.{places_in, standing_in, EndsByOutcome}
use Rattle.script_in_order.proofs.ListsChanged.{points_of}
use Rattle.script_in_order.proofs.FirstSteps.{Begins, Fills, not_full}
use Rattle.script_in_order.proofs.HelpsAndClears.{helping, found_with, finds_all}

-- Stops

pub stops_at_once : (command : Command) (colours : Colours) (text : List ℕ) (steps : ℕ) (w : World) → steps ≡ 0
    → DoneBy (λ grants state. stopped grants state command colours text steps) command w w (answers.Stopped steps) []
stops_at_once command colours text steps w e =
    subst (λ (n : ℕ). DoneBy (λ grants state. stopped grants state command colours text n) command w w (answers.Stopped n)
    [])
    (sym e) (record { grants = all_granted; begun = refl; is = λ replies. refl })

pub stops_full : (command : Command) (colours : Colours) (text : List ℕ) (steps n used : ℕ) (w : World) → steps ≡ suc n
    → Fills w command.client → used ≡ w.shape.rows
    → DoneBy (λ grants state. stopped grants state command colours text steps) command w w (answers.Full used) []
stops_full command colours text steps n used w e full is =
    subst (λ (k : ℕ). DoneBy (λ grants state. stopped grants state command colours text k) command w w (answers.Full used)
    [])
    (sym e) (record {
      grants = all_granted;
      begun = refl;
      is = λ replies.
          let state = with_replies w replies in
          ap (λ (b : Bool). if b then answered state command w (answers.Full (w.clients command.client).used) []
          else answered state command
          (run_steps w (take (suc n) (append_steps all_granted w command.client colours text)))
          (answers.Stopped (suc n)) []) full.full
          ∙ ap (λ (k : ℕ). answered state command w (answers.Full k) []) (sym (is ∙ full.used));
    })

pub stops_within : (command : Command) (colours : Colours) (text : List ℕ) (steps n limit done : ℕ) (row : Row)
    (id : Id)
    (w w1 new : World) → steps ≡ suc n → limit ≡ n → Begins w command.client colours text row id w1
    → IsPartCompleted w1 command.client row limit new done
    → DoneBy (λ grants state. stopped grants state command colours text steps) command w new (answers.Stopped steps) []
stops_within command colours text steps n limit done row id w w1 new e l b part =
    subst (λ (k : ℕ). DoneBy (λ grants state. stopped grants state command colours text k) command w new
    (answers.Stopped k) [])
    (sym e) (record {
      grants = grants;
      begun = refl;
      is = λ replies.
          let state = with_replies w replies in
          ap (λ (b : Bool). if b then answered state command w (answers.Full (w.clients command.client).used) []
          else answered state command (run_steps w (take (suc n) (append_steps grants w command.client colours text)))
          (answers.Stopped (suc n)) []) (not_full w command.client colours b.may)
          ∙ ap (λ (x : World). answered state command x (answers.Stopped (suc n)) []) (sym world);
    }) where
      grants : Grants
      grants = found_with part.found []

      first : World
      first = after w (Begin command.client colours text)

      world : new ≡ run_steps w (take (suc n) (append_steps grants w command.client colours text))
      world =
          part.world
          ∙ (ap (λ (k : ℕ). run_steps w1 (take k (complete_steps w1 command.client row part.found))) l
          ∙ (ap (λ (r : Row). run_steps w1 (take n (complete_steps w1 command.client r part.found))) b.row_is
          ∙ ap (λ (x : World). run_steps x (take n (complete_steps x command.client (next_row w command.client)
          part.found)))
          b.world))

-- Appends to one colour

pub stands_alone : (command : Command) (text : List ℕ) (colour place stamp position : ℕ) (id : Id) (w w1 new : World)
    → may_single w command.client colour ≡ true → place ≡ length (home_history w command.client colour)
    → stamp ≡ single_stamp w command.client colour → id ≡ next_id w command.client
    → w1 ≡ after w (Single command.client colour text)
    → HelpsLead (λ grants h. cleared grants command.client (entry_key stamp id) h colour) w1 new
    → position ≡ position_of id (line (home_history new command.client colour))
    → (points : List PointPiece)
    → points ≡ [] ++ record { colour = colour; at = Event place; position = position } ∷ []
    → DoneBy (λ grants state. appended_one grants state command text colour) command w new
    (answers.Stood stamp None points) []
stands_alone command text colour place stamp position id w w1 new may at number mine is helps stands points all =
    record {
      grants = grants;
      begun = refl;
      is = λ replies.
          let state = with_replies w replies in
          let client = command.client in
          let after_all = with_single grants w client text colour in
          let world : after_all ≡ new =
          ap (λ (k : ℕ). (cleared grants client (entry_key k (next_id w client))
          (helping (after w (Single client colour text)) 0) colour).world) (sym number)
          ∙ (ap (λ (i : Id). (cleared grants client (entry_key stamp i) (helping (after w (Single client colour text)) 0)
          colour).world) (sym mine)
          ∙ (ap (λ (x : World). (cleared grants client (entry_key stamp id) (helping x 0) colour).world) (sym is)
          ∙ ap (λ (h : Helping). h.world) (helps.is grants 0 (finds_all (λ _. true) helps.finds)))) in
          let piece : points ≡ point_in w new client (next_id w client) colour ∷ [] =
          all
          ∙ (ap (λ (k : ℕ). let p : PointPiece = record { colour = colour; at = Event k; position = position } in p ∷ []) at
          ∙ (ap (λ (k : ℕ). let p : PointPiece = record {
            colour = colour;
            at = Event
                (length (home_history w client colour));
            position = k;
          } in p ∷ []) stands
          ∙ ap (λ (i : Id). point_in w new client i colour ∷ []) mine)) in
          ap (λ (b : Bool). if b then answered state command after_all
          (answers.Stood (single_stamp w client colour) None (point_in w after_all client (next_id w client) colour ∷ []))
          []
          else answered state command w (answers.StampEnd colour) []) may
          ∙ (ap (λ (x : World). answered state command x
          (answers.Stood (single_stamp w client colour) None (point_in w x client (next_id w client) colour ∷ [])) []) world
          ∙ (ap (λ (k : ℕ). answered state command new
          (answers.Stood k None (point_in w new client (next_id w client) colour ∷ [])) []) (sym number)
          ∙ ap (λ (l : List PointPiece). answered state command new (answers.Stood stamp None l) []) (sym piece)));
    } where
      grants : Grants
      grants = found_with (λ _. true) helps.finds

pub ends_alone : (command : Command) (text : List ℕ) (colour : ℕ) (w : World) → may_single w command.client colour
    ≡ false
    → DoneBy (λ grants state. appended_one grants state command text colour) command w w (answers.StampEnd colour) []
ends_alone command text colour w may = record {
  grants = all_granted;
  begun = refl;
  is = λ replies.
      let state = with_replies w replies in
      let client = command.client in
      let after_all = with_single all_granted w client text colour in
      ap (λ (b : Bool). if b then answered state command after_all
      (answers.Stood (single_stamp w client colour) None (point_in w after_all client (next_id w client) colour ∷ []))
      []
      else answered state command w (answers.StampEnd colour) []) may;
}

-- Appends to several colours

pub fills_several : (command : Command) (colours : Colours) (text : List ℕ) (used : ℕ) (w : World)
    → Fills w command.client → used ≡ w.shape.rows
    → DoneBy (λ grants state. appended_several grants state command colours text) command w w (answers.Full used) []
fills_several command colours text used w full is = record {
  grants = all_granted;
  begun = refl;
  is = λ replies.
      let state = with_replies w replies in
      let row = next_row w command.client in
      let stepped = run_steps w (append_steps all_granted w command.client colours text) in
      ap (λ (b : Bool). if b then answered state command w (answers.Full (w.clients command.client).used) []
      else appended_by all_granted state command stepped row (members colours) (row_of stepped row).last) full.full
      ∙ ap (λ (k : ℕ). answered state command w (answers.Full k) []) (sym (is ∙ full.used));
}

pub ends_several : (command : Command) (colours : Colours) (text : List ℕ) (row : Row) (id : Id) (completed : Completed)
    (places : List PointPiece) (w w1 w2 new : World) (answer : Answer) → Begins w command.client colours text row id w1
    → IsCompleted w1 command.client row w2 completed → places ≡ places_in w command.client (members colours)
    → EndsByOutcome w2 row id (members colours) completed.outcome places new answer
    → DoneBy (λ grants state. appended_several grants state command colours text) command w new answer []
ends_several command colours text row id completed places w w1 w2 new answer b done all ends = record {
  grants = grants;
  begun = refl;
  is = λ replies.
      let state = with_replies w replies in
      let client = command.client in
      let stepped = run_steps w (append_steps grants w client colours text) in
      let mine : client ≡ row.client = ap (λ (r : Row). r.client) (sym b.row_is) in
      ap (λ (x : Bool). if x then answered state command w (answers.Full (w.clients client).used) []
      else appended_by grants state command stepped (next_row w client) (members colours)
      (row_of stepped (next_row w client)).last) (not_full w client colours b.may)
      ∙ (ap (λ (x : World). appended_by grants state command x (next_row w client) (members colours)
      (row_of x (next_row w client)).last) (sym world)
      ∙ (ap (λ (r : Row). appended_by grants state command w2 r (members colours) (row_of w2 r).last) (sym b.row_is)
      ∙ (ap (appended_by grants state command w2 row (members colours)) (sym done.outcome)
      ∙ ends.is grants (finds_all done.found ends.finds) w
      (ap (next_id w) (sym mine) ∙ sym b.id_is) (all ∙ ap (λ (n : ℕ). places_in w n (members colours)) mine) command
      mine
      replies)));
} where
  grants : Grants
  grants = found_with done.found ends.finds

  world : w2 ≡ run_steps w (append_steps grants w command.client colours text)
  world =
      done.world
      ∙ (ap (λ (r : Row). run_steps w1 (complete_steps w1 command.client r done.found)) b.row_is
      ∙ ap (λ (x : World). run_steps x (complete_steps x command.client (next_row w command.client) done.found))
      b.world)

-- How an append to several colours ends

pub ends_memory : (w : World) (row : Row) (id : Id) (colours : List ℕ) (places : List PointPiece)
    → EndsByOutcome w row id colours (Gone Memory) places w answers.NoMemory
ends_memory w row id colours places = record {
  finds = [];
  is = λ grants f before e p command mine replies. refl;
}

pub ends_stamps : (w : World) (row : Row) (id : Id) (colours : List ℕ) (places : List PointPiece) (colour : ℕ)
    → colour ≡ ended_colour w row colours
    → EndsByOutcome w row id colours (Gone StampEnd) places w (answers.StampEnd colour)
ends_stamps w row id colours places colour is = record {
  finds = [];
  is = λ grants f before e p command mine replies.
      ap (λ (c : ℕ). answered (with_replies before replies) command w (answers.StampEnd c) []) (sym is);
}

pub ends_final : (w w2 new : World) (row : Row) (id : Id) (colours : List ℕ) (stamp : ℕ)
    (places points : List PointPiece)
    → w2 ≡ after w (Seen row.client stamp)
    → HelpsLead (λ grants h. fold (cleared grants row.client (entry_key stamp id)) h colours) w2 new
    → points ≡ map (standing_in new row.client id) places
    → EndsByOutcome w row id colours (Final stamp) places new (answers.Stood stamp (Some row.number) points)
ends_final w w2 new row id colours stamp places points seen helps is = record {
  finds = helps.finds;
  is = λ grants f before e p command mine replies.
      let state = with_replies before replies in
      let cleared_for : ℕ → Id → World = λ n i. all_cleared grants n (entry_key stamp i) colours
      (after w (Seen n stamp)) in
      let ended : ℕ → Id → World → State =
      λ n i x. answered state command x (answers.Stood stamp (Some row.number) (map (point_in before x n i) colours))
      [] in
      let world : cleared_for row.client id ≡ new =
      ap (λ (x : World). all_cleared grants row.client (entry_key stamp id) colours x) (sym seen)
      ∙ ap (λ (h : Helping). h.world) (helps.is grants 0 f) in
      let all : map (point_in before new row.client id) colours ≡ points =
      sym (points_of before new row.client id colours)
      ∙ (ap (map (standing_in new row.client id)) (sym p) ∙ sym is) in
      ap (λ (n : ℕ). ended n (next_id before n) (cleared_for n (next_id before n))) mine
      ∙ (ap (λ (i : Id). ended row.client i (cleared_for row.client i)) e
      ∙ (ap (ended row.client id) world
      ∙ ap (λ (l : List PointPiece). answered state command new (answers.Stood stamp (Some row.number) l) []) all));
}
