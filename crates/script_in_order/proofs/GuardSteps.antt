-- Appends that are made only where nothing has come between, by what their calls did.
use Rattle.std.proofs.Common.{◌≡◌, ◌∙◌, ℕ, Bool, true, false, List, [], ◌∷◌, ◌++◌, length, None, refl, ap, sym}
use Rattle.std.specs.Prelude.{if◌then◌else◌}
use Rattle.log_node.specs.declared.ids.Id.{Id}
use Rattle.log_node.specs.declared.node.At.TheVariants.{Event}
use Rattle.col_core.specs.History.{entries, open_count, line}
use Rattle.world_laws.specs.declared.steps.Step.TheVariants.{Single}
use Rattle.world_laws.specs.Worlds.{World, after, home_history, may_single, single_stamp, next_id}
use Rattle.script_text.specs.declared.script.Command.{Command}
use Rattle.report_text.specs.declared.report.Answer.{Answer}
use Rattle.report_text.specs.declared.report.Answer.TheVariants as answers
use Rattle.report_text.specs.declared.report.PointPiece.{PointPiece}
use Rattle.script_meaning.specs.States.{State, all_granted, answered, position_of}
use Rattle.script_meaning.specs.Appends.{point_in}
use Rattle.script_meaning.specs.Guards.{has_moved, appended_next}
use Rattle.script_in_order.specs.Doing.{DoneBy, with_replies}

module _ (command : Command) (text : List ℕ) (colour : ℕ) (w : World) where
  abbrev client : ℕ
  client = command.client

  abbrev moved : Answer
  moved =
      let history = home_history w client colour in
      answers.Moved (length (line history)) (open_count (entries history)) colour (length history)

  abbrev stood : World → Answer
  stood x = answers.Stood (single_stamp w client colour) None (point_in w x client (next_id w client) colour ∷ [])

  abbrev Does : World → Answer → Type 0
  Does new answer = DoneBy (λ grants state. appended_next state command colour text) command w new answer []

  -- by the tests that it makes
  abbrev by_tests : State → Bool → Bool → State
  by_tests told gone may =
      let state = with_replies w told in
      let next = after w (Single client colour text) in
      if gone then answered state command w moved []
      else (if may then answered state command next (stood next) []
      else answered state command w (answers.StampEnd colour) [])

  tested : (told : State) (gone may : Bool) → has_moved w client colour ≡ gone → may_single w client colour ≡ may
      → by_tests told (has_moved w client colour) (may_single w client colour) ≡ by_tests told gone may
  tested told gone may g m =
      ap (λ (b : Bool). by_tests told b (may_single w client colour)) g ∙ ap (by_tests told gone) m

  -- the colour has moved on
  pub moves_on : (answer : Answer) → has_moved w client colour ≡ true → answer ≡ moved → Does w answer
  moves_on answer gone is = record {
    grants = all_granted;
    begun = refl;
    is = λ told.
        tested told true (may_single w client colour) gone refl
        ∙ ap (λ (a : Answer). answered (with_replies w told) command w a []) (sym is);
  }

  -- no stamp is left
  pub ends_next : has_moved w client colour ≡ false → may_single w client colour ≡ false → Does w (answers.StampEnd colour)
  ends_next near none = record { grants = all_granted; begun = refl; is = λ told. tested told false false near none }

  -- it stands
  pub stands_next : (place stamp position : ℕ) (id : Id) (w1 : World) → has_moved w client colour ≡ false
      → may_single w client colour ≡ true → place ≡ length (home_history w client colour)
      → stamp ≡ single_stamp w client colour → id ≡ next_id w client → w1 ≡ after w (Single client colour text)
      → position ≡ position_of id (line (home_history w1 client colour)) → (points : List PointPiece)
      → points ≡ [] ++ record { colour = colour; at = Event place; position = position } ∷ []
      → Does w1 (answers.Stood stamp None points)
  stands_next place stamp position id w1 near may at number mine is stands points all = record {
    grants = all_granted;
    begun = refl;
    is = λ told.
        let state = with_replies w told in
        tested told false true near may
        ∙ (ap (λ (x : World). answered state command x (stood x) []) (sym is)
        ∙ (ap (λ (k : ℕ). answered state command w1
        (answers.Stood k None (point_in w w1 client (next_id w client) colour ∷ [])) []) (sym number)
        ∙ ap (λ (l : List PointPiece). answered state command w1 (answers.Stood stamp None l) []) (sym piece)));
  } where
    piece : points ≡ point_in w w1 client (next_id w client) colour ∷ []
    piece =
        all
        ∙ (ap (λ (k : ℕ). let p : PointPiece = record { colour = colour; at = Event k; position = position } in p ∷ []) at
        ∙ (ap (λ (k : ℕ). let p : PointPiece = record {
          colour = colour;
          at = Event (length (home_history w client colour));
          position = k;
        } in p ∷ []) stands
        ∙ ap (λ (i : Id). point_in w w1 client i colour ∷ []) mine))
