-- Appends and stops.
use Rattle.std.specs.Prelude.{Bool, ℕ, zero, suc, nat_lt, not, List, [], ◌∷◌, length, take, map, Option, Some, None, slice_index_or, if◌then◌else◌}
use Rattle.std.specs.List.{filter}
use Rattle.log_node.specs.declared.ids.Id.{Id}
use Rattle.log_node.specs.declared.ids.Row.{Row}
use Rattle.log_node.specs.declared.ids.Colours.{Colours}
use Rattle.log_node.specs.declared.node.At.TheVariants.{Event}
use Rattle.log_node.specs.Sets.{members}
use Rattle.log_node.specs.declared.marks.Why.TheVariants.{Memory, StampEnd}
use Rattle.log_node.specs.declared.marks.Outcome.{Outcome}
use Rattle.log_node.specs.declared.marks.Outcome.TheVariants.{Open, Gone, Final}
use Rattle.log_node.specs.Outcomes.{is_stamp_end_fence}
use Rattle.col_core.specs.History.{entry_key, line}
use Rattle.world_laws.specs.declared.steps.Step.{Step}
use Rattle.world_laws.specs.declared.steps.Step.TheVariants.{Begin, Single, Seen}
use Rattle.world_laws.specs.Worlds.{World, home_history, row_of, next_id, next_row, may_single, single_stamp, after, run_steps}
use Rattle.world_laws.specs.Completing.{complete_steps}
use Rattle.script_text.specs.declared.script.Command.{Command}
use Rattle.report_text.specs.declared.report.Answer.TheVariants as answers
use Rattle.report_text.specs.declared.report.PointPiece.{PointPiece}
use Rattle.script_meaning.specs.States.{State, Grants, answered, position_of}
use Rattle.script_meaning.specs.Helping.{all_cleared}

-- Where an append stands in a colour: its own event came next in the history that the column had before, and its node
-- has this position in the line afterwards.
abbrev pub point_in : World → World → ℕ → Id → ℕ → PointPiece
point_in before after client id colour = record {
  colour = colour;
  at = Event (length (home_history before client colour));
  position = position_of id (line (home_history after client colour));
}

-- the node enters, and then its colour is cleared below its key
abbrev pub with_single : Grants → World → ℕ → List ℕ → ℕ → World
with_single grants w client text colour =
    all_cleared grants client (entry_key (single_stamp w client colour) (next_id w client)) (colour ∷ [])
    (after w (Single client colour text))

-- What follows an append that stands, by the world then, its stamp, its row and its points.
abbrev pub Continuation : Type 0
Continuation = World → ℕ → Option ℕ → List PointPiece → State

-- it is answered so
abbrev pub answered_stood : State → Command → Continuation
answered_stood state command w stamp row points = answered state command w (answers.Stood stamp row points) []

-- An append to one colour, and what follows it: refused where no stamp is left.
abbrev pub appended_one_so : Grants → State → Command → List ℕ → ℕ → Continuation → State
appended_one_so grants state command text colour follows =
    let w = state.world in
    let client = command.client in
    let after_all = with_single grants w client text colour in
    if may_single w client colour then
    follows after_all (single_stamp w client colour) None
    (point_in w after_all client (next_id w client) colour ∷ [])
    else answered state command w (answers.StampEnd colour) []

-- an append to one colour, which is answered by where it stands
abbrev pub appended_one : Grants → State → Command → List ℕ → ℕ → State
appended_one grants state command text colour =
    appended_one_so grants state command text colour (answered_stood state command)

-- the client has begun as many rows as it may
abbrev pub has_no_row_left : World → ℕ → Bool
has_no_row_left w client = not (nat_lt (w.clients client).used w.shape.rows)

-- The steps of an append to several colours: the row begins, its colours are marked, it is decided, and it is settled
-- in each colour.
abbrev pub append_steps : Grants → World → ℕ → Colours → List ℕ → List Step
append_steps grants w client colours text =
    Begin client colours text
    ∷ complete_steps (after w (Begin client colours text)) client (next_row w client) grants.marks

-- the least colour that had no stamp left
abbrev pub ended_colour : World → Row → List ℕ → ℕ
ended_colour w row colours =
    slice_index_or (filter (λ colour. is_stamp_end_fence ((row_of w row).marks colour)) colours) 0 0

-- An append, after whose steps the world is this one, goes on by the outcome of its row: where that is final the
-- client has seen the stamp, and each colour is cleared below the node's key.
abbrev pub appended_by_so : Grants → State → Command → World → Row → List ℕ → Outcome → Continuation → State
appended_by_so grants state command w row colours Open follows = answered state command w answers.NoMemory []
appended_by_so grants state command w row colours (Gone Memory) follows =
    answered state command w answers.NoMemory []
appended_by_so grants state command w row colours (Gone StampEnd) follows =
    answered state command w (answers.StampEnd (ended_colour w row colours)) []
appended_by_so grants state command w row colours (Final stamp) follows =
    let client = command.client in
    let id = next_id state.world client in
    let after_all = all_cleared grants client (entry_key stamp id) colours (after w (Seen client stamp)) in
    follows after_all stamp (Some row.number) (map (point_in state.world after_all client id) colours)

-- the same of a begun append to several colours, by the outcome of its row
abbrev pub appended_by : Grants → State → Command → World → Row → List ℕ → Outcome → State
appended_by grants state command w row colours outcome =
    appended_by_so grants state command w row colours outcome (answered_stood state command)

-- an append to several colours, and what follows it: refused where no row is left
abbrev pub appended_several_so : Grants → State → Command → Colours → List ℕ → Continuation → State
appended_several_so grants state command colours text follows =
    let w = state.world in
    let client = command.client in
    let row = next_row w client in
    let stepped = run_steps w (append_steps grants w client colours text) in
    if has_no_row_left w client then answered state command w (answers.Full (w.clients client).used) []
    else appended_by_so grants state command stepped row (members colours) (row_of stepped row).last follows

-- an append to several colours, which is answered by where it stands
abbrev pub appended_several : Grants → State → Command → Colours → List ℕ → State
appended_several grants state command colours text =
    appended_several_so grants state command colours text (answered_stood state command)

-- an append to the members of a set, and what follows it
abbrev pub appended_so : Grants → State → Command → Colours → List ℕ → List ℕ → Continuation → State
appended_so grants state command colours text [] follows = answered state command state.world answers.NoMemory []
appended_so grants state command colours text (colour ∷ []) follows =
    appended_one_so grants state command text colour follows
appended_so grants state command colours text (colour ∷ other ∷ others) follows =
    appended_several_so grants state command colours text follows

-- an append to the members of a set, which is answered by where it stands
abbrev pub appended : Grants → State → Command → Colours → List ℕ → List ℕ → State
appended grants state command colours text ms =
    appended_so grants state command colours text ms (answered_stood state command)

-- the first so many steps of an append to several colours are done; where it has one or more, a row must be left
abbrev pub stopped : Grants → State → Command → Colours → List ℕ → ℕ → State
stopped grants state command colours text zero = answered state command state.world (answers.Stopped 0) []
stopped grants state command colours text (suc n) =
    let w = state.world in
    let client = command.client in
    if has_no_row_left w client then answered state command w (answers.Full (w.clients client).used) []
    else answered state command (run_steps w (take (suc n) (append_steps grants w client colours text)))
    (answers.Stopped (suc n)) []
