-- Appends that are made only where nothing has come between.
use Rattle.std.specs.Prelude.{Bool, ℕ, ◌==◌, nat_lt, not, ◌||◌, List, [], ◌∷◌, length, None, if◌then◌else◌}
use Rattle.log_node.specs.Vectors.{at}
use Rattle.col_core.specs.History.{entries, open_count, line}
use Rattle.world_laws.specs.declared.steps.Step.TheVariants.{Single}
use Rattle.world_laws.specs.Worlds.{World, home_of, home_history, next_id, may_single, single_stamp, after}
use Rattle.script_text.specs.declared.script.Command.{Command}
use Rattle.report_text.specs.declared.report.Answer.TheVariants as answers
use Rattle.script_meaning.specs.States.{State, answered}
use Rattle.script_meaning.specs.Appends.{answered_stood, point_in}

-- the colour has moved on from what the client has played of it: an entry is open, or the own line is not as long
abbrev pub has_moved : World → ℕ → ℕ → Bool
has_moved w client colour =
    nat_lt 0 (open_count (entries (home_history w client colour)))
    || not (length (line (home_history w client colour)) == at ((w.clients client).played colour) (home_of w client))

-- Such an append: refused where the colour has moved on, or where no stamp is left. It helps nobody.
abbrev pub appended_next : State → Command → ℕ → List ℕ → State
appended_next state command colour text =
    let w = state.world in
    let client = command.client in
    let history = home_history w client colour in
    let next = after w (Single client colour text) in
    if has_moved w client colour then
    answered state command w (answers.Moved (length (line history)) (open_count (entries history)) colour (length history)) []
    else (if may_single w client colour then
    answered_stood state command next (single_stamp w client colour) None
    (point_in w next client (next_id w client) colour ∷ [])
    else answered state command w (answers.StampEnd colour) [])
