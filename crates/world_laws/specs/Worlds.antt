-- The steps of the world, and their replies. A step is done where its guard holds; else it changes nothing and its
-- reply is `Nothing`.
use Rattle.std.specs.Prelude.{ℕ, List, [], ◌∷◌, length, if◌then◌else◌}
use Rattle.log_node.specs.declared.marks.Mark.TheVariants as marks
use Rattle.log_node.specs.Outcomes.{outcome_of}
use Rattle.world_laws.specs.declared.steps.Step.{Step}
use Rattle.world_laws.specs.declared.steps.Step.TheVariants as steps
use Rattle.world_laws.specs.declared.steps.Reply.{Reply}
use Rattle.world_laws.specs.declared.steps.Reply.TheVariants as replies
pub use Rattle.world_laws.specs.States.{ClientState, RowState, World, new_client, no_row, opened, is_client}
pub use Rattle.world_laws.specs.States.{is_column, home_of, home_history, is_begun, row_of, row_history, marks_of}
pub use Rattle.world_laws.specs.States.{is_member, is_at_end, is_row_at_end, chains_after, cut_after, base_after}
pub use Rattle.world_laws.specs.States.{held_of, next_id, next_row}
pub use Rattle.world_laws.specs.Guards.{may_begin, may_mark, may_propose, may_fence, may_decide, may_settle}
pub use Rattle.world_laws.specs.Guards.{may_single, may_raise, are_two_columns, may_give, may_carry, may_play}
pub use Rattle.world_laws.specs.Guards.{may_see}
pub use Rattle.world_laws.specs.Effects.{with_client, with_row, with_last, with_node, with_mark, begun_node}
pub use Rattle.world_laws.specs.Effects.{after_begin, proposed_stamp, proposed_entry, after_propose, after_decide}
pub use Rattle.world_laws.specs.Effects.{settled_entry, after_settle, single_node, single_stamp, single_entry}
pub use Rattle.world_laws.specs.Effects.{after_single, after_raise, after_give, heads_lacking, carried_entry}
pub use Rattle.world_laws.specs.Effects.{after_carry, after_trim, played_cut, played_stamp, after_play, after_seen}

-- the world after a step
abbrev pub after : World → Step → World
after w (steps.Begin client colours text) = if may_begin w client colours then after_begin w client colours text else w
after w (steps.Propose by row colour) = if may_propose w row colour then after_propose w by row colour else w
after w (steps.Fence row colour why) =
    if may_fence w row colour why then with_mark w row colour (marks.Fenced why) else w
after w (steps.Decide row) = if may_decide w row then after_decide w row else w
after w (steps.Settle by row colour) = if may_settle w row colour then after_settle w by row colour else w
after w (steps.Single client colour text) =
    if may_single w client colour then after_single w client colour text else w
after w (steps.Raise by region colour to) =
    if may_raise w region colour to then after_raise w by region colour to else w
after w (steps.Give by origin region colour from) =
    if may_give w origin region colour from then after_give w by origin region colour from else w
after w (steps.Carry by origin region colour start count) =
    if may_carry w origin region colour start count then after_carry w by origin region colour start count else w
after w (steps.Trim by region colour counts) =
    if is_column w region colour then after_trim w by region colour counts else w
after w (steps.Play client colour) = if may_play w client colour then after_play w client colour else w
after w (steps.Seen client to) = if may_see w client to then after_seen w client to else w

-- the reply of a step that adds an event to a column
abbrev pub event_reply : World → ℕ → ℕ → ℕ → Reply
event_reply w region colour stamp = replies.Event (length (w.histories region colour)) stamp

-- the reply of a step
abbrev pub reply : World → Step → Reply
reply w (steps.Begin client colours text) =
    if may_begin w client colours then replies.Begun (next_row w client) (next_id w client) else replies.Nothing
reply w (steps.Propose by row colour) =
    if may_propose w row colour then event_reply w (home_of w row.client) colour (proposed_stamp w row colour)
    else replies.Nothing
reply w (steps.Fence row colour why) =
    if may_fence w row colour why then replies.Marked (marks.Fenced why) else replies.Nothing
reply w (steps.Decide row) =
    if may_decide w row then replies.Decided (outcome_of (marks_of (row_of w row))) else replies.Nothing
reply w (steps.Settle by row colour) =
    if may_settle w row colour then event_reply w (home_of w row.client) colour 0 else replies.Nothing
reply w (steps.Single client colour text) =
    if may_single w client colour then event_reply w (home_of w client) colour (single_stamp w client colour)
    else replies.Nothing
reply w (steps.Raise by region colour to) =
    if may_raise w region colour to then event_reply w region colour 0 else replies.Nothing
reply w (steps.Give by origin region colour from) =
    if may_give w origin region colour from then event_reply w origin colour 0 else replies.Nothing
reply w (steps.Carry by origin region colour start count) =
    if may_carry w origin region colour start count then event_reply w region colour 0 else replies.Nothing
reply w (steps.Trim by region colour counts) =
    if is_column w region colour then event_reply w region colour 0 else replies.Nothing
reply w (steps.Play client colour) =
    if may_play w client colour then replies.Played (played_cut w client colour) else replies.Nothing
reply w (steps.Seen client to) = replies.Nothing

-- the world after a list of steps
abbrev pub run_steps : World → List Step → World
run_steps w [] = w
run_steps w (s ∷ steps) = run_steps (after w s) steps
