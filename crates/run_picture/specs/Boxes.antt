-- The box of a node: in the lane of its column, under its stamp.
use Rattle.std.specs.Prelude.{Bool, false, ℕ, ◌+◌, ◌-◌, ◌*◌, ◌==◌, min, not, ◌&&◌, List, Option, Some, None, map}
use Rattle.std.specs.List.{find, flat_map}
use Rattle.log_node.specs.declared.ids.Id.{Id}
use Rattle.log_node.specs.declared.ids.Counts.{Counts}
use Rattle.log_node.specs.Order.{same_id}
use Rattle.log_node.specs.Vectors.{zeros}
use Rattle.col_core.specs.declared.Event.{Event}
use Rattle.col_core.specs.declared.Event.TheVariants.{Single, Propose, Settle, Raise, Give, Carry, Trim}
use Rattle.col_core.specs.declared.Entry.{Entry}
use Rattle.col_core.specs.History.{enters}
use Rattle.script_text.specs.declared.script.Script.{Script}
use Rattle.report_text.specs.declared.report.ColumnReport.{ColumnReport}
use Rattle.report_text.specs.declared.report.Report.{Report}
use Rattle.run_picture.specs.declared.picture.Mark.{Mark}
use Rattle.run_picture.specs.declared.picture.NodeBox.{NodeBox}
use Rattle.run_picture.specs.Marks.{greatest_clock, first_stamp, depth_among, shown}

-- the lane of a column: those of a colour stand together
abbrev pub lane_of : Script → ColumnReport → ℕ
lane_of script column = column.colour * script.shape.regions + column.region

-- the place on the axis of a stamp, where this is the last one: places count from 0
abbrev pub slot_of : ℕ → ℕ → ℕ
slot_of last stamp = min (stamp - first_stamp last) 255

-- what an event wants by which a node enters a column
abbrev pub entry_wants : Event → Counts
entry_wants (Single _ _ wants) = wants
entry_wants (Propose _ _ wants) = wants
entry_wants (Settle _ _) = zeros
entry_wants (Raise _) = zeros
entry_wants (Give _ _) = zeros
entry_wants (Carry _ _ _) = zeros
entry_wants (Trim _) = zeros

-- what the node of an entry wants; nothing where there is no entry
abbrev pub wants_in : Option Entry → Counts
wants_in None = zeros
wants_in (Some entry) = entry_wants entry.event

-- what the event wanted by which the id entered the column
abbrev pub wants_of : List Entry → Id → Counts
wants_of journal id = wants_in (find (λ entry. enters id entry.event) journal)

-- the event settles the id
abbrev pub settles : Id → Event → Bool
settles id (Single _ _ _) = false
settles id (Propose _ _ _) = false
settles id (Settle other _) = same_id id other
settles id (Raise _) = false
settles id (Give _ _) = false
settles id (Carry _ _ _) = false
settles id (Trim _) = false

-- a client settles the id that is not its own
abbrev pub is_help : Id → Entry → Bool
is_help id entry = settles id entry.event && not (entry.by == id.client)

-- the client that made the entry, if there is one
abbrev pub maker_of : Option Entry → Option ℕ
maker_of None = None
maker_of (Some entry) = Some entry.by

-- another client who settled the id, where there is one
abbrev pub helper_of : List Entry → Id → Option ℕ
helper_of journal id = maker_of (find (is_help id) journal)

-- the box of a node of a column, of which these nodes are shown: in the column's lane, under the stamp
abbrev pub box_of : Script → ColumnReport → ℕ → List Mark → Mark → NodeBox
box_of script column last those mark = record {
  region = column.region;
  colour = column.colour;
  mark = mark;
  wants = wants_of column.journal mark.key.id;
  at = record { slot = slot_of last mark.key.stamp; lane = lane_of script column; depth = depth_among those mark };
  helper = helper_of column.journal mark.key.id;
}

-- the boxes of a column: one for each of its nodes that is shown
abbrev pub column_boxes : Script → ℕ → ColumnReport → List NodeBox
column_boxes script last column = map (box_of script column last (shown last column)) (shown last column)

-- the boxes of all columns
abbrev pub boxes : Script → Report → List NodeBox
boxes script report = flat_map (column_boxes script (greatest_clock report)) report.columns
