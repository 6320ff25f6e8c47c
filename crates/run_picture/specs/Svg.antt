-- The text of a picture, in SVG.
use Rattle.std.specs.Prelude.{Bool, true, false, ℕ, ◌+◌, ◌-◌, ◌*◌, ◌^◌, min, List, [], ◌∷◌, ◌++◌, Option, Some, None, decimal, codes, if◌then◌else◌}
use Rattle.std.specs.List.{flat_map, list_any, range_with_len}
use Rattle.script_text.specs.declared.script.Command.{Command}
use Rattle.script_text.specs.declared.script.Script.{Script}
use Rattle.report_text.specs.declared.report.ReplyLine.{ReplyLine}
use Rattle.report_text.specs.declared.report.RowReport.{RowReport}
use Rattle.report_text.specs.declared.report.Report.{Report}
use Rattle.report_text.specs.Names.{client_name}
use Rattle.log_node.specs.declared.marks.Outcome.{Outcome}
use Rattle.log_node.specs.declared.marks.Outcome.TheVariants as outcomes
use Rattle.run_picture.specs.declared.picture.NodeBox.{NodeBox}
use Rattle.run_picture.specs.declared.look.TheConstants.{PICTURE_LEGEND}
use Rattle.run_picture.specs.Pieces.{text_shown, texts_joined}
use Rattle.run_picture.specs.Look.{start_text}
use Rattle.run_picture.specs.Marks.{greatest_clock, first_stamp, slots}
use Rattle.run_picture.specs.Lanes.{column_text}
use Rattle.run_picture.specs.Links.{links_of}
use Rattle.run_picture.specs.Makers.{maker, command_at}
use Rattle.run_picture.specs.Labels.{node_label}
use Rattle.run_picture.specs.Spots.{slot_x, lane_top, spot_y, kind_class, kind_note}

-- a stamp of the axis
abbrev pub stamp_text : ℕ → ℕ → List ℕ
stamp_text slot stamp =
    texts_joined (codes "<text class='axis' x='" ∷ decimal (slot_x slot) ∷ codes "' y='86'>stamp " ∷ decimal stamp
    ∷ codes "</text><path class='tick' d='M" ∷ decimal (slot_x slot - 10) ∷ codes " 90V9999'/>\n" ∷ [])

-- a place of the axis, which begins with this stamp
abbrev pub slot_text : ℕ → ℕ → List ℕ
slot_text first slot = stamp_text slot (min (first + slot) (2 ^ 64 - 1))

-- the beginning of a box: the node's id
abbrev pub box_start : Report → NodeBox → List ℕ
box_start report node =
    texts_joined (codes "<svg x='" ∷ decimal (slot_x node.at.slot) ∷ codes "' y='" ∷ decimal (spot_y node.at)
    ∷ codes "' width='130' height='36' class='box r" ∷ decimal node.region ∷ codes " " ∷ kind_class node.mark.kind
    ∷ codes "'><use href='#b'/><svg width='123' height='36'><text x='8' y='15'>" ∷ text_shown (client_name report node.mark.key.id.client)
    ∷ codes "." ∷ decimal node.mark.key.id.count ∷ kind_note node.mark.kind ∷ codes "</text><text x='8' y='29'>" ∷ [])

-- what the node of a command says that was answered so; nothing where there is no command
abbrev pub command_text : ReplyLine → Option Command → List ℕ
command_text reply None = []
command_text reply (Some command) = node_label command.what reply.answer

-- what a node says that the command made which was answered so
abbrev pub reply_text : Script → ReplyLine → List ℕ
reply_text script reply = command_text reply (command_at reply.line script.commands)

-- what the node says of which the reply tells, if there is one
abbrev pub maker_text : Script → Option ReplyLine → List ℕ
maker_text script None = []
maker_text script (Some reply) = reply_text script reply

-- what a node says; nothing where no reply tells of it
abbrev pub said_text : Script → Report → NodeBox → List ℕ
said_text script report node = maker_text script (maker report node.colour node.mark.position node.mark.key)

-- the end of a box, and who completed its node, to the right of the band
abbrev pub by_text : Report → NodeBox → ℕ → List ℕ
by_text report node helper =
    texts_joined (codes "</text></svg></svg><text class='note' x='" ∷ decimal (slot_x node.at.slot + 76) ∷ codes "' y='"
    ∷ decimal (spot_y node.at + 49) ∷ codes "'>completed by " ∷ text_shown (client_name report helper)
    ∷ codes "</text>\n" ∷ [])

-- the end of a box: who helped, if anyone did
abbrev pub ending_text : Report → NodeBox → Option ℕ → List ℕ
ending_text report node None = texts_joined (codes "</text></svg></svg>\n" ∷ [])
ending_text report node (Some helper) = by_text report node helper

-- the same of the node's own helper
abbrev pub helper_text : Report → NodeBox → List ℕ
helper_text report node = ending_text report node node.helper

-- a box under its stamp, in its lane: the id, what the node says, and who completed it
abbrev pub box_text : Script → Report → NodeBox → List ℕ
box_text script report node = box_start report node ++ said_text script report node ++ helper_text report node

-- the append came to nothing
abbrev pub is_gone : Outcome → Bool
is_gone outcomes.Open = false
is_gone (outcomes.Gone _) = true
is_gone (outcomes.Final _) = false

-- the id of an append that came to nothing
abbrev pub gone_id : Report → RowReport → List ℕ
gone_id report row = texts_joined (codes " " ∷ text_shown (client_name report row.id.client) ∷ codes "." ∷ decimal row.id.count ∷ [])

-- the id of a row that is gone, and nothing for another one
abbrev pub gone_row : Report → RowReport → List ℕ
gone_row report row = if is_gone row.last then gone_id report row else []

-- an append came to nothing
abbrev pub any_gone : List RowReport → Bool
any_gone rows = list_any (λ row. is_gone row.last) rows

-- the appends that came to nothing, at this height
abbrev pub gone_list : ℕ → Report → List ℕ
gone_list height report =
    texts_joined (codes "<text x='18' y='" ∷ decimal height ∷ codes "'>gone:" ∷ [])
    ++ flat_map (gone_row report) report.rows ++ texts_joined (codes "</text>\n" ∷ [])

-- the same where there are any
abbrev pub gone_text : ℕ → Report → List ℕ
gone_text height report = if any_gone report.rows then gone_list height report else []

-- below all lanes
abbrev pub bottom_of : Script → ℕ
bottom_of script = lane_top (script.shape.colours * script.shape.regions) + 8

-- the beginning, for an axis up to this stamp
abbrev pub head_text : Script → ℕ → List ℕ
head_text script last = start_text (slot_x (slots last) + 60) (bottom_of script + 12) PICTURE_LEGEND.now

-- the axis up to this stamp
abbrev pub axis_text : ℕ → List ℕ
axis_text last = flat_map (slot_text (first_stamp last)) (range_with_len 0 (slots last))

-- The text with these boxes and an axis up to this stamp: the lanes, the lines, the boxes over them, and what came to
-- nothing.
abbrev pub parts_text : Script → Report → ℕ → List NodeBox → List ℕ
parts_text script report last boxes =
    head_text script last ++ axis_text last
    ++ flat_map (column_text script report last) report.columns
    ++ flat_map (links_of boxes) boxes
    ++ flat_map (box_text script report) boxes
    ++ gone_text (bottom_of script) report ++ texts_joined (codes "</svg>\n" ∷ [])

-- the whole text, with these boxes
abbrev pub svg_text : Script → Report → List NodeBox → List ℕ
svg_text script report boxes = parts_text script report (greatest_clock report) boxes
