-- Which command made a node.
use Rattle.std.specs.Prelude.{Bool, false, ℕ, ◌==◌, nat_lt, ◌&&◌, List, [], Option, Some, None, slice_get, if◌then◌else◌}
use Rattle.std.specs.List.{list_any, find, fold}
use Rattle.log_node.specs.declared.ids.Id.{Id}
use Rattle.log_node.specs.declared.ids.Key.{Key}
use Rattle.log_node.specs.Order.{same_id}
use Rattle.script_text.specs.declared.script.Command.{Command}
use Rattle.report_text.specs.declared.report.PointPiece.{PointPiece}
use Rattle.report_text.specs.declared.report.Answer.{Answer}
use Rattle.report_text.specs.declared.report.Answer.TheVariants.{Stood, StampEnd, Full, Stopped, Synced, Scanned, Pulled, SameRegion, Based, Got, GotMany, GotKeys, Ruled, Changed, Listed, Undecided, Decided, Moved, NoTx, Took, UnreadTrimmed, UnreadNoMemory, Trimmed, NotHome, NoMemory}
use Rattle.report_text.specs.declared.report.Ended.{Ended}
use Rattle.report_text.specs.declared.report.Ended.TheVariants as endings
use Rattle.report_text.specs.declared.report.ReplyLine.{ReplyLine}
use Rattle.report_text.specs.declared.report.RowReport.{RowReport}
use Rattle.report_text.specs.declared.report.ClientReport.{ClientReport}
use Rattle.report_text.specs.declared.report.Report.{Report}

-- an append stands at this position of this colour
abbrev pub is_at : ℕ → ℕ → PointPiece → Bool
is_at colour position point = (point.colour == colour) && (point.position == position)

-- the append of a decision ended so: it stands at this position of this colour
abbrev pub ends_at : ℕ → ℕ → Ended → Bool
ends_at colour position (endings.Stood stamp point) = is_at colour position point
ends_at colour position (endings.StampEnd _) = false
ends_at colour position endings.NoMemory = false

-- the id of the later of two rows, where it is the client's
abbrev pub later_row : ℕ → Option Id → RowReport → Option Id
later_row client last row = if row.id.client == client then Some row.id else last

-- the id of the last append to several colours that the client began
abbrev pub last_row : ℕ → List RowReport → Option Id
last_row client rows = fold (later_row client) None rows

-- there is another id, and it is this one
abbrev pub is_same : Id → Option Id → Bool
is_same id None = false
is_same id (Some other) = same_id other id

-- the id is that of the last append to several colours that its client began
abbrev pub is_last_row : Report → Id → Bool
is_last_row report id = is_same id (last_row id.client report.rows)

-- The answer to a command of the node's client tells that it made the node, which stands at this position of this colour:
-- it names the position, or the node's stamp where its object could not be read then; and a stop is the last of all that
-- a client begins.
abbrev pub makes : Report → ℕ → ℕ → Key → Answer → Bool
makes report colour position key (Stood _ _ points) = list_any (is_at colour position) points
makes report colour position key (Ruled _ _ _ points _ _ _) = list_any (is_at colour position) points
makes report colour position key (Changed _ _ _ points _ _ _) = list_any (is_at colour position) points
makes report colour position key (Took _ point _) = is_at colour position point
makes report colour position key (Undecided _ _) = false
makes report colour position key (Decided _ _ _ _ _ _ ended) = ends_at colour position ended
makes report colour position key (Listed _ _ _ _) = false
makes report colour position key (Moved _ _ _ _) = false
makes report colour position key (Stopped steps) = nat_lt 0 steps && is_last_row report key.id
makes report colour position key (UnreadTrimmed stamp _ _) = stamp == key.stamp
makes report colour position key (UnreadNoMemory stamp) = stamp == key.stamp
makes report colour position key (StampEnd _) = false
makes report colour position key (Full _) = false
makes report colour position key (Synced _ _) = false
makes report colour position key (Scanned _ _ _ _) = false
makes report colour position key (Pulled _ _ _) = false
makes report colour position key SameRegion = false
makes report colour position key (Based _ _) = false
makes report colour position key (Got _ _) = false
makes report colour position key (GotMany _ _) = false
makes report colour position key (GotKeys _ _ _ _) = false
makes report colour position key NoTx = false
makes report colour position key (Trimmed _ _) = false
makes report colour position key (NotHome _) = false
makes report colour position key NoMemory = false

-- the replies to a client; none where there is no client
abbrev pub replies_by : Option ClientReport → List ReplyLine
replies_by None = []
replies_by (Some client) = client.replies

-- the replies to a client; none where the number names no client
abbrev pub replies_of : Report → ℕ → List ReplyLine
replies_of report client = replies_by (slice_get report.clients client)

-- the reply to the command by which its client made the node at this position of this colour
abbrev pub maker : Report → ℕ → ℕ → Key → Option ReplyLine
maker report colour position key =
    find (λ reply. makes report colour position key reply.answer) (replies_of report key.id.client)

-- the command in a line of the script
abbrev pub command_at : ℕ → List Command → Option Command
command_at line commands = find (λ command. command.line == line) commands
