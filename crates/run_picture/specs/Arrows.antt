-- Who read what a command had made: the arrows of a timeline.
use Rattle.std.specs.Prelude.{Bool, false, ℕ, ◌+◌, ◌==◌, nat_lt, ◌&&◌, List, [], ◌∷◌, Option, Some, None, option_map, decimal, codes, if◌then◌else◌}
use Rattle.std.specs.List.{list_any, find, flat_map, position, enumerate_from}
use Rattle.log_node.specs.declared.ids.Id.{Id}
use Rattle.log_node.specs.declared.ids.Key.{Key}
use Rattle.log_node.specs.Order.{same_id}
use Rattle.log_node.specs.Vectors.{at}
use Rattle.script_text.specs.declared.script.Command.{Command}
use Rattle.script_text.specs.declared.script.Script.{Script}
use Rattle.report_text.specs.declared.report.SyncPiece.{SyncPiece}
use Rattle.report_text.specs.declared.report.PointPiece.{PointPiece}
use Rattle.report_text.specs.declared.report.Answer.{Answer}
use Rattle.report_text.specs.declared.report.Answer.TheVariants.{Stood, StampEnd, Full, Stopped, Synced, Scanned, Pulled, SameRegion, Based, Got, GotMany, GotKeys, Ruled, Changed, Listed, Undecided, Decided, Moved, NoTx, Took, UnreadTrimmed, UnreadNoMemory, Trimmed, NotHome, NoMemory}
use Rattle.report_text.specs.declared.report.Ended.{Ended}
use Rattle.report_text.specs.declared.report.Ended.TheVariants as endings
use Rattle.report_text.specs.declared.report.ClientReport.{ClientReport}
use Rattle.report_text.specs.declared.report.ColumnReport.{ColumnReport}
use Rattle.report_text.specs.declared.report.Report.{Report}
use Rattle.run_picture.specs.Pieces.{texts_joined}
use Rattle.run_picture.specs.Places.{x_of, top_of}
use Rattle.run_picture.specs.Makers.{last_row, replies_of}
use Rattle.run_picture.specs.Answers.{home_of}

-- what a command was answered
abbrev pub answer_to : Report → Command → Option Answer
answer_to report command =
    option_map (λ reply. reply.answer) (find (λ reply. reply.line == command.line) (replies_of report command.client))

-- a sync's snapshot has the node at this position of the region's chain of the colour
abbrev pub is_in : ℕ → ℕ → ℕ → SyncPiece → Bool
is_in region colour position sync = (sync.colour == colour) && nat_lt position (at sync.counts region)

-- the snapshot of one of the syncs has it
abbrev pub is_in_any : ℕ → ℕ → ℕ → List SyncPiece → Bool
is_in_any region colour position syncs = list_any (is_in region colour position) syncs

-- a command that was answered so has played it
abbrev pub plays : Answer → ℕ → ℕ → ℕ → Bool
plays (Synced sync _) region colour position = is_in region colour position sync
plays (Got _ sync) region colour position = is_in region colour position sync
plays (GotMany _ sync) region colour position = is_in region colour position sync
plays (Took _ _ sync) region colour position = is_in region colour position sync
plays (Undecided _ sync) region colour position = is_in region colour position sync
plays (Scanned _ _ _ syncs) region colour position = is_in_any region colour position syncs
plays (GotKeys _ _ _ syncs) region colour position = is_in_any region colour position syncs
plays (Ruled _ _ _ _ _ _ syncs) region colour position = is_in_any region colour position syncs
plays (Changed _ _ _ _ _ _ syncs) region colour position = is_in_any region colour position syncs
plays (Listed _ _ _ syncs) region colour position = is_in_any region colour position syncs
plays (Decided _ _ _ _ _ syncs _) region colour position = is_in_any region colour position syncs
plays (Moved _ _ _ _) region colour position = false
plays (Stood _ _ _) region colour position = false
plays (StampEnd _) region colour position = false
plays (Full _) region colour position = false
plays (Stopped _) region colour position = false
plays (Pulled _ _ _) region colour position = false
plays SameRegion region colour position = false
plays (Based _ _) region colour position = false
plays NoTx region colour position = false
plays (UnreadTrimmed _ _ _) region colour position = false
plays (UnreadNoMemory _) region colour position = false
plays (Trimmed _ _) region colour position = false
plays (NotHome _) region colour position = false
plays NoMemory region colour position = false

-- it has played the node of an append of this region that stands there
abbrev pub plays_point : Answer → ℕ → PointPiece → Bool
plays_point answer region point = plays answer region point.colour point.position

-- it has played the node of a decision whose append in this region ended so
abbrev pub plays_end : Answer → ℕ → Ended → Bool
plays_end answer region (endings.Stood stamp point) = plays_point answer region point
plays_end answer region (endings.StampEnd _) = false
plays_end answer region endings.NoMemory = false

-- the position of the id in a line
abbrev pub place_in : Id → List Key → Option ℕ
place_in id line = position (λ key. same_id key.id id) line

-- it has played the node at this position of the column, which is one of the region, if there is one
abbrev pub plays_place : Answer → ℕ → ColumnReport → Option ℕ → Bool
plays_place answer region column None = false
plays_place answer region column (Some place) = (column.region == region) && plays answer region column.colour place

-- it has played the node of this region in the column
abbrev pub plays_column : Answer → ℕ → Id → ColumnReport → Bool
plays_column answer region id column = plays_place answer region column (place_in id column.line)

-- it has played the node of this region with the id, in whatever column, if there is one
abbrev pub plays_any_id : Report → Answer → ℕ → Option Id → Bool
plays_any_id report answer region None = false
plays_any_id report answer region (Some id) = list_any (plays_column answer region id) report.columns

-- it has played the node that a client of this region began last
abbrev pub plays_stop : Report → Answer → ℕ → ℕ → Bool
plays_stop report answer region client = plays_any_id report answer region (last_row client report.rows)

-- it has played what a command of a client of this region made, which was answered as is said last
abbrev pub plays_made : Report → Answer → ℕ → ℕ → Answer → Bool
plays_made report answer region client (Stood _ _ points) = list_any (plays_point answer region) points
plays_made report answer region client (Ruled _ _ _ points _ _ _) = list_any (plays_point answer region) points
plays_made report answer region client (Changed _ _ _ points _ _ _) = list_any (plays_point answer region) points
plays_made report answer region client (Took _ point _) = plays_point answer region point
plays_made report answer region client (Undecided _ _) = false
plays_made report answer region client (Decided _ _ _ _ _ _ ended) = plays_end answer region ended
plays_made report answer region client (Listed _ _ _ _) = false
plays_made report answer region client (Moved _ _ _ _) = false
plays_made report answer region client (Stopped steps) = nat_lt 0 steps && plays_stop report answer region client
plays_made report answer region client (StampEnd _) = false
plays_made report answer region client (Full _) = false
plays_made report answer region client (Synced _ _) = false
plays_made report answer region client (Scanned _ _ _ _) = false
plays_made report answer region client (Pulled _ _ _) = false
plays_made report answer region client SameRegion = false
plays_made report answer region client (Based _ _) = false
plays_made report answer region client (Got _ _) = false
plays_made report answer region client (GotMany _ _) = false
plays_made report answer region client (GotKeys _ _ _ _) = false
plays_made report answer region client NoTx = false
plays_made report answer region client (UnreadTrimmed _ _ _) = false
plays_made report answer region client (UnreadNoMemory _) = false
plays_made report answer region client (Trimmed _ _) = false
plays_made report answer region client (NotHome _) = false
plays_made report answer region client NoMemory = false

-- the second of two answers has played what the command made that got the first one; both are there
abbrev pub plays_both : Script → Report → Command → Option Answer → Option Answer → Bool
plays_both script report maker None answer = false
plays_both script report maker (Some made) None = false
plays_both script report maker (Some made) (Some answer) =
    plays_made report answer (home_of script maker.client) maker.client made

-- the second command has played what the first one made
abbrev pub has_read : Script → Report → Command → Command → Bool
has_read script report maker reader = plays_both script report maker (answer_to report maker) (answer_to report reader)

-- it is a command of the client, and has played what the other made
abbrev pub is_read : Script → Report → Command → ℕ → Command → Bool
is_read script report maker client reader = (reader.client == client) && has_read script report maker reader

-- the place of the client's first command that has played what the other made
abbrev pub read_place : Script → Report → List Command → Command → ℕ → Option ℕ
read_place script report commands maker client = position (is_read script report maker client) commands

-- the side of a box from which an arrow leaves it to the box of another lane
abbrev pub side_of : ℕ → ℕ → ℕ
side_of lane other = if nat_lt lane other then top_of lane + 48 else top_of lane + 12

-- an arrow from a command to one of another lane
abbrev pub arrow_label : ℕ → ℕ → ℕ → ℕ → List ℕ
arrow_label from maker to reader =
    texts_joined (codes "<path class='arrow' d='M" ∷ decimal (x_of from + 110) ∷ codes " " ∷ decimal (side_of maker reader)
    ∷ codes "L" ∷ decimal (x_of to + 26) ∷ codes " " ∷ decimal (side_of reader maker) ∷ codes "'/>\n" ∷ [])

-- the arrow to a client's command where there is one, and the client is another
abbrev pub arrow_to : ℕ → ℕ → Option ℕ → ℕ → List ℕ
arrow_to from maker None reader = []
arrow_to from maker (Some to) reader = if reader == maker then [] else arrow_label from maker to reader

-- the arrow from a command to the first read of a client
abbrev pub reader_arrow : Script → Report → List Command → ℕ → Command → ℕ → List ℕ
reader_arrow script report commands from maker client =
    arrow_to from maker.client (read_place script report commands maker client) client

-- the same for a client that is given with its number
abbrev pub maker_arrow : Script → Report → List Command → ℕ → Command → ℕ × ClientReport → List ℕ
maker_arrow script report commands from maker reader = reader_arrow script report commands from maker reader.0

-- the arrows from a command to the first read of each other client
abbrev pub maker_arrows : Script → Report → List Command → ℕ × Command → List ℕ
maker_arrows script report commands maker =
    flat_map (maker_arrow script report commands maker.0 maker.1) (enumerate_from 0 report.clients)

-- the arrows from each of the commands
abbrev pub arrows : Script → Report → List Command → List ℕ
arrows script report commands = flat_map (maker_arrows script report commands) (enumerate_from 0 commands)
