-- Which places of its client's own events an answer prints.
use Rattle.std.specs.Prelude.{ℕ, List, [], ◌∷◌, ◌++◌, Option, Some, None}
use Rattle.log_node.specs.declared.node.At.{At}
use Rattle.log_node.specs.declared.node.At.TheVariants.{Event, Look}
use Rattle.col_core.specs.Keeping.{updated_at}
use Rattle.script_text.specs.declared.commands.What.{What}
use Rattle.script_text.specs.declared.commands.What.TheVariants as whats
use Rattle.script_text.specs.declared.script.Command.{Command}
use Rattle.report_text.specs.declared.report.Answer.{Answer}
use Rattle.report_text.specs.declared.report.Answer.TheVariants as answers
use Rattle.report_text.specs.declared.report.Ended.{Ended}
use Rattle.report_text.specs.declared.report.Ended.TheVariants as ends
use Rattle.report_text.specs.declared.report.PointPiece.{PointPiece}
use Rattle.report_text.specs.declared.report.RaisePiece.{RaisePiece}
use Rattle.report_text.specs.declared.report.ReplyLine.{ReplyLine}
use Rattle.lawful_run.specs.Reads.{events_until}

-- PLACES BY REGION AND COLOUR

-- none
abbrev pub nowhere : ℕ → ℕ → List ℕ
nowhere region colour = []

-- these of one column
abbrev pub only_at : ℕ → ℕ → List ℕ → ℕ → ℕ → List ℕ
only_at region colour places = updated_at nowhere region colour places

-- WHAT AN ANSWER PRINTS

-- the place of a raise or a carry: a look is at none
abbrev pub printed_at : ℕ → ℕ → At → ℕ → ℕ → List ℕ
printed_at region colour (Event place) = only_at region colour (place ∷ [])
printed_at region colour (Look events) = nowhere

-- those of the raises of a stamped read
abbrev pub printed_raises : ℕ → List RaisePiece → ℕ → ℕ → List ℕ
printed_raises own [] r c = []
printed_raises own (raise ∷ raises) r c = printed_at own raise.colour raise.at r c ++ printed_raises own raises r c

-- that of an append to one colour; one to several prints none, since others may have made those of its points
abbrev pub printed_append : ℕ → Option ℕ → List PointPiece → ℕ → ℕ → List ℕ
printed_append own None [] = nowhere
printed_append own None (point ∷ points) = only_at own point.colour (events_until point.at ∷ [])
printed_append own (Some number) points = nowhere

-- that of the append of a decision's node
abbrev pub printed_end : ℕ → Ended → ℕ → ℕ → List ℕ
printed_end own (ends.Stood stamp point) = only_at own point.colour (events_until point.at ∷ [])
printed_end own _ = nowhere

-- those that an answer prints, in a column: of an append to one colour, a give and a trim the place is there also where a look is
-- printed
abbrev pub printed : ℕ → Answer → What → ℕ → ℕ → List ℕ
printed own (answers.Stood stamp row points) what r c = printed_append own row points r c
printed own (answers.Scanned stamp count raises syncs) what r c = printed_raises own raises r c
printed own (answers.Pulled count give carry) (whats.Pull region colour) r c =
    only_at region colour (events_until give ∷ []) r c ++ printed_at own colour carry r c
printed own (answers.Based given base) (whats.Trim colour) r c = only_at own colour (events_until given ∷ []) r c
printed own (answers.GotKeys stamp shown raises syncs) what r c = printed_raises own raises r c
printed own (answers.Ruled conflict stamp row points read_stamp raises syncs) what r c =
    printed_append own row points r c ++ printed_raises own raises r c
printed own (answers.Changed failed stamp row points read_stamp raises syncs) what r c =
    printed_append own row points r c ++ printed_raises own raises r c
printed own (answers.Listed names stamp raises syncs) what r c = printed_raises own raises r c
printed own (answers.Decided commits stamp sync read_stamp raises syncs ended) what r c =
    printed_raises own raises r c ++ printed_end own ended r c
printed own (answers.Took value point sync) what r c = only_at own point.colour (events_until point.at ∷ []) r c
printed own _ what r c = []

-- those of replies to commands
abbrev pub printed_all : ℕ → List Command → List ReplyLine → ℕ → ℕ → List ℕ
printed_all own [] rs r c = []
printed_all own (command ∷ commands) [] r c = []
printed_all own (command ∷ commands) (reply ∷ replies) r c =
    printed own reply.answer command.what r c ++ printed_all own commands replies r c
