-- What one client knows of the log: the histories that it has seen, with whatever nodes and rows fit all else that it knows.
use Rattle.std.specs.Prelude.{ℕ, ◌<◌, List, [], ◌∷◌, ◌++◌}
use mathlib.Core.List.{IsPrefix}
use Rattle.log_node.specs.declared.node.Node.{Node}
use Rattle.col_core.specs.declared.Entry.{Entry}
use Rattle.col_core.specs.Computed.{dated}
use Rattle.col_core.specs.Legal.{IsColumnHistory}
use Rattle.col_core.specs.Rows.{BegunRow}
use Rattle.col_core.specs.Log.{Log}
use Rattle.col_core.specs.Keeping.{Kept}
use Rattle.script_text.specs.declared.script.Command.{Command}
use Rattle.report_text.specs.declared.report.ReplyLine.{ReplyLine}
use Rattle.lawful_run.specs.Callers.{Caller}
use Rattle.lawful_run.specs.Explains.{Answers, Explained}

-- the histories that a client has seen, by region and colour
abbrev pub Seen : Type 0
Seen = ℕ → ℕ → List Entry

-- the nodes of all clients, and the begun rows of all regions
pub record Rest : Type 0 where
  pub nodes : ℕ → List Node
  pub rows : ℕ → List BegunRow

-- the log that has what was seen, these nodes and these rows
abbrev pub log_seen : Seen → Rest → Log
log_seen seen rest = record { histories = seen; nodes = rest.nodes; rows = rest.rows }

-- more was seen
abbrev pub MoreIsSeen : Seen → Seen → Type 0
MoreIsSeen old new = (region colour : ℕ) → IsPrefix (old region colour) (new region colour)

-- what was seen is lawful
abbrev pub AreLawful : ℕ → Seen → Type 0
AreLawful regions seen = (region colour : ℕ) → IsColumnHistory region regions (dated region (seen region colour))

-- what a client of one of four regions had seen, and has seen later, which is lawful
pub record SeesOn (caller : Caller) (old new : Seen) : Type 0 where
  pub more : MoreIsSeen old new
  pub lawful : AreLawful caller.regions new
  pub home : caller.own < 4

-- With any nodes and rows that fit what the client knows, what it has seen explains its replies.
abbrev pub IsExplainedBy : Seen → (Rest → Type 0) → Caller → List Command → List ReplyLine → Kept → Type 0
IsExplainedBy seen Fits caller commands replies kept =
    (rest : Rest) → Fits rest → Explained (log_seen seen rest) caller commands replies kept

-- One command more: what was seen before explains the earlier replies, what is seen now explains this one, and less fits
-- what is known now.
abbrev pub RepliesLast : Type 1
RepliesLast =
    (old new : Seen) (Fitted Fits : Rest → Type 0) (caller : Caller) (commands : List Command)
    (replies : List ReplyLine) (kept after : Kept) (command : Command) (reply : ReplyLine)
    → SeesOn caller old new → ((rest : Rest) → Fits rest → Fitted rest)
    → IsExplainedBy old Fitted caller commands replies kept
    → ((rest : Rest) → Fits rest → Answers (log_seen new rest) caller kept command reply after)
    → IsExplainedBy new Fits caller (commands ++ command ∷ []) (replies ++ reply ∷ []) after

-- What is seen and known later goes on explaining the replies.
abbrev pub ExplainedOn : Type 1
ExplainedOn =
    (old new : Seen) (Fitted Fits : Rest → Type 0) (caller : Caller) (commands : List Command)
    (replies : List ReplyLine) (kept : Kept)
    → SeesOn caller old new → ((rest : Rest) → Fits rest → Fitted rest)
    → IsExplainedBy old Fitted caller commands replies kept → IsExplainedBy new Fits caller commands replies kept

-- The closing log explains the replies, where its own nodes and rows fit what the client knows.
abbrev pub ExplainedAtEnd : Type 1
ExplainedAtEnd =
    (seen : Seen) (Fits : Rest → Type 0) (caller : Caller) (commands : List Command) (replies : List ReplyLine)
    (kept : Kept) (closing : Log)
    → SeesOn caller seen closing.histories → Fits (record { nodes = closing.nodes; rows = closing.rows })
    → IsExplainedBy seen Fits caller commands replies kept → Explained closing caller commands replies kept
