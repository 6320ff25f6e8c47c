-- Reports of a map that is played by its parts that are wrong: the client a of the region e has the object o, whose home is e.
use Rattle.std.specs.Prelude.{ℕ, List, [], ◌∷◌, codes, false, Some, None}
use Rattle.log_node.specs.declared.forms.Pair.{Pair}
use Rattle.log_node.specs.declared.node.At.TheVariants.{Look}
use Rattle.log_node.specs.declared.marks.Mark.TheVariants as marks
use Rattle.log_node.specs.declared.marks.Outcome.TheVariants.{Final}
use Rattle.script_text.specs.declared.script.Kind.{Kind}
use Rattle.script_text.specs.declared.script.Kind.TheVariants as kinds
use Rattle.script_text.specs.declared.commands.What.{What}
use Rattle.script_text.specs.declared.commands.What.TheVariants as whats
use Rattle.script_text.specs.declared.commands.Word.{Word}
use Rattle.script_text.specs.declared.commands.Word.TheVariants as words
use Rattle.script_text.specs.declared.script.Command.{Command}
use Rattle.report_text.specs.declared.report.Answer.{Answer}
use Rattle.report_text.specs.declared.report.Answer.TheVariants as answers
use Rattle.report_text.specs.declared.report.Ended.TheVariants as ends
use Rattle.report_text.specs.declared.report.RaisePiece.{RaisePiece}
use Rattle.report_text.specs.declared.report.ReplyLine.{ReplyLine}
use Rattle.report_text.specs.declared.report.SyncPiece.{SyncPiece}
use Rattle.wrong_reports.specs.Cases.{Case, a, e, x, y, id, counts, script, asks, replies, to_a, look, empty, point, shows}
use Rattle.wrong_reports.specs.Guarded.{second}
use Rattle.wrong_reports.specs.Objects.{over}
use Rattle.wrong_reports.specs.Reads.{raise}
use Rattle.wrong_reports.specs.Rows.{complete, row}

-- a map that is played by its parts, on these colours
abbrev pub parts : List ℕ → Kind
parts colours = kinds.Parts e colours

-- parts o e x
-- 7 a peek o k
-- 7 peek undecided 1 x?0/0
abbrev pub undecided_where_nothing_waits : Case
undecided_where_nothing_waits =
    second (over (parts (x ∷ [])) (asks 7 a (whats.Peek 0 (codes "k")) ∷ [])
    (replies 7 words.Peek (answers.Undecided 1 (look x 0 (counts 0 0))) ∷ []) (empty e x))

-- the pair of b and 7; the shard of b is x, and that of a is y
abbrev pub a_pair : List Pair
a_pair = record { key = codes "b"; value = codes "7" } ∷ []

-- 8 a read o a
abbrev pub reads : Command
reads = asks 8 a (whats.Read 0 (codes "a" ∷ []))

-- 9 a commit o b=7
abbrev pub commits : Command
commits = asks 9 a (whats.Commit 0 a_pair)

-- 8 read ok 0 a=- x?0 y?0 x?0/0 y?0/0
abbrev pub finds_none : ReplyLine
finds_none = replies 8 words.Read (answers.GotKeys 0 (record { key = codes "a"; value = None } ∷ [])
    (raise x (Look 0) ∷ raise y (Look 0) ∷ []) (look x 0 (counts 0 0) ∷ look y 0 (counts 0 0) ∷ []))

-- x?2 y?2
abbrev pub raised : List RaisePiece
raised = raise x (Look 2) ∷ raise y (Look 2) ∷ []

-- x?2/1 y?2/1
abbrev pub synced : List SyncPiece
synced = look x 2 (counts 1 0) ∷ look y 2 (counts 1 0) ∷ []

-- 9 commit committed 1 row 0 x!0@0 y!0@0 at 1 x?2 y?2 x?2/1 y?2/1
abbrev pub committed : ReplyLine
committed =
    replies 9 words.Commit (answers.Ruled None 1 (Some 0) (point x 0 0 ∷ point y 0 0 ∷ []) 1 raised synced)

-- A command behind a transaction that the part on x can't tell: it has read a, of which the line of x says nothing.
-- parts o e x y
-- 8 a read o a
-- 9 a commit o b=7
-- row e a.0 a.0 x=1 y=1 final 1
abbrev pub waiting : What → Word → Answer → Case
waiting what word answer = second (record {
  script = script 1 2 (e ∷ []) (record { name = codes "o"; kind = parts (x ∷ y ∷ []) } ∷ [])
      (reads ∷ commits ∷ asks 10 a what ∷ []);
  report = shows (to_a (finds_none ∷ committed ∷ replies 10 word answer ∷ []))
      (row e a 0 (id a 0) (marks.Number 1) (marks.Number 1) (Final 1) ∷ []) (complete x ∷ complete y ∷ []);
})

-- 10 a peek o b
-- 10 peek ok 7 x?2/1
abbrev pub a_value_where_a_transaction_waits : Case
a_value_where_a_transaction_waits =
    waiting (whats.Peek 0 (codes "b")) words.Peek (answers.Got (Some (codes "7")) (look x 2 (counts 1 0)))

-- 10 a decide o b
-- 10 decide none x?2/1
abbrev pub nothing_to_decide_where_a_transaction_waits : Case
nothing_to_decide_where_a_transaction_waits =
    waiting (whats.Decide 0 (codes "b")) words.Decide (answers.Got None (look x 2 (counts 1 0)))

-- 10 a decide o b
-- 10 decide conflict 1 x?2/1 at 1 x?2 y?2 x?2/1 y?2/1 nomemory
abbrev pub a_decision_that_says_the_opposite : Case
a_decision_that_says_the_opposite =
    waiting (whats.Decide 0 (codes "b")) words.Decide
    (answers.Decided false 1 (look x 2 (counts 1 0)) 1 raised synced ends.NoMemory)
