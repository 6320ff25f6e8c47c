-- Reports of objects' commands that are wrong: the client a of the region e has one object on x, whose home is e.
use Rattle.std.specs.Prelude.{ℕ, List, [], ◌∷◌, codes, Some, None}
use Rattle.log_node.specs.declared.forms.Pair.{Pair}
use Rattle.log_node.specs.declared.node.At.TheVariants.{Look}
use Rattle.log_node.specs.declared.marks.Mark.TheVariants as marks
use Rattle.log_node.specs.declared.marks.Outcome.TheVariants.{Final}
use Rattle.script_text.specs.declared.script.Kind.{Kind}
use Rattle.script_text.specs.declared.script.Kind.TheVariants as kinds
use Rattle.script_text.specs.declared.commands.What.TheVariants as whats
use Rattle.script_text.specs.declared.commands.Word.TheVariants as words
use Rattle.script_text.specs.declared.script.Command.{Command}
use Rattle.report_text.specs.declared.report.Answer.{Answer}
use Rattle.report_text.specs.declared.report.Answer.TheVariants as answers
use Rattle.report_text.specs.declared.report.ReplyLine.{ReplyLine}
use Rattle.report_text.specs.declared.report.ColumnReport.{ColumnReport}
use Rattle.wrong_reports.specs.Cases.{Case, a, b, e, w, x, counts, script, asks, replies, to_a, to_both, look, empty}
use Rattle.wrong_reports.specs.Cases.{y, id, on_both, point, shows}
use Rattle.wrong_reports.specs.Naming.{one_node}
use Rattle.wrong_reports.specs.Rows.{row, proposed}
use Rattle.wrong_reports.specs.Reads.{raise}

-- the client a alone, over one object
abbrev pub over : Kind → List Command → List ReplyLine → ColumnReport → Case
over kind commands lines column = record {
  script = script 1 1 (e ∷ []) (record { name = codes "o"; kind = kind } ∷ []) commands;
  report = shows (to_a lines) [] (column ∷ []);
}

-- a map on x
abbrev pub map : Kind
map = kinds.Map e (x ∷ [])

-- a transactional map on x
abbrev pub tx : Kind
tx = kinds.Tx e (x ∷ [])

-- a queue on x
abbrev pub queue : Kind
queue = kinds.Queue e x

-- map o e x
-- 7 a put o k v
-- 7 put nothome e
abbrev pub refused_at_home : Case
refused_at_home =
    over map (asks 7 a (whats.Put 0 (codes "k") (codes "v")) ∷ []) (replies 7 words.Put (answers.NotHome e)
    ∷ []) (empty e x)

-- map o e x, and the client b of the region w
abbrev pub away : Answer → List ColumnReport → Case
away answer columns = record {
  script = script 2 1 (e ∷ w ∷ []) (record { name = codes "o"; kind = map }
      ∷ []) (asks 8 b (whats.Put 0 (codes "k") (codes "v")) ∷ []);
  report = shows (to_both [] (replies 8 words.Put answer ∷ [])) [] columns;
}

-- 8 put ok 1 x!0@0
abbrev pub answered_away_from_home : Case
answered_away_from_home = away (answers.Stood 1 None (point x 0 0 ∷ [])) (empty e x ∷ empty w x ∷ [])

-- 8 put nothome w
abbrev pub another_home : Case
another_home = away (answers.NotHome w) (empty e x ∷ empty w x ∷ [])

-- map o e x
-- 7 a get o k
-- 7 get ok v x?0/0
abbrev pub a_value_of_nothing : Case
a_value_of_nothing =
    over map (asks 7 a (whats.Get 0 (codes "k")) ∷ [])
    (replies 7 words.Get (answers.Got (Some (codes "v")) (look x 0 (counts 0 0))) ∷ []) (empty e x)

-- map o e x
-- 7 a getall o k
-- 7 getall ok 0 j=- x?0 x?0/0
abbrev pub a_value_of_another_key : Case
a_value_of_another_key =
    over map (asks 7 a (whats.GetAll 0 (codes "k" ∷ [])) ∷ [])
    (replies 7 words.GetAll (answers.GotKeys 0 (record { key = codes "j"; value = None } ∷ []) (raise x (Look 0) ∷ [])
    (look x 0 (counts 0 0) ∷ [])) ∷ []) (empty e x)

-- causal o x
-- 7 a get o k
-- 7 get ok v x?0/0
abbrev pub a_causal_value_of_nothing : Case
a_causal_value_of_nothing =
    over (kinds.Causal x) (asks 7 a (whats.Get 0 (codes "k")) ∷ [])
    (replies 7 words.Get (answers.GotMany (codes "v" ∷ []) (look x 0 (counts 0 0))) ∷ []) (empty e x)

-- queue o e x
-- 7 a deq o
-- 7 deq ok 1 x!0@0
abbrev pub a_dequeue_answered_as_an_append : Case
a_dequeue_answered_as_an_append =
    over queue (asks 7 a (whats.Deq 0) ∷ []) (replies 7 words.Deq (answers.Stood 1 None (point x 0 0 ∷ []))
    ∷ []) one_node

-- 7 deq ok v x!0@0 x?1/1
abbrev pub a_dequeue_of_nothing : Case
a_dequeue_of_nothing =
    over queue (asks 7 a (whats.Deq 0) ∷ [])
    (replies 7 words.Deq (answers.Took (Some (codes "v")) (point x 0 0) (look x 1 (counts 1 0))) ∷ []) one_node

-- the pair of k and v
abbrev pub one_pair : List Pair
one_pair = record { key = codes "k"; value = codes "v" } ∷ []

-- a read of k that finds nothing
abbrev pub read_at : ℕ → ReplyLine
read_at line = replies line words.Read (answers.GotKeys 0 (record { key = codes "k"; value = None }
    ∷ []) (raise x (Look 0) ∷ [])
    (look x 0 (counts 0 0) ∷ []))

-- tx o e x
-- 7 a read o k
-- 8 a commit o k=v
-- 7 read ok 0 k=- x?0 x?0/0
-- 8 commit notx
abbrev pub a_read_that_is_forgotten : Case
a_read_that_is_forgotten =
    over tx (asks 7 a (whats.Read 0 (codes "k" ∷ [])) ∷ asks 8 a (whats.Commit 0 one_pair) ∷ [])
    (read_at 7 ∷ replies 8 words.Commit answers.NoTx ∷ []) (empty e x)

-- tx o e x
-- 7 a read o k
-- 8 a commit o k=v
-- 9 a commit o k=v
-- 7 read ok 0 k=- x?0 x?0/0
-- 8 commit nomemory
-- 9 commit unread 1 nomemory
abbrev pub a_commit_that_keeps_its_read : Case
a_commit_that_keeps_its_read =
    over tx (asks 7 a (whats.Read 0 (codes "k" ∷ [])) ∷ asks 8 a (whats.Commit 0 one_pair)
    ∷ asks 9 a (whats.Commit 0 one_pair) ∷ [])
    (read_at 7 ∷ replies 8 words.Commit answers.NoMemory ∷ replies 9 words.Commit (answers.UnreadNoMemory 1)
    ∷ []) (empty e x)

-- a commit that is told of a conflict on k
abbrev pub conflicts : ReplyLine
conflicts = replies 8 words.Commit (answers.Ruled (Some (codes "k")) 0 None (point x 0 0 ∷ []) 1
    (raise x (Look 1) ∷ []) (look x 1 (counts 1 0) ∷ []))

-- tx o e x
-- 7 a read o k
-- 8 a commit o k=v
-- 7 read ok 0 k=- x?0 x?0/0
-- 8 commit ok 1 x!0@0 conflict k 0 read 1 x?1 x?1/1
-- column e x
-- 0 a single a.0 floor 0 wants 0 stamp 1
-- = clock 1 line a.0:1 queue - cut 1 base 0
abbrev pub a_conflict_with_nothing : Case
a_conflict_with_nothing =
    over tx (asks 7 a (whats.Read 0 (codes "k" ∷ [])) ∷ asks 8 a (whats.Commit 0 one_pair) ∷ [])
    (read_at 7 ∷ conflicts ∷ []) one_node

-- map o e x
-- 7 a getall o k
-- 7 getall ok 0 k=v x?0 x?0/0
abbrev pub many_values_of_nothing : Case
many_values_of_nothing =
    over map (asks 7 a (whats.GetAll 0 (codes "k" ∷ [])) ∷ [])
    (replies 7 words.GetAll (answers.GotKeys 0 (record { key = codes "k"; value = Some (codes "v") } ∷ [])
    (raise x (Look 0) ∷ []) (look x 0 (counts 0 0) ∷ [])) ∷ []) (empty e x)

-- tx o e x
-- 7 a read o k
-- 7 read ok 0 k=v x?0 x?0/0
abbrev pub a_read_of_nothing : Case
a_read_of_nothing =
    over tx (asks 7 a (whats.Read 0 (codes "k" ∷ [])) ∷ [])
    (replies 7 words.Read (answers.GotKeys 0 (record { key = codes "k"; value = Some (codes "v") } ∷ [])
    (raise x (Look 0) ∷ []) (look x 0 (counts 0 0) ∷ [])) ∷ []) (empty e x)

-- queue o e x
-- 7 a deq o
abbrev pub dequeues : Answer → Case
dequeues answer = over queue (asks 7 a (whats.Deq 0) ∷ []) (replies 7 words.Deq answer ∷ []) one_node

-- 7 deq unread 1 trimmed x 0
abbrev pub unread_where_nothing_is_trimmed : Case
unread_where_nothing_is_trimmed = dequeues (answers.UnreadTrimmed 1 x (counts 0 0))

-- 7 deq unread 1 trimmed y 0
abbrev pub unread_for_another_colour : Case
unread_for_another_colour = dequeues (answers.UnreadTrimmed 1 y (counts 0 0))

-- 7 deq unread 2 nomemory
abbrev pub unread_under_another_stamp : Case
unread_under_another_stamp = dequeues (answers.UnreadNoMemory 2)

-- tx o e x,y
-- 8 a read o j
-- 9 a commit o k=v
-- 10 a stop 0 x,y t
-- 8 read ok 0 j=- x?0 y?0 x?0/0 y?0/0
-- 9 commit unread 1 nomemory
-- 10 stop stopped 0
-- row e a.0 a.0 x=1 y=1 final 1
-- column e x and column e y
-- 0 a propose a.0 floor 0 wants 0 stamp 1
-- = clock 1 line - queue a.0:1? cut 0 base 0
abbrev pub unread_before_it_is_settled : Case
unread_before_it_is_settled = record {
  script = script 1 2 (e ∷ []) (record { name = codes "o"; kind = kinds.Tx e (x ∷ y ∷ []) } ∷ [])
      (asks 8 a (whats.Read 0 (codes "j" ∷ [])) ∷ asks 9 a (whats.Commit 0 one_pair)
      ∷ asks 10 a (whats.Stop 0 on_both (codes "t")) ∷ []);
  report = shows (to_a (replies 8 words.Read (answers.GotKeys 0 (record { key = codes "j"; value = None } ∷ [])
      (raise x (Look 0) ∷ raise y (Look 0) ∷ []) (look x 0 (counts 0 0) ∷ look y 0 (counts 0 0) ∷ []))
      ∷ replies 9 words.Commit (answers.UnreadNoMemory 1) ∷ replies 10 words.Stop (answers.Stopped 0) ∷ []))
      (row e a 0 (id a 0) (marks.Number 1) (marks.Number 1) (Final 1) ∷ []) (proposed x ∷ proposed y ∷ []);
}
