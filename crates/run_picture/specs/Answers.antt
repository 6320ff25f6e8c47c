-- What a command was answered, as a drawing has it.
use Rattle.std.specs.Prelude.{Bool, true, false, ℕ, ◌==◌, min, ◌&&◌, List, [], ◌∷◌, ◌++◌, Option, Some, None, option_map, slice_get, slice_index, decimal, codes}
use Rattle.std.specs.List.{flat_map, find, enumerate_from}
use Rattle.log_node.specs.declared.ids.Id.{Id}
use Rattle.log_node.specs.declared.ids.Counts.{Counts}
use Rattle.log_node.specs.Vectors.{at}
use Rattle.object_form.specs.declared.tree_why.TreeWhy.{TreeWhy}
use Rattle.object_form.specs.Reasons.{why_text}
use Rattle.script_text.specs.declared.script.Script.{Script}
use Rattle.report_text.specs.declared.report.PointPiece.{PointPiece}
use Rattle.report_text.specs.declared.report.KeyAnswer.{KeyAnswer}
use Rattle.report_text.specs.declared.report.Answer.{Answer}
use Rattle.report_text.specs.declared.report.Answer.TheVariants.{Stood, StampEnd, Full, Stopped, Synced, Scanned, Pulled, SameRegion, Based, Got, GotMany, GotKeys, Ruled, Changed, Listed, Undecided, Decided, Moved, NoTx, Took, UnreadTrimmed, UnreadNoMemory, Trimmed, NotHome, NoMemory}
use Rattle.report_text.specs.declared.report.Ended.{Ended}
use Rattle.report_text.specs.declared.report.Ended.TheVariants as endings
use Rattle.report_text.specs.declared.report.ColumnReport.{ColumnReport}
use Rattle.report_text.specs.declared.report.Report.{Report}
use Rattle.report_text.specs.Names.{client_name}
use Rattle.run_picture.specs.Pieces.{text_shown, texts_joined}
use Rattle.run_picture.specs.Labels.{field_label}

-- the region of a client; 0 where the number names no client
abbrev pub home_of : Script → ℕ → ℕ
home_of script client = slice_index script.shape.homes client

-- the column is that of the region and the colour
abbrev pub is_column_of : ℕ → ℕ → ColumnReport → Bool
is_column_of region colour column = (column.region == region) && (column.colour == colour)

-- the column of a region and a colour, if the report has it
abbrev pub column_of : Report → ℕ → ℕ → Option ColumnReport
column_of report region colour = find (is_column_of region colour) report.columns

-- the id at a position of the column's own line, if there is one
abbrev pub id_on : ℕ → Option ColumnReport → Option Id
id_on position None = None
id_on position (Some column) = option_map (λ key. key.id) (slice_get column.line position)

-- the id of the node where an append of this region stands
abbrev pub id_at : Report → ℕ → PointPiece → Option Id
id_at report region point = id_on point.position (column_of report region point.colour)

-- the same, of the first of the points
abbrev pub first_id : Report → ℕ → List PointPiece → Option Id
first_id report region [] = None
first_id report region (point ∷ points) = id_at report region point

-- an id, where there is one
abbrev pub id_label : Report → Option Id → List ℕ
id_label report None = []
id_label report (Some id) =
    texts_joined (text_shown (client_name report id.client) ∷ codes "." ∷ decimal id.count ∷ codes " " ∷ [])

-- a value, or that there is none
abbrev pub value_label : Option (List ℕ) → List ℕ
value_label None = texts_joined (codes "none" ∷ [])
value_label (Some value) = texts_joined (text_shown value ∷ [])

-- values, or that there is none
abbrev pub values_label : List (List ℕ) → List ℕ
values_label [] = texts_joined (codes "none" ∷ [])
values_label (value ∷ values) = flat_map field_label (value ∷ values)

-- the number of a base for a region
abbrev pub count_label : Counts → ℕ → List ℕ
count_label base region = texts_joined (codes " " ∷ decimal (at base (min region 255)) ∷ [])

-- the same for a region that is given with its name
abbrev pub region_label : Counts → ℕ × List ℕ → List ℕ
region_label base placed = count_label base placed.0

-- the base that a trim left, a number for each region
abbrev pub based_label : Script → Counts → List ℕ
based_label script base =
    texts_joined (codes "base" ∷ []) ++ flat_map (region_label base) (enumerate_from 0 script.regions)

-- a value, and `-` where there is none
abbrev pub value_or_dash : Option (List ℕ) → List ℕ
value_or_dash None = codes "-"
value_or_dash (Some value) = value

-- KEY=VALUE, or KEY=-
abbrev pub found_label : KeyAnswer → List ℕ
found_label found =
    texts_joined (codes " " ∷ text_shown found.key ∷ codes "=" ∷ text_shown (value_or_dash found.value) ∷ [])

-- the verdict on a transaction
abbrev pub verdict_label : Option (List ℕ) → ℕ → List ℕ
verdict_label None stamp = texts_joined (codes "committed " ∷ decimal stamp ∷ [])
verdict_label (Some key) stamp = texts_joined (codes "conflict " ∷ text_shown key ∷ [])

-- a node that was made under this stamp
abbrev pub stood_label : Report → Option Id → ℕ → List ℕ
stood_label report id stamp = id_label report id ++ texts_joined (codes "stamp " ∷ decimal stamp ∷ [])

-- a transaction's node, and its verdict
abbrev pub ruled_label : Report → Option Id → Option (List ℕ) → ℕ → List ℕ
ruled_label report id conflict stamp = id_label report id ++ verdict_label conflict stamp

-- the node of one that took a value from a queue, and the value
abbrev pub took_label : Report → Option Id → Option (List ℕ) → List ℕ
took_label report id value = id_label report id ++ value_label value

-- what became of a change of a tree
abbrev pub told_label : Option TreeWhy → ℕ → List ℕ
told_label None stamp = texts_joined (codes "done " ∷ decimal stamp ∷ [])
told_label (Some why) stamp = texts_joined (codes "failed " ∷ text_shown (why_text why) ∷ [])

-- a change's node, and what became of it
abbrev pub changed_label : Report → Option Id → Option TreeWhy → ℕ → List ℕ
changed_label report id failed stamp = id_label report id ++ told_label failed stamp

-- the names in a path of a tree, or that it is not there
abbrev pub listed_label : Option (List (List ℕ)) → List ℕ
listed_label None = texts_joined (codes "missing" ∷ [])
listed_label (Some names) = values_label names

-- a transaction whose verdict is not known yet
abbrev pub undecided_label : ℕ → List ℕ
undecided_label stamp = texts_joined (codes "undecided " ∷ decimal stamp ∷ [])

-- the verdict that is decided on the transaction under this stamp
abbrev pub decision_label : Bool → ℕ → List ℕ
decision_label true stamp = texts_joined (codes "committed " ∷ decimal stamp ∷ [])
decision_label false stamp = texts_joined (codes "conflict " ∷ decimal stamp ∷ [])

-- the id of the node of a decision whose append in this region ended so
abbrev pub ended_id : Report → ℕ → Ended → Option Id
ended_id report region (endings.Stood stamp point) = id_at report region point
ended_id report region (endings.StampEnd _) = None
ended_id report region endings.NoMemory = None

-- a decision's node, and the verdict
abbrev pub decided_label : Report → Option Id → Bool → ℕ → List ℕ
decided_label report id commits stamp = id_label report id ++ decision_label commits stamp

-- what a command of a client of this region was answered
abbrev pub answer_label : Script → Report → ℕ → Answer → List ℕ
answer_label script report region (Stood stamp _ points) = stood_label report (first_id report region points) stamp
answer_label script report region (Ruled conflict stamp _ points _ _ _) =
    ruled_label report (first_id report region points) conflict stamp
answer_label script report region (Changed failed stamp _ points _ _ _) =
    changed_label report (first_id report region points) failed stamp
answer_label script report region (Listed names _ _ _) = listed_label names
answer_label script report region (Undecided stamp _) = undecided_label stamp
answer_label script report region (Decided commits stamp _ _ _ _ ended) =
    decided_label report (ended_id report region ended) commits stamp
answer_label script report region (Moved lined _ _ _) = texts_joined (codes "moved " ∷ decimal lined ∷ [])
answer_label script report region (Took value point _) = took_label report (id_at report region point) value
answer_label script report region (Got value _) = value_label value
answer_label script report region (GotMany values _) = values_label values
answer_label script report region (GotKeys _ keys _ _) = flat_map found_label keys
answer_label script report region (Based _ base) = based_label script base
answer_label script report region (Stopped steps) = texts_joined (codes "stops after step " ∷ decimal steps ∷ [])
answer_label script report region (Synced _ plays) = texts_joined (codes "plays " ∷ decimal plays ∷ [])
answer_label script report region (Scanned _ nodes _ _) = texts_joined (codes "nodes " ∷ decimal nodes ∷ [])
answer_label script report region (Pulled nodes _ _) = texts_joined (codes "carries " ∷ decimal nodes ∷ [])
answer_label script report region (StampEnd _) = texts_joined (codes "stampend" ∷ [])
answer_label script report region (Full _) = texts_joined (codes "full" ∷ [])
answer_label script report region SameRegion = texts_joined (codes "sameregion" ∷ [])
answer_label script report region NoTx = texts_joined (codes "notx" ∷ [])
answer_label script report region (UnreadTrimmed _ _ _) = texts_joined (codes "unread" ∷ [])
answer_label script report region (UnreadNoMemory _) = texts_joined (codes "unread" ∷ [])
answer_label script report region (Trimmed _ _) = texts_joined (codes "trimmed" ∷ [])
answer_label script report region (NotHome _) = texts_joined (codes "nothome" ∷ [])
answer_label script report region NoMemory = texts_joined (codes "nomemory" ∷ [])
