-- The lines of a client: its name, and for each command the answer and the nodes that it shows.
use Rattle.std.specs.Prelude.{ℕ, Bool, true, false, List, [], ◌∷◌, ◌++◌, Option, Some, None, decimal, codes}
use Rattle.std.specs.List.{flat_map}
use Rattle.log_node.specs.Seen.{PlacedNode}
use Rattle.object_form.specs.declared.tree_why.TreeWhy.{TreeWhy}
use Rattle.object_form.specs.Reasons.{why_text}
use Rattle.script_text.specs.Words.{word_text}
use Rattle.report_text.specs.declared.report.RaisePiece.{RaisePiece}
use Rattle.report_text.specs.declared.report.SyncPiece.{SyncPiece}
use Rattle.report_text.specs.declared.report.KeyAnswer.{KeyAnswer}
use Rattle.report_text.specs.declared.report.Answer.{Answer}
use Rattle.report_text.specs.declared.report.Answer.TheVariants.{Stood, StampEnd, Full, Stopped, Synced, Scanned, Pulled, SameRegion, Based, Got, GotMany, GotKeys, Ruled, Changed, Listed, Undecided, Decided, Moved, NoTx, Took, UnreadTrimmed, UnreadNoMemory, Trimmed, NotHome, NoMemory}
use Rattle.report_text.specs.declared.report.Ended.{Ended}
use Rattle.report_text.specs.declared.report.Ended.TheVariants as endings
use Rattle.report_text.specs.declared.report.ReplyLine.{ReplyLine}
use Rattle.report_text.specs.declared.report.ClientReport.{ClientReport}
use Rattle.report_text.specs.declared.report.Report.{Report}
use Rattle.report_text.specs.Names.{region_name, colour_name}
use Rattle.report_text.specs.Pieces.{line_end, spaced, listed, id_text, counts_text, at_text, point_text, raise_text, sync_text}

-- the number of the row that an append began, where it began one
abbrev pub row_text : Option ℕ → List ℕ
row_text None = []
row_text (Some number) = codes " row " ++ decimal number

-- `ok` and the value, or `none`
abbrev pub value_text : Option (List ℕ) → List ℕ
value_text None = codes "none"
value_text (Some value) = codes "ok " ++ value

-- `ok` and the values with commas, or `none`
abbrev pub values_text : List (List ℕ) → List ℕ
values_text [] = codes "none"
values_text (value ∷ values) = codes "ok " ++ listed (λ v. v) (value ∷ values)

-- the value, or a dash where there is none
abbrev pub value_or_dash : Option (List ℕ) → List ℕ
value_or_dash None = codes "-"
value_or_dash (Some value) = value

-- KEY=VALUE, or KEY=-
abbrev pub key_answer_text : KeyAnswer → List ℕ
key_answer_text answer = answer.key ++ 61 ∷ value_or_dash answer.value

-- `committed`, or `conflict` and the key that differs, and the stamp
abbrev pub verdict_text : Option (List ℕ) → ℕ → List ℕ
verdict_text None stamp = codes "committed " ++ decimal stamp
verdict_text (Some key) stamp = codes "conflict " ++ key ++ 32 ∷ decimal stamp

-- `done`, or `failed` and the reason, and the stamp
abbrev pub change_text : Option TreeWhy → ℕ → List ℕ
change_text None stamp = codes "done " ++ decimal stamp
change_text (Some why) stamp = codes "failed " ++ why_text why ++ 32 ∷ decimal stamp

-- names with commas, or a dash where there are none
abbrev pub listed_or_dash : List (List ℕ) → List ℕ
listed_or_dash [] = codes "-"
listed_or_dash (name ∷ names) = listed (λ n. n) (name ∷ names)

-- `ok`, the stamp and the names in a path, or `missing` and the stamp
abbrev pub names_text : Option (List (List ℕ)) → ℕ → List ℕ
names_text None stamp = codes "missing " ++ decimal stamp
names_text (Some names) stamp = codes "ok " ++ decimal stamp ++ 32 ∷ listed_or_dash names

-- the raises and the syncs of a stamped read
abbrev pub read_text : Report → List RaisePiece → List SyncPiece → List ℕ
read_text report raises syncs = spaced (raise_text report) raises ++ spaced (sync_text report) syncs

-- `committed` or `conflict`, and the stamp of the transaction that is decided
abbrev pub decided_words : Bool → ℕ → List ℕ
decided_words true stamp = codes "committed " ++ decimal stamp
decided_words false stamp = codes "conflict " ++ decimal stamp

-- how the append of a decision ended: where it stands, or why there is none
abbrev pub ended_text : Report → Ended → List ℕ
ended_text report (endings.Stood stamp point) = codes "ok " ++ decimal stamp ++ 32 ∷ point_text report point
ended_text report (endings.StampEnd colour) = codes "stampend " ++ colour_name report colour
ended_text report endings.NoMemory = codes "nomemory"

-- a colour, and after how many events it was looked at
abbrev pub look_text : Report → ℕ → ℕ → List ℕ
look_text report colour events = colour_name report colour ++ 63 ∷ decimal events

-- what a command was answered: how it ended, and then what there is to tell of that
abbrev pub answer_text : Report → Answer → List ℕ
answer_text report (Stood stamp row points) = codes "ok " ++ decimal stamp ++ row_text row ++ spaced (point_text report) points
answer_text report (StampEnd colour) = codes "stampend " ++ colour_name report colour
answer_text report (Full used) = codes "full " ++ decimal used
answer_text report (Stopped steps) = codes "stopped " ++ decimal steps
answer_text report (Synced sync plays) = codes "ok " ++ sync_text report sync ++ codes " plays " ++ decimal plays
answer_text report (Scanned stamp nodes raises syncs) =
    codes "ok " ++ decimal stamp ++ codes " nodes " ++ decimal nodes ++ read_text report raises syncs
answer_text report (Pulled nodes give carry) =
    codes "ok " ++ decimal nodes ++ codes " give " ++ at_text give ++ codes " carry " ++ at_text carry
answer_text report SameRegion = codes "sameregion"
answer_text report (Based place base) = codes "ok " ++ at_text place ++ codes " base " ++ counts_text report base
answer_text report (Got value sync) = value_text value ++ 32 ∷ sync_text report sync
answer_text report (GotMany values sync) = values_text values ++ 32 ∷ sync_text report sync
answer_text report (GotKeys stamp keys raises syncs) =
    codes "ok " ++ decimal stamp ++ spaced key_answer_text keys ++ read_text report raises syncs
answer_text report (Ruled conflict stamp row points read_stamp raises syncs) =
    verdict_text conflict stamp ++ row_text row ++ spaced (point_text report) points
    ++ codes " at " ++ decimal read_stamp ++ read_text report raises syncs
answer_text report (Changed failed stamp row points read_stamp raises syncs) =
    change_text failed stamp ++ row_text row ++ spaced (point_text report) points
    ++ codes " at " ++ decimal read_stamp ++ read_text report raises syncs
answer_text report (Listed names stamp raises syncs) = names_text names stamp ++ read_text report raises syncs
answer_text report (Undecided stamp sync) = codes "undecided " ++ decimal stamp ++ 32 ∷ sync_text report sync
answer_text report (Decided commits stamp sync read_stamp raises syncs ended) =
    decided_words commits stamp ++ 32 ∷ sync_text report sync
    ++ codes " at " ++ decimal read_stamp ++ read_text report raises syncs ++ 32 ∷ ended_text report ended
answer_text report (Moved lined waiting colour events) =
    codes "moved " ++ decimal lined ++ 32 ∷ decimal waiting ++ 32 ∷ look_text report colour events
answer_text report NoTx = codes "notx"
answer_text report (Took value point sync) = value_text value ++ 32 ∷ point_text report point ++ 32 ∷ sync_text report sync
answer_text report (UnreadTrimmed stamp colour base) =
    codes "unread " ++ decimal stamp ++ codes " trimmed " ++ colour_name report colour ++ 32 ∷ counts_text report base
answer_text report (UnreadNoMemory stamp) = codes "unread " ++ decimal stamp ++ codes " nomemory"
answer_text report (Trimmed colour base) = codes "trimmed " ++ colour_name report colour ++ 32 ∷ counts_text report base
answer_text report (NotHome home) = codes "nothome " ++ region_name report home
answer_text report NoMemory = codes "nomemory"

-- `+ ID STAMP TEXT`
abbrev pub node_line : Report → PlacedNode → List ℕ
node_line report item =
    codes "+ " ++ id_text report item.head.key.id ++ 32 ∷ decimal item.head.key.stamp ++ 32 ∷ item.node.text ++ line_end

-- the script's line, the command's word, the answer; then the nodes that it shows
abbrev pub reply_lines : Report → ReplyLine → List ℕ
reply_lines report reply =
    decimal reply.line ++ 32 ∷ word_text reply.word ++ 32 ∷ answer_text report reply.answer ++ line_end
    ++ flat_map (node_line report) reply.nodes

-- the line with a client's name, and then the lines of its replies
abbrev pub client_lines : Report → ClientReport → List ℕ
client_lines report client = codes "client " ++ client.name ++ line_end ++ flat_map (reply_lines report) client.replies
