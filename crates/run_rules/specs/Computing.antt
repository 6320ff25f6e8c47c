-- What reads found, computed: one stamp after another, each read by the texts that the reads of lower stamps leave.
use Rattle.std.specs.Prelude.{ℕ, zero, suc, max, ◌==◌, if◌then◌else◌, List, [], ◌∷◌, map, Option, Some, None, slice_get}
use Rattle.std.specs.List.{flat_map, fold}
use Rattle.log_node.specs.declared.ids.Key.{Key}
use Rattle.log_node.specs.declared.node.Node.{Node}
use Rattle.log_node.specs.declared.forms.Version.{Version}
use Rattle.object_fold.specs.Nodes.{ObjectNode}
use Rattle.object_fold.specs.Transactions.{versions_after}
use Rattle.part_fold.specs.declared.decision.Decision.{Decision}
use Rattle.col_core.specs.Log.{Log}
use Rattle.playback.specs.Merging.{region_order}
use Rattle.script_text.specs.declared.script.Script.{Script}
use Rattle.report_text.specs.declared.report.Answer.{Answer}
use Rattle.report_text.specs.declared.report.Answer.TheVariants as answers
use Rattle.report_text.specs.declared.report.KeyAnswer.{KeyAnswer}
use Rattle.report_text.specs.declared.report.ReplyLine.{ReplyLine}
use Rattle.report_text.specs.declared.report.SyncPiece.{SyncPiece}
use Rattle.report_text.specs.declared.report.Report.{Report}
use Rattle.lawful_run.specs.Callers.{Caller, caller_of}
use Rattle.lawful_run.specs.Reads.{lines_read}
use Rattle.run_rules.specs.Told.{Account}
use Rattle.run_rules.specs.Telling.{account_with, replies_to, unnamed}
use Rattle.run_rules.specs.Nodes.{any_decision, nodes_with}
use Rattle.run_rules.specs.Keeping.{all_replies}

-- ONE READ

-- an object reads the node of this key, where there is one
abbrev pub node_read : Key → Option Node → List ObjectNode
node_read key None = []
node_read key (Some node) = record { key = key; colours = node.colours; text = node.text } ∷ []

-- the nodes of keys, by a log
abbrev pub nodes_read : Log → List Key → List ObjectNode
nodes_read log keys = flat_map (λ (key : Key). node_read key (slice_get (log.nodes key.id.client) key.id.count)) keys

-- the keys that an answer shows
abbrev pub keys_shown : List KeyAnswer → List (List ℕ)
keys_shown shown = map (λ (k : KeyAnswer). k.key) shown

-- what the transactions up to a read's stamp left of the keys that it shows, by a log
abbrev pub versions_told : Log → Caller → ℕ → List KeyAnswer → List SyncPiece → List Version
versions_told log caller stamp shown syncs =
    versions_after (nodes_read log (region_order stamp (lines_read log caller syncs))) (keys_shown shown)

-- ONE STAMP AFTER ANOTHER

-- that is what a read of this stamp found; others found what they did
abbrev pub found_at : ℕ → Log → Caller → Answer → List Version → List Version
found_at now log caller (answers.GotKeys stamp shown raises syncs) found =
    if stamp == now then versions_told log caller stamp shown syncs else found
found_at now log caller _ found = found

-- the answer of a reply, where there is one
abbrev pub answer_in : Option ReplyLine → Answer
answer_in None = answers.NoTx
answer_in (Some reply) = reply.answer

-- the answer to a client's command with this number
abbrev pub answer_to : Report → ℕ → ℕ → Answer
answer_to report client k = answer_in (slice_get (replies_to report client) k)

-- what reads found, and decisions say, makes this account
abbrev pub account_finding : Script → Report → (ℕ → ℕ → List Version) → (ℕ → ℕ → Decision) → Account
account_finding script report found decided = account_with script report (nodes_with script report found decided) found

-- decisions of which nothing is known
abbrev pub any_decisions : ℕ → ℕ → Decision
any_decisions client k = any_decision

-- what the reads found whose stamps are below this one, by the client and the number of its command; of the others nobody is
-- named as the writer
abbrev pub finds_below : Script → Report → ℕ → ℕ → ℕ → List Version
finds_below script report zero client k = unnamed (answer_to report client k)
finds_below script report (suc now) client k =
    found_at now (account_finding script report (finds_below script report now) any_decisions).log (caller_of script client)
    (answer_to report client k) (finds_below script report now client k)

-- the stamp of a read; other answers have none
abbrev pub stamp_read : Answer → ℕ
stamp_read (answers.GotKeys stamp shown raises syncs) = stamp
stamp_read _ = 0

-- the greatest stamp of a read
abbrev pub last_read : List ReplyLine → ℕ
last_read replies = fold (λ stamp (r : ReplyLine). max stamp (stamp_read r.answer)) 0 replies

-- what the reads of a report found
abbrev pub finds_of : Script → Report → ℕ → ℕ → List Version
finds_of script report = finds_below script report (suc (last_read (all_replies report)))
