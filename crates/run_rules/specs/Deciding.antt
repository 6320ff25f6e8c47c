-- What decisions say, computed: one stamp after another, each by the texts that the decisions with reads of lower stamps leave.
use Rattle.std.specs.Prelude.{◌≢◌, ℕ, zero, suc, max, ◌==◌, if◌then◌else◌, List, [], ◌∷◌, map, Option, Some, None, slice_get}
use Rattle.std.specs.List.{All, AllPairs, fold}
use Rattle.log_node.specs.declared.ids.Key.{Key}
use Rattle.log_node.specs.declared.node.Node.{Node}
use Rattle.part_fold.specs.declared.decision.Decision.{Decision}
use Rattle.part_fold.specs.Agreement.{part_at}
use Rattle.part_fold.specs.Parts.{undecided_after}
use Rattle.col_core.specs.Log.{Log}
use Rattle.script_text.specs.Apart.{colours_of}
use Rattle.script_text.specs.declared.script.Command.{Command}
use Rattle.script_text.specs.declared.script.Object.{Object}
use Rattle.script_text.specs.declared.script.Script.{Script}
use Rattle.report_text.specs.declared.report.Answer.{Answer}
use Rattle.report_text.specs.declared.report.Answer.TheVariants as answers
use Rattle.report_text.specs.declared.report.ReplyLine.{ReplyLine}
use Rattle.report_text.specs.declared.report.SyncPiece.{SyncPiece}
use Rattle.report_text.specs.declared.report.Report.{Report}
use Rattle.lawful_run.specs.Asks.{kind_asked, object_colours}
use Rattle.lawful_run.specs.Callers.{Caller, caller_of, commands_of}
use Rattle.lawful_run.specs.Objects.{own_played}
use Rattle.run_rules.specs.Told.{Account}
use Rattle.run_rules.specs.Telling.{account_with}
use Rattle.run_rules.specs.Nodes.{any_decision, nodes_with}
use Rattle.run_rules.specs.Said.{shown_text, with_text}
use Rattle.run_rules.specs.Computing.{account_finding, answer_to, any_decisions, finds_of, nodes_read}
use Rattle.run_rules.specs.Keeping.{all_replies}

-- each colour of an object is there once, as the grammar makes sure
abbrev pub ColoursDiffer : Script → Type 0
ColoursDiffer script = All (λ (o : Object). AllPairs (λ (a b : ℕ). a ≢ b) (colours_of o.kind)) script.objects

-- ONE DECISION

-- the place of a colour among others
abbrev pub place_in : ℕ → List ℕ → ℕ
place_in colour [] = 0
place_in colour (c ∷ cs) = if c == colour then 0 else suc (place_in colour cs)

-- this key, or nobody's
abbrev pub key_or : Option Key → Key
key_or None = any_decision.key
key_or (Some key) = key

-- the transaction for which the part of a sync's colour waits, by the own nodes that the sync played; the object has these colours
abbrev pub waited_for : Log → Caller → List ℕ → SyncPiece → Key
waited_for log caller colours sync =
    key_or (undecided_after (part_at colours (place_in sync.colour colours)) (nodes_read log (own_played log caller sync)))

-- ONE STAMP AFTER ANOTHER

-- a decision whose read has this stamp says of that transaction what its reply says; others say what they did
abbrev pub decided_at : ℕ → Log → Caller → List ℕ → Answer → Decision → Decision
decided_at now log caller colours (answers.Decided commits stamp sync read_stamp raises syncs ended) decision =
    if read_stamp == now then record { key = waited_for log caller colours sync; commits = commits } else decision
decided_at now log caller colours _ decision = decision

-- the colours of the object that a command names
abbrev pub colours_used : Caller → Option Command → List ℕ
colours_used caller None = []
colours_used caller (Some command) = object_colours (kind_asked caller command.what)

-- those of a client's command with this number
abbrev pub colours_named : Script → ℕ → ℕ → List ℕ
colours_named script client k = colours_used (caller_of script client) (slice_get (commands_of script client) k)

-- the account whose finds are computed, where decisions say this
abbrev pub account_deciding : Script → Report → (ℕ → ℕ → Decision) → Account
account_deciding script report decided = account_finding script report (finds_of script report) decided

-- what the decisions say whose reads have stamps below this one, by the client and the number of its command; the others say
-- nothing that is known
abbrev pub decisions_below : Script → Report → ℕ → ℕ → ℕ → Decision
decisions_below script report zero client k = any_decision
decisions_below script report (suc now) client k =
    decided_at now (account_deciding script report (decisions_below script report now)).log (caller_of script client)
    (colours_named script client k) (answer_to report client k) (decisions_below script report now client k)

-- the stamp of a decision's read; other answers have none
abbrev pub stamp_decided : Answer → ℕ
stamp_decided (answers.Decided commits stamp sync read_stamp raises syncs ended) = read_stamp
stamp_decided _ = 0

-- the greatest stamp of a decision's read
abbrev pub last_decided : List ReplyLine → ℕ
last_decided replies = fold (λ stamp (r : ReplyLine). max stamp (stamp_decided r.answer)) 0 replies

-- what the decisions of a report say
abbrev pub decisions_of : Script → Report → ℕ → ℕ → Decision
decisions_of script report = decisions_below script report (suc (last_decided (all_replies report)))

-- BY THE TEXTS THAT ARE SHOWN

-- the nodes of each client's commands by what reads found, each with the text that is shown of it, where one is
abbrev pub nodes_showing : Script → Report → ℕ → List Node
nodes_showing script report client =
    map (λ (node : Node). with_text (shown_text report node.id) node)
    (nodes_with script report (finds_of script report) any_decisions client)

-- the account that is computed with these nodes: below the last rule decisions that no node line shows may say anything
abbrev pub account_showing : Script → Report → Account
account_showing script report = account_with script report (nodes_showing script report) (finds_of script report)
