-- What decisions say, computed in rising order of the stamps of their reads: what is so between one decision and the next.
use Rattle.std.specs.Prelude.{◌≡◌, ◌⊎◌, Bool, ℕ, ◌+◌, ◌<◌, ◌≤◌, List, [], ◌∷◌, length, map, take, Option, Some, None, slice_get, slice_index_or}
use Rattle.std.specs.List.{All, Contains}
use Rattle.std.specs.Option.{option_map}
use Rattle.log_node.specs.declared.ids.Id.{Id}
use Rattle.log_node.specs.declared.ids.Key.{Key}
use Rattle.log_node.specs.declared.node.Node.{Node}
use Rattle.log_node.specs.declared.forms.Version.{Version}
use Rattle.log_node.specs.Vectors.{at}
use Rattle.object_fold.specs.Nodes.{ObjectNode}
use Rattle.part_fold.specs.declared.decision.Decision.{Decision}
use Rattle.part_fold.specs.Agreement.{part_at}
use Rattle.part_fold.specs.Decisions.{decision_text}
use Rattle.part_fold.specs.Parts.{undecided_after}
use Rattle.part_fold.specs.PartStates.{IsPart}
use Rattle.col_core.specs.History.{line}
use Rattle.column_track.specs.Tracks.{Tracked}
use Rattle.script_text.specs.declared.commands.What.{What}
use Rattle.script_text.specs.declared.commands.What.TheVariants as whats
use Rattle.script_text.specs.declared.script.Command.{Command}
use Rattle.report_text.specs.declared.report.Answer.{Answer}
use Rattle.report_text.specs.declared.report.Answer.TheVariants as answers
use Rattle.report_text.specs.declared.report.Ended.{Ended}
use Rattle.report_text.specs.declared.report.RaisePiece.{RaisePiece}
use Rattle.report_text.specs.declared.report.SyncPiece.{SyncPiece}
use Rattle.lawful_run.specs.Asks.{kind_asked}
use Rattle.lawful_run.specs.Callers.{caller_of, commands_of}
use Rattle.run_rules.specs.Computing.{answer_to, finds_of, nodes_read}
use Rattle.run_rules.specs.Deciding.{ColoursDiffer, account_deciding, decisions_of, key_or}
use Rattle.run_rules.specs.Keeping.{Keeps}
use Rattle.run_rules.specs.Nodes.{nodes_with}
use Rattle.run_rules.specs.Said.{with_text}
use Rattle.object_law.specs.PartAnswers.{part_colours}
use Rattle.object_law.specs.Drafts.{filled}
use Rattle.object_law.specs.declared.decided_nodes.DecidedNode.{DecidedNode}
use Rattle.object_law.specs.declared.decided_plays.DecidedPlay.{DecidedPlay}
use Rattle.object_law.specs.declared.decisions_by_stamp.StampedDecision.{StampedDecision}
use Rattle.object_law.specs.declared.drafts.Draft.{Draft}
use Rattle.walk_law.specs.Finds.{decision_at}
use Rattle.walk_law.specs.Walking.{IsStepOf, MayWalk, Walked, journal_walked}

-- NODES

-- the place of a command among its client's, where its node says a decision
abbrev pub decider : What → ℕ → Option ℕ
decider (whats.Decide object key) place = Some place
decider _ place = None

-- the text of the decision in a place, where there is one
abbrev pub text_decided : (ℕ → Decision) → Option ℕ → Option (List ℕ)
text_decided decided place = option_map (λ (k : ℕ). decision_text (decided k)) place

-- a client's node, where its decisions say this
abbrev pub said_by : (ℕ → Decision) → DecidedNode → Node
said_by decided it = with_text (text_decided decided it.place) it.node

-- the node of a draft of a command in a place, where reads found this
abbrev pub drafted_node : List Command → (ℕ → List Version) → What → ℕ → Draft → DecidedNode
drafted_node commands found what place draft = record { node = filled commands found draft; place = decider what place }

-- where there is a draft
abbrev pub drafted : List Command → (ℕ → List Version) → What → ℕ → Option Draft → List DecidedNode
drafted commands found what place None = []
drafted commands found what place (Some draft) = drafted_node commands found what place draft ∷ []

-- these are the nodes of a client's commands, whatever decisions say
abbrev pub AreDecidedOf : Walked → (ℕ → ℕ → List Version) → ℕ → List DecidedNode → Type 0
AreDecidedOf walked found client nodes = (decided : ℕ → ℕ → Decision)
    → map (said_by (decided client)) nodes ≡ nodes_with walked.script walked.report found decided client

-- those of a client in a table
abbrev pub decided_at : List (List DecidedNode) → ℕ → List DecidedNode
decided_at table client = slice_index_or table client []

-- the node with this id in a table, where there is one
abbrev pub decided_in : List (List DecidedNode) → Id → Option DecidedNode
decided_in table id = slice_get (decided_at table id.client) id.count

-- under the number of each client are its nodes
abbrev pub AreDecided : Walked → (ℕ → ℕ → List Version) → List (List DecidedNode) → Type 0
AreDecided walked found table = (client : ℕ) → AreDecidedOf walked found client (decided_at table client)

-- the node with this id, where reads found what they found and decisions say this
abbrev pub node_deciding : Walked → (ℕ → ℕ → Decision) → Id → Option Node
node_deciding walked decided id =
    slice_get (nodes_with walked.script walked.report (finds_of walked.script walked.report) decided id.client) id.count

-- the nodes with these keys there, by the decisions that are computed
abbrev pub decided_nodes : Walked → List Key → List ObjectNode
decided_nodes walked keys =
    nodes_read (account_deciding walked.script walked.report (decisions_of walked.script walked.report)).log keys

-- the node of the key is by these decisions what it is by those that are computed
abbrev pub StandsDecided : Walked → (ℕ → ℕ → Decision) → Key → Type 0
StandsDecided walked decided key =
    node_deciding walked decided key.id ≡ node_deciding walked (decisions_of walked.script walked.report) key.id

-- DECISIONS

-- the answer is a decision whose read has this stamp or a higher one
abbrev pub IsReadFrom : ℕ → Answer → Type 0
IsReadFrom w (answers.Decided commits stamp sync read_stamp raises syncs ended) = w ≤ read_stamp
IsReadFrom w _ = ⊥

-- so all decisions say whose reads have stamps below this one
abbrev pub AreDecidedBelow : Walked → ℕ → (ℕ → ℕ → Decision) → Type 0
AreDecidedBelow walked stamp decided = (client k : ℕ)
    → (decided client k ≡ decisions_of walked.script walked.report client k) ⊎ IsReadFrom stamp (answer_to walked.report client k)

-- the keys of the own nodes that a client's sync played
abbrev pub synced_keys : Walked → ℕ → SyncPiece → List Key
synced_keys walked client sync =
    take (at sync.counts (caller_of walked.script client).own)
    (line (journal_walked walked (caller_of walked.script client).own sync.colour))

-- A decision, with a read of this stamp, says for which transaction the part of its sync's colour waits behind the nodes that the
-- sync played; and these nodes are what they are by decisions whose reads have stamps below its own.
pub record IsDecidedBy (walked : Walked) (client k : ℕ) (what : What) (commits : Bool) (sync : SyncPiece) (stamp : ℕ) : Type 0 where
  pub own : List ℕ
  pub kind : part_colours (kind_asked (caller_of walked.script client) what) ≡ Some own
  pub low : sync.colour < walked.script.shape.colours
  pub place : ℕ
  pub there : slice_get own place ≡ Some sync.colour
  pub says : decisions_of walked.script walked.report client k ≡ record {
    key = key_or (undecided_after (part_at own place) (decided_nodes walked (synced_keys walked client sync)));
    commits = commits;
  }
  pub stand : (decided : ℕ → ℕ → Decision) → AreDecidedBelow walked stamp decided
      → All (StandsDecided walked decided) (synced_keys walked client sync)

-- So it is of each decision of a report that keeps the first nine rules.
abbrev pub DecisionsStand : Type 0
DecisionsStand = (walked : Walked) (tracks : List Tracked) → MayWalk walked.script walked.report tracks
    → Keeps walked.script walked.report 9 → ColoursDiffer walked.script
    → (client k : ℕ) (commits : Bool) (stamp : ℕ) (sync : SyncPiece) (read_stamp : ℕ) (raises : List RaisePiece)
    (syncs : List SyncPiece) (ended : Ended)
    → answer_to walked.report client k ≡ answers.Decided commits stamp sync read_stamp raises syncs ended
    → (command : Command) → slice_get (commands_of walked.script client) k ≡ Some command
    → IsDecidedBy walked client k command.what commits sync read_stamp

-- the stamp of a decision's read; other answers have none
abbrev pub stamp_of_read : Answer → Option ℕ
stamp_of_read (answers.Decided commits stamp sync read_stamp raises syncs ended) = Some read_stamp
stamp_of_read _ = None

-- a client's reply in a place is a decision whose read has this stamp
pub record IsDecisionOf (walked : Walked) (decision : StampedDecision) : Type 0 where
  pub step : IsStepOf walked decision.client decision.place
  pub stamp : stamp_of_read (answer_to walked.report decision.client decision.place) ≡ Some decision.stamp

-- these are the decisions of the first so many clients
pub record AreDecisionsOf (walked : Walked) (clients : ℕ) (decisions : List StampedDecision) : Type 0 where
  pub each : All (IsDecisionOf walked) decisions
  pub all : (client k stamp : ℕ) → client < clients → stamp_of_read (answer_to walked.report client k) ≡ Some stamp
      → Contains decisions (record { stamp = stamp; client = client; place = k })

-- PLAYS

-- The part of a shard is played over the first nodes of the own line of its colour, by the decisions that are computed; and for
-- which transaction it waited is noted behind each of them.
pub record IsDecidedPlay (walked : Walked) (p : DecidedPlay) : Type 0 where
  pub count : p.count ≤ length (line (journal_walked walked p.shard.region p.shard.colour))
  pub part : p.part.part ≡ record { place = p.shard.place; colours = p.shard.colours }
  pub holds : IsPart p.part (decided_nodes walked (take p.count (line (journal_walked walked p.shard.region p.shard.colour))))
  pub many : length p.waits.items ≡ p.count
  pub noted : (k : ℕ) (d : Option Key) → k < p.count → slice_index_or p.waits.items k d
      ≡ undecided_after (record { place = p.shard.place; colours = p.shard.colours })
      (decided_nodes walked (take (k + 1) (line (journal_walked walked p.shard.region p.shard.colour))))

-- WHAT IS DECIDED SO FAR

-- a decision that waits stands among the decisions from a place on
pub record Waits (decisions : List StampedDecision) (from client k : ℕ) : Type 0 where
  pub place : ℕ
  pub after : from ≤ place
  pub decision : StampedDecision
  pub there : slice_get decisions place ≡ Some decision
  pub its_client : decision.client ≡ client
  pub its_place : decision.place ≡ k

-- Of the decisions in rising order of the stamps of their reads the first so many say what they say, and the others wait.
pub record AreDecidedTo (walked : Walked) (decisions : List StampedDecision) (from : ℕ) (table : List (List Decision)) : Type 0 where
  pub slots : (client k : ℕ) → IsStepOf walked client k
      → (client < length table) × (k < length (slice_index_or table client []))
  pub decided : (client k : ℕ) → (decision_at table client k ≡ decisions_of walked.script walked.report client k)
      ⊎ Waits decisions from client k
