-- What reads found, computed in rising order of their stamps: what is so between one read and the next.
use Rattle.std.specs.Prelude.{◌≡◌, ◌⊎◌, ℕ, ◌<◌, ◌≤◌, List, [], length, map, take, Option, Some, None, slice_get, slice_index_or}
use Rattle.std.specs.List.{All, Contains}
use Rattle.std.specs.Option.{option_map}
use Rattle.log_node.specs.declared.forms.Form.{Form}
use Rattle.log_node.specs.declared.forms.Version.{Version}
use Rattle.log_node.specs.declared.ids.Id.{Id}
use Rattle.log_node.specs.declared.ids.Key.{Key}
use Rattle.log_node.specs.declared.node.Node.{Node}
use Rattle.object_form.specs.Readings.{form_of}
use Rattle.object_fold.specs.Nodes.{ObjectNode}
use Rattle.object_fold.specs.States.{IsTxState}
use Rattle.object_fold.specs.Transactions.{versions_after}
use Rattle.column_track.specs.Tracks.{Tracked}
use Rattle.playback.specs.Merging.{region_order}
use Rattle.report_text.specs.declared.report.Answer.{Answer}
use Rattle.report_text.specs.declared.report.Answer.TheVariants as answers
use Rattle.report_text.specs.declared.report.KeyAnswer.{KeyAnswer}
use Rattle.report_text.specs.declared.report.RaisePiece.{RaisePiece}
use Rattle.report_text.specs.declared.report.SyncPiece.{SyncPiece}
use Rattle.lawful_run.specs.Callers.{caller_of}
use Rattle.run_rules.specs.Computing.{account_finding, answer_to, any_decisions, finds_of, keys_shown, nodes_read, stamp_read}
use Rattle.run_rules.specs.Keeping.{Keeps}
use Rattle.run_rules.specs.Nodes.{nodes_with}
use Rattle.run_rules.specs.Told.{Account, AreKeysFound}
use Rattle.object_law.specs.AnswerPlays.{IsAt}
use Rattle.object_law.specs.KeysRead.{whole_lines}
use Rattle.object_law.specs.ObjectAnswers.{IsKeyOrder}
use Rattle.object_law.specs.declared.found_plays.FoundPlay.{FoundPlay}
use Rattle.object_law.specs.declared.found_plays.FoundPlays.{FoundPlays}
use Rattle.object_law.specs.declared.reads_by_stamp.StampedRead.{StampedRead}
use Rattle.walk_law.specs.Finds.{FindsKeys, finds_at}
use Rattle.walk_law.specs.Walking.{IsStepOf, MayWalk, Walked, log_walked}

-- NODES

-- the account with what reads found; of decisions nothing is known
abbrev pub account_found : Walked → Account
account_found walked = account_finding walked.script walked.report (finds_of walked.script walked.report) any_decisions

-- the nodes with these keys there
abbrev pub found_nodes : Walked → List Key → List ObjectNode
found_nodes walked keys = nodes_read (account_found walked).log keys

-- the node with this id, where reads found this
abbrev pub node_finding : Walked → (ℕ → ℕ → List Version) → Id → Option Node
node_finding walked found id = slice_get (nodes_with walked.script walked.report found any_decisions id.client) id.count

-- the form of a node's text, where there is one
abbrev pub form_in : Option Node → Option Form
form_in node = option_map (λ (n : Node). form_of n.text) node

-- The key is that of a client, and the text of its node has the form by these finds that it has by all.
pub record StandsAs (walked : Walked) (found : ℕ → ℕ → List Version) (key : Key) : Type 0 where
  pub client : key.id.client < length walked.report.clients
  pub form : form_in (node_finding walked found key.id) ≡ form_in (node_finding walked (finds_of walked.script walked.report) key.id)

-- This is what reads below a stamp found; of the others the keys are those that replies show.
pub record AreFoundBelow (walked : Walked) (stamp : ℕ) (found : ℕ → ℕ → List Version) : Type 0 where
  pub keys : FindsKeys walked.report found
  pub below : (client k : ℕ) → stamp_read (answer_to walked.report client k) < stamp
      → found client k ≡ finds_of walked.script walked.report client k

-- the keys of some colours of a region up to a stamp
abbrev pub stamped_keys : Walked → ℕ → List ℕ → ℕ → List Key
stamped_keys walked region colours stamp = region_order stamp (whole_lines (log_walked walked) region colours)

-- LAWS

-- A commit stands above the stamp of the read that it uses up. So the texts of nodes up to a stamp have their forms by what reads
-- below it found.
abbrev pub TextsStand : Type 0
TextsStand = (walked : Walked) (tracks : List Tracked) → MayWalk walked.script walked.report tracks
    → Keeps walked.script walked.report 9
    → (stamp : ℕ) (found : ℕ → ℕ → List Version) → AreFoundBelow walked stamp found
    → (region : ℕ) → region < walked.script.shape.regions
    → (colours : List ℕ) → All (λ colour. colour < walked.script.shape.colours) colours
    → All (StandsAs walked found) (stamped_keys walked region colours stamp)

-- the colours of syncs
abbrev pub colours_read : List SyncPiece → List ℕ
colours_read syncs = map (λ (s : SyncPiece). s.colour) syncs

-- What a read found is what the nodes of its colours up to its stamp left of the keys that it shows.
abbrev pub VersionsStand : Type 0
VersionsStand = (walked : Walked) (tracks : List Tracked) → MayWalk walked.script walked.report tracks
    → Keeps walked.script walked.report 9
    → (client k stamp : ℕ) (shown : List KeyAnswer) (raises : List RaisePiece) (syncs : List SyncPiece)
    → answer_to walked.report client k ≡ answers.GotKeys stamp shown raises syncs
    → All (λ colour. colour < walked.script.shape.colours) (colours_read syncs)
    × (finds_of walked.script walked.report client k
    ≡ versions_after (found_nodes walked (stamped_keys walked (caller_of walked.script client).own (colours_read syncs) stamp))
    (keys_shown shown))

-- READS

-- the stamp of a read of keys; other answers have none
abbrev pub read_stamp : Answer → Option ℕ
read_stamp (answers.GotKeys stamp shown raises syncs) = Some stamp
read_stamp _ = None

-- a client's reply in a place is that of a read with this stamp
pub record IsReadOf (walked : Walked) (read : StampedRead) : Type 0 where
  pub step : IsStepOf walked read.client read.place
  pub stamp : read_stamp (answer_to walked.report read.client read.place) ≡ Some read.stamp

-- these are the reads of the first so many clients
pub record AreReadsOf (walked : Walked) (clients : ℕ) (reads : List StampedRead) : Type 0 where
  pub each : All (IsReadOf walked) reads
  pub all : (client k stamp : ℕ) → client < clients → read_stamp (answer_to walked.report client k) ≡ Some stamp
      → Contains reads (record { stamp = stamp; client = client; place = k })

-- PLAYS

-- a transactional map is played over the first nodes of the keys of its order, by what all reads found
pub record IsFoundPlay (walked : Walked) (p : FoundPlay) : Type 0 where
  pub order : IsKeyOrder walked p.order
  pub count : p.count ≤ length p.order.keys.items
  pub state : IsTxState p.state (found_nodes walked (take p.count p.order.keys.items))

-- so are all of these
abbrev pub AreFoundPlays : Walked → FoundPlays → Type 0
AreFoundPlays walked all = All (IsFoundPlay walked) all.plays.items

-- the play of these colours of a region stands at the place
abbrev pub IsFoundAt : FoundPlays → ℕ → List ℕ → ℕ → Type 0
IsFoundAt all region colours place =
    IsAt (λ (p : FoundPlay). (p.order.region ≡ region) × (p.order.colours ≡ colours)) all.plays.items place

-- WHAT IS FOUND SO FAR

-- a read that waits stands among the reads from a place on
pub record IsWaiting (reads : List StampedRead) (from client k : ℕ) : Type 0 where
  pub place : ℕ
  pub after : from ≤ place
  pub read : StampedRead
  pub there : slice_get reads place ≡ Some read
  pub its_client : read.client ≡ client
  pub its_number : read.place ≡ k

-- Of the reads in rising order of their stamps the first so many have found what they found, and the others wait.
pub record AreFoundTo (walked : Walked) (reads : List StampedRead) (from : ℕ) (table : List (List (List Version))) : Type 0 where
  pub keys : (client k : ℕ) → AreKeysFound (finds_at table client k) (answer_to walked.report client k)
  pub slots : (client k : ℕ) → IsStepOf walked client k
      → (client < length table) × (k < length (slice_index_or table client []))
  pub found : (client k : ℕ) → (finds_at table client k ≡ finds_of walked.script walked.report client k)
      ⊎ IsWaiting reads from client k
