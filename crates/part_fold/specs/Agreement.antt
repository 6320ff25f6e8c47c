-- A part agrees with the whole transactional map: what one colour's line tells is what all nodes say.
use Rattle.std.specs.Prelude.{◌≡◌, ◌≢◌, Bool, IsTrue, true, false, ℕ, ◌<◌, ◌==◌, ◌||◌, List, ◌++◌, length, Option, Some, None, slice_index}
use Rattle.std.specs.List.{Contains, AllPairs, list_any}
use Rattle.log_node.specs.declared.forms.Pair.{Pair}
use Rattle.log_node.specs.declared.forms.Version.{Version}
use Rattle.log_node.specs.declared.forms.Form.TheVariants.{Transaction}
use Rattle.log_node.specs.Order.{key_below}
use Rattle.log_node.specs.Sets.{has}
use Rattle.object_form.specs.Readings.{form_of}
use Rattle.object_fold.specs.declared.verdict.Verdict.{Verdict}
use Rattle.object_fold.specs.declared.verdict.Verdict.TheVariants.{Committed, Conflict}
use Rattle.object_fold.specs.Nodes.{ObjectNode, nodes_of, shard_of}
use Rattle.object_fold.specs.Transactions.{value_of, writes_after, verdict_of}
use Rattle.part_fold.specs.declared.decision.Decision.{Decision}
use Rattle.part_fold.specs.Decisions.{decision_of}
use Rattle.part_fold.specs.Parts.{Part, is_in_shard, known_after, undecided_after, part_value}

-- whether a verdict, if there is one, is that the transaction commits
abbrev pub outcome : Option Verdict → Option Bool
outcome None = None
outcome (Some (Committed stamp)) = Some true
outcome (Some (Conflict key stamp)) = Some false

-- some key that is read or written has its shard in this colour
abbrev pub touches : List ℕ → ℕ → List Version → List Pair → Bool
touches colours colour reads pairs =
    list_any (λ read. shard_of colours read.key == colour) reads
    || list_any (λ pair. shard_of colours pair.key == colour) pairs

-- if the node is a transaction, it has of the object's colours just those of the shards that it reads and writes
abbrev pub HasItsShards : List ℕ → ObjectNode → Type 0
HasItsShards colours node = (reads : List Version) (pairs : List Pair) → form_of node.text ≡ Transaction reads pairs
    → (colour : ℕ) → Contains colours colour → has node.colours colour ≡ touches colours colour reads pairs

-- if the node decides on a transaction among these nodes, it says what that one's verdict among them is
abbrev pub SaysTheVerdict : List ObjectNode → ObjectNode → Type 0
SaysTheVerdict nodes node = (decision : Decision) → decision_of node.text ≡ Some decision
    → (commits : Bool) → outcome (verdict_of nodes decision.key) ≡ Some commits → decision.commits ≡ commits

-- all nodes of an object with these colours, where transactions have their shards and decisions are true
pub record AreAllNodes (colours : List ℕ) (nodes : List ObjectNode) : Type 0 where
  pub rising : AllPairs (λ a b. IsTrue (key_below a.key b.key)) nodes
  pub shards : (node : ObjectNode) → Contains nodes node → HasItsShards colours node
  pub decisions : (node : ObjectNode) → Contains nodes node → SaysTheVerdict nodes node

-- the part of the shard at a place of the object's colours
abbrev pub part_at : List ℕ → ℕ → Part
part_at colours place = record { place = place; colours = length colours }

-- the line of its colour among nodes
abbrev pub shard_line : List ℕ → ℕ → List ObjectNode → List ObjectNode
shard_line colours place nodes = nodes_of (slice_index colours place) nodes

-- What the part at a place knows after its line among the nodes up to some point: each verdict that it knows is the one
-- among all nodes, and where it knows all, each key of its shard has the value that it has after all nodes up to there.
pub record Agrees (colours : List ℕ) (place : ℕ) (nodes upto : List ObjectNode) : Type 0 where
  pub verdicts : (decision : Decision)
      → Contains (known_after (part_at colours place) (shard_line colours place upto)).verdicts decision
      → outcome (verdict_of nodes decision.key) ≡ Some decision.commits
  pub values : undecided_after (part_at colours place) (shard_line colours place upto) ≡ None
      → (key : List ℕ) → IsTrue (is_in_shard (part_at colours place) key)
      → part_value (part_at colours place) (shard_line colours place upto) key ≡ value_of (writes_after upto) key

-- each part agrees with all nodes, up to each point
abbrev pub PartsAgree : Type 0
PartsAgree = (colours : List ℕ) (place : ℕ) (upto later : List ObjectNode) → place < length colours
    → AreAllNodes colours (upto ++ later) → Agrees colours place (upto ++ later) upto

-- what is known stays known: after more nodes of the line a part has the same verdicts, and perhaps others behind them
abbrev pub VerdictsStay : Type 0
VerdictsStay = (part : Part) (line later : List ObjectNode)
    → (more : List Decision) × ((known_after part (line ++ later)).verdicts ≡ (known_after part line).verdicts ++ more)

-- the keys of a part are those of its colour's shard, where the colours differ
abbrev pub PartsAreShards : Type 0
PartsAreShards = (colours : List ℕ) (place : ℕ) (key : List ℕ) → place < length colours
    → AllPairs (λ a b. a ≢ b) colours
    → is_in_shard (part_at colours place) key ≡ (shard_of colours key == slice_index colours place)
