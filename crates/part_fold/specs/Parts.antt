-- A part of the transactional map: the transactions of one colour's line, as far as it tells what became of them.
use Rattle.std.specs.Prelude.{Bool, true, false, not, ℕ, ◌==◌, ◌%◌, List, [], ◌∷◌, ◌++◌, sum, Option, Some, None, if◌then◌else◌}
use Rattle.std.specs.List.{fold, find, filter_map, list_all, list_any}
use Rattle.std.specs.Option.{option_map}
use Rattle.log_node.specs.declared.ids.Key.{Key}
use Rattle.log_node.specs.declared.forms.Version.{Version}
use Rattle.log_node.specs.declared.forms.Form.{Form}
use Rattle.log_node.specs.declared.forms.Form.TheVariants as forms
use Rattle.log_node.specs.Order.{same_key}
use Rattle.object_form.specs.Readings.{form_of}
use Rattle.object_fold.specs.Nodes.{ObjectNode}
use Rattle.object_fold.specs.Maps.{Value}
use Rattle.object_fold.specs.Transactions.{Write, differs, written, value_of}
use Rattle.part_fold.specs.declared.decision.Decision.{Decision}
use Rattle.part_fold.specs.declared.transaction.Transaction.{Transaction}
use Rattle.part_fold.specs.Decisions.{decision_of}

-- a part: the place of its shard among the object's colours, and how many these are
pub record Part : Type 0 where
  pub place : ℕ
  pub colours : ℕ

-- the place of a key's shard: the sum of its bytes modulo the number of colours
abbrev pub place_of : ℕ → List ℕ → ℕ
place_of colours key = sum key % colours

-- the key is one of the part's shard
abbrev pub is_in_shard : Part → List ℕ → Bool
is_in_shard part key = place_of part.colours key == part.place

-- ---- what a line has

-- a form under its node's key, if it is a transaction
abbrev pub transaction_by : Key → Form → Option Transaction
transaction_by key (forms.Transaction reads pairs) = Some (record { key = key; reads = reads; pairs = pairs })
transaction_by key (forms.Put other value) = None
transaction_by key (forms.Delete other) = None
transaction_by key (forms.PutAll pairs) = None
transaction_by key (forms.Enqueue value) = None
transaction_by key forms.Dequeue = None
transaction_by key (forms.Causal other value) = None
transaction_by key forms.Plain = None

-- the transactions among nodes, in their order
abbrev pub transactions : List ObjectNode → List Transaction
transactions nodes = filter_map (λ node. transaction_by node.key (form_of node.text)) nodes

-- the decisions among nodes, in their order
abbrev pub decisions : List ObjectNode → List Decision
decisions nodes = filter_map (λ node. decision_of node.text) nodes

-- what the first of some decisions on this key says, if there is one
abbrev pub decision_in : List Decision → Key → Option Bool
decision_in said key = option_map (λ d. d.commits) (find (λ d. same_key d.key key) said)

-- ---- what is known

-- all keys that were read are of the shard
abbrev pub own_reads : Part → List Version → Bool
own_reads part reads = list_all (λ read. is_in_shard part read.key) reads

-- no key that was read has another last committed writer
abbrev pub commits_on : List Write → List Version → Bool
commits_on writes reads = not (list_any (differs writes) reads)

-- Whether a transaction commits after these writes, where that is known: where it read keys of the shard alone, by what
-- it read; else by the first decision for it among those that were said.
abbrev pub known_verdict : Part → List Decision → List Write → Transaction → Option Bool
known_verdict part said writes tx =
    if own_reads part tx.reads then Some (commits_on writes tx.reads) else decision_in said tx.key

-- what transactions in order leave, as far as they are known
pub record Known : Type 0 where
  -- the transactions that are known, in order, each with whether it commits
  pub verdicts : List Decision
  -- what the committed ones among them wrote, the newest first
  pub writes : List Write
  -- the first transaction that is not known, if there is one: nothing behind it counts
  pub undecided : Option Key

-- nothing before any transaction
abbrev pub nothing_known : Known
nothing_known = record { verdicts = []; writes = []; undecided = None }

-- what a transaction leaves that commits or not, and where that is not known
abbrev pub known_by : Known → Transaction → Option Bool → Known
known_by known tx (Some true) = record known {
  verdicts = known.verdicts ++ record { key = tx.key; commits = true } ∷ [];
  writes = written tx.key known.writes tx.pairs;
}
known_by known tx (Some false) = record known {
  verdicts = known.verdicts ++ record { key = tx.key; commits = false } ∷ [];
}
known_by known tx None = record known { undecided = Some tx.key }

-- behind a transaction that is not known nothing changes
abbrev pub unless_undecided : Option Key → Known → Known → Known
unless_undecided None old new = new
unless_undecided (Some key) old new = old

-- what is known after one more transaction
abbrev pub known_with : Part → List Decision → Known → Transaction → Known
known_with part said known tx =
    unless_undecided known.undecided known (known_by known tx (known_verdict part said known.writes tx))

-- what is known of transactions, by the decisions that were said
abbrev pub known_of : Part → List Decision → List Transaction → Known
known_of part said txs = fold (known_with part said) nothing_known txs

-- What is known after these nodes of the part's line: a decision counts wherever it stands among them, also behind the
-- transactions that follow the one that it is on.
abbrev pub known_after : Part → List ObjectNode → Known
known_after part nodes = known_of part (decisions nodes) (transactions nodes)

-- the first transaction that is not known after these nodes
abbrev pub undecided_after : Part → List ObjectNode → Option Key
undecided_after part nodes = (known_after part nodes).undecided

-- a key's value by what is known after these nodes: keys of other shards have none
abbrev pub part_value : Part → List ObjectNode → List ℕ → Value
part_value part nodes key = if is_in_shard part key then value_of (known_after part nodes).writes key else None
