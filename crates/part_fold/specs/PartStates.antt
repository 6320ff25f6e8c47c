-- For which nodes the state of a part stands.
use Rattle.std.specs.Prelude.{◌≡◌, Bool, true, false, not, ℕ, List, [], ◌∷◌, ◌++◌, Option, Some, None, if◌then◌else◌}
use Rattle.std.specs.List.{find, list_any}
use Rattle.std.specs.Option.{option_map}
use Rattle.log_node.specs.declared.ids.Key.{Key}
use Rattle.log_node.specs.declared.forms.Pair.{Pair}
use Rattle.log_node.specs.declared.forms.Version.{Version}
use Rattle.log_node.specs.Order.{same_key}
use Rattle.object_fold.specs.Nodes.{ObjectNode}
use Rattle.object_fold.specs.declared.tx_state.Written.{Written}
use Rattle.object_fold.specs.Tables.{value_at}
use Rattle.object_fold.specs.Transactions.{Write}
use Rattle.object_fold.specs.States.{written_at, differs_in, written_pairs}
use Rattle.part_fold.specs.declared.decision.Decision.{Decision}
use Rattle.part_fold.specs.declared.transaction.Transaction.{Transaction}
use Rattle.part_fold.specs.declared.decided.Decided.{Decided}
use Rattle.part_fold.specs.declared.part_fold.PartFold.{PartFold}
use Rattle.part_fold.specs.Waits.{behind}
use Rattle.part_fold.specs.Parts.{Part, is_in_shard, own_reads, decisions, transactions, decision_in, known_of}

-- ---- the decisions

-- what was decided on a transaction
abbrev pub decided_at : Decided → Key → Option Bool
decided_at decided key = option_map (λ e. e.1) (find (λ e. same_key e.0 key) decided.outcomes.entries)

-- what is decided on a transaction after one more decision: the first counts
abbrev pub decided_with : Option Bool → Decision → Key → Option Bool
decided_with (Some commits) decision key = Some commits
decided_with None decision key = if same_key decision.key key then Some decision.commits else None

-- ---- the state

-- whether no key that was read has another last committed writer, by the entries
abbrev pub commits_in : List (List ℕ × Written) → List Version → Bool
commits_in entries reads = not (list_any (differs_in entries) reads)

-- whether a transaction commits, where the state tells it
abbrev pub verdict_in : PartFold → Transaction → Option Bool
verdict_in fold tx =
    if own_reads fold.part tx.reads then Some (commits_in fold.written.entries tx.reads)
    else decided_at fold.decided tx.key

-- whether the first transaction that waits commits, where the state tells it
abbrev pub front_verdict : PartFold → List Transaction → Option Bool
front_verdict fold [] = None
front_verdict fold (tx ∷ txs) = verdict_in fold tx

-- what stands at a key after those pairs are written whose keys are of the shard
abbrev pub own_pairs : Part → Key → List ℕ → Option Written → List Pair → Option Written
own_pairs part writer key old pairs = if is_in_shard part key then written_pairs writer key old pairs else old

-- what stands at a key after the first transaction that waits has committed, or has not
abbrev pub settled_at : PartFold → Bool → List ℕ → List Transaction → Option Written
settled_at fold commits key [] = value_at fold.written.entries key
settled_at fold true key (tx ∷ txs) = own_pairs fold.part tx.key key (value_at fold.written.entries key) tx.pairs
settled_at fold false key (tx ∷ txs) = value_at fold.written.entries key

-- the first transaction waits no more
pub record SettlesFront (commits : Bool) (old new : PartFold) : Type 0 where
  pub part : new.part ≡ old.part
  pub decided : new.decided ≡ old.decided
  pub waiting : new.waiting ≡ behind old.waiting
  pub values : (key : List ℕ) → value_at new.written.entries key ≡ settled_at old commits key old.waiting

-- all but free room is as it was
pub record IsUnchanged (old new : PartFold) : Type 0 where
  pub part : new.part ≡ old.part
  pub decided : (key : Key) → decided_at new.decided key ≡ decided_at old.decided key
  pub waiting : new.waiting ≡ old.waiting
  pub entries : new.written.entries ≡ old.written.entries

-- the entries have the last write of each key of the shard, and of no other key
abbrev pub HoldsOwn : Part → List (List ℕ × Written) → List Write → Type 0
HoldsOwn part entries writes =
    (key : List ℕ) → value_at entries key ≡ (if is_in_shard part key then written_at writes key else None)

-- the state has these decisions and transactions, whether or not it has gone on as far as they tell
pub record Holds (fold : PartFold) (said : List Decision) (txs : List Transaction) : Type 0 where
  -- the transactions before those that wait: all of them are known
  pub settled : List Transaction
  pub all : settled ++ fold.waiting ≡ txs
  pub known : (known_of fold.part said settled).undecided ≡ None
  pub entries : HoldsOwn fold.part fold.written.entries (known_of fold.part said settled).writes
  pub decided : (key : Key) → decided_at fold.decided key ≡ decision_in said key

-- it has, and the first transaction that waits is not known
pub record StopsAtFront (fold : PartFold) (said : List Decision) (txs : List Transaction) : Type 0 where
  pub holds : Holds fold said txs
  pub stops : front_verdict fold fold.waiting ≡ None

-- the state of the part after these nodes of its line
abbrev pub IsPart : PartFold → List ObjectNode → Type 0
IsPart fold nodes = StopsAtFront fold (decisions nodes) (transactions nodes)
