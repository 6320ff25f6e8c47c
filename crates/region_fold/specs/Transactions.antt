-- What a transactional map keeps beside its client, and what its reads and commits answer.
use Rattle.std.specs.Prelude.{◌≡◌, ℕ, List, ◌++◌, Option, Some, None}
use Rattle.log_node.specs.declared.ids.Colours.{Colours}
use Rattle.log_node.specs.declared.ids.Key.{Key}
use Rattle.log_node.specs.declared.forms.Pair.{Pair}
use Rattle.log_node.specs.declared.forms.Version.{Version}
use Rattle.log_node.specs.declared.forms.Form.TheVariants as forms
use Rattle.log_node.specs.Sets.{members}
use Rattle.object_form.specs.Forms.{form_text}
use Rattle.object_fold.specs.declared.verdict.Verdict.{Verdict}
use Rattle.object_fold.specs.Maps.{Value}
use Rattle.object_fold.specs.Nodes.{ObjectNode}
use Rattle.object_fold.specs.States.{IsTxState}
use Rattle.object_fold.specs.Transactions.{values_after, versions_after, verdict_of}
use Rattle.object_fold.specs.Folds.{last_before}
use Rattle.col_core.specs.Log.{Log}
use Rattle.col_core.specs.Keeping.{Kept}
use Rattle.lawful_run.specs.Asks.{rising, shards, keys_of_pairs}
use Rattle.lawful_run.specs.Callers.{Caller}
use Rattle.log_client.specs.declared.store.Store.{Store}
use Rattle.log_client.specs.declared.client.Client.{Client}
use Rattle.log_client.specs.declared.answers.Appended.{Appended}
use Rattle.log_client.specs.declared.answers.StampedRead.{StampedRead}
use Rattle.log_client.specs.declared.object_fault.ObjectFault.{ObjectFault}
use Rattle.log_client.specs.Appends.{AppendsAs}
use Rattle.log_client.specs.Calls.{IsExplained}
use Rattle.log_client.specs.Refusals.{RefusedBy, never}
use Rattle.log_client.specs.Objects.{HasColoursOf, IsAwayFrom, LookRefused, NotAppended, version_keys}
use Rattle.region_fold.specs.Reads.{HasNodesRead, KeepsFold, UntoldLeaves}
use Rattle.region_fold.specs.declared.transactions.Tx.{Tx}
use Rattle.region_fold.specs.declared.transactions.TxMap.{TxMap}

-- The map is kept beside the client: its colours are the client's, and what is folded are nodes that the client has read of all
-- of them.
pub record IsTxMapOf (c : Client) (m : TxMap) : Type 0 where
  pub colours : HasColoursOf c m.colours
  pub folds : KeepsFold IsTxState c (rising m.colours) m.fold.kept

-- the one map is the other one, and what is folded may differ
abbrev pub IsSameTx : TxMap → TxMap → Type 0
IsSameTx m n = (n.home ≡ m.home) × (n.colours ≡ m.colours)

-- the values of keys after nodes, and on what of them a commit may rest
abbrev pub AreFound : List (List ℕ) → List Value → Tx → List ObjectNode → Type 0
AreFound asked values tx nodes = (values ≡ values_after nodes asked) × (tx.versions ≡ versions_after nodes asked)

-- A read of keys of a map with these colours, which has folded up to the last key, answered with these values, and what a
-- commit may rest on.
abbrev pub ReadsKeys : Store → Client → Client → List ℕ → Option Key → List (List ℕ) → List Value → Tx → StampedRead → Type 0
ReadsKeys s c d colours last asked values tx read =
    (tx.stamp ≡ read.stamp) × IsExplained s c d (HasNodesRead (rising colours) last read (AreFound asked values tx))

-- the form of a transaction
abbrev pub transaction_text : List Version → List Pair → List ℕ
transaction_text versions pairs = form_text (forms.Transaction versions pairs)

-- the shards in which a transaction stands
abbrev pub transaction_colours : List ℕ → List Version → List Pair → List ℕ
transaction_colours colours versions pairs = shards colours (version_keys versions ++ keys_of_pairs pairs)

-- The transaction stands, and the stamped read behind it rules.
abbrev pub CommitsAs : Colours → List ℕ → List ℕ → Option Key → Verdict → Appended → StampedRead → Log → Caller → Kept → Kept
    → Type 0
CommitsAs set text colours last verdict a read log caller kept after =
    (stood : Kept) × AppendsAs set text a log caller kept stood
    × HasNodesRead colours (last_before last a.stood.key) read (λ nodes. verdict_of nodes a.stood.key ≡ Some verdict) log caller
    stood after

-- A commit of a map with these colours, which has folded up to the last key, answered with this; it rests on these versions.
pub record Commits (s : Store) (c d : Client) (colours : List ℕ) (last : Option Key) (versions : List Version)
    (pairs : List Pair) (verdict : Verdict) (a : Appended) (read : StampedRead) : Type 0 where
  pub set : Colours
  pub members_are : members set ≡ transaction_colours colours versions pairs
  pub explained : IsExplained s c d
      (CommitsAs set (transaction_text versions pairs) (rising colours) last verdict a read)

-- why a read of keys of a map with these colours at this home was refused
abbrev pub KeysRefused : ℕ → Store → Client → Client → List ℕ → ObjectFault → Type 0
KeysRefused home s c d colours = LookRefused home s c d colours

-- why a commit was refused that rests on a read or on none
abbrev pub CommitRefused : ℕ → Store → Client → Client → List ℕ → Option (List Version) → List Pair → ObjectFault → Type 0
CommitRefused home s c d colours versions pairs = RefusedBy (record never {
  away = IsAwayFrom (Some home) c d;
  append = λ fault. (rests : List Version) × (versions ≡ Some rests)
      × NotAppended s c d (transaction_colours colours rests pairs) (transaction_text rests pairs) fault;
  unread = λ stamp why. (rests : List Version) × (versions ≡ Some rests)
      × UntoldLeaves s c d (transaction_colours colours rests pairs) (transaction_text rests pairs) stamp
      (rising colours) why;
  no_tx = (c.region ≡ home) × (versions ≡ None) × (d ≡ c);
  memory = d ≡ c;
})
