-- What a transactional map keeps while its client goes on, and what explains the answers to its reads and commits.
use Rattle.std.proofs.Common.{◌≡◌, ℕ, ◌<◌, List, [], ◌∷◌, ◌++◌, length, Option, Some, refl, ap, sym, subst, ◌∙◌, arith}
use Rattle.std.specs.Prelude.{unwrap_or}
use Rattle.std.proofs.lemmas.List.{length-map}
use Rattle.log_node.specs.declared.ids.Colours.{Colours}
use Rattle.log_node.specs.declared.ids.Key.{Key}
use Rattle.log_node.specs.declared.forms.Form.TheVariants as forms
use Rattle.log_node.specs.declared.forms.Pair.{Pair}
use Rattle.log_node.specs.declared.forms.Version.{Version}
use Rattle.log_node.specs.Sets.{members}
use Rattle.object_form.specs.Forms.{AreVersions, ArePairs}
use Rattle.object_form.specs.Laws.{ReadsBack}
use Rattle.object_form.specs.Readings.{form_of}
use Rattle.object_fold.specs.declared.tx_state.TxState.{TxState}
use Rattle.object_fold.specs.declared.verdict.Verdict.{Verdict}
use Rattle.object_fold.specs.Maps.{Value}
use Rattle.object_fold.specs.Nodes.{ObjectNode, nodes_before}
use Rattle.object_fold.specs.States.{IsTxState}
use Rattle.object_fold.specs.Transactions.{CanRead, form_verdict, ruling, value_of, verdict_among, verdict_of, verdict_on, writes_after}
use Rattle.object_fold.specs.Folds.{told_among, told_of}
use Rattle.object_fold.proofs.CallerLemmas.{versions_fit}
use Rattle.lawful_run.specs.Asks.{keys_of_pairs, rising, shards}
use Rattle.log_client.specs.declared.store.Store.{Store}
use Rattle.log_client.specs.declared.client.Client.{Client}
use Rattle.log_client.specs.declared.answers.Appended.{Appended}
use Rattle.log_client.specs.declared.answers.StampedRead.{StampedRead}
use Rattle.log_client.specs.declared.object_fault.ObjectFault.{ObjectFault}
use Rattle.log_client.specs.declared.object_fault.ObjectFault.TheVariants as faults
use Rattle.log_client.specs.Calls.{IsExplained}
use Rattle.log_client.specs.Clients.{IsClient}
use Rattle.log_client.specs.Reading.{RestsOn}
use Rattle.log_client.specs.StampedReads.{ReadsGoOn}
use Rattle.log_client.specs.Objects.{version_keys}
use Rattle.log_client.proofs.CallerLemmas.{explained_less}
use Rattle.region_fold.specs.Reads.{AreWriters, HasNodesRead, IsOwn, ReadsNodes, TellRefused, TellsOwn}
use Rattle.region_fold.proofs.ReadAnswers.{colours_later, kept_later}
use Rattle.region_fold.specs.declared.transactions.Tx.{Tx}
use Rattle.region_fold.specs.declared.transactions.TxMap.{TxMap}
use Rattle.region_fold.specs.Transactions.{AreFound, CommitRefused, Commits, CommitsAs, IsTxMapOf, ReadsKeys, transaction_text}

-- a transaction has keys
pub some_keys : (versions : List Version) (pairs : List Pair) → AreVersions versions
    → 0 < length (version_keys versions ++ keys_of_pairs pairs)
some_keys [] pairs are = absurd (let none = are.some in let f : ⊥ = omega (arith, none) in f)
some_keys (version ∷ versions) pairs are = omega arith

-- the set of the shards of these, of colours, versions and pairs that were read out of where they stand
pub tx_set : (set : Colours) (a b : List ℕ) (v w : List Version) (p q : List Pair)
    → members set ≡ shards a (version_keys v ++ keys_of_pairs p) → a ≡ b → v ≡ w → p ≡ q
    → members set ≡ shards b (version_keys w ++ keys_of_pairs q)
tx_set set a b v w p q same colours versions pairs =
    same
    ∙ (ap (λ (l : List ℕ). shards l (version_keys v ++ keys_of_pairs p)) colours
    ∙ (ap (λ (l : List Version). shards b (version_keys l ++ keys_of_pairs p)) versions
    ∙ ap (λ (l : List Pair). shards b (version_keys w ++ keys_of_pairs l)) pairs))

-- what is kept stays right
pub map_later : ReadsGoOn → (s : Store) (c d : Client) → RestsOn s c d → (m : TxMap) → IsClient s c → IsTxMapOf c m
    → IsTxMapOf d m
map_later law s c d on m is of = record {
  colours = colours_later s c d on m.colours is of.colours;
  folds = kept_later IsTxState law s c d on (rising m.colours) m.fold.kept of.folds;
}

-- WHAT A READ FINDS OF KEYS

module _ (keys : List (List ℕ)) (values : List Value) (tx : Tx) (state : TxState)
    (found : (nodes : List ObjectNode) → IsTxState state nodes → AreFound keys values tx nodes) where
  pub reads_keys : (s : Store) (c d : Client) (colours : List ℕ) (last : Option Key) (read : StampedRead)
      → tx.stamp ≡ read.stamp → ReadsNodes s c d colours last read (λ nodes. IsTxState state nodes × AreWriters nodes)
      → ReadsKeys s c d colours last keys values tx read
  reads_keys s c d colours last read stamp reads = (
    stamp,
    explained_less s c d (HasNodesRead (rising colours) last read (λ nodes. IsTxState state nodes × AreWriters nodes))
        (HasNodesRead (rising colours) last read (AreFound keys values tx))
        (λ log caller before after r. (r.0, r.1, r.2, r.3, found r.2 r.4.0)) reads,
  )

  -- a value for each key, and versions that a transaction can name
  pub found_many : (nodes : List ObjectNode) → IsTxState state nodes → length values ≡ length keys
  found_many nodes has = ap length (found nodes has).0 ∙ length-map keys (value_of (writes_after nodes))

  pub found_named : (nodes : List ObjectNode) → IsTxState state nodes → AreWriters nodes → CanRead keys
      → AreVersions tx.versions
  found_named nodes has named can = subst AreVersions (sym (found nodes has).1) (versions_fit nodes named keys can)

-- WHAT A COMMIT IS TOLD

module _ (back : ReadsBack) (versions : List Version) (pairs : List Pair) (may : AreVersions versions)
    (fit : ArePairs 2 pairs) where
  -- a transaction that was read has a verdict
  has_verdict : (nodes : List ObjectNode) (a : Appended) (told : Option Verdict) (d : Verdict)
      → IsOwn ruling a.stood.key (transaction_text versions pairs) told nodes
      → verdict_of nodes a.stood.key ≡ Some (unwrap_or told d)
  has_verdict nodes a told d own =
      let form : form_of own.node.text ≡ forms.Transaction versions pairs =
      ap form_of own.text_is ∙ back (forms.Transaction versions pairs) (may, fit) in
      let writes = writes_after (nodes_before own.node.key nodes) in
      let ruled : verdict_of nodes a.stood.key ≡ Some (verdict_on writes own.node.key.stamp versions) =
      ap (verdict_among nodes) own.among ∙ ap (form_verdict own.node.key writes) form in
      let same : told_of ruling nodes a.stood.key ≡ Some (verdict_on writes own.node.key.stamp versions) =
      ap (told_among ruling nodes) own.among ∙ ap (form_verdict own.node.key writes) form in
      ruled ∙ ap (λ (v : Verdict). Some v) (sym (ap (λ (o : Option Verdict). unwrap_or o d) (own.answer_is ∙ same)))

  pub commits : (s : Store) (c d : Client) (colours : List ℕ) (last : Option Key) (set : Colours) (told : Option Verdict)
      (other : Verdict) (a : Appended) (read : StampedRead) → members set ≡ shards colours (version_keys versions ++ keys_of_pairs pairs)
      → IsExplained s c d (TellsOwn ruling set (transaction_text versions pairs) (rising colours) last told a read)
      → Commits s c d colours last versions pairs (unwrap_or told other) a read
  commits s c d colours last set told other a read are tells = record {
    set = set;
    members_are = are;
    explained = explained_less s c d
        (TellsOwn ruling set (transaction_text versions pairs) (rising colours) last told a read)
        (CommitsAs set (transaction_text versions pairs) (rising colours) last (unwrap_or told other) a read)
        (λ log caller kept after t. (
          t.0,
          t.1,
          (t.2.0, t.2.1, t.2.2, t.2.3, has_verdict t.2.2 a told other t.2.4),
        )) tells;
  }

-- why it was refused
pub commit_refused : (home : ℕ) (s : Store) (c d : Client) (colours : List ℕ) (versions : List Version) (pairs : List Pair)
    (own : List ℕ) (fault : ObjectFault) → own ≡ shards colours (version_keys versions ++ keys_of_pairs pairs)
    → TellRefused s c d own (transaction_text versions pairs) colours fault
    → CommitRefused home s c d colours (Some versions) pairs fault
commit_refused home s c d colours versions pairs own fault are why =
    by fault (subst (λ (l : List ℕ). TellRefused s c d l (transaction_text versions pairs) colours fault) are why) where
      by : (fault : ObjectFault)
          → TellRefused s c d (shards colours (version_keys versions ++ keys_of_pairs pairs)) (transaction_text versions pairs) colours
          fault
          → CommitRefused home s c d colours (Some versions) pairs fault
      by (faults.NotHome shown) why = absurd why
      by (faults.Append fault) why = (versions, refl, why)
      by (faults.Sync fault) why = why
      by (faults.Unread stamp fault) why = (versions, refl, why)
      by faults.NoTx why = absurd why
      by faults.NoMemory why = absurd why
