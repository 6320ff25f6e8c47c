-- What explains the answers to changes and reads of a tree.
use Rattle.std.proofs.Common.{◌≡◌, ℕ, List, Option, Some, ap, sym, subst, ◌∙◌}
use Rattle.std.specs.Prelude.{unwrap_or}
use Rattle.log_node.specs.declared.ids.Colours.{Colours}
use Rattle.log_node.specs.declared.ids.Key.{Key}
use Rattle.log_node.specs.Sets.{members}
use Rattle.object_fold.specs.Nodes.{ObjectNode, nodes_before}
use Rattle.object_fold.specs.Folds.{told_among, told_of}
use Rattle.lawful_run.specs.Asks.{rising, shards}
use Rattle.log_client.specs.declared.store.Store.{Store}
use Rattle.log_client.specs.declared.client.Client.{Client}
use Rattle.log_client.specs.declared.answers.Appended.{Appended}
use Rattle.log_client.specs.declared.answers.StampedRead.{StampedRead}
use Rattle.log_client.specs.declared.object_fault.ObjectFault.{ObjectFault}
use Rattle.log_client.specs.Calls.{IsExplained}
use Rattle.log_client.specs.Clients.{IsClient}
use Rattle.log_client.specs.Reading.{RestsOn}
use Rattle.log_client.specs.StampedReads.{ReadsGoOn}
use Rattle.log_client.specs.Objects.{IsAwayFrom}
use Rattle.log_client.proofs.CallerLemmas.{explained_less}
use Rattle.region_fold.specs.Reads.{HasNodesRead, IsOwn, ReadsNodes, TellRefused, TellsOwn}
use Rattle.region_fold.proofs.CallerLemmas.{colours_later, kept_later, told_more}
use Rattle.tree_fold.specs.declared.change.Change.{Change}
use Rattle.tree_fold.specs.declared.told.Told.{Told}
use Rattle.tree_fold.specs.Changes.{IsChange, change_keys, change_text}
use Rattle.tree_fold.specs.Laws.{ChangesReadBack}
use Rattle.tree_fold.specs.Readings.{change_of}
use Rattle.tree_fold.specs.Trees.{telling, told_of_change, told_under, tree_after, why}
use Rattle.log_tree.specs.declared.tree.LogTree.{LogTree}
use Rattle.tree_fold.specs.TreeStates.{IsTree}
use Rattle.log_tree.specs.Trees.{ChangeRefused, Changes, ChangesAs, IsTreeOf, change_colours}

-- the set of the shards of a change's keys, of colours and keys that were read out of where they stand
pub change_set : (set : Colours) (a b : List ℕ) (keys more : List (List ℕ)) (change : Change)
    → members set ≡ shards a more → a ≡ b → more ≡ keys → keys ≡ change_keys change
    → members set ≡ shards b (change_keys change)
change_set set a b keys more change same colours read are =
    same ∙ (ap (λ (l : List ℕ). shards l more) colours ∙ ap (λ (k : List (List ℕ)). shards b k) (read ∙ are))

-- a read after which this follows from what is held
pub reads_so : (s : Store) (c d : Client) (colours : List ℕ) (last : Option Key) (read : StampedRead)
    (Holds Has : List ObjectNode → Type 0) → ((nodes : List ObjectNode) → Holds nodes → Has nodes)
    → ReadsNodes s c d colours last read Holds → ReadsNodes s c d colours last read Has
reads_so s c d colours last read Holds Has so reads =
    explained_less s c d (HasNodesRead (rising colours) last read Holds) (HasNodesRead (rising colours) last read Has)
    (λ log caller before after r. (r.0, r.1, r.2, r.3, so r.2 r.4)) reads

-- what is kept stays right
pub tree_later : ReadsGoOn → (s : Store) (c d : Client) → RestsOn s c d → (t : LogTree) → IsClient s c → IsTreeOf c t
    → IsTreeOf d t
tree_later law s c d on t is of = record {
  colours = colours_later s c d on t.colours is of.colours;
  folds = kept_later IsTree law s c d on (rising t.colours) t.fold.kept of.folds;
}

-- WHAT A CHANGE IS TOLD

module _ (back : ChangesReadBack) (change : Change) (is : IsChange change) where
  -- a change that was read is told something
  has_told : (nodes : List ObjectNode) (a : Appended) (told : Option Told) (d : Told)
      → IsOwn telling a.stood.key (change_text change) told nodes
      → told_of telling nodes a.stood.key ≡ Some (unwrap_or told d)
  has_told nodes a told d own =
      let tree = tree_after (nodes_before own.node.key nodes) in
      let stamp = own.node.key.stamp in
      let its_change : change_of own.node.text ≡ Some change = ap change_of own.text_is ∙ back change is in
      let same : told_of telling nodes a.stood.key ≡ Some (told_under stamp (why tree change)) =
      ap (told_among telling nodes) own.among ∙ ap (told_of_change stamp tree) its_change in
      same ∙ ap (λ (t : Told). Some t) (sym (ap (λ (o : Option Told). unwrap_or o d) (own.answer_is ∙ same)))

  pub changes : (s : Store) (c d : Client) (t : LogTree) (set : Colours) (told : Option Told) (other : Told) (a : Appended)
      (read : StampedRead) → members set ≡ change_colours t change
      → IsExplained s c d (TellsOwn telling set (change_text change) (rising t.colours) t.fold.kept.last told a read)
      → Changes s c d t change (unwrap_or told other) a read
  changes s c d t set told other a read are tells = record {
    set = set;
    members_are = are;
    explained = explained_less s c d
        (TellsOwn telling set (change_text change) (rising t.colours) t.fold.kept.last told a read)
        (ChangesAs set t (change_text change) (unwrap_or told other) a read)
        (λ log caller kept after e. (
          e.0,
          e.1,
          (e.2.0, e.2.1, e.2.2, e.2.3, has_told e.2.2 a told other e.2.4),
        )) tells;
  }

-- why it was refused
pub change_refused : (s : Store) (c d : Client) (t : LogTree) (change : Change) (own : List ℕ) (fault : ObjectFault)
    → own ≡ change_colours t change → TellRefused s c d own (change_text change) t.colours fault
    → ChangeRefused s c d t change fault
change_refused s c d t change own fault are why =
    told_more s c d (change_colours t change) (change_text change) t.colours (IsAwayFrom (Some t.home) c d) (d ≡ c) fault
    (subst (λ (l : List ℕ). TellRefused s c d l (change_text change) t.colours fault) are why)
