-- What a tree keeps beside its client, and what its changes and reads answer.
use Rattle.std.specs.Prelude.{◌≡◌, ℕ, List, Some}
use Rattle.log_node.specs.declared.ids.Colours.{Colours}
use Rattle.log_node.specs.Sets.{members}
use Rattle.object_fold.specs.Nodes.{ObjectNode}
use Rattle.object_fold.specs.Folds.{last_before, told_of}
use Rattle.col_core.specs.Log.{Log}
use Rattle.col_core.specs.Keeping.{Kept}
use Rattle.lawful_run.specs.Asks.{rising, shards}
use Rattle.lawful_run.specs.Callers.{Caller}
use Rattle.log_client.specs.declared.store.Store.{Store}
use Rattle.log_client.specs.declared.client.Client.{Client}
use Rattle.log_client.specs.declared.answers.Appended.{Appended}
use Rattle.log_client.specs.declared.answers.StampedRead.{StampedRead}
use Rattle.log_client.specs.declared.object_fault.ObjectFault.{ObjectFault}
use Rattle.log_client.specs.Appends.{AppendsAs}
use Rattle.log_client.specs.Calls.{IsExplained}
use Rattle.log_client.specs.Refusals.{RefusedBy}
use Rattle.log_client.specs.Objects.{HasColoursOf, IsAwayFrom, LookRefused}
use Rattle.region_fold.specs.Reads.{HasNodesRead, KeepsFold, ReadsNodes, tell_refusals}
use Rattle.tree_fold.specs.declared.change.Change.{Change}
use Rattle.tree_fold.specs.declared.told.Told.{Told}
use Rattle.tree_fold.specs.Changes.{change_keys, change_text}
use Rattle.tree_fold.specs.Trees.{telling}
use Rattle.tree_fold.specs.TreeStates.{IsTree}
use Rattle.log_tree.specs.declared.tree.LogTree.{LogTree}

-- The tree is kept beside the client: its colours are the client's, and what is folded are nodes that the client has read of
-- all of them.
pub record IsTreeOf (c : Client) (t : LogTree) : Type 0 where
  pub colours : HasColoursOf c t.colours
  pub folds : KeepsFold IsTree c (rising t.colours) t.fold.kept

-- the one tree is the other one, and what is folded may differ
abbrev pub IsSameTree : LogTree → LogTree → Type 0
IsSameTree t u = (u.home ≡ t.home) × (u.colours ≡ t.colours)

-- the shards in which a change of a tree stands
abbrev pub change_colours : LogTree → Change → List ℕ
change_colours t change = shards t.colours (change_keys change)

-- A read of all colours of a tree was made, it answers what comes behind those that were folded, and this is so of its nodes.
abbrev pub Looks : Store → Client → Client → LogTree → StampedRead → (List ObjectNode → Type 0) → Type 0
Looks s c d t read Has = ReadsNodes s c d t.colours t.fold.kept.last read Has

-- why it was refused
abbrev pub TreeRefused : Store → Client → Client → LogTree → ObjectFault → Type 0
TreeRefused s c d t = LookRefused t.home s c d (rising t.colours)

-- The change stands, and this is what it is told after the nodes before it, among those of the stamped read behind it.
abbrev pub ChangesAs : Colours → LogTree → List ℕ → Told → Appended → StampedRead → Log → Caller → Kept → Kept → Type 0
ChangesAs set t text told a read log caller kept after =
    (stood : Kept) × AppendsAs set text a log caller kept stood
    × HasNodesRead (rising t.colours) (last_before t.fold.kept.last a.stood.key) read
    (λ nodes. told_of telling nodes a.stood.key ≡ Some told) log caller stood after

-- a change of a tree was told this
pub record Changes (s : Store) (c d : Client) (t : LogTree) (change : Change) (told : Told) (a : Appended)
    (read : StampedRead) : Type 0 where
  pub set : Colours
  pub members_are : members set ≡ change_colours t change
  pub explained : IsExplained s c d (ChangesAs set t (change_text change) told a read)

-- why a change of a tree was refused, or the read behind it
abbrev pub ChangeRefused : Store → Client → Client → LogTree → Change → ObjectFault → Type 0
ChangeRefused s c d t change =
    RefusedBy (record (tell_refusals s c d (change_colours t change) (change_text change) t.colours) {
      away = IsAwayFrom (Some t.home) c d;
      memory = d ≡ c;
    })
