-- Trees that are played for what they tell of changes and for the names in their paths.
use Rattle.std.specs.Prelude.{◌≡◌, ℕ, ◌^◌, ◌<◌, ◌≢◌, List, Option, Some, None, slice_get}
use Rattle.std.specs.List.{All}
use Rattle.std.specs.Option.{option_map}
use Rattle.log_node.specs.declared.ids.Key.{Key}
use Rattle.log_node.specs.declared.node.Node.{Node}
use Rattle.tree_fold.specs.Trees.{telling}
use Rattle.tree_fold.specs.TreeStates.{IsTree}
use Rattle.playback.specs.Merging.{AreRising, region_order, up_to}
use Rattle.script_text.specs.declared.script.Object.{Object}
use Rattle.script_text.specs.declared.script.Script.{Script}
use Rattle.script_text.specs.declared.commands.What.{What}
use Rattle.lawful_run.specs.Asks.{Committing, object_colours}
use Rattle.lawful_run.specs.Callers.{caller_of}
use Rattle.lawful_run.specs.Deeds.{colours_synced, manner_of}
use Rattle.walk_law.specs.Asking.{all_of}
use Rattle.object_law.specs.declared.thirteenth.TreePlays.{TreePlays}
use Rattle.object_law.specs.declared.tree_play.TreePlay.{TreePlay}
use Rattle.object_law.specs.KeysRead.{whole_lines}
use Rattle.object_law.specs.ObjectPlays.{HoldsKeys}
use Rattle.object_law.specs.ToldNodes.{told_each}
use Rattle.object_law.specs.PartAnswers.{IfThere}
use Rattle.walk_law.specs.Walking.{Walked, log_walked}

-- The keys rise, and up to each stamp they are those of some colours of a region.
pub record AreKeysOf (walked : Walked) (region : ℕ) (colours : List ℕ) (keys : List Key) : Type 0 where
  pub rising : AreRising keys
  pub begun : (stamp : ℕ) → stamp < 2 ^ 64 → up_to stamp keys ≡ region_order stamp (whole_lines (log_walked walked) region colours)

-- the colours of a script's object in rising number
abbrev pub tree_colours : Script → ℕ → List ℕ
tree_colours script object =
    all_of (object_colours (option_map (λ (o : Object). o.kind) (slice_get script.objects object)))

-- the tree of an object in a region is played by the nodes in a table
pub record IsTreePlay (walked : Walked) (table : List (List Node)) (p : TreePlay) : Type 0 where
  pub keys : AreKeysOf walked p.region (tree_colours walked.script p.object) p.keys.items
  pub told : p.told.items ≡ told_each telling table p.keys.items
  pub holds : HoldsKeys IsTree table p.keys.items p.play

-- all trees that are there stand so
abbrev pub TreesStand : TreePlays → Walked → List (List Node) → Type 0
TreesStand plays walked table = All (IfThere (IsTreePlay walked table)) plays.plays.items

-- the command syncs all colours of this object; or of none, and commits nothing
abbrev pub SyncsWhole : What → Option ℕ → Type 0
SyncsWhole what None = manner_of what ≢ Committing
SyncsWhole what (Some object) =
    (script : Script) (client : ℕ) → colours_synced (caller_of script client) what ≡ tree_colours script object
