-- What commands do to the log: in which manner, which colours they sync, and which node they append.
use Rattle.std.specs.Prelude.{◌≡◌, ℕ, List, [], ◌∷◌, ◌++◌, map, Option, Some, None}
use Rattle.std.specs.Option.{option_map}
use Rattle.log_node.specs.declared.ids.Colours.{Colours}
use Rattle.log_node.specs.declared.forms.Version.{Version}
use Rattle.log_node.specs.declared.forms.Form.TheVariants as forms
use Rattle.log_node.specs.Sets.{members}
use Rattle.object_form.specs.Forms.{form_text}
use Rattle.object_fold.specs.Nodes.{shard_of}
use Rattle.part_fold.specs.declared.decision.Decision.{Decision}
use Rattle.part_fold.specs.Decisions.{decision_text}
use Rattle.tree_fold.specs.declared.change.Change.{Change}
use Rattle.tree_fold.specs.Changes.{change_text, change_keys}
use Rattle.tree_fold.specs.Readings.{below_root_of, make_of, remove_of, move_of}
use Rattle.col_core.specs.Keeping.{Kept}
use Rattle.script_text.specs.declared.script.Kind.{Kind}
use Rattle.script_text.specs.declared.commands.What.{What}
use Rattle.script_text.specs.declared.commands.What.TheVariants as whats
use Rattle.script_text.specs.declared.uses.ReadUse.TheVariants.{Leaves, UsesUp}
use Rattle.script_text.specs.declared.uses.Use.{Use}
use Rattle.script_text.specs.declared.uses.Use.TheVariants.{OfObject}
use Rattle.script_text.specs.Commands.{use_of}
use Rattle.lawful_run.specs.Callers.{Caller}
use Rattle.lawful_run.specs.Asks.{Manner, Appending, Guarding, Stopping, Syncing, Moving, Getting, Reading, Committing, Dequeuing, Deciding, object_colours, kind_asked, shards, rising, keys_of_pairs, put_form}

-- which colours a command is of
pub data Reach : Type 0 where
  NoColours : Reach
  -- a set that it names
  Named : (colours : Colours) → Reach
  -- a colour that it names
  One : (colour : ℕ) → Reach
  -- the shards of keys of its object
  ShardsOf : (keys : List (List ℕ)) → Reach
  -- all colours of its object, in rising number
  Whole : Reach
  -- all colours of its object, as they are listed
  Listed : Reach
  -- the shard of a key of its object, and then all colours in rising number
  ShardThenWhole : (key : List ℕ) → Reach

-- these colours, of an object with its own ones
abbrev pub colours_reached : List ℕ → Reach → List ℕ
colours_reached own NoColours = []
colours_reached own (Named colours) = members colours
colours_reached own (One colour) = colour ∷ []
colours_reached own (ShardsOf keys) = shards own keys
colours_reached own Whole = rising own
colours_reached own Listed = own
colours_reached own (ShardThenWhole key) = shard_of own key ∷ rising own

-- what a command does: its manner, and what it syncs
pub record Deed : Type 0 where
  pub manner : Manner
  pub syncs : Reach

-- one row for each command
abbrev pub deed_of : What → Deed
deed_of (whats.Append colours text) = record { manner = Appending; syncs = NoColours }
deed_of (whats.Stop steps colours text) = record { manner = Stopping; syncs = NoColours }
deed_of (whats.Sync colour) = record { manner = Syncing; syncs = One colour }
deed_of (whats.Scan colours) = record { manner = Reading; syncs = Named colours }
deed_of (whats.Pull region colour) = record { manner = Moving; syncs = NoColours }
deed_of (whats.Trim colour) = record { manner = Moving; syncs = NoColours }
deed_of (whats.Put object key value) = record { manner = Appending; syncs = NoColours }
deed_of (whats.Get object key) = record { manner = Getting; syncs = ShardsOf (key ∷ []) }
deed_of (whats.Del object key) = record { manner = Appending; syncs = NoColours }
deed_of (whats.PutAll object pairs) = record { manner = Appending; syncs = NoColours }
deed_of (whats.GetAll object keys) = record { manner = Reading; syncs = ShardsOf keys }
deed_of (whats.Read object keys) = record { manner = Reading; syncs = Whole }
deed_of (whats.Commit object pairs) = record { manner = Committing; syncs = Whole }
deed_of (whats.Enq object value) = record { manner = Appending; syncs = NoColours }
deed_of (whats.Deq object) = record { manner = Dequeuing; syncs = Listed }
deed_of (whats.Only colour text) = record { manner = Guarding; syncs = NoColours }
deed_of (whats.Mk object path value) = record { manner = Committing; syncs = Whole }
deed_of (whats.Rm object path) = record { manner = Committing; syncs = Whole }
deed_of (whats.Mv object source target) = record { manner = Committing; syncs = Whole }
deed_of (whats.Ls object path) = record { manner = Reading; syncs = Whole }
deed_of (whats.Peek object key) = record { manner = Getting; syncs = ShardsOf (key ∷ []) }
deed_of (whats.Decide object key) = record { manner = Deciding; syncs = ShardThenWhole key }

-- the manner of a command
abbrev pub manner_of : What → Manner
manner_of what = (deed_of what).manner

-- the command gets by one key of an object: it syncs the key's shard alone
pub record AsksForKey (what : What) (object : ℕ) (key : List ℕ) : Type 0 where
  pub uses : use_of what ≡ OfObject object Leaves
  pub gets : deed_of what ≡ record { manner = Getting; syncs = ShardsOf (key ∷ []) }

-- the colours that a command syncs, in the order of its syncs
abbrev pub colours_synced : Caller → What → List ℕ
colours_synced caller what = colours_reached (object_colours (kind_asked caller what)) (deed_of what).syncs

-- what the text of a node says
pub data TextSaid : Type 0 where
  -- just this
  Exactly : (text : List ℕ) → TextSaid
  -- a decision, as it is found when the command is done
  ADecision : TextSaid

-- the text says so
abbrev pub IsText : TextSaid → List ℕ → Type 0
IsText (Exactly said) text = text ≡ said
IsText ADecision text = (decision : Decision) × (text ≡ decision_text decision)

-- a node that a command appends: its colours and its text
pub record Saying : Type 0 where
  pub reach : Reach
  pub text : TextSaid

-- a node of this reach, with this text
abbrev pub says : Reach → List ℕ → Option Saying
says reach text = Some (record { reach = reach; text = Exactly text })

-- the node of a change of a tree: in the shards of the first names of its paths
abbrev pub says_change : Option Change → Option Saying
says_change change =
    option_map (λ (c : Change). record {
      reach = ShardsOf (change_keys c);
      text = Exactly (change_text c);
    }) change

-- What a command on an object of a kind appends, by what the read found that it uses up; nothing where it appends
-- nothing. A transaction names the versions that were found; the text of a decision is no matter of the command alone.
abbrev pub saying_of : Option Kind → Option (List Version) → What → Option Saying
saying_of kind found (whats.Append colours text) = says (Named colours) text
saying_of kind found (whats.Stop steps colours text) = says (Named colours) text
saying_of kind found (whats.Put object key value) = says (ShardsOf (key ∷ [])) (form_text (put_form kind key value))
saying_of kind found (whats.Del object key) = says (ShardsOf (key ∷ [])) (form_text (forms.Delete key))
saying_of kind found (whats.PutAll object pairs) = says (ShardsOf (keys_of_pairs pairs)) (form_text (forms.PutAll pairs))
saying_of kind found (whats.Commit object pairs) =
    option_map (λ (versions : List Version). record {
      reach = ShardsOf (map (λ (v : Version). v.key) versions ++ keys_of_pairs pairs);
      text = Exactly (form_text (forms.Transaction versions pairs));
    }) found
saying_of kind found (whats.Enq object value) = says Listed (form_text (forms.Enqueue value))
saying_of kind found (whats.Deq object) = says Listed (form_text forms.Dequeue)
saying_of kind found (whats.Only colour text) = says (One colour) text
saying_of kind found (whats.Mk object path value) = says_change (make_of (below_root_of path) value)
saying_of kind found (whats.Rm object path) = says_change (remove_of (below_root_of path))
saying_of kind found (whats.Mv object source target) = says_change (move_of (below_root_of source) (below_root_of target))
saying_of kind found (whats.Decide object key) = Some (record { reach = ShardsOf (key ∷ []); text = ADecision })
saying_of kind found _ = None

-- what was found by the read that a command uses up
abbrev pub found_by : Use → Kept → Option (List Version)
found_by (OfObject object UsesUp) kept = kept.reads object
found_by _ kept = None

-- such a set of colours is of this reach
abbrev pub Reaches : List ℕ → Reach → Colours → Type 0
Reaches own (Named asked) colours = colours ≡ asked
Reaches own reach colours = members colours ≡ colours_reached own reach

-- the node is one that is said, of an object with its own colours
abbrev pub SaysNode : List ℕ → Option Saying → Colours → List ℕ → Type 0
SaysNode own None colours text = ⊥
SaysNode own (Some saying) colours text = Reaches own saying.reach colours × IsText saying.text text

-- The command, of a client that keeps this, appends a node with these colours and this text.
abbrev pub AsksToAppend : Caller → Kept → What → Colours → List ℕ → Type 0
AsksToAppend caller kept what colours text =
    SaysNode (object_colours (kind_asked caller what))
    (saying_of (kind_asked caller what) (found_by (use_of what) kept) what) colours text
