-- What is known of a command of a script, and of the read that it uses up.
use Rattle.std.specs.Prelude.{◌≡◌, ℕ, ◌<◌, List, [], ◌∷◌, ◌++◌, map, Option, Some, None}
use Rattle.std.specs.List.{All}
use Rattle.log_node.specs.declared.forms.Version.{Version}
use Rattle.log_node.specs.declared.ids.Colours.{Colours}
use Rattle.log_node.specs.declared.limits.TheConstants.{MAX_COLOURS}
use Rattle.log_node.specs.Sets.{members}
use Rattle.script_text.specs.declared.script.Object.{Object}
use Rattle.script_text.specs.declared.commands.What.{What}
use Rattle.script_text.specs.declared.commands.What.TheVariants as whats
use Rattle.report_text.specs.declared.report.KeyAnswer.{KeyAnswer}
use Rattle.lawful_run.specs.Asks.{keys_of_pairs, object_colours, rising, shards}
use Rattle.tree_fold.specs.declared.change.Change.{Change}
use Rattle.tree_fold.specs.Changes.{change_keys}
use Rattle.tree_fold.specs.Readings.{below_root_of, make_of, move_of, remove_of}
use Rattle.log_node.specs.declared.forms.Pair.{Pair}

-- colours that a log can have
abbrev pub AreLow : List ℕ → Type 0
AreLow colours = All (λ c. c < MAX_COLOURS) colours

-- each object has such colours
abbrev pub HaveLowColours : List Object → Type 0
HaveLowColours objects = All (λ (o : Object). AreLow (object_colours (Some o.kind))) objects

-- the keys that an answer shows
abbrev pub keys_shown : List KeyAnswer → List (List ℕ)
keys_shown shown = map (λ (k : KeyAnswer). k.key) shown

-- what a read found is of the keys that its answer shows, and neither is there without the other
abbrev pub AreFoundOf : Option (List Version) → Option (List KeyAnswer) → Type 0
AreFoundOf None None = Unit {0}
AreFoundOf None (Some shown) = ⊥
AreFoundOf (Some found) None = ⊥
AreFoundOf (Some found) (Some shown) = map (λ (v : Version). v.key) found ≡ keys_shown shown

-- THE COLOURS OF A COMMAND, each list a word of its own

-- the members of a set, the least first
unfoldable pub colours_in : Colours → List ℕ
colours_in set = members set

-- the colours of the shards of keys, in rising number
unfoldable pub shards_of : List ℕ → List (List ℕ) → List ℕ
shards_of own keys = shards own keys

-- all colours of an object, in rising number
unfoldable pub all_of : List ℕ → List ℕ
all_of own = rising own

-- those of a change of a tree; none where there is no change
abbrev pub changed_of : List ℕ → Option Change → List ℕ
changed_of own None = []
changed_of own (Some change) = shards_of own (change_keys change)

-- those of a commit, by the keys that its read showed; none where there is no read
abbrev pub committed_of : List ℕ → Option (List KeyAnswer) → List Pair → List ℕ
committed_of own None pairs = []
committed_of own (Some shown) pairs = shards_of own (keys_shown shown ++ keys_of_pairs pairs)

-- those on which a command appends, of an object with its own ones
abbrev pub asked_of : List ℕ → Option (List KeyAnswer) → What → List ℕ
asked_of own found (whats.Append colours text) = colours_in colours
asked_of own found (whats.Stop steps colours text) = colours_in colours
asked_of own found (whats.Put object key value) = shards_of own (key ∷ [])
asked_of own found (whats.Del object key) = shards_of own (key ∷ [])
asked_of own found (whats.PutAll object pairs) = shards_of own (keys_of_pairs pairs)
asked_of own found (whats.Commit object pairs) = committed_of own found pairs
asked_of own found (whats.Enq object value) = own
asked_of own found (whats.Deq object) = own
asked_of own found (whats.Only colour text) = colour ∷ []
asked_of own found (whats.Mk object path value) = changed_of own (make_of (below_root_of path) value)
asked_of own found (whats.Rm object path) = changed_of own (remove_of (below_root_of path))
asked_of own found (whats.Mv object source target) =
    changed_of own (move_of (below_root_of source) (below_root_of target))
asked_of own found (whats.Decide object key) = shards_of own (key ∷ [])
asked_of own found _ = []
