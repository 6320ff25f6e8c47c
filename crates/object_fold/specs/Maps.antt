-- The map and the map of several keys: what nodes in order leave under a key.
use Rattle.std.specs.Prelude.{ℕ, ◌==◌, List, map, Option, Some, None, if◌then◌else◌}
use Rattle.std.specs.List.{fold}
use Rattle.std.specs.Str.{bytes_eq}
use Rattle.log_node.specs.declared.forms.Pair.{Pair}
use Rattle.log_node.specs.declared.forms.Form.{Form}
use Rattle.log_node.specs.declared.forms.Form.TheVariants as forms
use Rattle.object_form.specs.Readings.{form_of}
use Rattle.object_fold.specs.Nodes.{ObjectNode, nodes_of, shard_of}

-- a value by its bytes, if there is one
abbrev pub Value : Type 0
Value = Option (List ℕ)

-- the key's value after a pair is set
abbrev pub set_pair : List ℕ → Value → Pair → Value
set_pair key old pair = if bytes_eq pair.key key then Some pair.value else old

-- the key's value after pairs are set from left to right
abbrev pub set_pairs : List ℕ → Value → List Pair → Value
set_pairs key old pairs = fold (set_pair key) old pairs

-- the key's value after a form
abbrev pub value_with : List ℕ → Value → Form → Value
value_with key old (forms.Put other value) = if bytes_eq other key then Some value else old
value_with key old (forms.Delete other) = if bytes_eq other key then None else old
value_with key old (forms.PutAll pairs) = set_pairs key old pairs
value_with key old (forms.Transaction reads writes) = old
value_with key old (forms.Enqueue value) = old
value_with key old forms.Dequeue = old
value_with key old (forms.Causal other value) = old
value_with key old forms.Plain = old

-- the key's value after nodes, the first of them first
abbrev pub value_after : List ℕ → List ObjectNode → Value
value_after key nodes = fold (λ value node. value_with key value (form_of node.text)) None nodes

-- The map of a shard over its colour's line: only keys of the shard have a value.
abbrev pub shard_value : List ℕ → ℕ → List ObjectNode → List ℕ → Value
shard_value colours shard line key = if shard_of colours key == shard then value_after key line else None

-- Several keys over nodes in rising key: for each key only nodes that have the colour of its shard count.
abbrev pub value_among : List ℕ → List ObjectNode → List ℕ → Value
value_among colours nodes key = value_after key (nodes_of (shard_of colours key) nodes)

-- the values of keys, in the order of the keys
abbrev pub values_among : List ℕ → List ObjectNode → List (List ℕ) → List Value
values_among colours nodes keys = map (value_among colours nodes) keys
