-- What nodes write under a key last.
use Rattle.std.specs.Prelude.{◌≡◌, ℕ, nat_le, List, Option, Some, None, if◌then◌else◌}
use Rattle.std.specs.List.{filter, fold}
use Rattle.std.specs.Str.{bytes_eq}
use Rattle.log_node.specs.declared.ids.Key.{Key}
use Rattle.log_node.specs.declared.forms.Pair.{Pair}
use Rattle.log_node.specs.declared.forms.Form.{Form}
use Rattle.log_node.specs.declared.forms.Form.TheVariants as forms
use Rattle.log_node.specs.Order.{key_below}
use Rattle.log_node.specs.Seen.{PlacedNode}
use Rattle.log_node.specs.Sets.{has}
use Rattle.object_form.specs.Readings.{form_of}
use Rattle.object_fold.specs.Nodes.{ObjectNode, nodes_of, shard_of}
use Rattle.object_fold.specs.Tables.{value_at}
use Rattle.object_fold.specs.Maps.{Value}
use Rattle.atomic_map.specs.declared.line_writes.LastWrite.{LastWrite}
use Rattle.atomic_map.specs.declared.line_writes.LineWrites.{LineWrites}

-- the key's last write after a pair is put by the node with this key
abbrev pub put_with : Key → List ℕ → Option LastWrite → Pair → Option LastWrite
put_with node key old pair = if bytes_eq pair.key key then Some (record { node = node; value = Some pair.value }) else old

-- the key's last write after the node with this key and this form
abbrev pub write_with : Key → List ℕ → Option LastWrite → Form → Option LastWrite
write_with node key old (forms.Put other value) =
    if bytes_eq other key then Some (record { node = node; value = Some value }) else old
write_with node key old (forms.Delete other) =
    if bytes_eq other key then Some (record { node = node; value = None }) else old
write_with node key old (forms.PutAll pairs) = fold (put_with node key) old pairs
write_with node key old (forms.Transaction reads writes) = old
write_with node key old (forms.Enqueue value) = old
write_with node key old forms.Dequeue = old
write_with node key old (forms.Causal other value) = old
write_with node key old forms.Plain = old

-- the same, where the node counts if it has the colour of the key's shard
abbrev pub write_then : List ℕ → ObjectNode → List ℕ → Option LastWrite → Form → Option LastWrite
write_then colours node key old form =
    if has node.colours (shard_of colours key) then write_with node.key key old form else old

-- the line's writes are then those that a node with this form leaves
abbrev pub IsWritten : LineWrites → ObjectNode → Form → LineWrites → Type 0
IsWritten old node form new = (key : List ℕ)
    → value_at new.writes.entries key ≡ write_then old.colours node key (value_at old.writes.entries key) form

-- the key's last write after nodes, the first of them first
abbrev pub write_after : List ℕ → Option LastWrite → List ObjectNode → Option LastWrite
write_after key old nodes = fold (λ write node. write_with node.key key write (form_of node.text)) old nodes

-- A key's last write among nodes: only those count that have the colour of its shard.
abbrev pub last_shard_write : List ℕ → List ObjectNode → List ℕ → Option LastWrite
last_shard_write colours nodes key = write_after key None (nodes_of (shard_of colours key) nodes)

-- the line's writes are the last ones among these nodes
abbrev pub HoldsShardWrites : LineWrites → List ObjectNode → Type 0
HoldsShardWrites line nodes = (key : List ℕ) → value_at line.writes.entries key ≡ last_shard_write line.colours nodes key

-- the value that a last write leaves, if there is one
abbrev pub value_left : Option LastWrite → Value
value_left None = None
value_left (Some write) = write.value

-- that of two writes whose node has the greater key
abbrev pub later_write : Option LastWrite → Option LastWrite → Option LastWrite
later_write None other = other
later_write (Some write) None = Some write
later_write (Some write) (Some other) = if key_below write.node other.node then Some other else Some write

-- the nodes of a line with stamps up to this one
abbrev pub items_up_to : ℕ → List PlacedNode → List PlacedNode
items_up_to stamp line = filter (λ (item : PlacedNode). nat_le item.head.key.stamp stamp) line
