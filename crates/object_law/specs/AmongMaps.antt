-- A map of several keys at once, fed node by node.
use Rattle.std.specs.Prelude.{◌≡◌, Bool, ◌&&◌, ℕ, ◌<◌, nat_lt, List, if◌then◌else◌}
use Rattle.log_node.specs.declared.ids.Colours.{Colours}
use Rattle.log_node.specs.declared.forms.Form.{Form}
use Rattle.log_node.specs.declared.limits.TheConstants.{MAX_COLOURS}
use Rattle.log_node.specs.Sets.{has}
use Rattle.object_fold.specs.Maps.{Value, value_among, value_with}
use Rattle.object_fold.specs.Nodes.{ObjectNode, shard_of}
use Rattle.object_fold.specs.Tables.{value_at}
use Rattle.object_law.specs.declared.among_map.AmongMap.{AmongMap}

-- the map has what these nodes leave of each key whose shard is a colour
abbrev pub IsAmongMap : AmongMap → List ObjectNode → Type 0
IsAmongMap map nodes = (key : List ℕ) → shard_of map.colours key < MAX_COLOURS
    → value_at map.values.entries key ≡ value_among map.colours nodes key

-- a node of these colours counts for a key
abbrev pub counts : AmongMap → Colours → List ℕ → Bool
counts map set key = nat_lt (shard_of map.colours key) MAX_COLOURS && has set (shard_of map.colours key)

-- a key's value after the form of such a node
abbrev pub counted_with : AmongMap → Colours → List ℕ → Form → Value
counted_with map set key form =
    if counts map set key then value_with key (value_at map.values.entries key) form else value_at map.values.entries key
