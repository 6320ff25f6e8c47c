use Rattle.std.proofs.Common.{◌≡◌, take}
use Rattle.log_node.specs.declared.ids.Id.{Id}
use Rattle.walk_law.specs.LeftOpen.{has_id, is_help_among}
use Rattle.walk_law.proofs.left_open.helped_ids.Given as goal

abbrev pub invariant-loop-column : goal.invariant-loop-column
invariant-loop-column l = (id : Id) → has_id l.ids id ≡ is_help_among l.region (take l.column-index l.columns) id
