use Rattle.std.proofs.Common.{◌≡◌, take}
use Rattle.std.specs.Prelude.{◌||◌}
use Rattle.std.specs.List.{list_any}
use Rattle.log_node.specs.declared.ids.Id.{Id}
use Rattle.walk_law.specs.LeftOpen.{has_id, is_open_key}
use Rattle.walk_law.proofs.left_open.put_open.Given as goal

-- those so far are put in
abbrev pub invariant-loop-shown : goal.invariant-loop-shown
invariant-loop-shown l = (id : Id) → has_id l.ids id ≡ (has_id l.fn.ids id || list_any (is_open_key id) (take l.shown-index l.queue))
