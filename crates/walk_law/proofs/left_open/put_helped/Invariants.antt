use Rattle.std.proofs.Common.{◌≡◌, take}
use Rattle.std.specs.Prelude.{◌||◌}
use Rattle.std.specs.List.{list_any}
use Rattle.log_node.specs.declared.ids.Id.{Id}
use Rattle.col_core.specs.declared.Entry.{Entry}
use Rattle.walk_law.specs.LeftOpen.{has_id, helps}
use Rattle.walk_law.proofs.left_open.put_helped.Given as goal

-- those so far are put in
abbrev pub invariant-loop-entry : goal.invariant-loop-entry
invariant-loop-entry l = (id : Id)
    → has_id l.ids id ≡ (has_id l.fn.ids id || list_any (λ (e : Entry). helps id e.by e.event) (take l.entry-index l.journal))
