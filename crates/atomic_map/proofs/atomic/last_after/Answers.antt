use Rattle.std.proofs.Common.{◌-◌, List, length, Some, ap, ◌∙◌}
use Rattle.std.specs.Prelude.{slice_get}
use Rattle.log_node.specs.declared.ids.Key.{Key}
use Rattle.log_node.specs.Seen.{PlacedNode}
use Rattle.atomic_map.proofs.MapReads.{last_is, last_same}
use Rattle.atomic_map.proofs.atomic.last_after.Goals as goal

pub returns-in-Some : goal.returns-in-Some
returns-in-Some c =
    ap (λ (k : Key). Some k) c.key_of.ensures
    ∙ last_is c.args.last c.args.read.now.items c.in-Some.item.now
    (c.in-Some.ensures.value ∙ ap (λ (l : List PlacedNode). slice_get l (length l - 1)) c.as_slice.ensures)

pub returns-in-None : goal.returns-in-None
returns-in-None c =
    last_same c.args.last c.args.read.now.items
    (c.in-None.ensures.value ∙ ap (λ (l : List PlacedNode). slice_get l (length l - 1)) c.as_slice.ensures)
