use Rattle.std.proofs.Common.{◌∙◌, ap}
use Rattle.std.specs.Prelude.{map}
use Rattle.std.proofs.lemmas.List.{take_all}
use Rattle.log_node.specs.Seen.{PlacedNode}
use Rattle.column_track.proofs.nodes.items_with.Goals as goal

pub returns : goal.returns
returns c = ap (map (λ (i : PlacedNode). i.head)) c.from.ensures ∙ c.loop-head.invariant ∙ take_all c.loop-head.head-index c.args.heads.now c.loop-head-test.false
