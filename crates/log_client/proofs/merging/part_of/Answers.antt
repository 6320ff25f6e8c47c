use Rattle.std.proofs.Common.{◌∙◌, List, ap, subst, sym}
use Rattle.std.specs.Prelude.{nat_le}
use Rattle.std.specs.List.{filter}
use Rattle.std.proofs.lemmas.List.{take_rest}
use Rattle.log_node.specs.Seen.{PlacedNode}
use Rattle.playback.specs.Merging.{AreRising}
use Rattle.log_client.specs.Reading.{keys_of}
use Rattle.log_client.proofs.Read.LineParts.{rising_dropped}
use Rattle.log_client.proofs.merging.part_of.Goals as goal

pub count_up_to-requires : goal.count_up_to-requires
count_up_to-requires c =
    subst (λ (l : List PlacedNode). AreRising (keys_of l)) (sym (take_rest c.args.line.now c.count_to.result))
    (rising_dropped c.count_to.result c.args.line.now c.requires)

pub returns : goal.returns
returns c =
    let line = c.args.line.now in
    c.count_up_to.ensures.taken
    ∙ ap (filter (λ (i : PlacedNode). nat_le i.head.key.stamp c.args.stamp))
    (take_rest line c.count_to.result ∙ c.count_to.ensures.dropped)
