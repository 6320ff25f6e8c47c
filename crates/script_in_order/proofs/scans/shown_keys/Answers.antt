use Rattle.std.proofs.Common.{◌∙◌, ap, map}
use Rattle.std.proofs.lemmas.List.{take_all}
use Rattle.world_code.specs.WorldView.{world_of}
use Rattle.script_meaning.specs.Stamped.{shown_key}
use Rattle.script_in_order.proofs.scans.shown_keys.Goals as goal

pub returns : goal.returns
returns c =
    c.from.ensures ∙ (c.loop-key.invariant
    ∙ ap (map (shown_key (world_of c.args.world.now)))
    (take_all c.loop-key.key-index c.args.keys.now c.loop-key-test.false))
