use Rattle.object_law.proofs.TreeKeys.{keys_are}
use Rattle.object_law.proofs.tree_play.keys_of.Goals as goal

pub returns : goal.returns
returns c =
    let may = c.agrees.ensures.may in
    keys_are c.args.subject.now may.0 may.1 c.args.region c.requires.region c.args.colours.now c.requires.colours
    c.region_order_is_lawful.ensures c.region_order_is_unique.ensures c.in_ok-keys.keys.items c.in_ok-keys.ensures
