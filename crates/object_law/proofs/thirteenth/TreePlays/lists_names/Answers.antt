use Rattle.std.proofs.Common.{◌∙◌, rules}
use Rattle.object_law.proofs.TreeKeys.{names_listed, tree_kept}
use Rattle.object_law.proofs.thirteenth.TreePlays.lists_names.Goals as goal

pub returns-clause-told : goal.returns-clause-told
returns-clause-told c =
    names_listed c.args.subject.now c.args.nodes.now c.args.client c.args.what.now c.in-Ls.object c.in_ok-play.play
    c.in_ok-play.ensures.play (c.in_ok-play.ensures.region ∙ c.own-region.ensures.own) c.in_ok-play.ensures.object
    c.in-Ls.path c.args.names.now c.args.stamp (search rules) c.in-Ls.is c.in_ok-right.right c.in_ok-right.ensures.so

pub returns-clause-stands : goal.returns-clause-stands
returns-clause-stands c =
    c.put.ensures c.args.subject.now c.args.nodes.now c.in_ok-play.ensures.stands
    (tree_kept c.args.subject.now c.args.nodes.now c.in_ok-play.play c.in_ok-play.ensures.play c.has_names.new.self
    c.has_names.ensures.keys c.has_names.ensures.told c.has_names.ensures.same c.in_ok-right.ensures.holds)
