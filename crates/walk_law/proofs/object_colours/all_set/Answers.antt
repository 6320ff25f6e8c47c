use Rattle.std.proofs.Common.{◌∙◌, ap}
use Rattle.log_node.specs.Sets.{members}
use Rattle.log_node.proofs.CallerLemmas.{members-set_of}
use Rattle.walk_law.specs.Asking.{all_of, colours_in}
use Rattle.walk_law.proofs.object_colours.all_set.Goals as goal

pub returns : goal.returns
unfolding all_of colours_in
returns c = ap members c.of.ensures ∙ members-set_of c.args.own.now
