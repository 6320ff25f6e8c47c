use Rattle.std.proofs.Common.{rules, ◌<◌, ◌^◌}
use Rattle.log_node.specs.declared.limits.TheConstants.{MAX_COLOURS}
use Rattle.log_node.proofs.SetLemmas.{count_is}
use Rattle.log_node.proofs.ids.Colours.count.Goals as goal

pub returns : goal.returns
returns c = count_is c.args.self (let small : c.args.self.0 < 2 ^ MAX_COLOURS = search rules in small)
