use Rattle.std.proofs.Common.{rules, ◌<◌, ◌^◌, arith}
use Rattle.log_node.specs.declared.limits.TheConstants.{MAX_COLOURS}
use Rattle.log_node.proofs.SetLemmas.{no_bit, first_bit_is}
use Rattle.log_node.proofs.members.first_bit.Goals as goal

pub returns-then-rest-eq0 : goal.returns-then-rest-eq0
returns-then-rest-eq0 c = no_bit c.args.set c.args.from c.if-rest-eq0.true

pub returns : goal.returns
returns c =
    first_bit_is c.args.set c.args.from (let small : c.args.set.0 < 2 ^ MAX_COLOURS = search rules in small)
    (omega (arith, c.if-from-ge-MAX_COLOURS.false)) c.if-rest-eq0.false
