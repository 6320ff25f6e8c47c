use Rattle.std.proofs.Common.{arith}
use Rattle.lawful_run.proofs.CallerLemmas.{get_within}
use Rattle.col_core.specs.History.{line}
use Rattle.world_code.specs.WorldView.{world_of}
use Rattle.script_in_order.proofs.CausalSteps.{held_at, node_missing, node_there}
use Rattle.script_in_order.proofs.causal.node_at.Goals as goal

pub key_at-key-requires-clause-region : goal.key_at-key-requires-clause-region
key_at-key-requires-clause-region c =
    (held_at (world_of c.args.world.now) c.is_whole.ensures.reached c.args.own c.args.colour c.requires.own
    (let few = c.is_whole.ensures.few_colours in let colour = c.requires.colour in omega (arith, few, colour))
    c.args.region c.args.position c.requires.held).region

pub key_at-key-requires-clause-there : goal.key_at-key-requires-clause-there
key_at-key-requires-clause-there c =
    let w = world_of c.args.world.now in
    let x = held_at w c.is_whole.ensures.reached c.args.own c.args.colour c.requires.own
    (let few = c.is_whole.ensures.few_colours in let colour = c.requires.colour in omega (arith, few, colour))
    c.args.region c.args.position c.requires.held in
    get_within (line (w.histories c.args.region c.args.colour)) c.args.position x.key x.there

pub unreachable-requires : goal.unreachable-requires
unreachable-requires c =
    node_missing (world_of c.args.world.now) c.is_whole.ensures.reached c.args.own c.args.colour c.requires.own
    (let few = c.is_whole.ensures.few_colours in let colour = c.requires.colour in omega (arith, few, colour))
    c.args.region c.args.position c.requires.held c.key_at-key.result c.key_at-key.ensures
    (c.node.ensures.none c.in-None.is)

pub returns : goal.returns
returns c =
    node_there (world_of c.args.world.now) c.is_whole.ensures.reached c.args.own c.args.colour c.requires.own
    (let few = c.is_whole.ensures.few_colours in let colour = c.requires.colour in omega (arith, few, colour))
    c.args.region c.args.position c.requires.held c.key_at-key.result c.key_at-key.ensures c.in-Some.node.now.value
    c.in-Some.ensures.some
