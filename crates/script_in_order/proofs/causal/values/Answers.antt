use Rattle.std.proofs.Common.{◌≡◌, ◌<◌, ℕ, List, subst, arith}
use Rattle.std.specs.Prelude.{IfOk}
use Rattle.std.proofs.lemmas.Result.{IfOk-weaker}
use Rattle.log_node.specs.declared.limits.TheConstants.{MAX_COLOURS}
use Rattle.object_fold.specs.Causal.{IsCausalAnswer}
use Rattle.world_code.specs.WorldView.{world_of}
use Rattle.script_meaning.specs.CausalGets.{causal_values}
use Rattle.script_in_order.specs.CausalFolds.{cut_to_play, held_nodes}
use Rattle.script_in_order.proofs.CausalSteps.{fold_answers}
use Rattle.script_in_order.proofs.causal.values.Goals as goal

pub returns-clause-ok : goal.returns-clause-ok
returns-clause-ok c =
    let w = world_of c.args.world.now in
    let own = c.args.own in
    let colour = c.args.colour in
    let low : colour < MAX_COLOURS = (let few = c.is_whole.ensures.few_colours in let small = c.requires.colour in let k : colour < MAX_COLOURS = omega (arith, few, small) in k) in
    let fold = c.in_ok-feed_all.ensures.fold in
    let key = c.args.key.now in
    IfOk-weaker c.get.result (λ (values : List (List ℕ)). IsCausalAnswer fold.nodes key values)
    (λ (values : List (List ℕ)). values ≡ causal_values (held_nodes w own colour (cut_to_play w own colour)) key)
    (λ values says. fold_answers w c.is_whole.ensures.reached own colour c.requires.own low c.feed_all.new.map fold
    c.in_ok-feed_all.ensures.all key values says)
    (subst (λ (k : List ℕ). IfOk c.get.result (λ (values : List (List ℕ)). IsCausalAnswer fold.nodes k values)) c.as_bytes.ensures (c.get.ensures fold.nodes fold.folded))
