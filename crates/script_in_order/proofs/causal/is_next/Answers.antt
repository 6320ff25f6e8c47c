use Rattle.std.proofs.Common.{◌≡◌, ◌<◌, ℕ, ◌∙◌, ap, subst, arith}
use Rattle.log_node.specs.declared.ids.Counts.{Counts}
use Rattle.log_node.specs.declared.node.Node.{Node}
use Rattle.log_node.specs.Vectors.{at, vector, is_within}
use Rattle.col_core.specs.Rows.{node_wants}
use Rattle.world_code.specs.WorldView.{world_of}
use Rattle.script_in_order.specs.CausalFolds.{place_at, held_node, cut_to_play}
use Rattle.script_in_order.proofs.CausalSteps.{is_held, is_next_by}
use Rattle.script_in_order.proofs.causal.is_next.Goals as goal

pub node_at-node-requires-clause-held : goal.node_at-node-requires-clause-held
node_at-node-requires-clause-held c =
    let w = world_of c.args.world.now in
    is_held w c.is_whole.ensures.reached c.args.own c.args.colour c.requires.own
    (let few = c.is_whole.ensures.few_colours in let colour = c.requires.colour in omega (arith, few, colour))
    c.args.region c.of_region-position.result c.requires.region
    (subst (λ (v : Counts). c.of_region-position.result < at v c.args.region) c.requires.cut
    (subst (λ (n : ℕ). c.of_region-position.result < n) c.of_region.ensures c.if-position-of_region.false))

pub returns : goal.returns
returns c =
    let w = world_of c.args.world.now in
    let own = c.args.own in
    let colour = c.args.colour in
    let region = c.args.region in
    let counts = c.args.counts in
    let node = c.node_at-node.result.now.value in
    let less : at counts region < at (cut_to_play w own colour) region =
    subst (λ (n : ℕ). n < at (cut_to_play w own colour) region) c.of_region-position.ensures
    (subst (λ (v : Counts). c.of_region-position.result < at v region) c.requires.cut
    (subst (λ (n : ℕ). c.of_region-position.result < n) c.of_region.ensures c.if-position-of_region.false)) in
    let there : held_node w own colour (place_at region (at counts region))
    ≡ record { region = region; position = at counts region; needs = vector (λ r. at (node_wants node colour) r); text = node.text } =
    subst (λ (n : ℕ). held_node w own colour (place_at region n)
    ≡ record { region = region; position = n; needs = vector (λ r. at (node_wants node colour) r); text = node.text })
    c.of_region-position.ensures c.node_at-node.ensures in
    c.is_within.ensures
    ∙ (ap (λ (v : Counts). is_within v counts) (c.wants_of.ensures ∙ ap (λ (n : Node). node_wants n colour) c.deref.ensures)
    ∙ is_next_by w c.is_whole.ensures.reached own colour c.requires.own
    (let few = c.is_whole.ensures.few_colours in let low = c.requires.colour in omega (arith, few, low))
    counts region node less there)
