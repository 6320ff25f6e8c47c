use Rattle.std.proofs.Common.{◌≡◌, ◌<◌, ℕ, [], ◌∷◌, ◌++◌, refl, ◌∙◌, ap, sym, subst, arith}
use Rattle.log_node.specs.declared.ids.Counts.{Counts}
use Rattle.log_node.specs.declared.node.Node.{Node}
use Rattle.log_node.specs.Vectors.{at, vector, least}
use Rattle.log_node.specs.declared.limits.TheConstants.{MAX_COLOURS}
use Rattle.col_core.specs.Rows.{node_wants}
use Rattle.object_fold.specs.Causal.{ChainNode}
use Rattle.object_fold.specs.CausalStates.{IsCausalMap, counts_of}
use Rattle.world_code.specs.WorldView.{world_of}
use Rattle.script_in_order.specs.CausalFolds.{place_at, held_node, cut_to_play}
use Rattle.script_in_order.proofs.CausalSteps.{is_held, below, comes_next, needs_up_to, none_more, one_counted, one_fed}
use Rattle.script_in_order.proofs.causal.feed.Goals as goal

pub node_at-node-requires-clause-held : goal.node_at-node-requires-clause-held
node_at-node-requires-clause-held c =
    let w = world_of c.args.world.now in
    let low = (let few = c.is_whole.ensures.few_colours in let colour = c.requires.colour in let k : c.args.colour < MAX_COLOURS = omega (arith, few, colour) in k) in
    is_held w c.is_whole.ensures.reached c.args.own c.args.colour c.requires.own low c.args.region
    c.of_region-position.result c.requires.region
    (subst (λ (n : ℕ). n < at (cut_to_play w c.args.own c.args.colour) c.args.region)
    (sym (c.of_region-position.ensures ∙ ap (λ (v : Counts). at v c.args.region) c.counts.ensures.value))
    (below w c.is_whole.ensures.reached c.args.own c.args.colour c.requires.own low c.args.map.now c.args.region
    c.requires.region c.requires.next c.requires.fold))

pub returns-in_err-feed-clause-fold : goal.returns-in_err-feed-clause-fold
returns-in_err-feed-clause-fold c =
    let w = world_of c.args.world.now in
    let low = (let few = c.is_whole.ensures.few_colours in let colour = c.requires.colour in let k : c.args.colour < MAX_COLOURS = omega (arith, few, colour) in k) in
    none_more w c.is_whole.ensures.reached c.args.own c.args.colour c.requires.own low c.args.map.now c.feed.new.self
    c.requires.fold (c.in_err-feed.ensures.err c.requires.fold.nodes c.requires.fold.folded)

pub returns : goal.returns
returns c =
    let w = world_of c.args.world.now in
    let own = c.args.own in
    let colour = c.args.colour in
    let region = c.args.region in
    let reached = c.is_whole.ensures.reached in
    let low = (let few = c.is_whole.ensures.few_colours in let small = c.requires.colour in let k : colour < MAX_COLOURS = omega (arith, few, small) in k) in
    let old = c.args.map.now in
    let fold = c.requires.fold in
    let home = c.requires.own in
    let few = c.requires.region in
    let is = c.requires.next in
    let shared = c.node_at-node.result.now.value in
    let position = c.of_region-position.ensures ∙ ap (λ (v : Counts). at v region) c.counts.ensures.value in
    let there : held_node w own colour (place_at region (at (counts_of old) region))
    ≡ record { region = region; position = at (counts_of old) region; needs = vector (λ r. at (node_wants shared colour) r); text = shared.text } =
    subst (λ (n : ℕ). held_node w own colour (place_at region n)
    ≡ record { region = region; position = n; needs = vector (λ r. at (node_wants shared colour) r); text = shared.text })
    position c.node_at-node.ensures in
    let needs : (held_node w own colour (place_at region (at (counts_of old) region))).needs ≡ c.least-needs.result =
    needs_up_to w reached own colour home low old region few is fold (node_wants shared colour)
    (ap (λ (n : ChainNode). n.needs) there)
    ∙ sym (c.least-needs.ensures
    ∙ (ap (λ (v : Counts). least v c.args.cut) (c.wants_of.ensures ∙ ap (λ (n : Node). node_wants n colour) c.deref.ensures)
    ∙ ap (λ (v : Counts). least (node_wants shared colour) v) c.requires.cut)) in
    let node = held_node w own colour (place_at region (at (counts_of old) region)) in
    let fed : IsCausalMap c.feed.new.self (fold.nodes ++ node ∷ []) =
    c.in_ok-feed.ensures.ok fold.nodes node refl needs
    (ap (λ (n : ChainNode). n.text) there ∙ sym (ap (λ (n : Node). n.text) c.deref-2.ensures))
    (comes_next w reached own colour home low old region few is fold) fold.folded in
    record {
      fold = one_fed w reached own colour home low old region few is fold c.feed.new.self fed;
      counts = one_counted w reached own colour home low old region few is fold c.feed.new.self fed;
    }
