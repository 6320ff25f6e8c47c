use Rattle.std.proofs.Common.{◌≡◌, ℕ, [], ap, sym, subst, ◌∙◌, length, take, refl, arith}
use Rattle.std.proofs.lemmas.List.{take_all}
use Rattle.std.proofs.lemmas.Option.{slice_get_read}
use Rattle.log_node.specs.declared.ids.Counts.{Counts}
use Rattle.log_node.specs.declared.node.Node.{Node}
use Rattle.log_node.specs.Seen.{PlacedNode}
use Rattle.object_fold.specs.CausalStates.{IsCausalMap}
use Rattle.causal_map.specs.Played.{chain_nodes}
use Rattle.causal_map.proofs.PlayedNodes.{fed_first, keeps_more, nodes_long}
use Rattle.causal_map.proofs.played.fold_on.Goals as goal

pub fed-place-requires : goal.fed-place-requires
fed-place-requires c =
    let k = c.requires.folds in
    let long = fed_first c.args.nodes.now c.args.map.now k in
    (take k.0 (chain_nodes c.args.nodes.now), k.2, search arith)

pub loop-place-init : goal.loop-place-init
loop-place-init c =
    let nodes = c.args.nodes.now in
    let k = c.requires.folds in
    let count = c.fed-place.ensures (take k.0 (chain_nodes nodes)) k.2 ∙ fed_first nodes c.args.map.now k in
    record {
      within = let le = k.1 in omega (arith, le, count);
      folds = subst (λ (n : ℕ). IsCausalMap c.args.map.now (take n (chain_nodes nodes))) (sym count) k.2;
    }

pub returns-in_err-feed-clause-folds : goal.returns-in_err-feed-clause-folds
returns-in_err-feed-clause-folds c =
    let l = c.loop-place in (
      l.place,
      l.invariant.within,
      c.in_err-feed.ensures.err (take l.place (chain_nodes c.args.nodes.now)) l.invariant.folds,
    )

pub loop-place-preserved : goal.loop-place-preserved
loop-place-preserved c =
    let nodes = c.args.nodes.now in
    let place = c.loop-place.place in
    let item = c.index-nodes-place.result in
    let there = slice_get_read nodes (length nodes) place item refl c.loop-place-test.true c.index-nodes-place.is in
    let same = ap (λ (i : PlacedNode). i.head.needs) (sym c.item.view_is) ∙ sym c.four_numbers-needs.ensures.same in
    let node = c.node-node.ensures in
    record {
      within = let lt = c.loop-place-test.true in omega (arith, lt);
      folds = keeps_more nodes c.loop-place.map c.feed.new.self place item c.requires.played there
          (ap (λ (v : Counts). length v.0) same ∙ c.four_numbers-needs.ensures.four)
          (λ played next region wants text after stands.
          c.in_ok-feed.ensures.ok played next (region ∙ ap (λ (n : Node). n.region) (sym node)) (wants ∙ same)
          (text ∙ ap (λ (n : Node). n.text) (sym node)) after stands)
          c.loop-place.invariant.folds;
    }

pub returns : goal.returns
returns c =
    let nodes = c.args.nodes.now in
    let l = c.loop-place in
    let all : take l.place (chain_nodes nodes) ≡ chain_nodes nodes =
    take_all l.place (chain_nodes nodes) (let long = nodes_long [] nodes in let end = c.loop-place-test.false in omega (arith, long, end)) in
    record {
      folds = (l.place, l.invariant.within, l.invariant.folds);
      whole = subst (IsCausalMap l.map) all l.invariant.folds;
    }
