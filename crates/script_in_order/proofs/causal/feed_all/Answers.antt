use Rattle.std.proofs.Common.{◌≡◌, ◌<◌, ℕ, true, false, ap, sym, subst, ◌∙◌, arith}
use Rattle.log_node.specs.declared.ids.Counts.{Counts}
use Rattle.log_node.specs.Vectors.{at}
use Rattle.log_node.specs.declared.limits.TheConstants.{MAX_COLOURS}
use Rattle.column.specs.Columns.{ColumnState, cut_of as column_cut}
use Rattle.object_fold.specs.CausalStates.{counts_of}
use Rattle.world_laws.specs.Worlds.{cut_after}
use Rattle.world_code.specs.WorldView.{world_of, column_at}
use Rattle.script_in_order.specs.CausalFolds.{cut_to_play, is_next}
use Rattle.script_in_order.proofs.CausalSteps.{below, fewer_left, left_of, none_is_next}
use Rattle.script_in_order.proofs.causal.feed_all.Goals as goal

pub loop-region-smaller : goal.loop-region-smaller
loop-region-smaller c =
    let w = world_of c.args.world.now in
    let l = c.loop-region in
    let own = c.args.own in
    let colour = c.args.colour in
    let code = c.args.world.now in
    let region = c.in-Some.region in
    let cut : c.cut-cut.result ≡ cut_to_play w own colour =
    c.cut-cut.ensures
    ∙ (ap (λ (col : ColumnState). column_cut col) c.column.ensures
    ∙ ap (λ (r : ℕ). cut_after r (column_at code.columns own colour).journal)
    (c.is_whole.ensures.placed own colour c.requires.own c.requires.colour).in_region) in
    let low : colour < MAX_COLOURS = (let few = c.is_whole.ensures.few_colours in let small = c.requires.colour in let k : colour < MAX_COLOURS = omega (arith, few, small) in k) in
    let counts = counts_of l.map in
    let less = below w c.is_whole.ensures.reached own colour c.requires.own low l.map region c.in-Some.ensures.some.0
    (subst (λ (v : Counts). is_next w own colour v region ≡ true) c.counts.ensures.value c.in-Some.ensures.some.1) l.invariant in
    subst (λ (v : Counts). left_of c.cut-cut.result v < left_of c.cut-cut.result counts) (sym c.in_ok-feed.ensures.counts)
    (fewer_left c.cut-cut.result counts region c.in-Some.ensures.some.0
    (subst (λ (v : Counts). at counts region < at v region) (sym cut) less))

pub returns-clause-all : goal.returns-clause-all
returns-clause-all c =
    let w = world_of c.args.world.now in
    let low : c.args.colour < MAX_COLOURS = (let few = c.is_whole.ensures.few_colours in let small = c.requires.colour in let k : c.args.colour < MAX_COLOURS = omega (arith, few, small) in k) in
    none_is_next w c.is_whole.ensures.reached c.args.own c.args.colour c.requires.own low (counts_of c.loop-region.map)
    (subst (λ (v : Counts). (r : ℕ) → r < 4 → is_next w c.args.own c.args.colour v r ≡ false) c.counts.ensures.value
    (c.next_region.ensures.none c.in_default.is)) c.loop-region.invariant.within
