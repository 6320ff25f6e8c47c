use Rattle.std.proofs.Common.{arith, ap, sym, ◌∙◌, List, length}
use Rattle.std.specs.Prelude.{◌==◌}
use Rattle.std.proofs.lemmas.Bool.{true≢false}
use Rattle.log_node.specs.declared.node.Head.{Head}
use Rattle.log_node.specs.declared.ids.Counts.{Counts}
use Rattle.log_node.specs.Vectors.{at}
use Rattle.column_track.proofs.EventLemmas.{carry_goes}
use Rattle.column_track.proofs.again.carry_again.Goals as goal

pub returns : goal.returns
returns c =
    let under = c.if-region-regions.false in
    let many = c.requires in
    carry_goes c.args.column.now c.carry.new.self c.args.by c.args.region c.args.start c.args.heads.now c.in_ok-items.items
    c.agrees.ensures (omega (arith, under, many))
    (c.if-start-of_region.false ∙ (c.of_region.ensures ∙ ap (λ (v : Counts). at v c.args.region) c.held.ensures))
    (λ none. let full = c.if-is_empty.ensures in
    let f : ⊥ = true≢false (sym (full ∙ ap (λ (l : List Head). length l == 0) none)) in f) c.in_ok-items.ensures c.in_ok-carry.ensures.column
