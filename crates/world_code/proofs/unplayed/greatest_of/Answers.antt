use Rattle.std.proofs.Common.{ℕ, take, drop, map, ap, sym, ◌∙◌}
use Rattle.std.specs.Prelude.{◌-◌}
use Rattle.log_node.specs.declared.ids.Counts.{Counts}
use Rattle.log_node.specs.declared.ids.Key.{Key}
use Rattle.log_node.specs.Seen.{PlacedNode}
use Rattle.log_node.specs.Vectors.{at}
use Rattle.log_node.specs.Outcomes.{greatest}
use Rattle.world_code.proofs.GreatestStamps.{own_stamps, other_stamps}
use Rattle.world_code.proofs.unplayed.greatest_of.Goals as goal

pub returns-then-region-own : goal.returns-then-region-own
returns-then-region-own c =
    let region = c.args.region in
    let played = c.args.played in
    let keys = c.line.result.now in
    c.greatest_key.ensures
    ∙ (ap (λ (v : Counts). greatest (map (λ (k : Key). k.stamp) (drop (at played region) (take (at v region) keys))))
    c.cut.ensures
    ∙ own_stamps c.args.column.now c.agrees.ensures played keys region c.line.ensures
    (c.if-region-own.true ∙ sym c.requires.own))

pub returns : goal.returns
returns c =
    let region = c.args.region in
    let played = c.args.played in
    let items = c.copy.result.now in
    let base = at c.base.result region in
    let from = at played region - base in
    c.greatest_item.ensures
    ∙ (ap (λ (n : ℕ). greatest (map (λ (i : PlacedNode). i.head.key.stamp)
    (drop n (take c.saturating_sub-2.result items)))) c.saturating_sub.ensures
    ∙ (ap (λ (n : ℕ). greatest (map (λ (i : PlacedNode). i.head.key.stamp) (drop from (take n items))))
    c.saturating_sub-2.ensures
    ∙ (ap (λ (v : Counts). greatest (map (λ (i : PlacedNode). i.head.key.stamp)
    (drop from (take (at v region - base) items)))) c.cut.ensures
    ∙ other_stamps c.args.column.now c.agrees.ensures played items region base c.copy.ensures c.requires.region
    (λ e. c.if-region-own.false (e ∙ c.requires.own)) (ap (λ (v : Counts). at v region) c.base.ensures)
    c.requires.base)))
