use Rattle.std.proofs.Common.{sym, ◌∙◌, ap, List, ℕ}
use Rattle.std.specs.Prelude.{slice_get}
use Rattle.log_map.proofs.MapAnswers.{map_with, shard_folds, shard_value_is}
use Rattle.log_map.proofs.map.LogMap.value_open.Goals as goal

pub value_kept-requires : goal.value_kept-requires
value_kept-requires c =
    let there = ap (λ (l : List ℕ). slice_get l c.place_of-place.result) (sym c.as_slice.ensures) ∙ c.place_of-place.ensures in
    shard_folds c.args.client.now c.args.self.now c.place_of-place.result c.args.colour c.index_mut.result.now
    c.line.result.now c.requires.map c.requires.whole there c.index_mut.ensures.value c.line.ensures

pub returns-clause-map : goal.returns-clause-map
returns-clause-map c =
    let there = ap (λ (l : List ℕ). slice_get l c.place_of-place.result) (sym c.as_slice.ensures) ∙ c.place_of-place.ensures in
    map_with c.args.client.now c.args.self.now c.place_of-place.result c.args.colour c.index_mut.result.now c.value_kept.new.shard
    c.line.result.now c.requires.map c.requires.whole there c.index_mut.ensures.value c.line.ensures c.value_kept.ensures.shard c.value_kept.ensures.folds

pub returns-clause-value : goal.returns-clause-value
returns-clause-value c =
    let there = ap (λ (l : List ℕ). slice_get l c.place_of-place.result) (sym c.as_slice.ensures) ∙ c.place_of-place.ensures in
    shard_value_is c.args.client.now c.args.self.now c.place_of-place.result c.args.colour c.index_mut.result.now
    c.line.result.now c.args.key.now c.value_kept.result c.requires.map c.requires.whole there c.index_mut.ensures.value c.line.ensures
    c.value_kept.ensures.value
