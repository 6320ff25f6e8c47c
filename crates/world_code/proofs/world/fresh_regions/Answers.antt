use Rattle.std.proofs.Common.{◌∙◌, ◌++◌, ◌∷◌, [], ap, sym, map, List, ℕ, zero-add}
use Rattle.std.specs.List.{range_with_len}
use Rattle.std.proofs.lemmas.List.FromFn.{map-range_with_len_more}
use Rattle.column.specs.Columns.{ColumnState}
use Rattle.world_code.specs.WorldView.{fresh_columns}
use Rattle.world_code.proofs.world.fresh_regions.Goals as goal

pub loop-region-preserved : goal.loop-region-preserved
loop-region-preserved c =
    let n = c.loop-region.region in
    let made = λ (region : ℕ). fresh_columns region c.args.shape.now in
    c.in_ok-push.ensures.items
    ∙ (ap (λ (l : List (List ColumnState)). l ++ c.in_ok-open.field-0 ∷ []) c.loop-region.invariant
    ∙ (ap (λ (x : List ColumnState). map made (range_with_len 0 n) ++ x ∷ []) c.in_ok-open.ensures
    ∙ sym (map-range_with_len_more made 0 n n (zero-add n))))
