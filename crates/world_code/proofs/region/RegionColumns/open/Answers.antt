use Rattle.std.proofs.Common.{◌∙◌, ◌++◌, ◌∷◌, [], ap, sym, map, List, ℕ, zero-add}
use Rattle.std.specs.List.{range_with_len}
use Rattle.std.proofs.lemmas.List.FromFn.{map-range_with_len_more}
use Rattle.column.specs.Columns.{ColumnState, new_column}
use Rattle.world_code.proofs.region.RegionColumns.open.Goals as goal

pub loop-colour-preserved : goal.loop-colour-preserved
loop-colour-preserved c =
    let n = c.loop-colour.colour in
    let made = λ (colour : ℕ). new_column c.args.region colour c.args.shape.now.regions in
    c.in_ok-push.ensures.items
    ∙ (ap (λ (l : List ColumnState). l ++ c.in_ok-open.field-0 ∷ []) c.loop-colour.invariant
    ∙ (ap (λ (x : ColumnState). map made (range_with_len 0 n) ++ x ∷ []) c.in_ok-open.ensures
    ∙ sym (map-range_with_len_more made 0 n n (zero-add n))))
