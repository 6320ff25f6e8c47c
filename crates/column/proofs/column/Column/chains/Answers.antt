use Rattle.std.proofs.Common.{◌≡◌, ℕ, List, [], ◌∷◌, ◌++◌, length, get_or, ap, sym, subst, arith, length-append}
use Rattle.log_node.specs.Seen.{PlacedNode}
use Rattle.log_node.specs.Vectors.{at}
use Rattle.column.specs.Columns.{cut_of, AreItems}
use Rattle.column.proofs.Pushing.{each_pushed}
use Rattle.column.proofs.column.Column.chains.Goals as goal

pub loop-region-preserved : goal.loop-region-preserved
loop-region-preserved c =
    let old = c.loop-region.items in
    let item = c.in_ok-items.field-0 in
    let many = c.loop-region.invariant.so_many in
    let is : c.push.new.self ≡ old ++ item ∷ [] = c.in_ok-push.ensures.ok in
    let longer = length-append old (item ∷ []) in
    let P : ℕ → List PlacedNode → Type 0 =
    λ region items. AreItems c.args.self.now region (at c.args.from region) (at (cut_of c.args.self.now) region) items in
    record {
      so_many = omega (arith, ap length is, longer, many);
      each = λ region lt. subst (λ (l : List (List PlacedNode)). P region (get_or l region [])) (sym is)
          (each_pushed P old item [] (λ k less. c.loop-region.invariant.each k (omega (arith, less, many)))
          (subst (λ (n : ℕ). P n item) (sym many)
          (subst (λ (n : ℕ). AreItems c.args.self.now c.loop-region.region n
          (at (cut_of c.args.self.now) c.loop-region.region) item) c.of_region.ensures c.in_ok-items.ensures))
          region (omega (arith, lt, many)));
    }
