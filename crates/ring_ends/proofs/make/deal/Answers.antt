use Rattle.std.proofs.Common.{◌≡◌, ◌∙◌, ap, sym, subst, rules, ℕ, ◌+◌, ◌<◌, get_or, arith, List, [], ◌∷◌, ◌++◌, length, map, set, slice_get, Some, append_assoc}
use Rattle.std.proofs.lemmas.Option.{slice_get-get_or, slice_get_within}
use Rattle.std.proofs.lemmas.List.{length-map}
use Rattle.std.specs.Vec.Iter.{into_iter_items}
use Rattle.std.specs.Iterator.Adapters.{enumerate_source}
use Rattle.ring_ends.specs.declared.rings.Rings.{Rings}
use Rattle.ring_ends.specs.Making.{Dealt}
use Rattle.ring_ends.proofs.Lists.{one_more, map_more, get_at}
use Rattle.ring_ends.proofs.Dealing.{dealt_more}
use Rattle.ring_ends.proofs.make.deal.Goals as goal

-- src/make.rt:50:5
pub loop-region-preserved : goal.loop-region-preserved
loop-region-preserved c =
    let inv = c.loop-region.invariant in
    let steps = c.in-Some.ensures.steps in
    let dealt = c.loop-region.yielded in
    let one : ℕ × Rings = (c.in-Some.region, c.in-Some.rings) in
    let rest = into_iter_items (enumerate_source c.next.new.self) in
    let second : ℕ × Rings → Rings = λ p. p.1 in
    let place : c.in-Some.region ≡ length dealt = steps.1 ∙ inv.0 in
    let column : map second dealt ++ c.in-Some.rings ∷ rest ≡ c.args.column.items =
    ap (λ l. map second dealt ++ l) (sym steps.0.0) ∙ inv.1 in
    let at : slice_get c.args.column.items c.in-Some.region ≡ Some c.in-Some.rings =
    ap (λ l. slice_get l c.in-Some.region) (sym column)
    ∙ get_at (map second dealt) rest c.in-Some.rings c.in-Some.region (length-map dealt second ∙ sym place) in
    let inside = slice_get_within c.args.column.items c.in-Some.region c.in-Some.rings at in
    let many : length c.args.column.items ≡ length c.args.all.now = c.requires in
    let kept : length c.loop-region.all ≡ length c.args.all.now = inv.2.lengths in
    let within : c.in-Some.region < length c.loop-region.all = omega (arith, inside, many, kept) in
    let more =
    dealt_more c.in-Some.region c.args.column.items c.in-Some.rings
    (get_or c.loop-region.all c.in-Some.region c.index-all-region.result) c.args.all.now c.loop-region.all
    (subst (λ (n : ℕ). Dealt c.args.column.items n c.args.all.now c.loop-region.all) (sym place) inv.2)
    at (slice_get-get_or c.loop-region.all c.in-Some.region c.index-all-region.result within) within in (
      steps.2 ∙ (ap (λ n. n + 1) inv.0 ∙ sym (one_more dealt one)),
      ap (λ l. l ++ rest) (map_more second dealt one)
          ∙ (append_assoc (map second dealt) (c.in-Some.rings ∷ []) rest ∙ column),
      subst (λ (n : ℕ). Dealt c.args.column.items n c.args.all.now (set c.loop-region.all c.in-Some.region c.push.new.self))
          (ap (λ n. n + 1) place ∙ sym (one_more dealt one))
          (subst (λ (l : List Rings). Dealt c.args.column.items (c.in-Some.region + 1) c.args.all.now
          (set c.loop-region.all c.in-Some.region l)) (search rules) more),
    )
