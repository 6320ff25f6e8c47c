use Rattle.std.proofs.Common.{◌≡◌, ◌+◌, ◌∷◌, ◌++◌, List, [], map, sym, ap, ◌∙◌, arith, append_assoc}
use Rattle.std.specs.List.{range_with_len}
use Rattle.std.proofs.lemmas.List.FromFn.{map-range_with_len_more}
use Rattle.log_node.specs.declared.ids.Row.{Row}
use Rattle.stamp_board.proofs.Ending.{row_of}
use Rattle.stamp_board.proofs.close.push_begun.Goals as goal

pub loop-number-preserved : goal.loop-number-preserved
loop-number-preserved c = let l = c.loop-number in let before = c.args.rows.now.items in
    let f = row_of c.args.seat.now.client in
    let here : 0 + l.number ≡ l.number = omega arith in
    c.in_ok-push.ensures.items ∙ ap (λ (rows : List Row). rows ++ f l.number ∷ []) l.invariant
    ∙ append_assoc before (map f (range_with_len 0 l.number)) (f l.number ∷ [])
    ∙ ap (λ (rows : List Row). before ++ rows) (sym (map-range_with_len_more f 0 l.number l.number here))
