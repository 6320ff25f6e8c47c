use Rattle.std.proofs.Common.{◌≡◌, ℕ, List, map, sym, ap, ◌∙◌, subst}
use Rattle.std.specs.List.{All}
use Rattle.std.specs.Mem.Slots.{slots_items}
use Rattle.log_node.specs.declared.ids.Row.{Row}
use Rattle.stamp_board.specs.declared.view.Size.{Size}
use Rattle.stamp_board.specs.declared.view.View.{View}
use Rattle.stamp_board.specs.Rows.{IsRow, AreColours, colours_in}
use Rattle.stamp_board.specs.Closing.{Closes, all_begun, closed_row}
use Rattle.stamp_board.proofs.Ending.{ok_also, closed_rows, closes_with, same_seats}
use Rattle.stamp_board.proofs.board.Board.close.Goals as goal

pub rows-rows-requires : goal.rows-rows-requires
rows-rows-requires c =
    let b = c.args.self in let ss = c.args.seats in let cs = c.args.columns in let q = c.requires in
    let w = c.finish-words in let ws = slots_items w.result.closed.words in let g = c.gather_all-last in
    let v = g.result.me.0 in
    let gathered = same_seats b.size v c.into_vec.ensures c.into_vec-2.ensures g.ensures.gathered in
    let all = closes_with b ws ss cs v q.counts q.seats q.columns w.ensures.words gathered g.ensures.parts in
    subst (λ (z : List Row × Size). All (λ row. IsRow z.1 row × AreColours z.1 (colours_in z.1 ws row)) z.0)
    (λ i. (
      sym (c.as_slice-2.ensures.value ∙ c.in_ok-begun.ensures ∙ ap all_begun c.as_slice.ensures) i,
      sym w.ensures.size i,
    )) (closed_rows b ws ss cs v q.counts q.seats all)

pub returns : goal.returns
returns c =
    let b = c.args.self in let ss = c.args.seats in let cs = c.args.columns in let q = c.requires in
    let w = c.finish-words in let ws = slots_items w.result.closed.words in let g = c.gather_all-last in
    let v = g.result.me.0 in
    let gathered = same_seats b.size v c.into_vec.ensures c.into_vec-2.ensures g.ensures.gathered in
    let all = closes_with b ws ss cs v q.counts q.seats q.columns w.ensures.words gathered g.ensures.parts in
    ok_also c.rows-rows.result (λ r. r ≡ map (closed_row w.result.size ws) c.as_slice-2.result.now)
    (λ r. (x : List ℕ) × (u : View) × Closes b.size x u ss cs × (r ≡ map (closed_row b.size x) (all_begun ss)))
    (λ r is. (
      ws,
      v,
      all,
      is ∙ (λ i. map (closed_row (w.ensures.size i) ws) ((c.as_slice-2.ensures.value
          ∙ c.in_ok-begun.ensures ∙ ap all_begun c.as_slice.ensures) i)),
    )) c.rows-rows.ensures
