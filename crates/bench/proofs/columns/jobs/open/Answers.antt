use Rattle.std.proofs.Common.{◌≡◌, ℕ, [], ◌∷◌, length, ap, sym, subst, ◌∙◌, arith, length-append}
use Rattle.std.proofs.lemmas.Result.{IfOk-weaker}
use Rattle.turn_cell.proofs.CallerLemmas.{left_at}
use Rattle.stamp_board.specs.Seats.{IsFreshColumn}
use Rattle.stamp_board.specs.declared.view.Size.{Size}
use Rattle.chain_store.specs.declared.told.Tag.{Tag}
use Rattle.chain_store.specs.Passes.{IsCellOf}
use Rattle.bench.specs.Jobs.{IsBenchColumn}
use Rattle.bench.proofs.columns.jobs.open.Goals as goal

pub open_column-requires-clause-seat : goal.open_column-requires-clause-seat
open_column-requires-clause-seat c =
    let board = c.in_ok-board.board in
    let seat = c.in-Some.seat in
    let rest = c.pop.new.self.items in
    let e = sym c.into_vec-columns.ensures ∙ c.in-Some.ensures.items in
    let one = c.in_ok-board.ensures.columns.0 in
    let none : length rest ≡ 0 = omega (arith, ap length e, length-append rest (seat ∷ []), one) in
    subst (λ (n : ℕ). IsFreshColumn board seat n) none
    (left_at c.in_ok-board.columns rest seat (λ n s. IsFreshColumn board s n) e c.in_ok-board.ensures.columns.1).1

pub returns-clause-column : goal.returns-clause-column
returns-clause-column c =
    let board = c.in_ok-board.board in
    IfOk-weaker c.open_column.result (λ r. IsCellOf board 0 0 1 r.0) (λ r. IsBenchColumn r.0)
    (λ r is. record {
      region = ap (λ (t : Tag). t.region) is;
      colour = ap (λ (t : Tag). t.colour) is;
      clients = ap (λ (t : Tag). t.size.clients) is ∙ ap (λ (s : Size). s.clients) c.in_ok-board.ensures.size;
    })
    c.open_column.ensures.cell
