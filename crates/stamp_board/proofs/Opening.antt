-- The seats that a board opens with.
use Rattle.std.proofs.Common.{◌≡◌, ◌⊎◌, ⊎_elim, inl, inr, ℕ, zero, suc, ◌+◌, ◌<◌, List, [], ◌∷◌, ◌++◌, length}
use Rattle.std.proofs.Common.{Some, slice_get, sym, refl, ap, ◌∙◌, subst, arith}
use Rattle.stamp_board.specs.declared.board.Board.{Board}
use Rattle.stamp_board.specs.declared.seats.Seat.{Seat}
use Rattle.stamp_board.specs.declared.seats.ColumnSeat.{ColumnSeat}
use Rattle.atomic_table.specs.Table.{Me}
use Rattle.atomic_table.specs.declared.shared.Seat.{Seat as Inner}
use Rattle.log_node.specs.declared.node.Node.{Node}
use Rattle.stamp_board.specs.declared.view.View.{View}
use Rattle.stamp_board.specs.Law.{lowest, others}
use Rattle.stamp_board.specs.Seats.{IsFreshClient, IsFreshColumn, AreFreshClients, AreFreshColumns}
use Rattle.stamp_board.specs.Inside.{HasParts}

module _ {A : Type 0} where
  -- an item of a list that was lengthened by one is one of those before, or the last
  pub got_longer : (xs : List A) (x y : A) (n : ℕ) → slice_get (xs ++ x ∷ []) n ≡ Some y
      → (slice_get xs n ≡ Some y) ⊎ ((n ≡ length xs) × (x ≡ y))
  got_longer [] x y zero e = inr (refl, cc (e))
  got_longer [] x y (suc n) e = absurd cc
  got_longer (z ∷ xs) x y zero e = inl e
  got_longer (z ∷ xs) x y (suc n) e = ⊎_elim (λ t. inl t) (λ t. inr (ap suc t.0, t.1)) (got_longer xs x y n e)

pub more_clients : (b : Board) (xs : List Seat) (s : Seat) → AreFreshClients b xs → IsFreshClient b s (length xs)
    → AreFreshClients b (xs ++ s ∷ [])
more_clients b xs s all fresh n t here = ⊎_elim (λ (e : slice_get xs n ≡ Some t). all n t e)
    (λ (e : (n ≡ length xs) × (s ≡ t)). subst (λ (z : ℕ × Seat). IsFreshClient b z.1 z.0) (λ i. (sym e.0 i, e.1 i))
    fresh) (got_longer xs s t n here)

pub more_columns : (b : Board) (xs : List ColumnSeat) (s : ColumnSeat) → AreFreshColumns b xs
    → IsFreshColumn b s (length xs) → AreFreshColumns b (xs ++ s ∷ [])
more_columns b xs s all fresh n t here = ⊎_elim (λ (e : slice_get xs n ≡ Some t). all n t e)
    (λ (e : (n ≡ length xs) × (s ≡ t)). subst (λ (z : ℕ × ColumnSeat). IsFreshColumn b z.1 z.0)
    (λ i. (sym e.0 i, e.1 i)) fresh) (got_longer xs s t n here)

abbrev In : Type 0
In = Inner Node View

pub dealt_first : (b : Board) (s s' : In) (n : ℕ) → HasParts b s n → s'.table_id ≡ s.table_id
    → s'.me ≡ (others s.me.0, s.me.1) → HasParts b s' (n + 1)
dealt_first b s s' n d table e = record {
  board = table ∙ d.board;
  size = ap (λ (m : Me Node View). m.0.size) e ∙ d.size;
  low = ap (λ (m : Me Node View). m.0.low) e ∙ ap (λ (z : ℕ). z + 1) d.low;
  high = ap (λ (m : Me Node View). m.0.high) e ∙ d.high;
  mine = ap (λ (m : Me Node View). m.0.mine) e ∙ d.mine;
  known = ap (λ (m : Me Node View). m.0.known) e ∙ d.known;
  begun = ap (λ (m : Me Node View). m.0.begun) e ∙ d.begun;
}

pub dealt_client : (b : Board) (s new : In) (n : ℕ) (t : Seat) → HasParts b s (1 + n) → new.table_id ≡ s.table_id
    → new.me ≡ (lowest s.me.0, []) → n < b.size.clients → t.client ≡ n → t.used ≡ 0 → t.inner ≡ new
    → IsFreshClient b t n
dealt_client b s new n t d table e inside client used inner =
    let me : t.inner.me ≡ (lowest s.me.0, []) = ap (λ (z : In). z.me) inner ∙ e in
    let low : t.inner.me.0.low ≡ 1 + n = ap (λ (m : Me Node View). m.0.low) me ∙ d.low in
    let high : t.inner.me.0.high ≡ 1 + n + 1 = ap (λ (m : Me Node View). m.0.high) me ∙ ap (λ (z : ℕ). z + 1) d.low in
    record {
      board = (ap (λ (z : In). z.table_id) inner ∙ table ∙ d.board, ap (λ (m : Me Node View). m.0.size) me ∙ d.size);
      clients = (omega arith, omega arith, omega arith);
      client = client;
      used = used;
      known = ap (λ (m : Me Node View). m.0.known) me ∙ d.known;
      begun = ap (λ (m : Me Node View). m.0.begun) me ∙ d.begun;
    }

pub dealt_column : (b : Board) (s new : In) (n low : ℕ) (t : ColumnSeat) → HasParts b s low
    → new.table_id ≡ s.table_id → new.me ≡ (lowest s.me.0, []) → t.colour ≡ n → t.inner ≡ new → IsFreshColumn b t n
dealt_column b s new n low t d table e colour inner =
    let me : t.inner.me ≡ (lowest s.me.0, []) = ap (λ (z : In). z.me) inner ∙ e in
    record {
      board = (ap (λ (z : In). z.table_id) inner ∙ table ∙ d.board, ap (λ (m : Me Node View). m.0.size) me ∙ d.size);
      colour = colour;
      mine = ap (λ (m : Me Node View). m.0.mine) me ∙ d.mine;
      known = ap (λ (m : Me Node View). m.0.known) me ∙ d.known;
      begun = ap (λ (m : Me Node View). m.0.begun) me ∙ d.begun;
    }
