-- The closing rows, and what the closing board is.
use Rattle.std.proofs.Common.{◌≡◌, ◌<◌, ◌≤◌, ◌*◌, refl, inl, inr, Some, slice_get, ℕ, suc, zero, ◌+◌, List, []}
use Rattle.std.proofs.Common.{◌∷◌, ◌++◌, length, take, get_or, sym, ap, ◌∙◌, subst, arith, add-one}
use Rattle.std.specs.Prelude.{IfOk, Result, Ok, Err}
use Rattle.std.specs.List.{All}
use Rattle.std.proofs.lemmas.List.{append-nil}
use Rattle.std.proofs.lemmas.List.Elements.{All-append}
use Rattle.std.proofs.lemmas.List.FromFn.{length-map-range_with_len, get_or-map-range_with_len}
use Rattle.std.proofs.lemmas.Grind.{flat_map-append}
use Rattle.std.proofs.lemmas.Option.{slice_get_within}
use Rattle.std.proofs.Math.Seq.{take-suc}
use mathlib.Core.Option.{some, some-injective, some-ne-none}
use lib.ListN.{get_elem?}
use Rattle.atomic_table.specs.Table.{Final, Seen}
use Rattle.log_node.specs.declared.node.Node.{Node}
use Rattle.log_node.specs.declared.ids.Row.{Row}
use Rattle.log_node.specs.declared.marks.ColourMark.{ColourMark}
use Rattle.stamp_board.specs.declared.view.Size.{Size}
use Rattle.stamp_board.specs.declared.view.View.{View}
use Rattle.stamp_board.specs.declared.board.Board.{Board}
use Rattle.stamp_board.specs.declared.seats.Seat.{Seat}
use Rattle.stamp_board.specs.declared.seats.ColumnSeat.{ColumnSeat}
use Rattle.stamp_board.specs.Words.{row_at, word_at, owner_of, mark_from}
use Rattle.stamp_board.specs.Rows.{IsRow, AreColours, colours_in, mark_in}
use Rattle.stamp_board.specs.Views.{at}
use Rattle.stamp_board.specs.Law.{Fits, Lawful, IsLawfulState}
use Rattle.stamp_board.specs.Seats.{AreClientsOf, AreColumnsOf, seen, column_seen}
use Rattle.stamp_board.specs.Closing.{Closes, rows_begun, all_begun}
use Rattle.stamp_board.specs.Inside.{IsIn, Gathered}
use Rattle.stamp_board.proofs.Places.{owner_of_mark, owner_of_row}
use Rattle.stamp_board.proofs.Keeps.{fits}
use Rattle.stamp_board.proofs.Possible.{may_be}
pub use Rattle.log_node.proofs.CallerLemmas.{ok_then as ok_also}

pub found_at : (l : List ℕ) (i x : ℕ) → get_elem? l i ≡ some x → get_or l i 0 ≡ x
found_at [] i x e = absurd (some-ne-none x (sym e))
found_at (y ∷ ys) zero x e = some-injective y x e
found_at (y ∷ ys) (suc i) x e = found_at ys i x e

-- a colour with its mark in the row
abbrev pub marked : Size → List ℕ → Row → ℕ → ColourMark
marked k ws row c = record { colour = c; mark = mark_in k ws row c }

abbrev pub row_of : ℕ → ℕ → Row
row_of client number = record { client = client; number = number }

-- the rows of one more seat
pub begun_more : (ss : List Seat) (i : ℕ) (s : Seat) → i < length ss → get_or ss i s ≡ s
    → all_begun (take (i + 1) ss) ≡ all_begun (take i ss) ++ rows_begun s
begun_more ss i s inside is =
    ap (λ (n : ℕ). all_begun (take n ss)) (add-one i)
    ∙ ap all_begun (take-suc ss i s inside ∙ ap (λ (z : Seat). take i ss ++ z ∷ []) is)
    ∙ flat_map-append rows_begun (take i ss) (s ∷ [])
    ∙ ap (λ (l : List Row). all_begun (take i ss) ++ l) (append-nil (rows_begun s))

all_of_seat : (P : Row → Type 0) (s : Seat) → ((j : ℕ) → j < s.used → P record { client = s.client; number = j })
    → All P (rows_begun s)
all_of_seat P s each k d lt =
    let f : ℕ → Row = λ j. record { client = s.client; number = j } in
    let inside : k < s.used = subst (λ (n : ℕ). k < n) (length-map-range_with_len f 0 s.used) lt in
    let e : 0 + k ≡ k = omega arith in
    subst P (sym (get_or-map-range_with_len f 0 s.used k k d inside e)) (each k inside)

-- what holds of each row that a seat has begun holds of all
pub all_of_seats : (P : Row → Type 0) (ss : List Seat)
    → ((n : ℕ) (s : Seat) → slice_get ss n ≡ Some s → (j : ℕ) → j < s.used
    → P record { client = s.client; number = j }) → All P (all_begun ss)
all_of_seats P [] each = λ k d lt. absurd (omega arith)
all_of_seats P (s ∷ ss) each = All-append P (rows_begun s) (all_begun ss) (all_of_seat P s (each 0 s refl))
    (all_of_seats P ss (λ n t here. each (suc n) t here))

-- what the rule says of the last words
pub last_words : (key k : Size) → key ≡ k → (id : ℕ) (v : View) (ws : List ℕ) (xs : List Node)
    → Final (Seen (IsLawfulState key) id v) ws xs → Lawful k ws × Fits k ws v
last_words key k same id v ws xs f =
    let holds = f.1.0 in
    subst (λ (z : Size × List ℕ). Lawful z.0 z.1 × Fits z.0 z.1 v) (λ i. (same i, f.2 i))
    (holds.lawful, fits key f.0 holds id v f.1.1)

pub same_seats : (k : Size) (v : View) {ss ss' : List Seat} {cs cs' : List ColumnSeat} → ss ≡ ss' → cs ≡ cs'
    → Gathered k ss cs v → Gathered k ss' cs' v
same_seats k v e e' = subst (λ (z : List Seat × List ColumnSeat). Gathered k z.0 z.1 v) (λ i. (e i, e' i))

module _ (k : Size) (ws : List ℕ) (ss : List Seat) (cs : List ColumnSeat) (v : View) (law : Lawful k ws)
    (f : Fits k ws v) (g : Gathered k ss cs v) (low : v.low ≡ 1) (high : v.high ≡ 1 + k.clients + k.colours)
    (many : length ss ≡ k.clients) (wide : length cs ≡ k.colours) where
  in_seat : (n : ℕ) (s : Seat) → slice_get ss n ≡ Some s → IsIn k v (1 + n) (seen s)
  in_seat n s at = g.done (1 + n) (seen s) (inl (n, s, at, refl, refl)) (omega arith)

  in_column : (n : ℕ) (c : ColumnSeat) → slice_get cs n ≡ Some c → IsIn k v (1 + k.clients + n) (column_seen c)
  in_column n c at = g.done (1 + k.clients + n) (column_seen c) (inr (n, c, at, refl, refl)) (omega arith)

  row_word : (n : ℕ) (s : Seat) → slice_get ss n ≡ Some s → (j : ℕ) → j < k.rows
      → get_or ws (word_at k (row_at k record { client = n; number = j }) 0) 0 ≡ at (seen s).mine
      (word_at k (row_at k record { client = n; number = j }) 0)
  row_word n s here j l = let r : Row = record { client = n; number = j } in let near = slice_get_within ss n s here in
      let i : ℕ = word_at k (row_at k r) 0 in
      let owner : owner_of k i ≡ 1 + n = owner_of_row k r l in sym (f.mine i (omega arith, omega arith, omega arith))
      ∙ (in_seat n s here).mine i owner

  closes : ((n : ℕ) (s : Seat) → slice_get ss n ≡ Some s → ((seen s).size ≡ k) × (s.client ≡ n))
      → ((n : ℕ) (c : ColumnSeat) → slice_get cs n ≡ Some c → ((column_seen c).size ≡ k) × (c.colour ≡ n))
      → Closes k ws v ss cs
  closes are are_columns = record {
    size = g.size;
    board = may_be k ws v g.size law f;
    seats = λ n s here. (in_seat n s here).learns;
    columns = λ n c here. (in_column n c here).learns;
    marks = λ n c here row. let a = are_columns n c here in let near = slice_get_within cs n c here in
        let i : ℕ = word_at k (row_at k row) (1 + n) in
        let owner : owner_of k i ≡ 1 + k.clients + n = owner_of_mark k (row_at k row) n (omega arith) in
        ap mark_from (sym (f.mine i (omega arith, omega arith, omega arith)) ∙ (in_column n c here).mine i owner)
        ∙ (λ t. mark_from (at (column_seen c).mine (word_at (sym a.0 t) (row_at (sym a.0 t) row) (1 + sym a.1 t))));
    begun = λ n s here j l. let a = are n s here in (
      (λ ne. s.begun j (λ e. ne (row_word n s here j l
          ∙ (λ t. at (seen s).mine (word_at (sym a.0 t) (sym a.1 t * (sym a.0 t).rows + j) 0)) ∙ e))),
      (λ lt e. s.all j lt ((λ t. at (seen s).mine (word_at (a.0 t) (a.1 t * (a.0 t).rows + j) 0))
          ∙ sym (row_word n s here j l) ∙ e)),
    );
  }

-- each row that the seats have begun is one of the board's, and is begun for two colours or more
rows_stand : (k : Size) (ws : List ℕ) (v : View) (ss : List Seat) (cs : List ColumnSeat) → Closes k ws v ss cs
    → length ss ≡ k.clients
    → ((n : ℕ) (s : Seat) → slice_get ss n ≡ Some s → ((seen s).size ≡ k) × (s.client ≡ n))
    → All (λ row. IsRow k row × AreColours k (colours_in k ws row)) (all_begun ss)
rows_stand k ws v ss cs closed many are = all_of_seats (λ row. IsRow k row × AreColours k (colours_in k ws row)) ss
    (λ n s here j lt.
    let a = are n s here in let near = slice_get_within ss n s here in let client : s.client ≡ n = a.1 in
    let few : s.used ≤ (seen s).size.rows = s.few in
    let rows : (seen s).size.rows ≡ k.rows = ap (λ (z : Size). z.rows) a.0 in
    let row : ℕ → Row = λ m. record { client = m; number = j } in
    let inside : j < k.rows = omega arith in (
      (omega arith, inside),
      subst (λ (m : ℕ). AreColours k (colours_in k ws (row m))) (sym client)
          (closed.board.colours (row n) ((closed.begun n s here j inside).1 lt)),
    ))

module _ (b : Board) (ws : List ℕ) (ss : List Seat) (cs : List ColumnSeat) (v : View)
    (counts : (length ss ≡ b.size.clients) × (length cs ≡ b.size.colours)) (clients : AreClientsOf b ss) where
  named : (n : ℕ) (s : Seat) → slice_get ss n ≡ Some s → ((seen s).size ≡ b.size) × (s.client ≡ n)
  named n s here = let q = clients n s here in (q.0.1, q.2)

  -- what the board closes with, of its last words and of the seat that has taken in all others
  pub closes_with : AreColumnsOf b cs → Lawful b.size ws × Fits b.size ws v → Gathered b.size ss cs v
      → (v.low ≡ 1) × (v.high ≡ 1 + b.size.clients + b.size.colours) → Closes b.size ws v ss cs
  closes_with columns is g parts = closes b.size ws ss cs v is.0 is.1 g parts.0 parts.1 counts.0 counts.1 named
      (λ n c here. let q = columns n c here in (q.0.1, q.1))

  pub closed_rows : Closes b.size ws v ss cs
      → All (λ row. IsRow b.size row × AreColours b.size (colours_in b.size ws row)) (all_begun ss)
  closed_rows all = rows_stand b.size ws v ss cs all counts.0 named
