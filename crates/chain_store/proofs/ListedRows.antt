-- The rows that clients' seats have begun, as a list.
use Rattle.std.proofs.Common.{◌≡◌, ◌≢◌, ℕ, zero, suc, ◌+◌, ◌<◌, ◌≤◌, List, [], ◌∷◌, ◌++◌, length, map, Some, slice_get}
use Rattle.std.proofs.Common.{refl, ap, sym, subst, ◌∙◌, arith, inl, inr, ⊎_elim, eq-eqb, ne_eqb, append-nil}
use Rattle.std.specs.Prelude.{◌==◌, ◌↔◌}
use Rattle.std.specs.List.{filter, range_with_len}
use Rattle.std.proofs.lemmas.Bool.{cases_eq}
use Rattle.std.proofs.lemmas.List.Elements.{filter-append}
use Rattle.std.proofs.lemmas.Option.{slice_get_within}
use Rattle.log_node.specs.declared.ids.Row.{Row}
use Rattle.col_core.proofs.CallerLemmas.{if_true, if_false}
use Rattle.stamp_board.specs.declared.view.Size.{Size}
use Rattle.stamp_board.specs.declared.seats.Seat.{Seat}
use Rattle.stamp_board.specs.Rows.{IsBegun}
use Rattle.stamp_board.specs.Closing.{all_begun, rows_begun}
use Rattle.chain_store.specs.Owning.{row_of}
use Rattle.chain_store.proofs.Entering.{get_old}
use Rattle.chain_store.proofs.Places.{got, got_split, got_second, first_place, first_at}
use Rattle.chain_store.proofs.LawfulRows.{Lists}

-- a row that was begun, and whose it is
pub record IsAmong (ss : List Seat) (row : Row) : Type 0 where
  pub place : ℕ
  pub seat : Seat
  pub there : slice_get ss place ≡ Some seat
  pub used : row.number < seat.used
  pub mine : row.client ≡ seat.client

pub row_place : (ss : List Seat) (i : ℕ) (row : Row) → slice_get (all_begun ss) i ≡ Some row → IsAmong ss row
row_place [] i row e = absurd cc
row_place (s ∷ ss) i row e = ⊎_elim
    (λ here. let r = first_place (row_of s.client) s.used i row here in
    let l = r.0 in
    let n : i ≡ row.number = ap (λ (x : Row). x.number) r.1 in record {
      place = 0;
      seat = s;
      there = refl;
      used = omega (arith, l, n);
      mine = sym (ap (λ (x : Row). x.client) r.1);
    })
    (λ later. let r = row_place ss later.0 row later.2 in record {
      place = suc r.place;
      seat = r.seat;
      there = r.there;
      used = r.used;
      mine = r.mine;
    })
    (got_split (rows_begun s) (all_begun ss) i row e)

pub row_listed : (ss : List Seat) (n : ℕ) (s : Seat) (j : ℕ) → slice_get ss n ≡ Some s → j < s.used
    → (i : ℕ) × (slice_get (all_begun ss) i ≡ Some (row_of s.client j))
row_listed [] n s j at lt = absurd cc
row_listed (t ∷ ss) zero s j at lt =
    let same : t ≡ s = cc at in (
      j,
      subst (λ (z : Seat). slice_get (all_begun (z ∷ ss)) j ≡ Some (row_of s.client j)) (sym same)
          (get_old (rows_begun s) (all_begun ss) j (row_of s.client j) (first_at (row_of s.client) s.used j lt)),
    )
row_listed (t ∷ ss) (suc n) s j at lt =
    let r = row_listed ss n s j at lt in
    (length (rows_begun t) + r.0, got_second (rows_begun t) (all_begun ss) r.0 (row_of s.client j) r.1)

-- they are seats of the clients from this one on
abbrev AreFrom : ℕ → List Seat → Type 0
AreFrom first ss = (n : ℕ) (s : Seat) → slice_get ss n ≡ Some s → s.client ≡ first + n

rest_from : (first : ℕ) (s : Seat) (ss : List Seat) → AreFrom first (s ∷ ss) → AreFrom (first + 1) ss
rest_from first s ss from = λ n t at. let e = from (suc n) t at in omega (arith, e)

from_first : (ss : List Seat) → ((n : ℕ) (s : Seat) → slice_get ss n ≡ Some s → s.client ≡ n) → AreFrom 0 ss
from_first ss h = λ n s at. let z : n ≡ 0 + n = omega arith in h n s at ∙ z

later_client : (first : ℕ) (s : Seat) (ss : List Seat) → AreFrom first (s ∷ ss) → (i : ℕ) (row : Row)
    → slice_get (all_begun ss) i ≡ Some row → s.client < row.client
later_client first s ss from i row at =
    let r = row_place ss i row at in
    let a = from 0 s refl in
    let b = from (suc r.place) r.seat r.there in
    let c = r.mine in
    omega (arith, a, b, c)

-- no row is there twice
once : (first : ℕ) (ss : List Seat) → AreFrom first ss → (i j : ℕ) (a b : Row) → i < j
    → slice_get (all_begun ss) i ≡ Some a → slice_get (all_begun ss) j ≡ Some b → a ≢ b
once first [] from i j a b lt at bt same = cc
once first (s ∷ ss) from i j a b lt at bt same = elim (got_split (rows_begun s) (all_begun ss) i a at) [
  | inl here ↦ elim (got_split (rows_begun s) (all_begun ss) j b bt) [
    | inl there ↦
        let p = (first_place (row_of s.client) s.used i a here).1 in
        let q = (first_place (row_of s.client) s.used j b there).1 in
        let e : i ≡ j = ap (λ (x : Row). x.number) (p ∙ same ∙ sym q) in
        omega (arith, e, lt)
    | inr there ↦
        let p = (first_place (row_of s.client) s.used i a here).1 in
        let e : s.client ≡ b.client = ap (λ (x : Row). x.client) (p ∙ same) in
        let l = later_client first s ss from there.0 b there.2 in
        omega (arith, e, l)
  ]
  | inr here ↦ elim (got_split (rows_begun s) (all_begun ss) j b bt) [
    | inl there ↦
        let near = slice_get_within (rows_begun s) j b there in
        let e = here.1 in
        omega (arith, near, e, lt)
    | inr there ↦
        let e = here.1 in
        let f = there.1 in
        once (first + 1) ss (rest_from first s ss from) here.0 there.0 a b (omega (arith, e, f, lt)) here.2 there.2 same
  ]
]

-- the rows of a client

none_of : (client : ℕ) (rows : List Row) → ((i : ℕ) (row : Row) → slice_get rows i ≡ Some row → row.client ≢ client)
    → filter (λ (r : Row). r.client == client) rows ≡ []
none_of client [] h = refl
none_of client (r ∷ rs) h =
    if_false (r.client == client) (r ∷ filter (λ (r : Row). r.client == client) rs)
    (filter (λ (r : Row). r.client == client) rs)
    (ne_eqb r.client client (h 0 r refl)) ∙ none_of client rs (λ i row at. h (suc i) row at)

all_of : (client : ℕ) (rows : List Row) → ((i : ℕ) (row : Row) → slice_get rows i ≡ Some row → row.client ≡ client)
    → filter (λ (r : Row). r.client == client) rows ≡ rows
all_of client [] h = refl
all_of client (r ∷ rs) h =
    if_true (r.client == client) (r ∷ filter (λ (r : Row). r.client == client) rs)
    (filter (λ (r : Row). r.client == client) rs)
    (eq-eqb r.client client (h 0 r refl)) ∙ ap (λ l. r ∷ l) (all_of client rs (λ i row at. h (suc i) row at))

numbers_of : (client a n : ℕ)
    → map (λ (r : Row). r.number) (map (row_of client) (range_with_len a n)) ≡ range_with_len a n
numbers_of client a zero = refl
numbers_of client a (suc n) = ap (λ l. a ∷ l) (numbers_of client (a + 1) n)

ordered : (first : ℕ) (ss : List Seat) → AreFrom first ss → (client : ℕ)
    → (n : ℕ)
    × (map (λ (r : Row). r.number) (filter (λ (r : Row). r.client == client) (all_begun ss)) ≡ range_with_len 0 n)
ordered first [] from client = (0, refl)
ordered first (s ∷ ss) from client = elim (cases_eq s.client client) [
  | inl same ↦ (
    s.used,
    ap (map (λ (r : Row). r.number)) (filter-append (λ (r : Row). r.client == client) (rows_begun s) (all_begun ss)
        ∙ ap (λ l. l ++ filter (λ (r : Row). r.client == client) (all_begun ss)) (all_of client (rows_begun s)
        (λ i row at. sym (ap (λ (x : Row). x.client) (first_place (row_of s.client) s.used i row at).1) ∙ same))
        ∙ ap (λ l. rows_begun s ++ l) (none_of client (all_begun ss) (λ i row at e.
        let l = later_client first s ss from i row at in omega (arith, e, l, same)))
        ∙ append-nil (rows_begun s))
        ∙ numbers_of s.client 0 s.used,
  )
  | inr other ↦
      let r = ordered (first + 1) ss (rest_from first s ss from) client in (
        r.0,
        ap (map (λ (r : Row). r.number)) (filter-append (λ (r : Row). r.client == client) (rows_begun s) (all_begun ss)
            ∙ ap (λ l. l ++ filter (λ (r : Row). r.client == client) (all_begun ss)) (none_of client (rows_begun s)
            (λ i row at e. other (ap (λ (x : Row). x.client) (first_place (row_of s.client) s.used i row at).1 ∙ e))))
            ∙ r.1,
      )
]

-- The begun rows are those below what each client's seat has used.
pub lists_begun : (k : Size) (ws : List ℕ) (ss : List Seat) → length ss ≡ k.clients
    → ((n : ℕ) (s : Seat) → slice_get ss n ≡ Some s → (s.client ≡ n) × (s.used ≤ k.rows)
    × ((j : ℕ) → j < k.rows → IsBegun k ws (row_of n j) ↔ (j < s.used)))
    → Lists k ws (all_begun ss)
lists_begun k ws ss many seats = record {
  inside = λ i row at.
      let r = row_place ss i row at in
      let s = seats r.place r.seat r.there in
      let near = slice_get_within ss r.place r.seat r.there in
      let mine = r.mine in
      let e = s.0 in
      let few = s.1 in
      let used = r.used in
      let lt : row.number < k.rows = omega (arith, few, used) in
      let same : r.place ≡ row.client = sym (r.mine ∙ s.0) in (
        (omega (arith, near, mine, e, many), lt),
        subst (λ (c : ℕ). IsBegun k ws (row_of c row.number)) same ((s.2 row.number lt).1 r.used),
      );
  listed = λ row inside begun.
      let t = got ss row.client (let l = inside.0 in omega (arith, l, many)) in
      let s = seats row.client t.0 t.1 in
      let r = row_listed ss row.client t.0 row.number t.1 ((s.2 row.number inside.1).0 begun) in
      (r.0, subst (λ (c : ℕ). slice_get (all_begun ss) r.0 ≡ Some (row_of c row.number)) s.0 r.1);
  once = λ i j a b lt at bt. once 0 ss (from_first ss (λ n s at. (seats n s at).0)) i j a b lt at bt;
  order = λ client. ordered 0 ss (from_first ss (λ n s at. (seats n s at).0)) client;
}
