-- The rows that clients' seats have begun stand by client.
use Rattle.std.proofs.Common.{◌≡◌, ℕ, suc, ◌+◌, ◌<◌, ◌≤◌, List, [], ◌∷◌, length, map, Some, slice_get, refl, ap, sym, inl, inr, ◌⊎◌, arith}
use Rattle.std.specs.List.{range_with_len}
use Rattle.std.specs.List.Sorted.{IsNonDecreasing}
use Rattle.std.proofs.lemmas.Bool.{cases_lt}
use Rattle.std.proofs.lemmas.Option.{get_or_from_slice_get}
use Rattle.log_node.specs.declared.ids.Row.{Row}
use Rattle.stamp_board.specs.declared.seats.Seat.{Seat}
use Rattle.stamp_board.specs.Closing.{all_begun, rows_begun}
use Rattle.chain_store.proofs.CallerLemmas.{row_place}
use Rattle.log_client.proofs.Lists.{got, got_behind, got_front, unmapped}

-- a row that a seat has begun is of its client
of_seat : (s : Seat) (i : ℕ) (row : Row) → slice_get (rows_begun s) i ≡ Some row → row.client ≡ s.client
of_seat s i row at =
    let r = unmapped (λ (j : ℕ). let x : Row = record { client = s.client; number = j } in x) (range_with_len 0 s.used) i row at in
    sym (ap (λ (x : Row). x.client) r.2)

-- seats of the clients from this one on
abbrev AreFrom : ℕ → List Seat → Type 0
AreFrom first ss = (n : ℕ) (s : Seat) → slice_get ss n ≡ Some s → s.client ≡ first + n

later : (first : ℕ) (ss : List Seat) → AreFrom first ss → (i : ℕ) (row : Row) → slice_get (all_begun ss) i ≡ Some row
    → first ≤ row.client
later first ss from i row at =
    let p = row_place ss i row at in
    let is = from p.place p.seat p.there in
    let mine = p.mine in
    omega (arith, is, mine)

rows_rise : (first : ℕ) (ss : List Seat) → AreFrom first ss → (i j : ℕ) (a b : Row) → i ≤ j
    → slice_get (all_begun ss) i ≡ Some a → slice_get (all_begun ss) j ≡ Some b → a.client ≤ b.client
rows_rise first [] from i j a b le at bt = absurd (let f : ⊥ = cc in f)
rows_rise first (s ∷ ss) from i j a b le at bt =
    by_place (cases_lt i (length (rows_begun s))) (cases_lt j (length (rows_begun s)))
    (λ k l c d lt ct dt. rows_rise (first + 1) ss rest k l c d lt ct dt) where
      rest : AreFrom (first + 1) ss
      rest n t there = let e = from (suc n) t there in omega (arith, e)

      own : s.client ≡ first
      own = let e = from 0 s refl in omega (arith, e)

      by_place : (i < length (rows_begun s)) ⊎ (length (rows_begun s) ≤ i)
          → (j < length (rows_begun s)) ⊎ (length (rows_begun s) ≤ j)
          → ((k l : ℕ) (c d : Row) → k ≤ l → slice_get (all_begun ss) k ≡ Some c → slice_get (all_begun ss) l ≡ Some d
          → c.client ≤ d.client) → a.client ≤ b.client
      by_place (inl here) (inl there) more =
          let x = of_seat s i a (got_front (rows_begun s) (all_begun ss) i a here at) in
          let y = of_seat s j b (got_front (rows_begun s) (all_begun ss) j b there bt) in
          omega (arith, x, y)
      by_place (inl here) (inr behind) more =
          let x = of_seat s i a (got_front (rows_begun s) (all_begun ss) i a here at) in
          let m = got_behind (rows_begun s) (all_begun ss) j b behind bt in
          let y = later (first + 1) ss rest m.0 b m.2 in
          let o = own in
          omega (arith, x, y, o)
      by_place (inr behind) (inl there) more = absurd (let f : ⊥ = omega (arith, behind, there, le) in f)
      by_place (inr behind) (inr after) more =
          let m = got_behind (rows_begun s) (all_begun ss) i a behind at in
          let n = got_behind (rows_begun s) (all_begun ss) j b after bt in
          let x = m.1 in
          let y = n.1 in
          more m.0 n.0 a b (omega (arith, x, y, le)) m.2 n.2

-- numbers that rise place by place do not fall
rises : (xs : List ℕ) → ((i j a b : ℕ) → i ≤ j → slice_get xs i ≡ Some a → slice_get xs j ≡ Some b → a ≤ b)
    → IsNonDecreasing xs
rises xs each i j d le lt =
    let a = got xs i (omega (arith, le, lt)) in
    let b = got xs j lt in
    let x = get_or_from_slice_get xs i a.0 d a.1 in
    let y = get_or_from_slice_get xs j b.0 d b.1 in
    let rise = each i j a.0 b.0 le a.1 b.1 in
    omega (arith, x, y, rise)

pub rows_by_client : (ss : List Seat) → ((n : ℕ) (s : Seat) → slice_get ss n ≡ Some s → s.client ≡ n)
    → IsNonDecreasing (map (λ (r : Row). r.client) (all_begun ss))
rows_by_client ss numbers =
    rises (map (λ (r : Row). r.client) (all_begun ss)) (λ i j a b le at bt.
    let x = unmapped (λ (r : Row). r.client) (all_begun ss) i a at in
    let y = unmapped (λ (r : Row). r.client) (all_begun ss) j b bt in
    let rise = rows_rise 0 ss (λ n s there. let e = numbers n s there in omega (arith, e)) i j x.0 y.0 le x.1 y.1 in
    let p = x.2 in
    let q = y.2 in
    omega (arith, rise, p, q))
