-- What the log with which a store ends is to each of its clients.
use Rattle.std.proofs.Common.{◌≡◌, ℕ, zero, suc, ◌+◌, ◌<◌, ◌≤◌, List, [], ◌∷◌, ◌++◌, length, map, Some, slice_get, refl, ap, sym, subst, ◌∙◌, arith, append-nil, eqb-true, eq-eqb}
use Rattle.std.specs.List.{filter, range_with_len}
use Rattle.std.proofs.lemmas.List.{length-map}
use Rattle.std.proofs.lemmas.Option.{slice_get_within}
use mathlib.Core.List.{IsPrefix}
use Rattle.log_node.specs.declared.ids.Row.{Row}
use Rattle.log_node.specs.declared.node.Node.{Node}
use Rattle.col_core.specs.declared.Entry.{Entry}
use Rattle.col_core.specs.Rows.{BegunRow, AreLawfulRows, is_of}
use Rattle.col_core.proofs.CallerLemmas.{in_contains, in_filter, in_filter-back, in_slice, slice_in}
use Rattle.stamp_board.specs.declared.seats.Seat.{Seat}
use Rattle.stamp_board.specs.declared.view.Size.{Size}
use Rattle.stamp_board.specs.Rows.{IsRow}
use Rattle.stamp_board.specs.Views.{KnowsBegun}
use Rattle.stamp_board.specs.Closing.{all_begun}
use Rattle.chain_store.specs.declared.hold.Hold.{Hold}
use Rattle.chain_store.specs.declared.region.Region.{Region}
use Rattle.chain_store.specs.Owning.{row_of}
use Rattle.chain_store.specs.Holds.{IsHold, view_of}
use Rattle.chain_store.specs.Closing.{AgreesWith}
use Rattle.chain_store.proofs.CallerLemmas.{row_place}
use Rattle.client_law.specs.Making.{made_of, own_steps}
use Rattle.client_law.proofs.CallerLemmas.{steps_among_made}
use Rattle.log_client.specs.Fits.{HasBegunRow}
use Rattle.log_client.proofs.Lists.{got, mapped, prefix_by, same_items, unmapped}
use Rattle.log_node.proofs.CallerLemmas.{get_range as range_is}

-- a beginning that is as long is the whole
module _ {A : Type 0} where
  same_rest : (xs ys : List A) (x y : A) → x ∷ xs ≡ y ∷ ys → (x ≡ y) × (xs ≡ ys)
  same_rest xs ys x y e = (cc (e), cc (e))

  whole : (xs ys : List A) → IsPrefix xs ys → length ys ≤ length xs → ys ≡ xs
  whole [] [] p le = refl
  whole [] (y ∷ ys) p le = absurd (let f : ⊥ = omega (arith, le) in f)
  whole (x ∷ xs) [] p le = absurd (let e = p.1 in let f : ⊥ = cc in f)
  whole (x ∷ xs) (y ∷ ys) p le =
      let e = same_rest (xs ++ p.0) ys x y p.1 in
      let r = whole xs ys (p.0, e.1) (omega (arith, le)) in
      (λ i. sym e.0 i ∷ r i)

-- nothing more was made, so no own step more
pub steps_same : (client : ℕ) (old new : List Entry) → made_of client new ≡ made_of client old
    → own_steps client new ≡ own_steps client old
steps_same client old new same =
    steps_among_made client old new [] (same ∙ sym (append-nil (made_of client old)))
    ∙ append-nil (own_steps client old)

-- The rows of a client, in a region where it had a hold of its own: their nodes are those that it knows.
module _ (region colours n : ℕ) (histories : ℕ → List Entry) (rows : List BegunRow) (ks : List Hold) (r : Region) (h : Hold)
    (nodes : List Node)
    (lawful : AreLawfulRows region colours histories rows)
    (in_order : map (λ (b : BegunRow). b.row) rows ≡ all_begun (map (λ (k : Hold). k.seat) ks))
    (numbers : (u : ℕ) (k : Hold) → slice_get ks u ≡ Some k → IsHold r k × (k.passes.number ≡ u))
    (mine : slice_get ks n ≡ Some h)
    (many : length nodes ≡ h.seat.used)
    (begun : (j : ℕ) (x : Node) → slice_get nodes j ≡ Some x → KnowsBegun (view_of h) (row_of n j) x)
    (known : (row : Row) (x : Node) → IsRow (view_of h).size row → KnowsBegun (view_of h) row x → HasBegunRow rows h row x) where
  abbrev own_rows : List BegunRow
  own_rows = filter (is_of n) rows

  -- its rows are numbered from 0 on
  numbered : (j : ℕ) (b : BegunRow) → slice_get own_rows j ≡ Some b → b.row.number ≡ j
  numbered j b at =
      let e = range_is 0 (length own_rows) j b.row.number
      (ap (λ (l : List ℕ). slice_get l j) (sym (lawful.in_order n))
      ∙ mapped (λ (c : BegunRow). c.row.number) own_rows j b at) in
      omega (arith, e)

  -- and are among those that it has begun
  below : (j : ℕ) (b : BegunRow) → slice_get own_rows j ≡ Some b → j < h.seat.used
  below j b at =
      let i = in_filter (is_of n) b rows (slice_in own_rows j b at) in
      let place = in_slice rows b i.0 in
      let p = row_place (map (λ (k : Hold). k.seat) ks) place.0 b.row
      (ap (λ (l : List Row). slice_get l place.0) (sym in_order)
      ∙ mapped (λ (c : BegunRow). c.row) rows place.0 b place.1) in
      let k = unmapped (λ (k : Hold). k.seat) ks p.place p.seat p.there in
      let is = numbers p.place k.0 k.1 in
      let client : b.row.client ≡ n = eqb-true b.row.client n i.1 in
      let here : p.place ≡ n = sym is.1 ∙ (sym is.0.number ∙ (ap (λ (s : Seat). s.client) k.2 ∙ (sym p.mine ∙ client))) in
      let same : k.0 ≡ h = same_items ks n k.0 h (ap (slice_get ks) (sym here) ∙ k.1) mine in
      let seat = sym k.2 ∙ ap (λ (x : Hold). x.seat) same in
      let used = p.used in
      let so = ap (λ (s : Seat). s.used) seat in
      let number = numbered j b at in
      omega (arith, used, so, number)

  in_board : (j : ℕ) (x : Node) → slice_get nodes j ≡ Some x → IsRow (view_of h).size (row_of n j)
  in_board j x at =
      let is = numbers n h mine in
      let lt = slice_get_within nodes j x at in
      subst (λ (u : ℕ). IsRow (view_of h).size (row_of u j)) is.1
      (subst (λ (k : Size). IsRow k (row_of h.passes.number j)) (sym is.0.seat.1)
      (is.0.owns.fit j (omega (arith, lt, many))).on_board)

  -- the row of a node that it knows
  found : (j : ℕ) (x : Node) → slice_get nodes j ≡ Some x → slice_get (map (λ (b : BegunRow). b.node) own_rows) j ≡ Some x
  found j x at =
      let b = known (row_of n j) x (in_board j x at) (begun j x at) in
      let place = in_slice own_rows b.0 (in_filter-back (is_of n) b.0 rows (in_contains rows b.0 b.1)
      (eq-eqb b.0.row.client n (ap (λ (w : Row). w.client) b.2))) in
      let number : place.0 ≡ j = sym (numbered place.0 b.0 place.1) ∙ ap (λ (w : Row). w.number) b.2 in
      ap (slice_get (map (λ (c : BegunRow). c.node) own_rows)) (sym number)
      ∙ (mapped (λ (c : BegunRow). c.node) own_rows place.0 b.0 place.1 ∙ ap (λ (y : Node). Some y) b.3)

  -- each is the one that it knows
  pub own_row_known : (j : ℕ) (b : BegunRow) → slice_get own_rows j ≡ Some b
      → AgreesWith h b × (b.row ≡ row_of n j) × (slice_get nodes j ≡ Some b.node)
  own_row_known j b at =
      let lt = below j b at in
      let x = got nodes j (omega (arith, lt, many)) in
      let d = known (row_of n j) x.0 (in_board j x.0 x.1) (begun j x.0 x.1) in
      let same = own_one j x.0 d b at in (
        subst (AgreesWith h) same d.4,
        sym (ap (λ (c : BegunRow). c.row) same) ∙ d.2,
        x.1 ∙ ap (λ (y : Node). Some y) (sym d.3 ∙ ap (λ (c : BegunRow). c.node) same),
      ) where
        own_one : (j : ℕ) (x : Node) (d : HasBegunRow rows h (row_of n j) x) (b : BegunRow) → slice_get own_rows j ≡ Some b
            → d.0 ≡ b
        own_one j x d b at =
            let place = in_slice own_rows d.0 (in_filter-back (is_of n) d.0 rows (in_contains rows d.0 d.1)
            (eq-eqb d.0.row.client n (ap (λ (w : Row). w.client) d.2))) in
            let number : place.0 ≡ j = sym (numbered place.0 d.0 place.1) ∙ ap (λ (w : Row). w.number) d.2 in
            same_items own_rows j d.0 b (ap (slice_get own_rows) (sym number) ∙ place.1) at

  few : length own_rows ≤ length nodes
  few = by_last (length own_rows) refl where
    by_last : (m : ℕ) → length own_rows ≡ m → length own_rows ≤ length nodes
    by_last zero e = omega (arith, e)
    by_last (suc m) e =
        let b = got own_rows m (omega (arith, e)) in
        let lt = below m b.0 b.1 in
        omega (arith, e, lt, many)

  pub own_row_nodes : map (λ (b : BegunRow). b.node) own_rows ≡ nodes
  own_row_nodes = whole nodes (map (λ (b : BegunRow). b.node) own_rows)
      (prefix_by (map (λ (b : BegunRow). b.node) own_rows) nodes found)
      (let m = length-map own_rows (λ (b : BegunRow). b.node) in let le = few in omega (arith, m, le))
