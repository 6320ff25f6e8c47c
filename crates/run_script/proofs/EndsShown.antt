-- The rows and columns of regions, shown one after another.
use Rattle.std.proofs.Common.{◌≡◌, ℕ, zero, suc, ◌+◌, ◌<◌, List, [], ◌∷◌, ◌++◌, length, map, get_or, Some, slice_get, refl, ap, sym, subst, ◌∙◌, arith, zero-add}
use Rattle.std.specs.Prelude.{slice_index_or}
use Rattle.std.specs.List.{flat_map, enumerate_from}
use Rattle.std.specs.declared.sync.Arc.{Arc}
use Rattle.std.proofs.lemmas.Grind.{flat_map-append}
use Rattle.std.proofs.lemmas.Option.{get_or_from_slice_get, slice_get_within}
use Rattle.log_node.specs.declared.ids.Id.{Id}
use Rattle.log_node.specs.declared.ids.Row.{Row}
use Rattle.log_node.specs.declared.node.Node.{Node}
use Rattle.stamp_board.specs.declared.rows.ClosedRow.{ClosedRow}
use Rattle.chain_store.specs.declared.closed.ClosedRegion.{ClosedRegion}
use Rattle.report_text.specs.declared.report.RowReport.{RowReport}
use Rattle.run_script.specs.EndReports.{nodes_in, node_at, row_shown, rows_shown}

found_in : {Z : Type 0} (shares : List (Arc Node Z)) (number : ℕ) (x : Node)
    → slice_get (map (λ (shared : Arc Node Z). shared.value) shares) number ≡ Some x
    → (share : Arc Node Z) × (slice_get shares number ≡ Some share) × (share.value ≡ x)
found_in [] number x at = absurd (let f : ⊥ = cc (at) in f)
found_in (share ∷ shares) zero x at = (share, refl, let e : share.value ≡ x = cc (at) in e)
found_in (share ∷ shares) (suc number) x at = found_in shares number x at

found : {Z : Type 0} (nodes : List (List (Arc Node Z))) (client number : ℕ) (x : Node)
    → slice_get (slice_index_or (nodes_in nodes) client []) number ≡ Some x
    → (shares : List (Arc Node Z)) × (share : Arc Node Z) × (slice_get nodes client ≡ Some shares)
    × (slice_get shares number ≡ Some share) × (share.value ≡ x)
found [] client number x at = absurd (let f : ⊥ = cc (at) in f)
found (shares ∷ nodes) zero number x at = let r = found_in shares number x at in (shares, r.0, refl, r.1, r.2)
found (shares ∷ nodes) (suc client) number x at = found nodes client number x at

-- the node that stands where a row names it
pub node_there : {Z : Type 0} (nodes : List (List (Arc Node Z))) (row : Row) (x : Node) (shares : List (Arc Node Z))
    (share : Arc Node Z) → node_at (nodes_in nodes) row ≡ Some x → shares ≡ get_or nodes row.client shares
    → share ≡ get_or shares row.number share → share.value ≡ x
node_there {Z} nodes row x shares share at one two =
    let r = found nodes row.client row.number x at in
    let same : shares ≡ r.0 = one ∙ get_or_from_slice_get nodes row.client r.0 shares r.2 in
    let second : share ≡ r.1 =
    two ∙ (ap (λ (l : List (Arc Node Z)). get_or l row.number share) same
    ∙ get_or_from_slice_get r.0 row.number r.1 share r.3) in
    ap (λ (s : Arc Node Z). s.value) second ∙ r.4

-- where a row's node is there, so is its place
pub client_there : {Z : Type 0} (nodes : List (List (Arc Node Z))) (row : Row) (x : Node)
    → node_at (nodes_in nodes) row ≡ Some x → row.client < length nodes
client_there nodes row x at =
    let r = found nodes row.client row.number x at in slice_get_within nodes row.client r.0 r.2

pub number_there : {Z : Type 0} (nodes : List (List (Arc Node Z))) (row : Row) (x : Node) (shares : List (Arc Node Z))
    → node_at (nodes_in nodes) row ≡ Some x → shares ≡ get_or nodes row.client shares → row.number < length shares
number_there {Z} nodes row x shares at one =
    let r = found nodes row.client row.number x at in
    let same : shares ≡ r.0 = one ∙ get_or_from_slice_get nodes row.client r.0 shares r.2 in
    subst (λ (l : List (Arc Node Z)). row.number < length l) (sym same) (slice_get_within r.0 row.number r.1 r.3)

-- a row under its node's id
pub row_is : (nodes : List (List Node)) (region : ℕ) (r : ClosedRow) (x : Node) (id : Id) → node_at nodes r.row ≡ Some x
    → id ≡ x.id
    → (let s : RowReport = record { region = region; row = r.row; id = id; marks = r.marks; last = r.last } in s)
    ≡ row_shown nodes region r
row_is nodes region r x id at same = rw (at, same) refl

-- the rows of a region that stands at its number
pub rows_at : (nodes : List (List Node)) (region n : ℕ) (e : ClosedRegion) → region ≡ n
    → map (row_shown nodes region) e.rows ≡ rows_shown nodes (n, e)
rows_at nodes region n e same = ap (λ (k : ℕ). map (row_shown nodes k) e.rows) same

-- a region more, with its number
pub numbered_more : {A B : Type 0} (f : ℕ × A → List B) (xs : List A) (x : A)
    → flat_map f (enumerate_from 0 (xs ++ x ∷ [])) ≡ flat_map f (enumerate_from 0 xs) ++ f (length xs, x)
numbered_more {A} {B} f xs x =
    ap (flat_map f) (ends 0 xs ∙ ap (λ (k : ℕ). enumerate_from 0 xs ++ (k, x) ∷ []) (zero-add (length xs)))
    ∙ (flat_map-append f (enumerate_from 0 xs) ((length xs, x) ∷ [])
    ∙ ap (λ (l : List B). flat_map f (enumerate_from 0 xs) ++ l) (no_more (f (length xs, x)))) where
      ends : (n : ℕ) (ys : List A) → enumerate_from n (ys ++ x ∷ []) ≡ enumerate_from n ys ++ (n + length ys, x) ∷ []
      ends n [] = let e : n ≡ n + 0 = omega arith in ap (λ (k : ℕ). let p : ℕ × A = (k, x) in p ∷ []) e
      ends n (y ∷ ys) =
          let e : n + 1 + length ys ≡ n + length (y ∷ ys) = omega arith in
          ap (λ (l : List (ℕ × A)). let p : ℕ × A = (n, y) in p ∷ l)
          (ends (n + 1) ys ∙ ap (λ (k : ℕ). let p : ℕ × A = (k, x) in enumerate_from (n + 1) ys ++ p ∷ []) e)

      no_more : (bs : List B) → bs ++ [] ≡ bs
      no_more [] = refl
      no_more (b ∷ bs) = ap (λ l. b ∷ l) (no_more bs)

pub flat_more : {A B : Type 0} (f : A → List B) (xs : List A) (x : A)
    → flat_map f (xs ++ x ∷ []) ≡ flat_map f xs ++ f x
flat_more {A} {B} f xs x =
    flat_map-append f xs (x ∷ []) ∙ ap (λ (l : List B). flat_map f xs ++ l) (no_more (f x)) where
      no_more : (bs : List B) → bs ++ [] ≡ bs
      no_more [] = refl
      no_more (b ∷ bs) = ap (λ l. b ∷ l) (no_more bs)
