-- What an append to several colours does, as its code reads the client's hold.
use Rattle.std.proofs.Common.{◌≡◌, ◌≢◌, ℕ, zero, suc, ◌+◌, ◌*◌, ◌<◌, ◌≤◌, List, [], ◌∷◌, ◌++◌, length, map, true, Some, None, Option, Err, refl, ap, sym, subst, ◌∙◌, arith}
use Rattle.std.specs.Prelude.{IfSome, slice_get, slice_set, slice_index_or}
use Rattle.std.specs.declared.sync.Arc.{Arc}
use Rattle.std.proofs.lemmas.List.{map-append}
use Rattle.std.proofs.lemmas.Option.{same_Some}
use Rattle.log_node.specs.declared.ids.Row.{Row}
use Rattle.log_node.specs.declared.ids.Colours.{Colours}
use Rattle.log_node.specs.declared.marks.Full.{Full}
use Rattle.log_node.specs.declared.node.Node.{Node}
use Rattle.log_node.specs.Sets.{has, members}
use Rattle.stamp_board.specs.declared.view.Size.{Size}
use Rattle.stamp_board.specs.Rows.{AreColours}
use Rattle.stamp_board.specs.Seats.{IsFull, IsNext}
use Rattle.chain_store.specs.declared.hold.Hold.{Hold}
use Rattle.chain_store.specs.declared.region.Region.{Region}
use Rattle.append_core.specs.declared.several.MultiFault.TheVariants as faults
use Rattle.append_core.specs.Several.{IsStopOf, own_row}
use Rattle.lawful_run.specs.Callers.{row_taken}
use Rattle.log_client.specs.declared.store.Store.{Store}
use Rattle.log_client.specs.declared.client.Client.{Client}
use Rattle.log_client.specs.Clients.{holds_of, nodes_of_rows, tracks_of, IsClient}
use Rattle.log_client.specs.Appends.{IsStopWithin, next_node}
use Rattle.log_client.specs.Inside.{CallsAppend}
use Rattle.log_client.proofs.Going.AtHome.{gone_same}
use Rattle.log_client.proofs.Going.NextNodes.{hold_read, on_row, row_on_several}
use Rattle.log_client.proofs.Append.AppendsNothing.{full_stays}
use Rattle.log_client.proofs.Append.RowReplies.{no_node, row_not_begun}

-- a place of a list keeps what it has
pub same_set : {A : Type 0} (xs : List A) (n : ℕ) (x : A) → slice_get xs n ≡ Some x → xs ≡ slice_set xs n x
same_set [] n x at = refl
same_set (y ∷ xs) zero x at = let same : y ≡ x = cc (at) in ap (λ z. z ∷ xs) same
same_set (y ∷ xs) (suc n) x at = ap (λ l. y ∷ l) (same_set xs n x at)

-- the nodes of some shared ones, with one more
pub nodes_then : {Z : Type 0} (old kept new : List (Arc Node Z)) (last : Arc Node Z) → kept ≡ old → new ≡ kept ++ last ∷ []
    → map (λ shared. shared.value) new ≡ map (λ shared. shared.value) old ++ last.value ∷ []
nodes_then {Z} old kept new last same more =
    ap (map (λ (a : Arc Node Z). a.value)) more
    ∙ (map-append (λ (a : Arc Node Z). a.value) kept (last ∷ [])
    ∙ ap (λ (l : List (Arc Node Z)). map (λ (a : Arc Node Z). a.value) l ++ last.value ∷ []) same)

-- a stop that is asked of the colours is one of their node's append
pub stop_of : (colours : Colours) (x : Node) (stop : Option ℕ) → x.colours ≡ colours → IfSome stop (IsStopWithin colours)
    → IfSome stop (IsStopOf x)
stop_of colours x None same within = tt
stop_of colours x (Some steps) same within =
    record { within = subst (λ (set : Colours). steps ≤ 2 * length (members set) + 2) (sym same) within.1 }

module _ (s : Store) (c : Client) (r : Region) (g : Hold) (colours : Colours) (text : List ℕ) (stop : Option ℕ)
    (is : IsClient s c) (there : slice_get s.regions c.region ≡ Some r) (read : g ≡ slice_index_or c.holds.items c.region g)
    (are : AreColours s.size colours) where
  at_g : slice_get (holds_of c) c.region ≡ Some g
  at_g = hold_read s c g is read

  -- another reading of it is the same
  pub read_again : (other : Hold) → other ≡ slice_index_or c.holds.items c.region other → g ≡ other
  read_again other again = same_Some g other (sym at_g ∙ hold_read s c other is again)

  pub tracks_within : (k : ℕ) → has colours k ≡ true → k < length (tracks_of c)
  tracks_within k of =
      let lt = are.within k of in
      let many = is.colours in
      omega (arith, lt, many)

  -- a fresh client's row, where one is left
  pub row_named : (row : Row) → IsNext r.board g.seat row
      → Some row ≡ row_taken c.number (length (nodes_of_rows c)) (members colours)
  row_named row next =
      ap Some (next.1 ∙ (λ i. record { client = client_is i; number = sym rows_are i }))
      ∙ sym (row_on_several c.number (length (nodes_of_rows c)) (members colours) are.many) where
        client_is : g.seat.client ≡ c.number
        client_is = (is.holds.1 c.region r g there at_g).number ∙ is.numbers c.region g at_g

        rows_are : length (nodes_of_rows c) ≡ g.seat.used
        rows_are = (is.home g at_g).rows.many

  -- no row is left
  pub row_full : (full : Full) → IsFull r.board g.seat full → stop ≢ Some 0
      → CallsAppend s c c colours text stop (Err (faults.Full full.used))
  row_full full none not_at_once =
      full_stays s c colours text stop is full.used
      (record {
        several = are.many;
        not_at_once = not_at_once;
        all = rows_are ∙ (none.0 ∙ ap (λ (z : Size). z.rows) (s.fit.each c.region r there).size);
        shown = none.1 ∙ sym rows_are;
      }) where
        rows_are : length (nodes_of_rows c) ≡ g.seat.used
        rows_are = (is.home g at_g).rows.many

  module _ (row : Row) (next : IsNext r.board g.seat row) where
    pub row_no_node : CallsAppend s c c colours text stop (Err faults.NoMemory)
    row_no_node = no_node s c r g colours text stop is there at_g next.0

    pub row_no_place : (e : Client) → nodes_of_rows e ≡ nodes_of_rows c
        → CallsAppend s c (record c { rows = e.rows }) colours text stop (Err faults.NoMemory)
    row_no_place e same =
        row_not_begun s c r g colours text stop is there at_g next.0 (record c { rows = e.rows })
        (record {
          number = refl;
          region = refl;
          there = there;
          before = at_g;
          changed = same_set (holds_of c) c.region g at_g;
          rests = is.holds.1 c.region r g there at_g;
          on = gone_same g;
        }) refl refl same refl

    -- the row is the hold's own
    module _ (other : Hold) (again : other ≡ slice_index_or c.holds.items c.region other) (x : Node)
        (x_is : x ≡ next_node c colours text) where
      pub row_own : (row ≡ own_row other) × (x.row ≡ Some row)
      row_own =
          let same = read_again other again in
          let own : row ≡ own_row other =
          next.1
          ∙ ((λ i. record { client = (is.holds.1 c.region r g there at_g).number i; number = g.seat.used })
          ∙ ap own_row same) in
          let named = on_row s c r other colours text x is there (hold_read s c other is again) x_is are.many in
          (own, named ∙ ap Some (sym own))

      pub row_room : other.seat.used < r.board.size.rows
      row_room = subst (λ (z : Hold). z.seat.used < r.board.size.rows) (read_again other again) next.0
