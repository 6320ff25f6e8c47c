-- A begun row is changed on the board: what that makes of the world.
use Rattle.std.proofs.Common.{◌≡◌, ◌≢◌, ℕ, zero, suc, ◌<◌, true, List, [], ◌∷◌, length, get_or, set}
use Rattle.std.proofs.Common.{Option, Some, ◌⊎◌, inl, inr, refl, ap, sym, subst, ◌∙◌, arith, length-set}
use Rattle.std.proofs.Common.{get_or-set_same}
use Rattle.std.proofs.Common.{get_or-set_other}
use Rattle.std.specs.Prelude.{slice_get, map}
use mathlib.Core.Path.{fun_ext}
use Rattle.std.proofs.lemmas.Bool.{ltb-true, cases_eq}
use Rattle.std.proofs.lemmas.Option.{get_or_from_slice_get}
use Rattle.log_node.specs.declared.ids.Colours.{Colours}
use Rattle.log_node.specs.declared.ids.Row.{Row}
use Rattle.log_node.specs.declared.node.Node.{Node}
use Rattle.log_node.specs.declared.limits.TheConstants.{MAX_COLOURS}
use Rattle.log_node.specs.Sets.{members}
use Rattle.skeen_core.specs.Boards.{BoardRow}
use Rattle.log_node.specs.declared.marks.Mark.{Mark}
use Rattle.log_node.specs.declared.marks.Mark.TheVariants as marks
use Rattle.log_node.specs.declared.marks.Outcome.{Outcome}
use Rattle.log_node.specs.Outcomes.{outcome_of}
use Rattle.skeen_core.specs.Boards.{Board, rows_of, begun_at, mark_at, mark_in, last_in, row_marks, first_mark}
use Rattle.skeen_core.specs.Boards.{with_changed, changed_at, changed_by, decided}
use Rattle.skeen_core.specs.Boards as boards
use Rattle.col_core.specs.Keeping.{updated, updated_at}
use Rattle.world_laws.specs.Worlds.{RowState, no_row, is_begun, row_of, marks_of, with_row}
use Rattle.world_laws.proofs.CallerLemmas.{at_updated, at_updated_at, not_place}
use Rattle.world_code.specs.WorldView.{WorldView, client_at, row_in, world_of, AreRows, IsWhole}
use Rattle.world_code.proofs.EqualWorlds.{worlds}
use Rattle.world_code.proofs.ChangedParts.{rows_by, AreClients, differs}
use Rattle.log_node.proofs.CallerLemmas.{get_within as item_there}

-- a list of lists that has an item in one has that one
list_there : {A : Type 0} (xs : List (List A)) (i n : ℕ) → n < length (get_or xs i []) → i < length xs
list_there [] i n lt = absurd (let f : ⊥ = omega (arith, lt) in f)
list_there (x ∷ xs) zero n lt = omega arith
list_there (x ∷ xs) (suc i) n lt = let r = list_there xs i n lt in omega (arith, r)

set_here : {A : Type 0} (xs : List A) (n : ℕ) (x : A) → n < length xs → slice_get (set xs n x) n ≡ Some x
set_here [] n x lt = absurd (let f : ⊥ = omega (arith, lt) in f)
set_here (y ∷ ys) zero x lt = refl
set_here (y ∷ ys) (suc n) x lt = set_here ys n x (omega (arith, lt))

set_there : {A : Type 0} (xs : List A) (n k : ℕ) (x : A) → k ≢ n → slice_get (set xs n x) k ≡ slice_get xs k
set_there [] n k x ne = refl
set_there (y ∷ ys) zero zero x ne = absurd (ne refl)
set_there (y ∷ ys) zero (suc k) x ne = refl
set_there (y ∷ ys) (suc n) zero x ne = refl
set_there (y ∷ ys) (suc n) (suc k) x ne = set_there ys n k x (λ e. ne (ap (λ (m : ℕ). suc m) e))

-- another value at one place, as a function
pub set_updated : {A : Type 0} (xs : List A) (n : ℕ) (x d : A) → n < length xs
    → ◌≡◌ {A = ℕ → A} (λ k. get_or (set xs n x) k d) (updated (λ k. get_or xs k d) n x)
set_updated {A} xs n x d lt =
    fun_ext (λ k. at_updated (λ (v : A). get_or (set xs n x) k d ≡ v) (λ j. get_or xs j d) n x k
    (λ e. ap (λ (j : ℕ). get_or (set xs n x) j d) e ∙ get_or-set_same xs n x d lt)
    (λ f. get_or-set_other xs n k x d (differs k n f)))

-- a begun row: its node, and what the board has of it
pub record Begun (code : WorldView) (row : Row) : Type 0 where
  pub used : row.number < length (client_at code row.client).begun
  pub node : Node
  pub node_is : slice_get (client_at code row.client).begun row.number ≡ Some node
  pub on_board : BoardRow
  pub board_is : begun_at code.board row ≡ Some on_board
  pub in_rows : row.number < length (rows_of code.board row.client)
  pub in_board : row.client < length code.board.begun

pub begun_from : (code : WorldView) → IsWhole code → (row : Row)
    → row.number < length (client_at code row.client).begun → Begun code row
begun_from code w row lt =
    let same = (w.rows row.client).used in
    let there : row.number < length (rows_of code.board row.client) = omega (arith, same, lt) in
    let node = item_there (client_at code row.client).begun row.number lt in
    let r = item_there (rows_of code.board row.client) row.number there in
    record {
      used = lt;
      node = node.0;
      node_is = node.1;
      on_board = r.0;
      board_is = r.1;
      in_rows = there;
      in_board = list_there code.board.begun row.client row.number there;
    }

pub begun_is : (code : WorldView) → IsWhole code → (row : Row) → is_begun (world_of code) row ≡ true → Begun code row
begun_is code w row t = begun_from code w row (ltb-true row.number (length (client_at code row.client).begun) t)

module _ (code : WorldView) (w : IsWhole code) (row : Row) (b : Begun code row) where
  pub node_here : (row_of (world_of code) row).node ≡ b.node
  node_here = get_or_from_slice_get (client_at code row.client).begun row.number b.node no_row.node b.node_is

  pub marks_here : (row_of (world_of code) row).marks ≡ mark_at b.on_board
  marks_here = ap mark_in b.board_is

  pub last_here : (row_of (world_of code) row).last ≡ b.on_board.last
  last_here = ap last_in b.board_is

  pub colours_here : b.on_board.colours ≡ (row_of (world_of code) row).node.colours
  colours_here = (w.rows row.client).colours row.number b.on_board b.board_is

  pub long_marks : length b.on_board.marks ≡ MAX_COLOURS
  long_marks = (w.rows row.client).marks row.number b.on_board b.board_is

  module _ (f : BoardRow → BoardRow) where
    abbrev pub new_board : Board
    new_board = with_changed code.board row f

    abbrev rows : List BoardRow
    rows = rows_of code.board row.client

    rows_are : rows_of new_board row.client ≡ set rows row.number (f b.on_board)
    rows_are =
        get_or-set_same code.board.begun row.client (changed_at rows row.number f) [] b.in_board
        ∙ ap (changed_by rows row.number f) b.board_is

    rows_other : (a : ℕ) → a ≢ row.client → rows_of new_board a ≡ rows_of code.board a
    rows_other a ne = get_or-set_other code.board.begun row.client a (changed_at rows row.number f) [] ne

    -- the row as it then is
    abbrev pub changed_row : RowState
    changed_row = record {
      node = (row_of (world_of code) row).node;
      marks = mark_in (Some (f b.on_board));
      last = last_in (Some (f b.on_board));
    }

    pub rows_changed : ◌≡◌ {A = ℕ → ℕ → RowState} (rows_by code.clients new_board)
        (updated_at (rows_by code.clients code.board) row.client row.number changed_row)
    rows_changed =
        fun_ext (λ a. fun_ext (λ n.
        at_updated_at (λ (v : RowState). rows_by code.clients new_board a n ≡ v)
        (rows_by code.clients code.board) row.client row.number changed_row a n
        (λ ea en.
        ap (λ (k : ℕ). rows_by code.clients new_board k n) ea
        ∙ (ap (λ (k : ℕ). rows_by code.clients new_board row.client k) en
        ∙ (ap (λ (rs : List BoardRow). row_in (client_at code row.client).begun rs row.number) rows_are
        ∙ ap (λ (o : Option BoardRow). let r : RowState = record {
          node = (row_of (world_of code) row).node;
          marks = mark_in o;
          last = last_in o;
        } in r) (set_here rows row.number (f b.on_board) b.in_rows))))
        (λ other. elsewhere a n (not_place row.client row.number a n other)))) where
          elsewhere : (a n : ℕ) → (a ≡ row.client → n ≡ row.number → ⊥)
              → rows_by code.clients new_board a n ≡ rows_by code.clients code.board a n
          elsewhere a n ne = elim (cases_eq a row.client) [
            | inl e ↦
                ap (λ (k : ℕ). rows_by code.clients new_board k n) e
                ∙ (ap (λ (rs : List BoardRow). row_in (client_at code row.client).begun rs n) rows_are
                ∙ (ap (λ (o : Option BoardRow). let r : RowState = record {
                  node = get_or (client_at code row.client).begun n no_row.node;
                  marks = mark_in o;
                  last = last_in o;
                } in r) (set_there rows row.number n (f b.on_board) (ne e))
                ∙ ap (λ (k : ℕ). rows_by code.clients code.board k n) (sym e)))
            | inr g ↦ ap (λ (rs : List BoardRow). row_in (client_at code a).begun rs n) (rows_other a g)
          ]

    -- the rows are still those of the nodes
    pub board_clients : (f b.on_board).colours ≡ b.on_board.colours → length (f b.on_board).marks ≡ MAX_COLOURS
        → AreClients code.shape code.clients new_board
    board_clients same_colours whole_marks = record {
      all = w.clients;
      colours = w.colours;
      board_colours = w.board_colours;
      board_rows = w.board_rows;
      board_clients = length-set code.board.begun row.client (changed_at rows row.number f) ∙ w.board_clients;
      rows = λ a. elim (cases_eq a row.client) [
        | inl e ↦ subst (λ (k : ℕ). AreRows (client_at code k).begun (rows_of new_board k)) (sym e)
            (subst (λ (rs : List BoardRow). AreRows (client_at code row.client).begun rs) (sym rows_are) own_rows)
        | inr g ↦ subst (λ (rs : List BoardRow). AreRows (client_at code a).begun rs) (sym (rows_other a g)) (w.rows a)
      ];
      begun = w.begun;
    } where
      at_place : (n : ℕ) (r : BoardRow) → slice_get (set rows row.number (f b.on_board)) n ≡ Some r
          → ((n ≡ row.number) × (f b.on_board ≡ r)) ⊎ (slice_get rows n ≡ Some r)
      at_place n r e = elim (cases_eq n row.number) [
        | inl is ↦
            let there = ap (slice_get (set rows row.number (f b.on_board))) is in
            let here = set_here rows row.number (f b.on_board) b.in_rows in
            let two : ◌≡◌ {A = Option BoardRow} (Some (f b.on_board)) (Some r) = sym here ∙ (sym there ∙ e) in
            inl (is, let x : f b.on_board ≡ r = cc in x)
        | inr ne ↦ inr (sym (set_there rows row.number n (f b.on_board) ne) ∙ e)
      ]

      own_rows : AreRows (client_at code row.client).begun (set rows row.number (f b.on_board))
      own_rows = record {
        used = length-set rows row.number (f b.on_board) ∙ (w.rows row.client).used;
        colours = λ n r e. elim (at_place n r e) [
          | inl p ↦ ap (λ (x : BoardRow). x.colours) (sym p.1) ∙ (same_colours
              ∙ ((w.rows row.client).colours row.number b.on_board b.board_is
              ∙ ap (λ (k : ℕ). (get_or (client_at code row.client).begun k no_row.node).colours) (sym p.0)))
          | inr p ↦ (w.rows row.client).colours n r p
        ];
        marks = λ n r e. elim (at_place n r e) [
          | inl p ↦ ap (λ (x : BoardRow). length x.marks) (sym p.1) ∙ whole_marks
          | inr p ↦ (w.rows row.client).marks n r p
        ];
      }

  -- a colour of the row is marked, whose mark is missing
  pub marked_row : (colour : ℕ) (m : Mark) → colour < MAX_COLOURS → (row_of (world_of code) row).marks colour ≡ marks.None
      → changed_row (boards.with_mark colour m)
      ≡ record (row_of (world_of code) row) { marks = updated (row_of (world_of code) row).marks colour m }
  marked_row colour m lt none =
      let r = b.on_board in
      let missing : mark_at r colour ≡ marks.None = ap (λ (g : ℕ → Mark). g colour) (sym marks_here) ∙ none in
      ap (λ (x : Mark). let s : RowState = record {
        node = (row_of (world_of code) row).node;
        marks = mark_in (Some (record r { marks = set r.marks colour x }));
        last = r.last;
      } in s) (ap (λ (x : Mark). first_mark x m) missing)
      ∙ (ap (λ (g : ℕ → Mark). let s : RowState = record {
        node = (row_of (world_of code) row).node;
        marks = g;
        last = r.last;
      } in s)
      (set_updated r.marks colour m marks.None (let n = long_marks in omega (arith, n, lt))
      ∙ ap (λ (g : ℕ → Mark). updated g colour m) (sym marks_here))
      ∙ ap (λ (o : Outcome). let s : RowState = record {
        node = (row_of (world_of code) row).node;
        marks = updated (row_of (world_of code) row).marks colour m;
        last = o;
      } in s) (sym last_here))

  pub marked_clients : (colour : ℕ) (m : Mark)
      → AreClients code.shape code.clients (new_board (boards.with_mark colour m))
  marked_clients colour m =
      board_clients (boards.with_mark colour m) refl
      (length-set b.on_board.marks colour (first_mark (mark_at b.on_board colour) m) ∙ long_marks)

  -- the outcome of its marks
  pub outcome_here : outcome_of (row_marks b.on_board) ≡ outcome_of (marks_of (row_of (world_of code) row))
  unfolding row_marks
  outcome_here =
      ap (λ (g : ℕ → Mark). outcome_of (map g (members b.on_board.colours))) (sym marks_here)
      ∙ ap (λ (cs : Colours). outcome_of (map (row_of (world_of code) row).marks (members cs))) colours_here

  pub decided_row : changed_row decided
      ≡ record (row_of (world_of code) row) { last = outcome_of (marks_of (row_of (world_of code) row)) }
  decided_row =
      ap (λ (g : ℕ → Mark). let s : RowState = record {
        node = (row_of (world_of code) row).node;
        marks = g;
        last = outcome_of (row_marks b.on_board);
      } in s) (sym marks_here)
      ∙ ap (λ (o : Outcome). let s : RowState = record (row_of (world_of code) row) { last = o } in s) outcome_here

  pub decided_clients : AreClients code.shape code.clients (new_board decided)
  decided_clients = board_clients decided refl long_marks

  -- a changed row is one in the world
  pub board_world : (f : BoardRow → BoardRow) (new : RowState) → changed_row f ≡ new
      → world_of (record code { board = new_board f }) ≡ with_row (world_of code) row new
  board_world f new is =
      worlds code.shape (world_of code).histories (world_of code).histories refl
      (rows_changed f ∙ ap (λ (r : RowState). updated_at (rows_by code.clients code.board) row.client row.number r) is)
      refl refl
