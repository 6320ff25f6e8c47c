-- What one changed column and one changed client make of the world.
use Rattle.std.proofs.Common.{◌≡◌, ◌≢◌, ℕ, ◌<◌, false, List, [], ◌∷◌, ◌++◌, length}
use Rattle.std.proofs.Common.{get_or, set, refl, ap, sym, subst, ◌∙◌, arith, inl, inr, length-set}
use Rattle.std.proofs.Common.{get_or-set_same, get_or-set_other}
use Rattle.std.specs.Prelude.{◌==◌, Some, slice_get, slice_index}
use Rattle.std.specs.List.{All}
use mathlib.Core.Path.{fun_ext}
use Rattle.std.proofs.lemmas.Bool.{cases_eq, eq-eqb}
use Rattle.std.proofs.lemmas.List.Elements.{All-set}
use Rattle.std.proofs.lemmas.List.{append-nil}
use Rattle.log_node.specs.declared.node.Node.{Node}
use Rattle.log_node.specs.declared.node.Shape.{Shape}
use Rattle.log_node.specs.declared.limits.TheConstants.{MAX_COLOURS}
use Rattle.skeen_core.specs.Boards.{Board, rows_of}
use Rattle.col_core.specs.declared.Entry.{Entry}
use Rattle.col_core.proofs.CallerLemmas.{apart}
use Rattle.col_core.specs.Keeping.{updated, updated_at}
use Rattle.column.specs.Columns.{ColumnState}
use Rattle.world_laws.specs.declared.steps.Step.{Step}
use Rattle.world_laws.specs.Worlds.{World, ClientState, RowState, after, with_last, with_client}
use Rattle.world_laws.specs.Laws.{IsReached}
use Rattle.world_laws.proofs.CallerLemmas.{at_updated, at_updated_at, not_place, after_reached}
use Rattle.world_code.specs.Clients.{ClientView, fresh_client}
use Rattle.world_code.specs.WorldView.{WorldView, no_column, column_at, client_at, client_of, row_in, world_of, IsPlaced}
use Rattle.world_code.specs.WorldView.{AreRows, IsRowNode, HasAppended, IsWhole}
use Rattle.world_code.proofs.EqualWorlds.{worlds}
use Rattle.world_code.proofs.AppendedNodes.{still_appended, appended_longer}

-- the columns with another one at a place
abbrev pub with_column : List (List ColumnState) → ℕ → ℕ → ColumnState → List (List ColumnState)
with_column columns region colour column = set columns region (set (get_or columns region []) colour column)

module _ (columns : List (List ColumnState)) (region colour : ℕ) (column : ColumnState)
    (in_regions : region < length columns)
    (in_colours : colour < length (get_or columns region [])) where
  abbrev changed : List (List ColumnState)
  changed = with_column columns region colour column

  pub column_here : column_at changed region colour ≡ column
  column_here =
      ap (λ (l : List ColumnState). get_or l colour no_column)
      (get_or-set_same columns region (set (get_or columns region []) colour column) [] in_regions)
      ∙ get_or-set_same (get_or columns region []) colour column no_column in_colours

  pub column_elsewhere : (r c : ℕ) → (r ≡ region → c ≡ colour → ⊥) → column_at changed r c ≡ column_at columns r c
  column_elsewhere r c ne = elim (cases_eq r region) [
    | inl e ↦
        ap (λ (k : ℕ). get_or (get_or changed k []) c no_column) e
        ∙ (ap (λ (l : List ColumnState). get_or l c no_column)
        (get_or-set_same columns region (set (get_or columns region []) colour column) [] in_regions)
        ∙ (get_or-set_other (get_or columns region []) colour c column no_column (λ f. ne e f)
        ∙ ap (λ (k : ℕ). get_or (get_or columns k []) c no_column) (sym e)))
    | inr f ↦ ap (λ (l : List ColumnState). get_or l c no_column)
        (get_or-set_other columns region r (set (get_or columns region []) colour column) [] f)
  ]

-- the histories are as before but for one
pub histories_changed : (columns : List (List ColumnState)) (region colour : ℕ) (column : ColumnState)
    → region < length columns
    → colour < length (get_or columns region []) → (h : List Entry) → column.journal ≡ h
    → ◌≡◌ {A = ℕ → ℕ → List Entry} (λ r c. (column_at (with_column columns region colour column) r c).journal)
    (updated_at (λ r c. (column_at columns r c).journal) region colour h)
histories_changed columns region colour column lr lc h is =
    fun_ext (λ r. fun_ext (λ c.
    at_updated_at (λ (v : List Entry). (column_at (with_column columns region colour column) r c).journal ≡ v)
    (λ r c. (column_at columns r c).journal) region colour h r c
    (λ e f. ap (λ (k : ℕ). (column_at (with_column columns region colour column) k c).journal) e
    ∙ (ap (λ (k : ℕ). (column_at (with_column columns region colour column) region k).journal) f
    ∙ (ap (λ (x : ColumnState). x.journal) (column_here columns region colour column lr lc) ∙ is)))
    (λ other. ap (λ (x : ColumnState). x.journal)
    (column_elsewhere columns region colour column lr lc r c (not_place region colour r c other)))))

-- one event more in a column is one in the world
pub column_world : (code : WorldView) (region colour : ℕ) (column : ColumnState) (e : Entry)
    → region < length code.columns
    → colour < length (get_or code.columns region []) → column.journal
    ≡ (column_at code.columns region colour).journal ++ e ∷ []
    → world_of (record code { columns = with_column code.columns region colour column })
    ≡ with_last (world_of code) region colour e
column_world code region colour column e lr lc is =
    ap (λ (hs : ℕ → ℕ → List Entry). with_histories hs)
    (histories_changed code.columns region colour column lr lc _ is) where
      with_histories : (ℕ → ℕ → List Entry) → World
      with_histories hs = record (world_of code) { histories = hs }

-- the places of columns stay
module _ (code : WorldView) (region colour : ℕ) (column : ColumnState) (w : IsWhole code)
    (lr : region < code.shape.regions)
    (lc : colour < code.shape.colours) where
  in_regions : region < length code.columns
  in_regions = let n = w.regions in omega (arith, n, lr)

  row_wide : length (get_or code.columns region []) ≡ code.shape.colours
  row_wide = w.wide region [] in_regions

  in_colours : colour < length (get_or code.columns region [])
  in_colours = omega (arith, row_wide, lc)

  pub regions_after : length (with_column code.columns region colour column) ≡ code.shape.regions
  regions_after = length-set code.columns region (set (get_or code.columns region []) colour column) ∙ w.regions

  pub wide_after : All (λ (columns : List ColumnState). length columns ≡ code.shape.colours)
      (with_column code.columns region colour column)
  wide_after = All-set (λ (columns : List ColumnState). length columns ≡ code.shape.colours) code.columns region _
      (length-set (get_or code.columns region []) colour column ∙ row_wide) w.wide

  other : (r c : ℕ) → r < code.shape.regions → c < code.shape.colours → (r ≡ region → c ≡ colour → ⊥)
      → IsPlaced (column_at (with_column code.columns region colour column) r c) r c code.shape.regions
  other r c in_r in_c ne =
      subst (λ (x : ColumnState). IsPlaced x r c code.shape.regions)
      (sym (column_elsewhere code.columns region colour column in_regions in_colours r c ne)) (w.placed r c in_r in_c)

  pub placed_after : IsPlaced column region colour code.shape.regions → (r c : ℕ) → r < code.shape.regions
      → c < code.shape.colours
      → IsPlaced (column_at (with_column code.columns region colour column) r c) r c code.shape.regions
  placed_after is_placed r c in_r in_c =
      let changed = with_column code.columns region colour column in
      elim (cases_eq r region) [
        | inl e ↦ elim (cases_eq c colour) [
          | inl f ↦ subst (λ (n : ℕ). IsPlaced (column_at changed n c) n c code.shape.regions) (sym e)
              (subst (λ (n : ℕ). IsPlaced (column_at changed region n) region n code.shape.regions) (sym f)
              (subst (λ (x : ColumnState). IsPlaced x region colour code.shape.regions)
              (sym (column_here code.columns region colour column in_regions in_colours)) is_placed))
          | inr ne ↦ other r c in_r in_c (λ _ f. ne f)
        ]
        | inr ne ↦ other r c in_r in_c (λ e _. ne e)
      ]

-- all columns are there
pub record ArePlaced (shape : Shape) (columns : List (List ColumnState)) : Type 0 where
  pub regions : length columns ≡ shape.regions
  pub wide : All (λ row. length row ≡ shape.colours) columns
  pub placed : (region colour : ℕ) → region < shape.regions → colour < shape.colours
      → IsPlaced (column_at columns region colour) region colour shape.regions

pub placed_of : (code : WorldView) → IsWhole code → ArePlaced code.shape code.columns
placed_of code w = record { regions = w.regions; wide = w.wide; placed = w.placed }

pub columns_placed : (code : WorldView) (region colour : ℕ) (column : ColumnState) → IsWhole code
    → region < code.shape.regions → colour < code.shape.colours → IsPlaced column region colour code.shape.regions
    → ArePlaced code.shape (with_column code.columns region colour column)
columns_placed code region colour column w lr lc is_placed = record {
  regions = regions_after code region colour column w lr lc;
  wide = wide_after code region colour column w lr lc;
  placed = placed_after code region colour column w lr lc is_placed;
}

-- a client that has more nodes leaves what columns have
pub clients_appended : (code : WorldView) (client : ℕ) (c : ClientView) (more : List Node)
    → client < length code.clients
    → c.nodes ≡ (client_at code client).nodes ++ more
    → ((r k : ℕ) → HasAppended code.clients (column_at code.columns r k)) → (r k : ℕ)
    → HasAppended (set code.clients client c) (column_at code.columns r k)
clients_appended code client c more lt is before r k =
    appended_longer code.clients (set code.clients client c) (column_at code.columns r k)
    (still_appended code.clients client c more lt is) (before r k)

-- and so does a column whose nodes are appended
pub columns_appended : (code : WorldView) (clients : List ClientView) (region colour : ℕ) (column : ColumnState)
    → IsWhole code → region < code.shape.regions → colour < code.shape.colours
    → ((r k : ℕ) → HasAppended clients (column_at code.columns r k)) → HasAppended clients column → (r k : ℕ)
    → HasAppended clients (column_at (with_column code.columns region colour column) r k)
columns_appended code clients region colour column w lr lc before new r k =
    elim (cases_eq r region) [
      | inl e ↦ elim (cases_eq k colour) [
        | inl f ↦ subst (λ (n : ℕ). HasAppended clients (column_at changed n k)) (sym e)
            (subst (λ (n : ℕ). HasAppended clients (column_at changed region n)) (sym f)
            (subst (HasAppended clients)
            (sym (column_here code.columns region colour column there wide)) new))
        | inr ne ↦ elsewhere (λ _ f. ne f)
      ]
      | inr ne ↦ elsewhere (λ e _. ne e)
    ] where
      changed : List (List ColumnState)
      changed = with_column code.columns region colour column

      there : region < length code.columns
      there = in_regions code region colour column w lr lc

      wide : colour < length (get_or code.columns region [])
      wide = in_colours code region colour column w lr lc

      elsewhere : (r ≡ region → k ≡ colour → ⊥) → HasAppended clients (column_at changed r k)
      elsewhere ne = subst (HasAppended clients)
          (sym (column_elsewhere code.columns region colour column there wide r k ne)) (before r k)

-- all clients and their rows are there
pub record AreClients (shape : Shape) (clients : List ClientView) (board : Board) : Type 0 where
  pub all : length clients ≡ length shape.homes
  pub colours : All (λ c. length c.played ≡ MAX_COLOURS) clients
  pub board_colours : board.colours ≡ shape.colours
  pub board_rows : board.rows ≡ shape.rows
  pub board_clients : length board.begun ≡ length shape.homes
  pub rows : (client : ℕ) → AreRows (get_or clients client fresh_client).begun (rows_of board client)
  pub begun : (client number : ℕ) (node : Node)
      → slice_get (get_or clients client fresh_client).begun number ≡ Some node
      → IsRowNode (slice_index shape.homes client) client number shape.colours node

pub clients_of : (code : WorldView) → IsWhole code → AreClients code.shape code.clients code.board
clients_of code w = record {
  all = w.clients;
  colours = w.colours;
  board_colours = w.board_colours;
  board_rows = w.board_rows;
  board_clients = w.board_clients;
  rows = w.rows;
  begun = w.begun;
}

-- the code means the world after a step
pub whole_after : (code : WorldView) (clients : List ClientView) (board : Board) (columns : List (List ColumnState))
    → IsWhole code → AreClients code.shape clients board → ArePlaced code.shape columns
    → ((r c : ℕ) → HasAppended clients (column_at columns r c))
    → IsReached (world_of (record { shape = code.shape; clients = clients; board = board; columns = columns }))
    → IsWhole (record { shape = code.shape; clients = clients; board = board; columns = columns })
whole_after code clients board columns w cs ps appended reached = record {
  few_regions = w.few_regions;
  few_colours = w.few_colours;
  homes = w.homes;
  regions = ps.regions;
  wide = ps.wide;
  placed = ps.placed;
  clients = cs.all;
  colours = cs.colours;
  board_colours = cs.board_colours;
  board_rows = cs.board_rows;
  board_clients = cs.board_clients;
  rows = cs.rows;
  begun = cs.begun;
  appended = appended;
  reached = reached;
}

pub reached_step : (code : WorldView) (new : World) (step : Step) → IsWhole code → new ≡ after (world_of code) step
    → IsReached new
reached_step code new step w is = subst IsReached (sym is) (after_reached (world_of code) step w.reached)

-- the code means the world after a step that changed one column
pub whole_column : (code : WorldView) (region colour : ℕ) (column : ColumnState) (step : Step) → IsWhole code
    → region < code.shape.regions → colour < code.shape.colours → IsPlaced column region colour code.shape.regions
    → HasAppended code.clients column
    → world_of (record code { columns = with_column code.columns region colour column }) ≡ after (world_of code) step
    → IsWhole (record code { columns = with_column code.columns region colour column })
whole_column code region colour column step w lr lc is_placed new step_is =
    whole_after code code.clients code.board (with_column code.columns region colour column) w (clients_of code w)
    (columns_placed code region colour column w lr lc is_placed)
    (columns_appended code code.clients region colour column w lr lc w.appended new)
    (reached_step code (world_of (record code { columns = with_column code.columns region colour column })) step w
    step_is)

pub differs : (n m : ℕ) → (n == m) ≡ false → n ≢ m
differs n m f e = apart (n == m) (eq-eqb n m e) f

-- the clients are as before but for one, and so are their nodes
pub clients_changed : (cs : List ClientView) (client : ℕ) (c : ClientView) → client < length cs
    → ◌≡◌ {A = ℕ → ClientState} (λ n. client_of (get_or (set cs client c) n fresh_client))
    (updated (λ n. client_of (get_or cs n fresh_client)) client (client_of c))
clients_changed cs client c lt =
    fun_ext (λ n. at_updated (λ (v : ClientState). client_of (get_or (set cs client c) n fresh_client) ≡ v)
    (λ a. client_of (get_or cs a fresh_client)) client (client_of c) n
    (λ e. ap (λ (k : ℕ). client_of (get_or (set cs client c) k fresh_client)) e
    ∙ ap client_of (get_or-set_same cs client c fresh_client lt))
    (λ f. ap client_of (get_or-set_other cs client n c fresh_client (differs n client f))))

pub nodes_changed : (cs : List ClientView) (client : ℕ) (c : ClientView) → client < length cs
    → ◌≡◌ {A = ℕ → List Node} (λ n. (get_or (set cs client c) n fresh_client).nodes)
    (updated (λ n. (get_or cs n fresh_client).nodes) client c.nodes)
nodes_changed cs client c lt =
    fun_ext (λ n. at_updated (λ (v : List Node). (get_or (set cs client c) n fresh_client).nodes ≡ v)
    (λ a. (get_or cs a fresh_client).nodes) client c.nodes n
    (λ e. ap (λ (k : ℕ). (get_or (set cs client c) k fresh_client).nodes) e
    ∙ ap (λ (x : ClientView). x.nodes) (get_or-set_same cs client c fresh_client lt))
    (λ f. ap (λ (x : ClientView). x.nodes) (get_or-set_other cs client n c fresh_client (differs n client f))))

-- what one client keeps stays for all
pub field_same : {A : Type 0} (f : ClientView → A) (cs : List ClientView) (client : ℕ) (c : ClientView)
    → client < length cs → f c ≡ f (get_or cs client fresh_client) → (n : ℕ)
    → f (get_or (set cs client c) n fresh_client) ≡ f (get_or cs n fresh_client)
field_same f cs client c lt same n = elim (cases_eq n client) [
  | inl e ↦
      ap (λ (k : ℕ). f (get_or (set cs client c) k fresh_client)) e
      ∙ (ap f (get_or-set_same cs client c fresh_client lt)
      ∙ (same ∙ ap (λ (k : ℕ). f (get_or cs k fresh_client)) (sym e)))
  | inr g ↦ ap f (get_or-set_other cs client n c fresh_client g)
]

abbrev nodes_of : List ClientView → ℕ → List Node
nodes_of cs n = (get_or cs n fresh_client).nodes

abbrev pub rows_by : List ClientView → Board → ℕ → ℕ → RowState
rows_by cs board client number = row_in (get_or cs client fresh_client).begun (rows_of board client) number

nodes_same : (cs : List ClientView) (client : ℕ) (c : ClientView) → client < length cs
    → c.nodes ≡ (get_or cs client fresh_client).nodes
    → ◌≡◌ {A = ℕ → List Node} (nodes_of (set cs client c)) (nodes_of cs)
nodes_same cs client c lt same = fun_ext (field_same (λ (x : ClientView). x.nodes) cs client c lt same)

pub rows_same : (cs : List ClientView) (board : Board) (client : ℕ) (c : ClientView) → client < length cs
    → c.begun ≡ (get_or cs client fresh_client).begun
    → ◌≡◌ {A = ℕ → ℕ → RowState} (rows_by (set cs client c) board) (rows_by cs board)
rows_same cs board client c lt same =
    fun_ext (λ a. fun_ext (λ n. ap (λ (b : List Node). row_in b (rows_of board a) n)
    (field_same (λ (x : ClientView). x.begun) cs client c lt same a)))

-- one client's change is one in the world
pub client_world : (code : WorldView) (client : ℕ) (c : ClientView) → client < length code.clients
    → c.nodes ≡ (client_at code client).nodes → c.begun ≡ (client_at code client).begun
    → world_of (record code { clients = set code.clients client c }) ≡ with_client (world_of code) client (client_of c)
client_world code client c lt same begun =
    worlds code.shape (world_of code).histories (world_of code).histories
    (clients_changed code.clients client c lt) (rows_same code.clients code.board client c lt begun) refl
    (nodes_same code.clients client c lt same)

-- one that the world does not show changes nothing there
pub client_shown : (code : WorldView) (client : ℕ) (c : ClientView) → client < length code.clients
    → c.nodes ≡ (client_at code client).nodes → c.begun ≡ (client_at code client).begun
    → client_of c ≡ client_of (client_at code client)
    → world_of (record code { clients = set code.clients client c }) ≡ world_of code
client_shown code client c lt same begun shown =
    worlds code.shape (world_of code).histories (world_of code).histories
    (fun_ext (field_same client_of code.clients client c lt shown))
    (rows_same code.clients code.board client c lt begun) refl
    (nodes_same code.clients client c lt same)

-- all clients are there, with one that has begun as many rows
pub clients_set : (code : WorldView) (client : ℕ) (c : ClientView) → IsWhole code → client < length code.clients
    → length c.played ≡ MAX_COLOURS → c.begun ≡ (client_at code client).begun
    → AreClients code.shape (set code.clients client c) code.board
clients_set code client c w lt all_colours begun = record {
  all = length-set code.clients client c ∙ w.clients;
  colours = All-set (λ (x : ClientView). length x.played ≡ MAX_COLOURS) code.clients client c all_colours w.colours;
  board_colours = w.board_colours;
  board_rows = w.board_rows;
  board_clients = w.board_clients;
  rows = λ a. subst (λ (b : List Node). AreRows b (rows_of code.board a))
      (sym (field_same (λ (x : ClientView). x.begun) code.clients client c lt begun a)) (w.rows a);
  begun = λ a n node e. w.begun a n node
      (ap (λ (b : List Node). slice_get b n)
      (sym (field_same (λ (x : ClientView). x.begun) code.clients client c lt begun a)) ∙ e);
}

-- the code means the world after a step that changed one client
pub whole_client : (code : WorldView) (client : ℕ) (c : ClientView) (step : Step) → IsWhole code
    → client < length code.clients → length c.played ≡ MAX_COLOURS → c.begun ≡ (client_at code client).begun
    → c.nodes ≡ (client_at code client).nodes
    → world_of (record code { clients = set code.clients client c }) ≡ after (world_of code) step
    → IsWhole (record code { clients = set code.clients client c })
whole_client code client c step w lt all_colours begun nodes step_is =
    whole_after code (set code.clients client c) code.board code.columns w
    (clients_set code client c w lt all_colours begun) (placed_of code w)
    (clients_appended code client c [] lt (nodes ∙ sym (append-nil (client_at code client).nodes)) w.appended)
    (reached_step code (world_of (record code { clients = set code.clients client c })) step w step_is)

pub whole_same : (code : WorldView) (client : ℕ) (c : ClientView) → IsWhole code → client < length code.clients
    → length c.played ≡ MAX_COLOURS → c.begun ≡ (client_at code client).begun → c.nodes ≡ (client_at code client).nodes
    → world_of (record code { clients = set code.clients client c }) ≡ world_of code
    → IsWhole (record code { clients = set code.clients client c })
whole_same code client c w lt all_colours begun nodes same =
    whole_after code (set code.clients client c) code.board code.columns w
    (clients_set code client c w lt all_colours begun) (placed_of code w)
    (clients_appended code client c [] lt (nodes ∙ sym (append-nil (client_at code client).nodes)) w.appended)
    (subst IsReached (sym same) w.reached)
