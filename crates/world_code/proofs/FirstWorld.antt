-- The world before the first step.
use Rattle.std.proofs.Common.{◌≡◌, ℕ, zero, suc, ◌<◌, ◌≤◌, List, [], ◌∷◌, length, get_or, map, replicate, refl, ap, sym}
use Rattle.std.proofs.Common.{◌∙◌, subst, arith, zero-add}
use Rattle.std.specs.Prelude.{Some, slice_get}
use Rattle.std.specs.List.{All, range_with_len}
use Rattle.std.proofs.lemmas.List.FromFn.{length-map-range_with_len, get_or-map-range_with_len}
use mathlib.Core.Path.{fun_ext}
use Rattle.log_node.specs.declared.ids.Counts.{Counts}
use Rattle.log_node.specs.declared.node.Node.{Node}
use Rattle.log_node.specs.declared.node.Shape.{Shape}
use Rattle.log_node.specs.declared.limits.TheConstants.{MAX_COLOURS}
use Rattle.log_node.specs.Vectors.{zeros}
use Rattle.skeen_core.specs.Boards.{BoardRow}
use Rattle.skeen_core.specs.Boards.{empty_board, rows_of}
use Rattle.col_core.specs.declared.Entry.{Entry}
use Rattle.column.specs.Columns.{ColumnState, new_column}
use Rattle.world_laws.specs.Worlds.{ClientState, new_client, no_row, opened}
use Rattle.world_laws.specs.Laws.{IsReached}
use Rattle.world_laws.proofs.CallerLemmas.{opened_reached}
use Rattle.world_code.specs.Clients.{ClientView, fresh_client}
use Rattle.world_code.specs.WorldView.{WorldView, no_column, fresh_columns, column_at, client_at, client_of, row_in}
use Rattle.world_code.specs.WorldView.{world_of}
use Rattle.world_code.specs.WorldView.{IsPlaced, AreRows, HasAppended, IsWhole}
use Rattle.world_code.proofs.AppendedNodes.{none_carried}
use Rattle.world_code.proofs.EqualWorlds.{worlds}

pub get_replicate : {A : Type 0} (n i : ℕ) (x : A) → get_or (replicate n x) i x ≡ x
get_replicate zero i x = refl
get_replicate (suc n) zero x = refl
get_replicate (suc n) (suc i) x = get_replicate n i x

-- what holds of all that a function gives, and of what stands outside, holds at each place
get_map : {A B : Type 0} (P : B → Type 0) (f : A → B) (xs : List A) (d : B) → ((x : A) → P (f x)) → P d → (n : ℕ)
    → P (get_or (map f xs) n d)
get_map P f [] d all none n = none
get_map P f (x ∷ xs) d all none zero = all x
get_map P f (x ∷ xs) d all none (suc n) = get_map P f xs d all none n

abbrev pub fresh_world : Shape → WorldView
fresh_world shape = record {
  shape = shape;
  clients = replicate (length shape.homes) fresh_client;
  board = empty_board (length shape.homes) shape.colours shape.rows;
  columns = map (λ region. fresh_columns region shape) (range_with_len 0 shape.regions);
}

fresh_is_new : client_of fresh_client ≡ new_client
fresh_is_new = ap (λ (f : ℕ → Counts). with_played f) (fun_ext (λ c. get_replicate MAX_COLOURS c zeros)) where
  with_played : (ℕ → Counts) → ClientState
  with_played f = record { count = 0; floor = 0; used = 0; played = f }

no_history : (shape : Shape) (r c : ℕ) → ◌≡◌ {A = List Entry} (column_at (fresh_world shape).columns r c).journal []
no_history shape r c =
    get_map (λ (columns : List ColumnState). ◌≡◌ {A = List Entry} (get_or columns c no_column).journal [])
    (λ region. fresh_columns region shape)
    (range_with_len 0 shape.regions) []
    (λ region. get_map (λ (column : ColumnState). ◌≡◌ {A = List Entry} column.journal [])
    (λ colour. new_column region colour shape.regions)
    (range_with_len 0 shape.colours) no_column (λ colour. refl) refl c)
    refl r

no_rows : (shape : Shape) (a n : ℕ)
    → row_in (client_at (fresh_world shape) a).begun (rows_of (fresh_world shape).board a) n ≡ no_row
no_rows shape a n =
    ap (λ (c : ClientView). row_in c.begun (rows_of (fresh_world shape).board a) n)
    (get_replicate (length shape.homes) a fresh_client)
    ∙ ap (λ (rows : List BoardRow). row_in [] rows n) (get_replicate (length shape.homes) a [])

pub fresh_is_opened : (shape : Shape) → world_of (fresh_world shape) ≡ opened shape
fresh_is_opened shape =
    worlds shape (world_of (fresh_world shape)).histories (λ _ _. [])
    (fun_ext (λ n. ap client_of (get_replicate (length shape.homes) n fresh_client) ∙ fresh_is_new))
    (fun_ext (λ a. fun_ext (λ n. no_rows shape a n)))
    (fun_ext (λ r. fun_ext (λ c. no_history shape r c)))
    (fun_ext (λ n. ap (λ (c : ClientView). c.nodes) (get_replicate (length shape.homes) n fresh_client)))

length_replicate : {A : Type 0} (n : ℕ) (x : A) → length (replicate n x) ≡ n
length_replicate zero x = refl
length_replicate (suc n) x = ap (λ (k : ℕ). suc k) (length_replicate n x)

all_map : {A B : Type 0} (P : B → Type 0) (f : A → B) (xs : List A) → ((x : A) → P (f x)) → All P (map f xs)
all_map P f [] h i d lt = absurd (let e : ⊥ = omega (arith, lt) in e)
all_map P f (x ∷ xs) h zero d lt = h x
all_map P f (x ∷ xs) h (suc i) d lt = all_map P f xs h i d (omega (arith, lt))

all_replicate : {A : Type 0} (P : A → Type 0) (n : ℕ) (x : A) → P x → All P (replicate n x)
all_replicate P zero x h i d lt = absurd (let e : ⊥ = omega (arith, lt) in e)
all_replicate P (suc n) x h zero d lt = h
all_replicate P (suc n) x h (suc i) d lt = all_replicate P n x h i d (omega (arith, lt))

pub fresh_whole : (shape : Shape) → shape.regions ≤ 4 → shape.colours ≤ MAX_COLOURS
    → All (λ home. home < shape.regions) shape.homes
    → IsWhole (fresh_world shape)
fresh_whole shape few few_colours homes = record {
  few_regions = few;
  few_colours = few_colours;
  homes = homes;
  regions = length-map-range_with_len (λ region. fresh_columns region shape) 0 shape.regions;
  wide = all_map (λ (columns : List ColumnState). length columns ≡ shape.colours)
      (λ region. fresh_columns region shape) (range_with_len 0 shape.regions)
      (λ region. length-map-range_with_len (λ colour. new_column region colour shape.regions) 0 shape.colours);
  placed = λ r c in_r in_c. subst (λ (x : ColumnState). IsPlaced x r c shape.regions) (sym (there r c in_r in_c))
      (record { in_region = refl; of_colour = refl; of_regions = refl });
  clients = length_replicate (length shape.homes) fresh_client;
  colours = all_replicate (λ (c : ClientView). length c.played ≡ MAX_COLOURS) (length shape.homes) fresh_client
      (length_replicate MAX_COLOURS zeros);
  board_colours = refl;
  board_rows = refl;
  board_clients = length_replicate (length shape.homes) [];
  rows = λ client. none_begun client;
  begun = λ client n node e. absurd (no_node client n node e);
  appended = λ r c. none_stored r c;
  reached = subst IsReached (sym (fresh_is_opened shape)) (opened_reached shape);
} where
  none_stored : (r c : ℕ) → HasAppended (fresh_world shape).clients (column_at (fresh_world shape).columns r c)
  none_stored r c =
      get_map (λ (columns : List ColumnState). HasAppended (fresh_world shape).clients (get_or columns c no_column))
      (λ region. fresh_columns region shape) (range_with_len 0 shape.regions) []
      (λ region. get_map (HasAppended (fresh_world shape).clients) (λ colour. new_column region colour shape.regions)
      (range_with_len 0 shape.colours) no_column
      (λ colour. record { stored = tt; copies = none_carried (fresh_world shape).clients })
      (record { stored = tt; copies = none_carried (fresh_world shape).clients }) c)
      (record { stored = tt; copies = none_carried (fresh_world shape).clients }) r

  none : AreRows [] []
  none = record {
    used = refl;
    colours = λ n r e. absurd (let x : ⊥ = cc in x);
    marks = λ n r e. absurd (let x : ⊥ = cc in x);
  }

  none_begun : (client : ℕ) → AreRows (client_at (fresh_world shape) client).begun
      (rows_of (fresh_world shape).board client)
  none_begun client =
      subst (λ (c : ClientView). AreRows c.begun (rows_of (fresh_world shape).board client))
      (sym (get_replicate (length shape.homes) client fresh_client))
      (subst (λ (rows : List BoardRow). AreRows [] rows) (sym (get_replicate (length shape.homes) client [])) none)

  no_node : (client n : ℕ) (node : Node) → slice_get (client_at (fresh_world shape) client).begun n ≡ Some node → ⊥
  no_node client n node e =
      let f = ap (λ (c : ClientView). slice_get c.begun n)
      (sym (get_replicate (length shape.homes) client fresh_client)) ∙ e in
      let x : ⊥ = cc in x

  there : (r c : ℕ) → r < shape.regions → c < shape.colours → column_at (fresh_world shape).columns r c
      ≡ new_column r c shape.regions
  there r c in_r in_c =
      ap (λ (l : List ColumnState). get_or l c no_column)
      (get_or-map-range_with_len (λ region. fresh_columns region shape) 0 shape.regions r r [] in_r (zero-add r))
      ∙ get_or-map-range_with_len (λ colour. new_column r colour shape.regions) 0 shape.colours c c no_column in_c
      (zero-add c)
