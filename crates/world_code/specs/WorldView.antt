-- A world in code, and the world that it means.
use Rattle.std.specs.Prelude.{◌≡◌, ℕ, ◌<◌, ◌≤◌, List, [], length, map, true, Some, slice_get, slice_index}
use Rattle.std.specs.Prelude.{slice_index_or, slice_set}
use Rattle.std.specs.List.{All, AllByRecursion, range_with_len}
use Rattle.log_node.specs.declared.ids.Id.{Id}
use Rattle.log_node.specs.declared.node.Node.{Node}
use Rattle.log_node.specs.declared.node.Shape.{Shape}
use Rattle.log_node.specs.declared.limits.TheConstants.{MAX_COLOURS}
use Rattle.log_node.specs.Vectors.{zeros}
use Rattle.skeen_core.specs.Boards.{BoardRow}
use Rattle.skeen_core.specs.Boards.{Board, rows_of, mark_in, last_in}
use Rattle.column.specs.Columns.{ColumnState, new_column, copy_of}
use Rattle.world_laws.specs.Worlds.{World, ClientState, RowState, no_row, is_member}
use Rattle.world_laws.specs.Laws.{IsReached}
use Rattle.world_code.specs.Clients.{ClientView, fresh_client, with_spare}

-- the clients by number, the board of their rows, and the columns by region and colour
pub record WorldView : Type 0 where
  pub shape : Shape
  pub clients : List ClientView
  pub board : Board
  pub columns : List (List ColumnState)

-- what stands where there is no column
abbrev pub no_column : ColumnState
no_column = new_column 0 0 0

-- the columns of a region with nothing in them
abbrev pub fresh_columns : ℕ → Shape → List ColumnState
fresh_columns region shape = map (λ colour. new_column region colour shape.regions) (range_with_len 0 shape.colours)

-- a region's column of a colour
abbrev pub column_in : List ColumnState → ℕ → ColumnState
column_in columns colour = slice_index_or columns colour no_column

-- the client of a number
abbrev pub client_at : WorldView → ℕ → ClientView
client_at code client = slice_index_or code.clients client fresh_client

-- the column of a region and a colour
abbrev pub column_at : List (List ColumnState) → ℕ → ℕ → ColumnState
column_at columns region colour = slice_index_or (slice_index_or columns region []) colour no_column

-- what a client has used, seen and played
abbrev pub client_of : ClientView → ClientState
client_of c = record {
  count = c.count;
  floor = c.floor;
  used = length c.begun;
  played = λ colour. slice_index_or c.played colour zeros;
}

-- a client's row of a number, by its nodes with rows and by what the board has
abbrev pub row_in : List Node → List BoardRow → ℕ → RowState
row_in begun rows number = record {
  node = slice_index_or begun number no_row.node;
  marks = mark_in (slice_get rows number);
  last = last_in (slice_get rows number);
}

-- the world that is meant
abbrev pub world_of : WorldView → World
world_of code = record {
  shape = code.shape;
  clients = λ client. client_of (client_at code client);
  rows = λ client number. row_in (client_at code client).begun (rows_of code.board client) number;
  histories = λ region colour. (column_at code.columns region colour).journal;
  nodes = λ client. (client_at code client).nodes;
}

-- with memory for one node more of a client
abbrev pub with_client_room : WorldView → ℕ → WorldView
with_client_room code client =
    record code { clients = slice_set code.clients client (with_spare (client_at code client)) }

-- the column is that of a region and a colour
pub record IsPlaced (column : ColumnState) (region colour regions : ℕ) : Type 0 where
  pub in_region : column.region ≡ region
  pub of_colour : column.colour ≡ colour
  pub of_regions : column.regions ≡ regions

-- the rows of a client on the board are those of its nodes
pub record AreRows (begun : List Node) (rows : List BoardRow) : Type 0 where
  pub used : length rows ≡ length begun
  pub colours : (n : ℕ) (r : BoardRow) → slice_get rows n ≡ Some r
      → r.colours ≡ (slice_index_or begun n no_row.node).colours
  pub marks : (n : ℕ) (r : BoardRow) → slice_get rows n ≡ Some r → length r.marks ≡ MAX_COLOURS

-- the node of a client's row of this number, in a log of so many colours
pub record IsRowNode (home client number colours : ℕ) (node : Node) : Type 0 where
  pub in_region : node.region ≡ home
  pub row : node.row ≡ Some (record { client = client; number = number })
  pub within : (colour : ℕ) → is_member node.colours colour ≡ true → colour < colours

-- the client of the id appended the node under it
abbrev pub IsAppended : List ClientView → Id → Node → Type 0
IsAppended clients id node = slice_get (slice_index_or clients id.client fresh_client).nodes id.count ≡ Some node

-- each node that a column has is the one that its client appended
pub record HasAppended (clients : List ClientView) (column : ColumnState) : Type 0 where
  pub stored : AllByRecursion (λ w. IsAppended clients w.key.id w.thing.node) column.queue.stored
  pub copies : (region : ℕ) → AllByRecursion (λ i. IsAppended clients i.head.key.id i.node) (copy_of column region)

-- all clients, rows and columns of the shape are there, and steps have made the world
pub record IsWhole (code : WorldView) : Type 0 where
  pub few_regions : code.shape.regions ≤ 4
  pub few_colours : code.shape.colours ≤ MAX_COLOURS
  pub homes : All (λ home. home < code.shape.regions) code.shape.homes
  pub regions : length code.columns ≡ code.shape.regions
  pub wide : All (λ columns. length columns ≡ code.shape.colours) code.columns
  pub placed : (region colour : ℕ) → region < code.shape.regions → colour < code.shape.colours
      → IsPlaced (column_at code.columns region colour) region colour code.shape.regions
  pub clients : length code.clients ≡ length code.shape.homes
  pub colours : All (λ c. length c.played ≡ MAX_COLOURS) code.clients
  pub board_colours : code.board.colours ≡ code.shape.colours
  pub board_rows : code.board.rows ≡ code.shape.rows
  pub board_clients : length code.board.begun ≡ length code.shape.homes
  pub rows : (client : ℕ) → AreRows (client_at code client).begun (rows_of code.board client)
  pub begun : (client number : ℕ) (node : Node) → slice_get (client_at code client).begun number ≡ Some node
      → IsRowNode (slice_index code.shape.homes client) client number code.shape.colours node
  pub appended : (region colour : ℕ) → HasAppended code.clients (column_at code.columns region colour)
  pub reached : IsReached (world_of code)
