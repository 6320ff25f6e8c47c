-- The world of all columns, rows and clients, and what there is in it.
use Rattle.std.specs.Prelude.{Bool, ℕ, ◌==◌, ◌&&◌, nat_lt, max, List, [], None, map, length, slice_index}
use Rattle.std.specs.List.{list_any}
use Rattle.log_node.specs.declared.ids.Id.{Id}
use Rattle.log_node.specs.declared.ids.Row.{Row}
use Rattle.log_node.specs.declared.ids.Colours.{Colours}
use Rattle.log_node.specs.declared.ids.Counts.{Counts}
use Rattle.log_node.specs.declared.node.Node.{Node}
use Rattle.log_node.specs.declared.node.Shape.{Shape}
use Rattle.log_node.specs.Sets.{members}
use Rattle.log_node.specs.Vectors.{zeros}
use Rattle.log_node.specs.declared.marks.Mark.{Mark}
use Rattle.log_node.specs.declared.marks.Mark.TheVariants as marks
use Rattle.log_node.specs.declared.marks.Outcome.{Outcome}
use Rattle.log_node.specs.declared.marks.Outcome.TheVariants.{Open}
use Rattle.col_core.specs.declared.Entry.{Entry}
use Rattle.col_core.specs.History.{clock, last_stamp}
use Rattle.log_node.specs.Reach.{Chains}
use Rattle.col_core.specs.Cuts.{chain, base}
use Rattle.col_core.specs.Computed.{cut, dated}

-- what a client has used, seen and played
pub record ClientState : Type 0 where
  -- how many ids it has used
  pub count : ℕ
  -- the greatest stamp that it has seen
  pub floor : ℕ
  -- how many rows it has begun
  pub used : ℕ
  -- for each colour the cut of its last play
  pub played : ℕ → Counts

-- a begun row: its node, a mark for each colour, and its outcome, Open until it is decided
pub record RowState : Type 0 where
  pub node : Node
  pub marks : ℕ → Mark
  pub last : Outcome

-- all that there is: what the clients keep, the rows, the histories of the columns, and the nodes
pub record World : Type 0 where
  pub shape : Shape
  pub clients : ℕ → ClientState
  -- by client and number; a row is begun where its number is below how many its client has begun
  pub rows : ℕ → ℕ → RowState
  -- the history of each column by region and colour, the oldest event first
  pub histories : ℕ → ℕ → List Entry
  -- the nodes that each client appended, in the order of their ids
  pub nodes : ℕ → List Node

-- a client before its first step
abbrev pub new_client : ClientState
new_client = record { count = 0; floor = 0; used = 0; played = λ _. zeros }

-- what stands where no row is begun
abbrev pub no_row : RowState
no_row = record {
  node = record {
    id = record { client = 0; count = 0 };
    region = 0;
    colours = record { 0 = 0 };
    text = [];
    floor = 0;
    wants = [];
    row = None;
  };
  marks = λ _. marks.None;
  last = Open;
}

-- the world before the first step
abbrev pub opened : Shape → World
opened shape = record {
  shape = shape;
  clients = λ _. new_client;
  rows = λ _ _. no_row;
  histories = λ _ _. [];
  nodes = λ _. [];
}

-- the client is one of the log's
abbrev pub is_client : World → ℕ → Bool
is_client w client = nat_lt client (length w.shape.homes)

-- the region and the colour are the log's
abbrev pub is_column : World → ℕ → ℕ → Bool
is_column w region colour = nat_lt region w.shape.regions && nat_lt colour w.shape.colours

-- the region of a client
abbrev pub home_of : World → ℕ → ℕ
home_of w client = slice_index w.shape.homes client

-- the history of a colour's column in a client's region
abbrev pub home_history : World → ℕ → ℕ → List Entry
home_history w client colour = w.histories (home_of w client) colour

-- the row is begun
abbrev pub is_begun : World → Row → Bool
is_begun w row = nat_lt row.number (w.clients row.client).used

-- the row of a client and a number
abbrev pub row_of : World → Row → RowState
row_of w row = w.rows row.client row.number

-- the history of a colour's column in the region of a row
abbrev pub row_history : World → Row → ℕ → List Entry
row_history w row colour = home_history w row.client colour

-- the marks of the colours of a row's node, the smallest colour first
abbrev pub marks_of : RowState → List Mark
marks_of r = map r.marks (members r.node.colours)

-- the colour is one of the set
abbrev pub is_member : Colours → ℕ → Bool
is_member colours colour = list_any (λ c. c == colour) (members colours)

-- no stamp is left for a floor
abbrev pub is_at_end : List Entry → ℕ → Bool
is_at_end history floor = max (clock history) floor == last_stamp

-- no stamp is left for a row's node
abbrev pub is_row_at_end : World → Row → ℕ → Bool
is_row_at_end w row colour = is_at_end (row_history w row colour) (row_of w row).node.floor

-- the chains of a column of the region after a history, how far they may be played, and how far they are trimmed
abbrev pub chains_after : ℕ → List Entry → Chains
chains_after region history = chain region (dated region history)

abbrev pub cut_after : ℕ → List Entry → Counts
cut_after region history = cut region (dated region history)

abbrev pub base_after : ℕ → ℕ → List Entry → Counts
base_after regions region history = base region regions (dated region history)

-- how many nodes of the origin's chain the region's column holds
abbrev pub held_of : World → ℕ → ℕ → ℕ → ℕ
held_of w origin region colour = length (chains_after region (w.histories region colour) origin)

-- the id that a client uses next, and the row that it begins next
abbrev pub next_id : World → ℕ → Id
next_id w client = record { client = client; count = (w.clients client).count }

abbrev pub next_row : World → ℕ → Row
next_row w client = record { client = client; number = (w.clients client).used }
