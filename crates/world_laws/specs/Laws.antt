-- The laws of every world that steps have made, whoever took them and in whatever order.
use Rattle.std.specs.Prelude.{◌≡◌, ◌≢◌, IsTrue, ℕ, ◌+◌, ◌<◌, ◌≤◌, ◌==◌, List, [], ◌∷◌}
use Rattle.std.specs.Prelude.{Some, None, slice_get, map, take, length, if◌then◌else◌}
use Rattle.std.specs.List.{Contains, flat_map, range_with_len}
use mathlib.Core.List.{IsPrefix}
use Rattle.log_node.specs.declared.ids.Id.{Id}
use Rattle.log_node.specs.declared.ids.Row.{Row}
use Rattle.log_node.specs.declared.ids.Counts.{Counts}
use Rattle.log_node.specs.declared.node.Node.{Node}
use Rattle.log_node.specs.declared.node.Shape.{Shape}
use Rattle.log_node.specs.Sets.{set_of}
use Rattle.log_node.specs.Vectors.{at, zeros, IsWithin}
use Rattle.log_node.specs.declared.marks.Mark.TheVariants as marks
use Rattle.log_node.specs.declared.marks.Outcome.TheVariants.{Open}
use Rattle.col_core.specs.declared.Event.{Event}
use Rattle.col_core.specs.declared.Event.TheVariants as events
use Rattle.col_core.specs.declared.Entry.{Entry}
use Rattle.col_core.specs.History.{clock, line, last_stamp}
use Rattle.col_core.specs.Cuts.{Dated}
use Rattle.col_core.specs.Copies.{AreTrueCopies}
use Rattle.col_core.specs.Computed.{dated}
use Rattle.col_core.specs.Legal.{IsColumnHistory}
use Rattle.col_core.specs.Rows.{BegunRow, AreLawfulRows, node_wants}
use Rattle.col_core.specs.Log.{Log, IsLater}
use Rattle.world_laws.specs.declared.steps.Step.{Step}
use Rattle.world_laws.specs.Worlds.{World, RowState, opened, run_steps, home_of, home_history, is_begun}
use Rattle.world_laws.specs.Worlds.{row_of, row_history, held_of, cut_after, base_after}
use Rattle.world_laws.specs.Completing.{colours_of}
pub use Rattle.world_laws.specs.Completing.{StandsAsDecided, IsFree, Completes, CanComplete}
pub use Rattle.world_laws.specs.Lines.{Settles, IsFinal, HasEntry, StandsAt, SettlesOnce, OneFinalStamp}
pub use Rattle.world_laws.specs.Lines.{EachLineRises, OrderedAlike, IsNowhere, FencedIsNowhere}
pub use Rattle.world_laws.specs.Lines.{NoneGetsBefore}

-- the law holds of every world that steps have made
abbrev pub Always : (World → Type 0) → Type 0
Always Law = (shape : Shape) (steps : List Step) → Law (run_steps (opened shape) steps)

-- steps have made this world
pub record IsReached (w : World) : Type 0 where
  pub shape : Shape
  pub steps : List Step
  pub is : run_steps (opened shape) steps ≡ w

-- Rows

-- a begun row with the marks of its node's colours
abbrev pub begun_row : World → Row → BegunRow
begun_row w row = record {
  row = row;
  node = (row_of w row).node;
  marks = map (λ colour. record { colour = colour; mark = (row_of w row).marks colour }) (colours_of w row);
  last = (row_of w row).last;
}

-- the rows that a client has begun
abbrev pub rows_of_client : World → ℕ → List BegunRow
rows_of_client w client =
    map (λ number. begun_row w (record { client = client; number = number })) (range_with_len 0 (w.clients client).used)

-- the rows that the clients of a region have begun
abbrev pub rows_of_region : World → ℕ → List BegunRow
rows_of_region w region =
    flat_map (λ client. if home_of w client == region then rows_of_client w client else [])
    (range_with_len 0 (length w.shape.homes))

-- what a world says as a log
abbrev pub log_of : World → Log
log_of w = record { histories = w.histories; nodes = w.nodes; rows = rows_of_region w }

-- Growth

-- a line only grows at its end, event by event
abbrev pub EachLineGrows : World → Type 0
EachLineGrows w = (region colour n : ℕ)
    → IsPrefix (line (take n (w.histories region colour))) (line (w.histories region colour))

-- more steps only add to histories, lines and nodes
abbrev pub LogGrows : World → Type 0
LogGrows w = (more : List Step) → IsLater (log_of w) (log_of (run_steps w more))

-- a row keeps its node, each mark that it has, and its outcome once it is decided
pub record RowGrows (old new : RowState) : Type 0 where
  pub node : new.node ≡ old.node
  pub marks : (colour : ℕ) → old.marks colour ≢ marks.None → new.marks colour ≡ old.marks colour
  pub last : old.last ≢ Open → new.last ≡ old.last

-- whatever steps come, a begun row stays begun and keeps what it has
abbrev pub RowsStay : World → Type 0
RowsStay w = (more : List Step) (row : Row) → IsTrue (is_begun w row)
    → IsTrue (is_begun (run_steps w more) row) × RowGrows (row_of w row) (row_of (run_steps w more) row)

-- What is lawful

-- each history is one that a column may have
abbrev pub HaveLawfulHistories : World → Type 0
HaveLawfulHistories w = (region colour : ℕ)
    → IsColumnHistory region w.shape.regions (dated region (w.histories region colour))

-- the rows of each region are lawful beside the histories of its columns
abbrev pub HaveLawfulRows : World → Type 0
HaveLawfulRows w = (region : ℕ) → AreLawfulRows region w.shape.colours (w.histories region) (rows_of_region w region)

-- clocks, floors, counts and rows keep their bounds
pub record IsBounded (w : World) : Type 0 where
  pub clocks : (region colour : ℕ) → clock (w.histories region colour) ≤ last_stamp
  pub floors : (client : ℕ) → (w.clients client).floor ≤ last_stamp
  pub counts : (client : ℕ) → (w.clients client).count ≤ (w.clients client).floor + (w.clients client).used
  pub used : (client : ℕ) → (w.clients client).used ≤ w.shape.rows

-- Nodes

-- the node of a single that stands in the history of a column: its client made the entry, and it has what that says
pub record HasSingleNode (w : World) (region colour by : ℕ) (id : Id) (floor : ℕ) (wants : Counts) : Type 0 where
  pub node : Node
  pub listed : slice_get (w.nodes id.client) id.count ≡ Some node
  pub maker : by ≡ id.client
  pub in_region : node.region ≡ region
  pub of_colour : node.colours ≡ set_of (colour ∷ [])
  pub floor_is : node.floor ≡ floor
  pub wants_is : node.wants ≡ wants ∷ []
  pub no_row : node.row ≡ None

-- each client's nodes are listed in the order of their ids, and rows and singles are of nodes that are listed
pub record HasNodes (w : World) : Type 0 where
  pub ids : (client n : ℕ) (node : Node) → slice_get (w.nodes client) n ≡ Some node
      → node.id ≡ record { client = client; count = n }
  pub counts : (client : ℕ) → length (w.nodes client) ≡ (w.clients client).count
  pub rows : (row : Row) → IsTrue (is_begun w row)
      → slice_get (w.nodes row.client) (row_of w row).node.id.count ≡ Some (row_of w row).node
  pub singles : (region colour : ℕ) (e : Entry) (id : Id) (floor : ℕ) (wants : Counts)
      → Contains (w.histories region colour) e → e.event ≡ events.Single id floor wants
      → HasSingleNode w region colour e.by id floor wants

-- Cuts

-- what an event's node wants of its column
abbrev pub wants_in : Event → Counts
wants_in (events.Single id floor wants) = wants
wants_in (events.Propose id floor wants) = wants
wants_in (events.Settle _ _) = zeros
wants_in (events.Raise _) = zeros
wants_in (events.Give _ _) = zeros
wants_in (events.Carry _ _ _) = zeros
wants_in (events.Trim _) = zeros

-- what is played and wanted is within the cuts
pub record StaysWithinCuts (w : World) : Type 0 where
  -- what each node wants is within the cut by which it entered, so it needs all that it wants
  pub entered : (region colour n : ℕ) (d : Dated) → slice_get (dated region (w.histories region colour)) n ≡ Some d
      → IsWithin (wants_in d.entry.event) d.cut_before
  -- what a client has played is within the cut of its region's column
  pub played : (client colour : ℕ)
      → IsWithin ((w.clients client).played colour) (cut_after (home_of w client) (home_history w client colour))
  -- so is what the node of a begun row wants
  pub begun : (row : Row) (colour : ℕ) → IsTrue (is_begun w row)
      → IsWithin (node_wants (row_of w row).node colour) (cut_after (home_of w row.client) (row_history w row colour))
  -- so is what is trimmed
  pub trimmed : (region colour : ℕ)
      → IsWithin (base_after w.shape.regions region (w.histories region colour))
      (cut_after region (w.histories region colour))
  -- each own line lies wholly within the cut
  pub own_line : (region colour : ℕ) → region < 4
      → at (cut_after region (w.histories region colour)) region ≡ length (line (w.histories region colour))

-- Copies

-- what each region holds of another one's chain is a true copy
abbrev pub CopiesAreTrue : World → Type 0
CopiesAreTrue w =
    (colour : ℕ) → AreTrueCopies w.shape.regions (λ region. dated region (w.histories region colour))

-- every other region holds the own nodes that a column has trimmed
abbrev pub TrimmedIsHeld : World → Type 0
TrimmedIsHeld w = (origin region colour : ℕ) → origin < w.shape.regions → region < w.shape.regions → origin ≢ region
    → at (base_after w.shape.regions origin (w.histories origin colour)) origin ≤ held_of w origin region colour
