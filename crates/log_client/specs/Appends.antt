-- Appends, over the client before and after. What explains them is said over the log: lawful_run.
use Rattle.std.specs.Prelude.{◌≡◌, ◌≢◌, ◌⊎◌, ℕ, true, ◌+◌, ◌*◌, ◌<◌, ◌≤◌, List, length, map, Option, Some, None, Result, Err}
use Rattle.log_node.specs.declared.ids.Colours.{Colours}
use Rattle.log_node.specs.declared.node.Node.{Node}
use Rattle.log_node.specs.Sets.{has, members}
use Rattle.col_core.specs.Log.{Log}
use Rattle.col_core.specs.Keeping.{Kept, with_made, with_row}
use Rattle.report_text.specs.declared.report.PointPiece.{PointPiece}
use Rattle.lawful_run.specs.Callers.{Caller, node_of, row_taken}
use Rattle.lawful_run.specs.Appends.{Appends, HasNoStamp, HasNoRowLeft, IsGoneForMemory}
use Rattle.lawful_run.specs.Stops.{Stops}
use Rattle.append_core.specs.declared.stood.Point.{Point}
use Rattle.append_core.specs.declared.several.MultiFault.{MultiFault}
use Rattle.append_core.specs.declared.several.MultiFault.TheVariants as faults
use Rattle.log_client.specs.declared.store.Store.{Store}
use Rattle.log_client.specs.declared.client.Client.{Client}
use Rattle.log_client.specs.declared.answers.Appended.{Appended}
use Rattle.log_client.specs.Clients.{nodes_of_rows, starts_of}
use Rattle.log_client.specs.Calls.{IsExplained}

-- one colour or more, all of the store
pub record AreColoursOf (s : Store) (colours : Colours) : Type 0 where
  pub some : 0 < length (members colours)
  pub within : (c : ℕ) → has colours c ≡ true → c < s.size.colours

-- a stop may be asked of several colours alone, after so many of the 2k + 2 steps of an append to k colours
abbrev pub IsStopWithin : Colours → ℕ → Type 0
IsStopWithin colours steps = (2 ≤ length (members colours)) × (steps ≤ 2 * length (members colours) + 2)

-- the node of these colours and this text that the client appends next
abbrev pub next_node : Client → Colours → List ℕ → Node
next_node c colours text = record {
  id = record { client = c.number; count = c.count };
  region = c.region;
  colours = colours;
  text = text;
  floor = c.floor;
  wants = map (starts_of c) (members colours);
  row = row_taken c.number (length (nodes_of_rows c)) (members colours);
}

-- a point as a reply shows it
abbrev pub piece_of : Point → PointPiece
piece_of p = record { colour = p.colour; at = p.at; position = p.position }

-- the node of these colours and this text stands where the answer says
abbrev pub AppendsAs : Colours → List ℕ → Appended → Log → Caller → Kept → Kept → Type 0
AppendsAs colours text a log caller kept after =
    (a.id ≡ (node_of caller kept colours text).id) × (a.stood.key.id ≡ a.id)
    × Appends log caller kept (node_of caller kept colours text) a.stood.key.stamp a.row (map piece_of a.stood.points) after

-- The client has begun all its rows, and these are so many; it asks for several colours, and for no stop before the first
-- step, which is answered before anything is tried.
pub record HasNoRow (s : Store) (c : Client) (colours : Colours) (stop : Option ℕ) (used : ℕ) : Type 0 where
  pub several : 2 ≤ length (members colours)
  pub not_at_once : stop ≢ Some 0
  pub all : length (nodes_of_rows c) ≡ s.size.rows
  pub shown : used ≡ length (nodes_of_rows c)

-- Want of memory: nothing was done; or the row of an append to several colours, of which no stop was asked, is gone.
abbrev pub AppendFindsNoMemory : Colours → List ℕ → Option ℕ → Log → Caller → Kept → Kept → Type 0
AppendFindsNoMemory colours text stop log caller kept after =
    (after ≡ kept)
    ⊎ ((stop ≡ None) × (places : ℕ → List ℕ)
    × IsGoneForMemory log caller kept (node_of caller kept colours text) places
    × (after ≡ with_made (with_row kept) caller.own places))

-- Why an append does not stand, where a stop was asked for or none: no row was left, and nothing was done; no stamp was
-- left; it stopped as was asked; or memory was refused.
abbrev pub AppendRefused : Store → Client → Client → Colours → List ℕ → Option ℕ → MultiFault → Type 0
AppendRefused s c d colours text stop (faults.Full used) =
    (d ≡ c) × IsExplained s c d (λ log caller kept after. HasNoRowLeft caller kept colours used × (after ≡ kept))
AppendRefused s c d colours text stop (faults.StampEnd colour) =
    (stop ≡ None)
    × IsExplained s c d (λ log caller kept after.
    HasNoStamp log caller kept (node_of caller kept colours text) colour after)
AppendRefused s c d colours text stop (faults.Stopped steps) =
    (stop ≡ Some steps)
    × IsExplained s c d (λ log caller kept after. Stops log caller kept (node_of caller kept colours text) steps after)
AppendRefused s c d colours text stop faults.NoMemory = IsExplained s c d (AppendFindsNoMemory colours text stop)

-- the append stopped after a step, and may have left its node open
abbrev pub AppendStopped : Result Appended MultiFault → Type 0
AppendStopped result = (steps : ℕ) × (0 < steps) × (result ≡ Err (faults.Stopped steps))
