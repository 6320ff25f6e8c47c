-- Stamped reads, and scans.
use Rattle.std.specs.Prelude.{ℕ, ◌+◌, max, nat_lt, List, [], ◌∷◌, length, map, Option, Some, None, if◌then◌else◌}
use Rattle.log_node.specs.declared.ids.Counts.{Counts}
use Rattle.log_node.specs.declared.ids.Key.{Key}
use Rattle.log_node.specs.Seen.{PlacedNode}
use Rattle.log_node.specs.Outcomes.{greatest}
use Rattle.log_node.specs.Vectors.{zeros}
use Rattle.col_core.specs.History.{clock, line, entry_key}
use Rattle.playback.specs.Merging.{region_order}
use Rattle.world_laws.specs.declared.steps.Step.TheVariants.{Raise, Play, Seen}
use Rattle.world_laws.specs.Worlds.{World, home_of, home_history, base_after, played_cut, after, may_play}
use Rattle.script_text.specs.declared.script.Command.{Command}
use Rattle.report_text.specs.declared.report.Answer.{Answer}
use Rattle.report_text.specs.declared.report.Answer.TheVariants as answers
use Rattle.report_text.specs.declared.report.RaisePiece.{RaisePiece}
use Rattle.report_text.specs.declared.report.SyncPiece.{SyncPiece}
use Rattle.script_meaning.specs.States.{State, Grants, answered}
use Rattle.script_meaning.specs.Helping.{all_cleared}
use Rattle.script_meaning.specs.Moves.{node_placed, next_at}

-- the stamp of a read: the greatest of the client's floor and the clocks of its colours
abbrev pub read_stamp : World → ℕ → List ℕ → ℕ
read_stamp w client colours =
    max (w.clients client).floor (greatest (map (λ colour. clock (home_history w client colour)) colours))

-- a raise to the stamp: an event where the clock is smaller, and else a look
abbrev pub raise_in : World → ℕ → ℕ → ℕ → RaisePiece
raise_in w client stamp colour = record {
  colour = colour;
  at = next_at (home_history w client colour) (nat_lt (clock (home_history w client colour)) stamp);
}

-- the look of a sync
abbrev pub sync_in : World → ℕ → ℕ → SyncPiece
sync_in w client colour = record {
  colour = colour;
  events = length (home_history w client colour);
  counts = played_cut w client colour;
}

-- the least key above a stamp
abbrev pub key_above : ℕ → Key
key_above stamp = entry_key (stamp + 1) (record { client = 0; count = 0 })

-- how far a read came with its colours: the world then, and the colour at which it stopped
pub record Progress : Type 0 where
  pub world : World
  pub stopped : Option ℕ

-- The columns of these colours are raised to the stamp, up to the first for which no memory is granted.
abbrev pub raised : Grants → ℕ → ℕ → World → List ℕ → Progress
raised grants client stamp w [] = record { world = w; stopped = None }
raised grants client stamp w (colour ∷ colours) =
    if grants.raises colour then
    raised grants client stamp (after w (Raise client (home_of w client) colour stamp)) colours
    else record { world = w; stopped = Some colour }

-- The client plays these colours, up to the first of which a node that it has not played is trimmed.
abbrev pub played : ℕ → World → List ℕ → Progress
played client w [] = record { world = w; stopped = None }
played client w (colour ∷ colours) =
    if may_play w client colour then played client (after w (Play client colour)) colours
    else record { world = w; stopped = Some colour }

-- the own lines of the colours up to the stamp, as one
abbrev pub keys_read : World → ℕ → ℕ → List ℕ → List Key
keys_read w client stamp colours = region_order stamp (map (λ colour. line (home_history w client colour)) colours)

-- how a stamped read ends
pub data ReadEnd : Type 0 where
  -- it has a stamp, a raise and a sync of each colour, and keys
  Whole : (stamp : ℕ) (raises : List RaisePiece) (syncs : List SyncPiece) (keys : List Key) → ReadEnd
  -- the play of this colour was refused, with the base of its column
  Refused : (colour : ℕ) (base : Counts) → ReadEnd
  -- a raise was granted no memory
  Unraised : ReadEnd

-- what a stamped read did
pub record StampedRead : Type 0 where
  pub world : World
  pub ends : ReadEnd

-- A read that began in one world, has cleared its columns in a second and has played in a third: where all is played,
-- the client has seen the stamp.
abbrev pub read_after_plays : ℕ → List ℕ → World → World → World → Option ℕ → StampedRead
read_after_plays client colours first clear last None =
    let stamp = read_stamp first client colours in
    let seen = after last (Seen client stamp) in record {
      world = seen;
      ends = Whole stamp (map (raise_in first client stamp) colours) (map (sync_in clear client) colours)
          (keys_read seen client stamp colours);
    }
read_after_plays client colours first clear last (Some colour) = record {
  world = last;
  ends = Refused colour (base_after last.shape.regions (home_of last client) (home_history last client colour));
}

-- A read that has raised its columns: each is cleared of what is open up to the stamp, and then played.
abbrev pub read_after_raises : Grants → ℕ → List ℕ → World → World → Option ℕ → StampedRead
read_after_raises grants client colours first last None =
    let clear = all_cleared grants client (key_above (read_stamp first client colours)) colours last in
    let p = played client clear colours in
    read_after_plays client colours first clear p.world p.stopped
read_after_raises grants client colours first last (Some colour) = record { world = last; ends = Unraised }

-- A stamped read of colours, by a client.
abbrev pub stamped_read : Grants → World → ℕ → List ℕ → StampedRead
stamped_read grants w client colours =
    let p = raised grants client (read_stamp w client colours) w colours in
    read_after_raises grants client colours w p.world p.stopped

-- a node that is read, with what its client appended; its needs are not looked up
abbrev pub shown_key : World → Key → PlacedNode
shown_key w key = node_placed w (record { key = key; needs = zeros })

-- What a command comes to that makes a stamped read, by how that ended: one that is whole by its stamp, raises, syncs and
-- keys, where memory for what is made of them is granted.
abbrev pub ended_so : Grants → State → Command → (ℕ → List RaisePiece → List SyncPiece → List Key → State) → World
    → ReadEnd → State
ended_so grants state command whole w (Whole stamp raises syncs keys) =
    if grants.items then whole stamp raises syncs keys else answered state command w answers.NoMemory []
ended_so grants state command whole w (Refused colour base) =
    answered state command w (answers.Trimmed colour base) []
ended_so grants state command whole w Unraised = answered state command w answers.NoMemory []

-- How it is answered: one that is whole with nodes that are shown of its keys.
abbrev pub ended_by : Grants → State → Command → (ℕ → List RaisePiece → List SyncPiece → List Key → Answer)
    → (List Key → List PlacedNode) → World → ReadEnd → State
ended_by grants state command answer shown w ends =
    ended_so grants state command
    (λ stamp raises syncs keys. answered state command w (answer stamp raises syncs keys) (shown keys)) w ends

-- the answer to a scan that is whole
abbrev pub scan_answer : ℕ → List RaisePiece → List SyncPiece → List Key → Answer
scan_answer stamp raises syncs keys = answers.Scanned stamp (length keys) raises syncs

-- a scan
abbrev pub scanned : Grants → State → Command → List ℕ → State
scanned grants state command colours =
    let read = stamped_read grants state.world command.client colours in
    ended_by grants state command scan_answer (map (shown_key read.world)) read.world read.ends
