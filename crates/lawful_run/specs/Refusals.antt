-- What a command that found no memory may have done, and when an object's home refuses.
use Rattle.std.specs.Prelude.{◌≡◌, ◌≢◌, ◌⊎◌, ℕ, List, [], ◌∷◌, Option, Some, None}
use Rattle.std.specs.List.{Contains}
use Rattle.log_node.specs.declared.ids.Colours.{Colours}
use Rattle.log_node.specs.declared.ids.Counts.{Counts}
use Rattle.col_core.specs.Log.{Log}
use Rattle.col_core.specs.Keeping.{Kept, with_made, with_row, with_read}
use Rattle.script_text.specs.declared.commands.What.{What}
use Rattle.script_text.specs.declared.commands.What.TheVariants as whats
use Rattle.script_text.specs.declared.uses.ReadUse.TheVariants.{Takes, UsesUp}
use Rattle.script_text.specs.declared.uses.Use.{Use}
use Rattle.script_text.specs.declared.uses.Use.TheVariants.{OfObject}
use Rattle.script_text.specs.Commands.{use_of}
use Rattle.report_text.specs.declared.report.Answer.{Answer}
use Rattle.report_text.specs.declared.report.Answer.TheVariants as answers
use Rattle.lawful_run.specs.Callers.{Caller, node_of}
use Rattle.lawful_run.specs.Asks.{Manner, Appending, Guarding, Stopping, Syncing, Moving, Getting, Reading, Committing, Dequeuing, Deciding}
use Rattle.lawful_run.specs.Deeds.{AsksToAppend, colours_synced, manner_of}
use Rattle.lawful_run.specs.Appends.{IsGoneForMemory}
use Rattle.lawful_run.specs.Reads.{HidesSyncs, HidesRead, IsTrimmed, RefusesRead}
use Rattle.lawful_run.specs.Moves.{OnlyGives, kept_after_giving}

-- What a decide may have done that its answer does not show, by the colours that it syncs: it played the first, and then
-- perhaps made a stamped read of the others.
abbrev pub HidesDecide : Log → Caller → Kept → List ℕ → Kept → Type 0
HidesDecide log caller kept [] after = ⊥
HidesDecide log caller kept (first ∷ all) after =
    (played : Kept) × HidesSyncs log caller kept (first ∷ []) played
    × ((after ≡ played) ⊎ HidesRead log caller played all after)

-- How a decide was refused in this colour: in its first sync, or behind that in the stamped read.
abbrev pub RefusesDecide : Log → Caller → Kept → List ℕ → ℕ → Counts → Kept → Type 0
RefusesDecide log caller kept [] colour base after = ⊥
RefusesDecide log caller kept (first ∷ all) colour base after =
    ((colour ≡ first) × IsTrimmed log caller kept colour base × (after ≡ kept))
    ⊎ ((played : Kept) × HidesSyncs log caller kept (first ∷ []) played
    × RefusesRead log caller played all colour base after)

-- What a command of this manner may have done in its syncs of these colours that its answer does not show, as where it
-- found no memory; and what its client then keeps.
abbrev pub Hides : Log → Caller → Kept → List ℕ → Manner → Kept → Type 0
Hides log caller kept colours Appending after = after ≡ kept
Hides log caller kept colours Guarding after = after ≡ kept
Hides log caller kept colours Stopping after = after ≡ kept
Hides log caller kept colours Syncing after = after ≡ kept
Hides log caller kept colours Moving after = after ≡ kept
Hides log caller kept colours Getting after = HidesSyncs log caller kept colours after
Hides log caller kept colours Reading after = HidesRead log caller kept colours after
Hides log caller kept colours Committing after = HidesRead log caller kept colours after
Hides log caller kept colours Dequeuing after = HidesSyncs log caller kept colours after
Hides log caller kept colours Deciding after = HidesDecide log caller kept colours after

-- What a command of this manner did that was refused in this one of the colours that it syncs, since nodes that its client
-- lacks are trimmed there, as the base shows; and what its client then keeps. Only a command that syncs is refused so.
abbrev pub Refuses : Log → Caller → Kept → List ℕ → Manner → ℕ → Counts → Kept → Type 0
Refuses log caller kept colours Appending colour base after = ⊥
Refuses log caller kept colours Guarding colour base after = ⊥
Refuses log caller kept colours Stopping colour base after = ⊥
Refuses log caller kept colours Syncing colour base after =
    Contains colours colour × IsTrimmed log caller kept colour base × (after ≡ kept)
Refuses log caller kept colours Moving colour base after = ⊥
Refuses log caller kept colours Getting colour base after =
    Contains colours colour × IsTrimmed log caller kept colour base × HidesSyncs log caller kept colours after
Refuses log caller kept colours Reading colour base after = RefusesRead log caller kept colours colour base after
Refuses log caller kept colours Committing colour base after = RefusesRead log caller kept colours colour base after
Refuses log caller kept colours Dequeuing colour base after =
    Contains colours colour × IsTrimmed log caller kept colour base × HidesSyncs log caller kept colours after
Refuses log caller kept colours Deciding colour base after = RefusesDecide log caller kept colours colour base after

-- What a command may have done that was answered with want of memory, and what its client then keeps.
pub data FindsNoMemory (log : Log) (caller : Caller) (kept : Kept) (what : What) : Kept → Type 0 where
  -- nothing
  nothing : FindsNoMemory log caller kept what kept
  -- an append to several colours: its row is gone
  gone : (colours : Colours) (text : List ℕ) (places : ℕ → List ℕ) → AsksToAppend caller kept what colours text
      → IsGoneForMemory log caller kept (node_of caller kept colours text) places
      → FindsNoMemory log caller kept what (with_made (with_row kept) caller.own places)
  -- a pull: it gave, once or again and again, and carried nothing
  gave : (region colour looked : ℕ) (too_low gives : List ℕ) → what ≡ whats.Pull region colour
      → OnlyGives log caller kept region colour looked too_low gives
      → FindsNoMemory log caller kept what (kept_after_giving kept caller.own region colour looked too_low gives)
  -- a command that syncs or makes a stamped read
  hidden : (after : Kept) → Hides log caller kept (colours_synced caller what) (manner_of what) after
      → FindsNoMemory log caller kept what after

-- The object of the command has a home, and the client is in another region.
abbrev pub IsAway : Caller → Option ℕ → Type 0
IsAway caller None = ⊥
IsAway caller (Some home) = caller.own ≢ home

-- what a client that is away is answered
abbrev pub IsHomeRefusal : Answer → Type 0
IsHomeRefusal answer = (answer ≡ answers.NoMemory) ⊎ ((home : ℕ) × (answer ≡ answers.NotHome home))

-- A read lets the object's earlier read go.
abbrev pub before_by : Use → Kept → Kept
before_by (OfObject object Takes) kept = with_read kept object None
before_by _ kept = kept

-- what the client keeps while the command is answered: a read lets an earlier one of its object go
abbrev pub kept_before : What → Kept → Kept
kept_before what kept = before_by (use_of what) kept

-- A commit uses its read up, whatever it is answered.
abbrev pub behind_by : Use → Kept → Kept
behind_by (OfObject object UsesUp) kept = with_read kept object None
behind_by _ kept = kept

-- what it keeps behind the answer: a commit has used its read up
abbrev pub kept_behind : What → Kept → Kept
kept_behind what kept = behind_by (use_of what) kept
