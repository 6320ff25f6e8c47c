-- Writers, each with a pass of its own.
use Rattle.std.specs.Prelude.{◌≡◌, ℕ, List, Some, slice_get}
use Rattle.turn_cell.specs.declared.cell.Cell.{Cell}
use Rattle.turn_cell.specs.Cells.{IsNumbered}
use Rattle.bench.specs.declared.turns.tally.Tally.{Tally}
use Rattle.bench.specs.declared.turns.writers.Writer.{Writer}

-- the tag of a tally, which says nothing
abbrev pub no_tag : {P : Type 0} → Tally P → Unit {0}
no_tag t = tt

-- a tally that writers change by turns
abbrev pub TallyCell : Type 0 → Type 0
TallyCell P = Cell (Tally P) ℕ (Unit {0})

-- its pass is one of this cell, does not hold the turn, and has its number
abbrev pub IsWriter : {P : Type 0} → TallyCell P → Writer P → Type 0
IsWriter c w = IsNumbered no_tag c w.by w.pass

-- each is a writer of the cell
abbrev pub AreWriters : {P : Type 0} → TallyCell P → List (Writer P) → Type 0
AreWriters {P} c ws = (k : ℕ) (w : Writer P) → slice_get ws k ≡ Some w → IsWriter c w
