-- What a client has of the copies of a region's columns.
use Rattle.std.specs.Prelude.{◌≡◌, ℕ, List, [], length, IfSome, Some, slice_get}
use Rattle.left_right.specs.Sides.{view}
use Rattle.turn_cell.specs.Cells.{IsReady, cell_tag}
use Rattle.chain_store.specs.declared.read_view.name.ColumnName.{ColumnName}
use Rattle.chain_store.specs.declared.read_view.copies.Copies.{Copies}
use Rattle.chain_store.specs.declared.read_view.desk.Share.{Share}
use Rattle.chain_store.specs.declared.read_view.desk.Desk.{Desk}
use Rattle.chain_store.specs.Passes.{ColumnCell}
use Rattle.chain_store.specs.Copies.{column_of, column_in}
use Rattle.chain_store.specs.Shelves.{IsKeptOn}

-- the column of which they are copies
abbrev pub column_copied : Copies → ColumnName
column_copied c = column_of c.pass

-- where there are copies, their writer keeps them
abbrev pub AreKept : Copies → Type 0
AreKept c = IfSome c.shelf (λ s. IsKeptOn s c.pass c.cut)

-- they are a value without a history, of which each turn knows so much
abbrev pub StandsCopied : Copies → List (Unit {0}) → Type 0
StandsCopied c log = (log ≡ []) × AreKept c

-- the copies are of the column under these turns
abbrev pub IsShareOf : ColumnCell → Share → Type 0
IsShareOf c s = cell_tag column_copied s.copies ≡ column_in c

-- the copies of each of the columns, by colour
pub record AreSharesOf (cells : List ColumnCell) (shares : List Share) : Type 0 where
  pub count : length shares ≡ length cells
  pub each : (colour : ℕ) (c : ColumnCell) (s : Share) → slice_get cells colour ≡ Some c → slice_get shares colour ≡ Some s
      → IsShareOf c s

-- a client's pass of the writer's turns, at rest, and its reader, if it has one, which knows the column
pub record IsDesk (s : Share) (d : Desk) : Type 0 where
  pub ready : IsReady column_copied s.copies d.pass
  pub knows : IfSome d.reader (λ r. view r.place ≡ Some (cell_tag column_copied s.copies))

-- one for each of the columns, by colour
pub record HasDesks (shares : List Share) (ds : List Desk) : Type 0 where
  pub count : length ds ≡ length shares
  pub each : (colour : ℕ) (s : Share) (d : Desk) → slice_get shares colour ≡ Some s → slice_get ds colour ≡ Some d → IsDesk s d
