-- What contracts say of a pass that rests.
use Rattle.std.specs.Prelude.{◌≡◌, List, [], Option, Some, None}
use Rattle.atomic_table.specs.Seated.{TableId}
use Rattle.turn_cell.specs.declared.cell.Cell.{Cell}
use Rattle.turn_cell.specs.declared.rest.Rest.{Rest}
use Rattle.turn_cell.specs.declared.view.View.{View}
use Rattle.turn_cell.specs.declared.view.Stage.TheVariants.{Idle}
use Rattle.turn_cell.specs.Cells.{cell_tag}

module _ {E T : Type 0} where
  -- the table of the cell whose pass rests
  abbrev pub rest_table : Rest E T → TableId
  rest_table r = r.perch.table_id

  -- what the pass that rests knows
  abbrev pub rest_view : Rest E T → View E T
  rest_view r = r.perch.view

  -- the tag of that cell
  abbrev pub rest_tag : Rest E T → Option T
  rest_tag r = r.perch.view.tag

  -- the beginning of the history that the pass which rests has seen
  abbrev pub rest_seen : Rest E T → List E
  rest_seen r = r.perch.view.seen

  -- the view of a pass with no number that does not hold the turn
  abbrev pub IsAtRest : View E T → Type 0
  IsAtRest v = (v.stage ≡ Idle) × (v.own ≡ None) × (v.met ≡ [])

  -- the same, of a cell with this tag
  abbrev pub IsListener : T → View E T → Type 0
  IsListener t v = IsAtRest v × (v.tag ≡ Some t)

  -- such a pass rests
  abbrev pub IsRest : T → Rest E T → Type 0
  IsRest t r = IsListener t r.perch.view

-- and it is one of this cell
abbrev pub IsRestOf : {S E T : Type 0} → (S → T) → Cell S E T → Rest E T → Type 0
IsRestOf tag c r = (rest_table r ≡ c.table.shared.table_id) × IsRest (cell_tag tag c) r
