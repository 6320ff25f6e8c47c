-- Copies of a column: what they show, of which column they are, and what their writer keeps.
use Rattle.std.specs.Prelude.{◌≡◌, List, [], fold, Some}
use mathlib.Core.List.{IsPrefix}
use Rattle.log_node.specs.declared.ids.Counts.{Counts}
use Rattle.log_node.specs.Vectors.{zeros}
use Rattle.turn_cell.specs.declared.rest.Rest.{Rest}
use Rattle.turn_cell.specs.declared.view.Stage.TheVariants.{Idle}
use Rattle.turn_cell.specs.Cells.{seen, pass_table, pass_tag}
use Rattle.turn_cell.specs.Rests.{rest_seen, rest_table, rest_tag}
use Rattle.chain_store.specs.declared.told.Tag.{Tag}
use Rattle.chain_store.specs.declared.told.Told.{Told}
use Rattle.chain_store.specs.declared.read_view.name.ColumnName.{ColumnName}
use Rattle.chain_store.specs.declared.read_view.name.Shape.{Shape}
use Rattle.chain_store.specs.declared.read_view.copied.Copied.{Copied}
use Rattle.chain_store.specs.declared.read_view.copied.News.{News}
use Rattle.chain_store.specs.Histories.{HasIds}
use Rattle.chain_store.specs.Passes.{ColumnCell, ColumnPass, IsLawfulTold, ShowsHistory, tag_in}
use Rattle.chain_store.specs.Shown.{shown_view, merged}

-- the column of a pass that rests
abbrev pub column_of_rest : Rest Told Tag → ColumnName
column_of_rest r = record { tag = rest_tag r; table = rest_table r }

-- the column of a pass
abbrev pub column_of : ColumnPass → ColumnName
column_of p = record { tag = pass_tag p; table = pass_table p }

-- the column under these turns
abbrev pub column_in : ColumnCell → ColumnName
column_in c = record { tag = Some (tag_in c); table = c.table.shared.table_id }

-- a pass that has not the turn
abbrev pub IsAside : ColumnPass → Type 0
IsAside p = (p.seat.me.0.stage ≡ Idle) × (p.seat.me.1 ≡ [])

-- what a copy shows
abbrev pub shape_of : Copied → Shape
shape_of c = record { view = shown_view c.shown; seen = rest_seen c.rest; column = column_of_rest c.rest }

-- and what it shows with news
abbrev pub with_news : Shape → News → Shape
with_news s n = record { view = merged s.view n.view; seen = rest_seen n.first; column = column_of_rest n.first }

-- it shows its history, which is a lawful one of its column
pub record IsGood (s : Shape) : Type 0 where
  pub tag : Tag
  pub tagged : s.column.tag ≡ Some tag
  pub lawful : IsLawfulTold tag s.seen
  pub ids : HasIds s.seen
  pub shows : ShowsHistory tag s.seen zeros s.view

-- what the copy shows with all that waits to be published
abbrev pub shape_with : Copied → List News → Shape
shape_with shown pending = fold with_news (shape_of shown) pending

-- The copy is good with all that waits, shows then this cut, and is of the pass's column, of which the pass has seen no less.
pub record IsKept (shown : Copied) (pending : List News) (p : ColumnPass) (cut : Counts) : Type 0 where
  pub good : IsGood (shape_with shown pending)
  pub same : (shape_with shown pending).column ≡ column_of p
  pub shown_of : column_of_rest shown.rest ≡ column_of p
  pub seen_by : IsPrefix (shape_with shown pending).seen (seen p)
  pub cut_is : (shape_with shown pending).view.cut ≡ cut

-- News from this cut on that show what the pass has seen, of its column.
pub record IsNews (n : News) (p : ColumnPass) (cut : Counts) : Type 0 where
  pub tag : Tag
  pub tagged : pass_tag p ≡ Some tag
  pub lawful : IsLawfulTold tag (seen p)
  pub ids : HasIds (seen p)
  pub shows : ShowsHistory tag (seen p) cut n.view
  pub first_seen : rest_seen n.first ≡ seen p
  pub first_of : column_of_rest n.first ≡ column_of p
