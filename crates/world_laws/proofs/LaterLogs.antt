-- The log of a world after more steps is a later one.
use Rattle.std.proofs.Common.{◌≡◌, ℕ, List, [], ◌∷◌, map, refl, subst, ap, sym, ◌∙◌}
use Rattle.std.specs.Prelude.{slice_index}
use Rattle.std.specs.List.{AllZip, Contains}
use Rattle.log_node.specs.declared.node.Node.{Node}
use Rattle.log_node.specs.declared.node.Shape.{Shape}
use Rattle.log_node.specs.Sets.{members}
use Rattle.col_core.specs.Rows.{BegunRow}
use Rattle.col_core.specs.Log.{IsLaterMark, IsLaterRow}
use Rattle.col_core.proofs.CallerLemmas.{later_by_growth}
use Rattle.world_laws.specs.Worlds.{World, RowState, home_of, run_steps}
use Rattle.world_laws.specs.Laws.{RowGrows, log_of, LogGrows, rows_of_region}
use Rattle.world_laws.proofs.Basics.{in_contains, contains_in}
use Rattle.world_laws.proofs.Held.{Held}
use Rattle.world_laws.proofs.Told.{Told}
use Rattle.world_laws.proofs.Growing.{Grows, run_grows}
use Rattle.world_laws.proofs.Runs.{run_held}
use Rattle.world_laws.proofs.Telling.{run_told}
use Rattle.world_laws.proofs.RegionRows.{row_in, of_region, row_stands}

marks_later : (r s : RowState) → RowGrows r s → (colours : List ℕ)
    → AllZip IsLaterMark (map (λ colour. record { colour = colour; mark = r.marks colour }) colours)
    (map (λ colour. record { colour = colour; mark = s.marks colour }) colours)
marks_later r s g [] = tt
marks_later r s g (c ∷ cs) = ((refl, λ set. g.marks c set), marks_later r s g cs)

row_later : (w w' : World) (a n : ℕ) → RowGrows (w.rows a n) (w'.rows a n) → IsLaterRow (row_in w a n) (row_in w' a n)
row_later w w' a n g = record {
  row = refl;
  node = g.node;
  marks = subst (λ (node : Node). AllZip IsLaterMark (row_in w a n).marks
      (map (λ colour. record { colour = colour; mark = (w'.rows a n).marks colour }) (members node.colours)))
      (sym g.node) (marks_later (w.rows a n) (w'.rows a n) g (members (w.rows a n).node.colours));
  last = g.last;
}

rows_later : (w w' : World) → Grows w w' → Told w' → (region : ℕ) (r : BegunRow) → Contains (rows_of_region w region) r
    → (s : BegunRow) × Contains (rows_of_region w' region) s × IsLaterRow r s
rows_later w w' g t region r c =
    let x = of_region w region r (in_contains (rows_of_region w region) r c) in
    let a = x.0 in
    let o = x.1 in (
      row_in w' a o.number,
      contains_in (rows_of_region w' region) (row_in w' a o.number)
          (row_stands w' t region a o.number (g.used a o.number o.begun) (same_home a ∙ o.home)),
      subst (λ (y : BegunRow). IsLaterRow y (row_in w' a o.number)) o.is
          (row_later w w' a o.number (g.rows a o.number o.begun)),
    ) where
      same_home : (a : ℕ) → home_of w' a ≡ home_of w a
      same_home a = ap (λ (shape : Shape). slice_index shape.homes a) g.shape

pub log_grows : (w : World) → Held w → Told w → LogGrows w
log_grows w h t more =
    let g = run_grows w more in
    let w' = run_steps w more in
    later_by_growth w'.shape.regions (log_of w) (log_of w') g.histories g.nodes
    (rows_later w w' g (run_told w h t more)) (run_held w h more).lawful
