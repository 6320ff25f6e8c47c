-- The rows of a log, read off those of a report.
use Rattle.std.proofs.Common.{◌≡◌, ℕ, zero, suc, List, [], ◌∷◌, ◌++◌, map, refl, ap, sym, subst, arith, lit<}
use Rattle.std.specs.List.{All, Contains}
use Rattle.log_node.specs.declared.node.Node.{Node}
use Rattle.col_core.specs.Rows.{BegunRow}
use Rattle.report_text.specs.declared.report.RowReport.{RowReport}
use Rattle.lawful_run.specs.Columns.{row_report}

-- a row that is shown so, for this node
abbrev pub begun : RowReport → Node → BegunRow
begun shown node = record { row = shown.row; node = node; marks = shown.marks; last = shown.last }

-- the rows are one, which is shown so
pub record OneRow (rows : List BegunRow) (shown : RowReport) : Type 0 where
  pub node : Node
  pub rows_are : rows ≡ begun shown node ∷ []
  pub id_is : node.id ≡ shown.id

pub record TwoRows (rows : List BegunRow) (one other : RowReport) : Type 0 where
  pub node : Node
  pub next : Node
  pub rows_are : rows ≡ begun one node ∷ begun other next ∷ []
  pub id_is : node.id ≡ one.id
  pub next_is : next.id ≡ other.id

pub no_row : (region : ℕ) (rows : List BegunRow) → [] ≡ map (row_report region) rows ++ [] → rows ≡ []
no_row region [] h = refl
no_row region (r ∷ rs) h = absurd (let f : ⊥ = cc (h) in f)

pub one_row : (region : ℕ) (rows : List BegunRow) (shown : RowReport)
    → shown ∷ [] ≡ map (row_report region) rows ++ [] → OneRow rows shown
one_row region [] shown h = absurd (let f : ⊥ = cc (h) in f)
one_row region (r ∷ []) shown h =
    let s : row_report region r ≡ shown = cc (h) in
    subst (OneRow (r ∷ [])) s (record { node = r.node; rows_are = refl; id_is = refl })
one_row region (r ∷ s ∷ rs) shown h = absurd (let f : ⊥ = cc (h) in f)

pub two_rows : (region : ℕ) (rows : List BegunRow) (one other : RowReport)
    → one ∷ other ∷ [] ≡ map (row_report region) rows ++ []
    → TwoRows rows one other
two_rows region [] one other h = absurd (let f : ⊥ = cc (h) in f)
two_rows region (r ∷ []) one other h = absurd (let f : ⊥ = cc (h) in f)
two_rows region (r ∷ s ∷ []) one other h =
    let p : row_report region r ≡ one = cc (h) in
    let q : row_report region s ≡ other = cc (h) in
    subst (λ o. TwoRows (r ∷ s ∷ []) one o) q (subst (λ o. TwoRows (r ∷ s ∷ []) o (row_report region s)) p
    (record { node = r.node; next = s.node; rows_are = refl; id_is = refl; next_is = refl }))
two_rows region (r ∷ s ∷ t ∷ rs) one other h = absurd (let f : ⊥ = cc (h) in f)

-- the rows of the second region, where the first has none that is shown
pub second_row : (first second : List BegunRow) (shown : RowReport) → shown.region ≡ 1
    → shown ∷ [] ≡ map (row_report 0) first ++ (map (row_report 1) second ++ []) → OneRow second shown
second_row [] second shown is h = one_row 1 second shown h
second_row (r ∷ rs) second shown is h =
    absurd (let s : row_report 0 r ≡ shown = cc (h) in let f : 0 ≡ shown.region =
    ap (λ (t : RowReport). t.region) s in omega (arith, f, is))

-- what holds of all rows holds of the one
pub at_row : {rows : List BegunRow} {shown : RowReport} (P : BegunRow → Type 0) (one : OneRow rows shown)
    → All P rows → P (begun shown one.node)
at_row {rows} {shown} P one all = subst (All P) one.rows_are all 0 (begun shown one.node) (lit< tt)

pub in_rows : {rows : List BegunRow} {shown : RowReport} (one : OneRow rows shown)
    → Contains rows (begun shown one.node)
in_rows {rows} {shown} one =
    subst (λ (rows : List BegunRow). Contains rows (begun shown one.node)) (sym one.rows_are) (0, lit< tt, refl)

-- the row among one
pub only_row : (r s : BegunRow) → Contains (r ∷ []) s → r ≡ s
only_row r s (zero, lt, same) = same
only_row r s (suc k, lt, same) = absurd (let f : ⊥ = omega (arith, lt) in f)
