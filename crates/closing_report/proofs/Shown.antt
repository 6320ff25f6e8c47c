-- Columns that were shown each in its place.
use Rattle.std.proofs.Common.{◌≡◌, ℕ, suc, List, [], ◌∷◌, length, map, Some, refl, ap, sym, subst, arith, ◌∙◌}
use Rattle.std.specs.List.{All}
use Rattle.std.specs.Prelude.{IfSome}
use Rattle.std.proofs.lemmas.List.Elements.{All-map}
use Rattle.column.specs.Columns.{ColumnState}
use Rattle.report_text.specs.declared.report.ColumnReport.{ColumnReport}
use Rattle.closing_report.specs.Columns.{column_shown, HasNames}
use Rattle.closing_report.specs.Places.{open_place, ArePlacesShown}
use Rattle.closing_report.specs.declared.beside.Place.{Place}

-- the columns in their places have names
pub places_named : (regions colours : List (List ℕ)) (columns : List ColumnState) (places : List Place)
    → All (HasNames regions colours) columns → places ≡ map open_place columns
    → All (λ (place : Place). IfSome place.column (HasNames regions colours)) places
places_named regions colours columns places named are =
    subst (All (λ (place : Place). IfSome place.column (HasNames regions colours))) (sym are)
    (All-map (λ (place : Place). IfSome place.column (HasNames regions colours)) open_place columns named)

-- where something is shown in each place, it is what is shown of the columns
pub all_shown : (regions colours : List (List ℕ)) (columns : List ColumnState) (reports : List ColumnReport) (after : List Place)
    → ArePlacesShown regions colours (map open_place columns) after → map Some reports ≡ map (λ (place : Place). place.shown) after
    → reports ≡ map (column_shown regions colours) columns
all_shown regions colours [] [] [] are same = refl
all_shown regions colours [] (report ∷ reports) [] are same = absurd (let f : ⊥ = cc (same) in f)
all_shown regions colours [] reports (y ∷ after) are same = absurd (let many = are.many in let f : ⊥ = omega (arith, many) in f)
all_shown regions colours (c ∷ columns) reports [] are same = absurd (let many = are.many in let f : ⊥ = omega (arith, many) in f)
all_shown regions colours (c ∷ columns) [] (y ∷ after) are same = absurd (let f : ⊥ = cc (same) in f)
all_shown regions colours (c ∷ columns) (report ∷ reports) (y ∷ after) are same =
    let first : Some report ≡ y.shown = cc (same) in
    let rest : map Some reports ≡ map (λ (place : Place). place.shown) after = cc (same) in
    let is : report ≡ column_shown regions colours c =
    subst (λ o. IfSome o (λ r. r ≡ column_shown regions colours c)) (sym first) (are.each 0 (open_place c) y refl refl c refl) in
    let many = are.many in
    ap (λ r. r ∷ reports) is
    ∙ ap (λ (l : List ColumnReport). column_shown regions colours c ∷ l)
    (all_shown regions colours columns reports after
    (record { many = omega (arith, many); each = λ n x z at there. are.each (suc n) x z at there }) rest)
