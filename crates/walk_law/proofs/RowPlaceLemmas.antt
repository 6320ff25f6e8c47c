-- The places of rows: what a map has of them, and one row more.
use Rattle.std.proofs.Common.{◌≡◌, ◌⊎◌, ℕ, ◌+◌, ◌<◌, Bool, true, false, ◌&&◌, ◌==◌, cond, List, [], ◌∷◌, length, drop, Option, Some, None, inl, inr, refl, ap, sym, ◌∙◌, arith, get_or}
use Rattle.std.specs.Prelude.{slice_get}
use Rattle.std.specs.Ordering.{is_eq, nat_cmp}
use Rattle.std.specs.List.{find}
use Rattle.std.specs.Map.{lookup}
use Rattle.std.specs.Option.{option_map}
use Rattle.std.proofs.lemmas.Bool.{cases_Bool}
use Rattle.std.proofs.lemmas.List.{drop_more, drop_all}
use Rattle.std.proofs.lemmas.Option.{slice_get_read}
use Rattle.log_node.specs.declared.ids.Id.{Id}
use Rattle.log_node.specs.contracts.ids.IdOrd.TheImpl.{cmp-value as id-cmp}
use Rattle.report_text.specs.declared.report.RowReport.{RowReport}
use Rattle.walk_law.specs.contracts.row_places.RowIdOrd.TheImpl.{cmp-value}
use Rattle.walk_law.specs.declared.row_places.RowId.{RowId}
use Rattle.walk_law.specs.declared.row_places.RowPlaces.{RowPlaces}
use Rattle.walk_law.specs.PlaceTables.{row_with, same_row}
use Rattle.walk_law.specs.RowPlaces.{place_in, row_at}
use Rattle.walk_law.proofs.TableLemmas.{both_same, equal_is_same, same_number}

-- rows stand as equal where they are one
row_same : (a b : RowId) → is_eq (cmp-value.it a b) ≡ same_row b.region b.id a.region a.id
row_same a b =
    both_same (nat_cmp a.region b.region) (id-cmp.it a.id b.id)
    ∙ rw (same_number a.region b.region, equal_is_same a.id b.id) refl

pub place_found : (k : RowId) (es : List (RowId × ℕ))
    → lookup (λ e. is_eq (cmp-value.it k e)) es
    ≡ option_map (λ e. e.1) (find (λ (e : RowId × ℕ). same_row e.0.region e.0.id k.region k.id) es)
place_found k [] = refl
place_found k (e ∷ es) = elim (cases_Bool (same_row e.0.region e.0.id k.region k.id)) [
  | inl here ↦ rw (row_same k e.0, here) refl
  | inr other ↦ rw (row_same k e.0, other) (place_found k es)
]

pub one_place : (old new : RowPlaces) (k : RowId) (place : ℕ)
    → ((other : RowId) → lookup (λ e. is_eq (cmp-value.it other e)) new.by_row.entries
    ≡ cond (is_eq (cmp-value.it k other)) (Some place) (lookup (λ e. is_eq (cmp-value.it other e)) old.by_row.entries))
    → (region : ℕ) (id : Id) → place_in new region id ≡ cond (same_row region id k.region k.id) (Some place) (place_in old region id)
one_place old new k place step region id =
    let q : RowId = record { region = region; id = id } in
    sym (place_found q new.by_row.entries)
    ∙ (step q
    ∙ (ap (λ (b : Bool). cond b (Some place) (lookup (λ e. is_eq (cmp-value.it q e)) old.by_row.entries)) (row_same k q)
    ∙ ap (λ (o : Option ℕ). cond (same_row region id k.region k.id) (Some place) o) (place_found q old.by_row.entries)))

-- what is put in of the rows from here on
abbrev pub AreFrom : List RowReport → ℕ → RowPlaces → Type 0
AreFrom rows at table = (region : ℕ) (id : Id) → row_at rows (place_in table region id) ≡ row_with region id (drop at rows)

-- one row before those
pub place_more : (rows : List RowReport) (at : ℕ) (r : RowReport) (old new : RowPlaces) → at < length rows → r ≡ get_or rows at r
    → ((region : ℕ) (id : Id) → place_in new region id ≡ cond (same_row region id r.region r.id) (Some at) (place_in old region id))
    → AreFrom rows (at + 1) old → AreFrom rows at new
place_more rows at r old new lt is added are = λ region id.
    ap (row_at rows) (added region id)
    ∙ (by region id (same_row region id r.region r.id)
    ∙ ap (row_with region id) (ap (λ (x : RowReport). x ∷ drop (at + 1) rows) is ∙ sym (drop_more rows at r lt)))
  where
    by : (region : ℕ) (id : Id) (b : Bool) → row_at rows (cond b (Some at) (place_in old region id))
        ≡ cond b (Some r) (row_with region id (drop (at + 1) rows))
    by region id true = slice_get_read rows (length rows) at r refl lt is
    by region id false = are region id

pub place_none : (rows : List RowReport) (n : ℕ) (table : RowPlaces) → n ≡ length rows
    → ((region : ℕ) (id : Id) → place_in table region id ≡ None) → AreFrom rows n table
place_none rows n table long none = λ region id.
    ap (row_at rows) (none region id)
    ∙ sym (ap (row_with region id) (drop_all n rows (omega (arith, long))))
