-- The columns of all regions, shown one after another.
use Rattle.std.proofs.Common.{◌≡◌, ◌∙◌, refl, ap, sym, subst, ℕ, suc, ◌+◌, ◌<◌, List, [], ◌∷◌, ◌++◌, Some, length}
use Rattle.std.proofs.Common.{map, get_or, arith, zero-add}
use Rattle.std.specs.Prelude.{slice_get, slice_index_or}
use Rattle.std.specs.List.{All, flat_map, range_with_len, enumerate_from}
use Rattle.std.proofs.lemmas.Option.{get_or_from_slice_get, slice_get-get_or, slice_get_within}
use Rattle.script_text.specs.declared.script.Script.{Script}
use Rattle.report_text.specs.declared.report.ClientReport.{ClientReport}
use Rattle.report_text.specs.declared.report.RowReport.{RowReport}
use Rattle.report_text.specs.declared.report.ColumnReport.{ColumnReport}
use Rattle.report_text.specs.declared.report.Report.{Report}
use Rattle.column.specs.Columns.{ColumnState}
use Rattle.log_node.specs.declared.node.Shape.{Shape}
use Rattle.world_laws.specs.Worlds.{World}
use Rattle.world_code.specs.WorldView.{WorldView, no_column, IsPlaced, IsWhole, column_at, world_of}
use Rattle.closing_report.specs.Columns.{column_shown, HasNames}
use Rattle.script_meaning.specs.Meaning.{column_report, report_of}
use Rattle.script_in_order.specs.Runs.{RunView, state_of}
use Rattle.script_in_order.specs.Reports.{client_shown, columns_shown, region_rows_shown}
use Rattle.script_in_order.proofs.RunReplies.{any_default}

-- the item that is read next
pub next_read : {A : Type 0} (items xs : List A) (n k : ℕ) (x d : A) → items ≡ xs → k ≡ n
    → (n < length items) × (x ≡ get_or items n x) → (k < length xs) × (x ≡ slice_index_or xs k d)
next_read {A} items xs n k x d same place here =
    let low : n < length xs = subst (λ (l : List A). n < length l) same here.0 in (
      omega (arith, low, place),
      here.1 ∙ (ap (λ (l : List A). get_or l n x) same ∙ (any_default xs n x d low ∙ ap (λ (i : ℕ). get_or xs i d)
          (sym place))),
    )

-- the columns of a region, in their places
pub region_placed : (regions : List (List ColumnState)) (region many wide : ℕ) (columns : List ColumnState)
    → columns ≡ slice_index_or regions region [] → region < length regions → length regions ≡ many
    → All (λ (cs : List ColumnState). length cs ≡ wide) regions
    → ((r colour : ℕ) → r < many → colour < wide → IsPlaced (column_at regions r colour) r colour many)
    → (colour : ℕ) (column : ColumnState) → slice_get columns colour ≡ Some column
    → IsPlaced column region colour many
region_placed regions region many wide columns is low all each placed colour column at =
    let long : length columns ≡ wide = ap (λ (cs : List ColumnState). length cs) is ∙ each region [] low in
    let lt : colour < length columns = slice_get_within columns colour column at in
    let here : column_at regions region colour ≡ column =
    ap (λ (cs : List ColumnState). slice_index_or cs colour no_column) (sym is)
    ∙ get_or_from_slice_get columns colour column no_column at in
    subst (λ (q : ColumnState). IsPlaced q region colour many) here
    (placed region colour (omega (arith, low, all)) (omega (arith, lt, long)))

-- so their regions and colours have names
pub region_named : (names colours : List (List ℕ)) (regions : List (List ColumnState)) (region many wide : ℕ) (columns : List ColumnState)
    → many ≡ length names → wide ≡ length colours
    → columns ≡ slice_index_or regions region [] → region < length regions → length regions ≡ many
    → All (λ (cs : List ColumnState). length cs ≡ wide) regions
    → ((r colour : ℕ) → r < many → colour < wide → IsPlaced (column_at regions r colour) r colour many)
    → All (HasNames names colours) columns
region_named names colours regions region many wide columns named coloured is low all each placed colour d lt =
    let long : length columns ≡ wide = ap (λ (cs : List ColumnState). length cs) is ∙ each region [] low in
    let p = region_placed regions region many wide columns is low all each placed colour (get_or columns colour d)
    (slice_get-get_or columns colour d lt) in
    let of_region = p.in_region in
    let of_colour = p.of_colour in
    (omega (arith, of_region, low, all, named), omega (arith, of_colour, lt, long, coloured))

-- lists made of items, and over the range of their places
map_range : {A B : Type 0} (f : A → B) (g : ℕ → B) (xs : List A) (a : ℕ)
    → ((k : ℕ) (x : A) → slice_get xs k ≡ Some x → f x ≡ g (a + k)) → map f xs ≡ map g (range_with_len a (length xs))
map_range f g [] a same = refl
map_range {A} {B} f g (x ∷ xs) a same =
    let zeroth : a + 0 ≡ a = omega arith in
    ap (λ (y : B). y ∷ map f xs) (same 0 x refl ∙ ap g zeroth)
    ∙ ap (λ (l : List B). g a ∷ l) (map_range f g xs (a + 1)
    (λ k y at. let next : a + suc k ≡ a + 1 + k = omega arith in same (suc k) y at ∙ ap g next))

flat_map_range : {A B : Type 0} (f : A → List B) (g : ℕ → List B) (xs : List A) (a : ℕ)
    → ((k : ℕ) (x : A) → slice_get xs k ≡ Some x → f x ≡ g (a + k))
    → flat_map f xs ≡ flat_map g (range_with_len a (length xs))
flat_map_range f g [] a same = refl
flat_map_range {A} {B} f g (x ∷ xs) a same =
    let zeroth : a + 0 ≡ a = omega arith in
    ap (λ (l : List B). l ++ flat_map f xs) (same 0 x refl ∙ ap g zeroth)
    ∙ ap (λ (l : List B). g a ++ l) (flat_map_range f g xs (a + 1)
    (λ k y at. let next : a + suc k ≡ a + 1 + k = omega arith in same (suc k) y at ∙ ap g next))

-- a column in its place is shown as that of its region and colour
shown_at : (script : Script) (w : World) (region colour : ℕ) (column : ColumnState)
    → IsPlaced column region colour script.shape.regions → column.journal ≡ w.histories region colour
    → column_shown script.regions script.colours column ≡ column_report script w region colour
shown_at script w region colour column placed is =
    rw (placed.in_region, placed.of_colour, placed.of_regions, is) refl

-- the columns of a whole world are those that its report has
pub columns_are : (script : Script) (code : WorldView) → IsWhole code → code.shape ≡ script.shape
    → columns_shown script code.columns
    ≡ flat_map (λ region. map (column_report script (world_of code) region) (range_with_len 0 script.shape.colours))
    (range_with_len 0 script.shape.regions)
columns_are script code w same =
    let colours = script.shape.colours in
    let many : length code.columns ≡ script.shape.regions = w.regions ∙ ap (λ (s : Shape). s.regions) same in
    let shown : ColumnState → ColumnReport = column_shown script.regions script.colours in
    let report : ℕ → ℕ → ColumnReport = column_report script (world_of code) in
    let of_region : ℕ → List ColumnReport = λ region. map (report region) (range_with_len 0 colours) in
    flat_map_range (map shown) of_region code.columns 0
    (λ region columns at.
    let there = get_or_from_slice_get code.columns region columns [] at in
    let low = slice_get_within code.columns region columns at in
    let wide : length columns ≡ colours =
    ap (λ (cs : List ColumnState). length cs) (sym there) ∙ (w.wide region [] low ∙ ap (λ (s : Shape). s.colours) same) in
    map_range shown (report region) columns 0
    (λ colour column at_colour.
    let here = get_or_from_slice_get columns colour column no_column at_colour in
    let placed = region_placed code.columns region code.shape.regions code.shape.colours columns (sym there) low
    w.regions w.wide w.placed colour column at_colour in
    shown_at script (world_of code) region colour column
    (subst (λ (s : Shape). IsPlaced column region colour s.regions) same placed)
    (ap (λ (q : ColumnState). q.journal) (sym here)
    ∙ ap (λ (cs : List ColumnState). (slice_index_or cs colour no_column).journal) (sym there))
    ∙ ap (report region) (sym (zero-add colour)))
    ∙ (ap (λ (n : ℕ). map (report region) (range_with_len 0 n)) wide ∙ ap of_region (sym (zero-add region))))
    ∙ ap (λ (n : ℕ). flat_map of_region (range_with_len 0 n)) many

-- The report

alike : (version : ℕ) (clients clients' : List ClientReport) (rows rows' : List RowReport) (columns columns' : List ColumnReport)
    → clients ≡ clients' → rows ≡ rows' → columns ≡ columns'
    → (let r : Report = record { version = version; clients = clients; rows = rows; columns = columns } in r)
    ≡ record { version = version; clients = clients'; rows = rows'; columns = columns' }
alike version clients clients' rows rows' columns columns' c d e = cc

pub report_is : (script : Script) (code : RunView) (clients : List ClientReport) (rows : List RowReport)
    (columns : List ColumnReport) → IsWhole code.world → code.world.shape ≡ script.shape
    → clients ≡ map (client_shown code.replies) (enumerate_from 0 script.clients)
    → rows ≡ flat_map (region_rows_shown (world_of code.world)) (range_with_len 0 code.world.shape.regions)
    → columns ≡ columns_shown script code.world.columns
    → (let r : Report = record { version = script.version; clients = clients; rows = rows; columns = columns } in r)
    ≡ report_of script (state_of code)
report_is script code clients rows columns w same clients_is rows_is columns_is =
    let r = report_of script (state_of code) in
    alike script.version clients r.clients rows r.rows columns r.columns clients_is
    (rows_is ∙ ap (λ (s : Shape). flat_map (region_rows_shown (world_of code.world)) (range_with_len 0 s.regions)) same)
    (columns_is ∙ columns_are script code.world w same)
