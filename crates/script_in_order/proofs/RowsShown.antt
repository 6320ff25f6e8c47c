-- The rows of a client and of a region, shown one after another.
use Rattle.std.proofs.Common.{◌≡◌, ◌∙◌, refl, ap, sym, ℕ, ◌+◌, ◌<◌, ◌≤◌, Bool, true, false, cond, List, [], ◌∷◌, ◌++◌}
use Rattle.std.proofs.Common.{map, arith, zero-add, append-nil}
use Rattle.std.specs.Prelude.{◌==◌, slice_get, Some}
use Rattle.std.specs.List.{flat_map, range_with_len}
use Rattle.std.proofs.lemmas.Bool.{ltb-false, ltb-true}
use Rattle.std.proofs.lemmas.List.{map-append, append_assoc}
use Rattle.std.proofs.lemmas.Option.{get_or_from_slice_get}
use Rattle.log_node.specs.declared.ids.Colours.{Colours}
use Rattle.log_node.specs.declared.ids.Id.{Id}
use Rattle.log_node.specs.declared.ids.Row.{Row}
use Rattle.log_node.specs.declared.node.Node.{Node}
use Rattle.log_node.specs.declared.marks.ColourMark.{ColourMark}
use Rattle.log_node.specs.declared.marks.Outcome.{Outcome}
use Rattle.world_laws.specs.Worlds.{World, home_of, is_begun, row_of, is_member, no_row}
use Rattle.world_laws.specs.Laws.{begun_row, rows_of_client}
use Rattle.world_code.specs.WorldView.{WorldView, world_of, client_at, IsWhole}
use Rattle.report_text.specs.declared.report.RowReport.{RowReport}
use Rattle.lawful_run.specs.Columns.{row_report}
use Rattle.col_core.specs.Rows.{BegunRow}
use Rattle.script_in_order.specs.Reports.{client_rows_shown}
use Rattle.lawful_run.proofs.CallerLemmas.{range_more}
use Rattle.script_in_order.proofs.ListsShown.{flat_map_range_more}

-- The rows of a client

-- the report of a client's row of a number
abbrev pub row_shown : World → ℕ → ℕ → ℕ → RowReport
row_shown w region client n =
    let row : Row = record { client = client; number = n } in row_report region (begun_row w row)

shown_each : (w : World) (region client : ℕ) (ns : List ℕ) → map (row_shown w region client) ns
    ≡ map (row_report region) (map (λ n. begun_row w (record { client = client; number = n })) ns)
shown_each w region client [] = refl
shown_each w region client (n ∷ ns) =
    ap (λ (l : List RowReport). row_shown w region client n ∷ l) (shown_each w region client ns)

-- where the row of this number is not begun, all rows before are those of the client
pub rows_all : (w : World) (region client n : ℕ) (old reports : List RowReport) → n ≤ (w.clients client).used
    → (w.clients client).used ≤ n → reports ≡ old ++ map (row_shown w region client) (range_with_len 0 n)
    → reports ≡ old ++ client_rows_shown w region client
rows_all w region client n old reports few many is =
    let e : n ≡ (w.clients client).used = omega (arith, few, many) in
    is ∙ (ap (λ (k : ℕ). old ++ map (row_shown w region client) (range_with_len 0 k)) e
    ∙ ap (λ (l : List RowReport). old ++ l) (shown_each w region client (range_with_len 0 (w.clients client).used)))

pub not_begun : (w : World) (row : Row) → is_begun w row ≡ false → (w.clients row.client).used ≤ row.number
not_begun w row is = ltb-false row.number (w.clients row.client).used is

pub begun_below : (w : World) (row : Row) → is_begun w row ≡ true → row.number < (w.clients row.client).used
begun_below w row is = ltb-true row.number (w.clients row.client).used is

-- one row more
pub rows_more : (w : World) (region client n : ℕ) (old reports new : List RowReport) (report : RowReport)
    → reports ≡ old ++ map (row_shown w region client) (range_with_len 0 n) → new ≡ reports ++ report ∷ []
    → report ≡ row_shown w region client n
    → new ≡ old ++ map (row_shown w region client) (range_with_len 0 (n + 1))
rows_more w region client n old reports new report was is same =
    let f = row_shown w region client in
    is ∙ (ap (λ (l : List RowReport). l ++ report ∷ []) was
    ∙ (append_assoc old (map f (range_with_len 0 n)) (report ∷ [])
    ∙ ap (λ (l : List RowReport). old ++ l)
    (ap (λ (r : RowReport). map f (range_with_len 0 n) ++ r ∷ []) same
    ∙ sym (ap (map f) (range_more 0 n ∙ ap (λ (k : ℕ). range_with_len 0 n ++ k ∷ []) (zero-add n))
    ∙ map-append f (range_with_len 0 n) (n ∷ [])))))

pub shown_as : (w : World) (region : ℕ) (row : Row) (id : Id) (marks : List ColourMark) (last : Outcome)
    → id ≡ (row_of w row).node.id → marks ≡ (begun_row w row).marks → last ≡ (row_of w row).last
    → (let r : RowReport = record { region = region; row = row; id = id; marks = marks; last = last } in r)
    ≡ row_report region (begun_row w row)
shown_as w region row id marks last same_id same_marks same_last = cc

-- the node of a row is the one that its client has
pub node_of_row : (code : WorldView) (row : Row) (node : Node)
    → slice_get (client_at code row.client).begun row.number ≡ Some node → (row_of (world_of code) row).node ≡ node
node_of_row code row node is = get_or_from_slice_get (client_at code row.client).begun row.number node no_row.node is

-- the colours of a row are colours of the world
pub colours_within : (code : WorldView) (client number : ℕ) (node : Node) (colours : Colours) → IsWhole code
    → slice_get (client_at code client).begun number ≡ Some node → colours ≡ node.colours
    → (colour : ℕ) → is_member colours colour ≡ true → colour < code.shape.colours
colours_within code client number node colours w is same colour member =
    (w.begun client number node is).within colour (ap (λ (s : Colours). is_member s colour) (sym same) ∙ member)

-- The rows of a region

-- the rows of a client that is at home in the region
abbrev pub home_rows : World → ℕ → ℕ → List BegunRow
home_rows w region client = cond (home_of w client == region) (rows_of_client w client) []

-- the rows of the first so many clients
abbrev pub rows_of_first : World → ℕ → ℕ → List RowReport
rows_of_first w region n = map (row_report region) (flat_map (home_rows w region) (range_with_len 0 n))

client_more : (w : World) (region n : ℕ) (b : Bool) → (home_of w n == region) ≡ b
    → rows_of_first w region (n + 1)
    ≡ rows_of_first w region n ++ map (row_report region) (cond b (rows_of_client w n) [])
client_more w region n b is =
    ap (map (row_report region)) (flat_map_range_more (home_rows w region) n
    ∙ ap (λ (t : Bool). flat_map (home_rows w region) (range_with_len 0 n) ++ cond t (rows_of_client w n) []) is)
    ∙ map-append (row_report region) (flat_map (home_rows w region) (range_with_len 0 n))
    (cond b (rows_of_client w n) [])

-- a client of the region more
pub client_shows : (w : World) (region n : ℕ) (old reports new : List RowReport) → (home_of w n == region) ≡ true
    → reports ≡ old ++ rows_of_first w region n → new ≡ reports ++ client_rows_shown w region n
    → new ≡ old ++ rows_of_first w region (n + 1)
client_shows w region n old reports new here was is =
    is ∙ (ap (λ (l : List RowReport). l ++ client_rows_shown w region n) was
    ∙ (append_assoc old (rows_of_first w region n) (client_rows_shown w region n)
    ∙ ap (λ (l : List RowReport). old ++ l) (sym (client_more w region n true here))))

-- a client of another region more
pub client_hides : (w : World) (region n : ℕ) (old reports new : List RowReport) → (home_of w n == region) ≡ false
    → reports ≡ old ++ rows_of_first w region n → new ≡ reports → new ≡ old ++ rows_of_first w region (n + 1)
client_hides w region n old reports new other was is =
    is ∙ (was ∙ ap (λ (l : List RowReport). old ++ l)
    (sym (client_more w region n false other ∙ append-nil (rows_of_first w region n))))
