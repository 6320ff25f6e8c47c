-- What a report shows of a store in the end, and of the replies to its clients.
use Rattle.std.specs.Prelude.{◌≡◌, ℕ, ◌≤◌, List, [], length, map, Option, Some, None, slice_get, slice_index_or}
use Rattle.std.specs.List.{All, flat_map, enumerate_from}
use Rattle.std.specs.declared.sync.Arc.{Arc}
use Rattle.log_node.specs.declared.limits.TheConstants.{MAX_REGIONS}
use Rattle.log_node.specs.declared.ids.Id.{Id}
use Rattle.log_node.specs.declared.ids.Row.{Row}
use Rattle.log_node.specs.declared.node.Node.{Node}
use Rattle.stamp_board.specs.declared.rows.ClosedRow.{ClosedRow}
use Rattle.chain_store.specs.declared.closed.ClosedRegion.{ClosedRegion}
use Rattle.script_text.specs.declared.script.Script.{Script}
use Rattle.report_text.specs.declared.report.ReplyLine.{ReplyLine}
use Rattle.report_text.specs.declared.report.ClientReport.{ClientReport}
use Rattle.report_text.specs.declared.report.RowReport.{RowReport}
use Rattle.report_text.specs.declared.report.Report.{Report}
use Rattle.report_text.specs.declared.report.ColumnReport.{ColumnReport}
use Rattle.closing_report.specs.Columns.{column_shown, HasNames}
use Rattle.log_client.specs.declared.closed.Closed.{Closed}

-- the nodes of each client's rows
abbrev pub nodes_in : {Z : Type 0} → List (List (Arc Node Z)) → List (List Node)
nodes_in {Z} lists = map (map (λ (shared : Arc Node Z). shared.value)) lists

-- the same of a store in the end
abbrev pub closing_nodes : Closed → List (List Node)
closing_nodes closed = nodes_in closed.nodes

-- the node of a row, among those of all clients
abbrev pub node_at : List (List Node) → Row → Option Node
node_at nodes row = slice_get (slice_index_or nodes row.client []) row.number

-- the id of a node that was found
abbrev pub id_of : Option Node → Id
id_of None = record { client = 0; count = 0 }
id_of (Some x) = x.id

-- each of the rows has its node
abbrev pub HaveNodes : List (List Node) → List ClosedRow → Type 0
HaveNodes nodes rows =
    (n : ℕ) (r : ClosedRow) → slice_get rows n ≡ Some r → (x : Node) × (node_at nodes r.row ≡ Some x)

-- a row of a region
abbrev pub row_shown : List (List Node) → ℕ → ClosedRow → RowReport
row_shown nodes region r = record {
  region = region;
  row = r.row;
  id = id_of (node_at nodes r.row);
  marks = r.marks;
  last = r.last;
}

-- the rows of a region, which stands at its number
abbrev pub rows_shown : List (List Node) → ℕ × ClosedRegion → List RowReport
rows_shown nodes e = map (row_shown nodes e.0) e.1.rows

-- the columns of a region, where regions and colours have these names
abbrev pub region_shown : List (List ℕ) → List (List ℕ) → ClosedRegion → List ColumnReport
region_shown regions colours e = map (column_shown regions colours) e.columns

-- Under these names of regions and colours the store in the end can be shown: it has so many regions, their columns are of
-- regions and colours that have names, and each row has its node.
pub record CanShow (regions colours : List (List ℕ)) (closed : Closed) : Type 0 where
  pub many : length closed.regions ≡ length regions
  pub few : length regions ≤ MAX_REGIONS
  pub columns : (n : ℕ) (e : ClosedRegion) → slice_get closed.regions n ≡ Some e → All (HasNames regions colours) e.columns
  pub rows : (n : ℕ) (e : ClosedRegion) → slice_get closed.regions n ≡ Some e → HaveNodes (closing_nodes closed) e.rows

-- the replies to a client, which stands at its number, under its name
abbrev pub replies_shown : List (List ReplyLine) → ℕ × List ℕ → ClientReport
replies_shown replies c = record { name = c.1; replies = slice_index_or replies c.0 [] }

-- The report of a store that ended so: the replies to each client, the rows of each region, and all columns by region and
-- colour.
abbrev pub end_report : Script → Closed → List (List ReplyLine) → Report
end_report script closed replies = record {
  version = script.version;
  clients = map (replies_shown replies) (enumerate_from 0 script.clients);
  rows = flat_map (rows_shown (closing_nodes closed)) (enumerate_from 0 closed.regions);
  columns = flat_map (region_shown script.regions script.colours) closed.regions;
}
