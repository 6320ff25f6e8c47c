-- What a store ends with, for each of its clients.
use Rattle.std.specs.Prelude.{◌≡◌, ◌≢◌, ℕ, ◌<◌, List, length, map, Some, None, slice_get}
use Rattle.std.specs.List.{Contains, filter}
use Rattle.log_node.specs.declared.ids.Id.{Id}
use Rattle.log_node.specs.declared.marks.Outcome.TheVariants.{Open}
use Rattle.log_node.specs.Standings.{open_entry}
use Rattle.col_core.specs.declared.Entry.{Entry}
use Rattle.col_core.specs.Ids.{IsStepOf}
use Rattle.col_core.specs.History.{entries}
use Rattle.col_core.specs.Keeping.{Kept}
use Rattle.col_core.specs.Log.{Log, places_of}
use Rattle.col_core.specs.Rows.{BegunRow, is_of}
use Rattle.script_text.specs.declared.script.Object.{Object}
use Rattle.lawful_run.specs.Lawful.{IsHelp}
use Rattle.client_law.specs.Kept.{IsKeptBy}
use Rattle.client_law.specs.Knowing.{SeesOn}
use Rattle.log_client.specs.declared.store.Store.{Store}
use Rattle.log_client.specs.declared.client.Client.{Client}
use Rattle.log_client.specs.declared.closed.Closed.{Closed}
use Rattle.log_client.specs.Fits.{FitsHolds}
use Rattle.log_client.specs.Clients.{IsClient, Finished, Helps, caller_of, holds_of, nodes_of_rows, seen_of}
use Rattle.log_client.specs.Closing.{EndsStore}

-- they are all clients of the store, by number
abbrev pub AreClients : Store → List Client → Type 0
AreClients s clients =
    (length clients ≡ s.size.clients)
    × ((n : ℕ) (c : Client) → slice_get clients n ≡ Some c → IsClient s c × (c.number ≡ n))

-- The append of a row of a region is complete in the end: the row has an outcome, and its node is open in none of the
-- region's columns.
pub record EndsComplete (log : Log) (colours region : ℕ) (b : BegunRow) : Type 0 where
  pub decided : b.last ≢ Open
  pub open_nowhere : (colour : ℕ) → colour < colours
      → open_entry b.node.id (entries (log.histories region colour)) ≡ None

-- What the log with which the store ended is to a client. It goes on from what the client has seen, and its own nodes and
-- rows fit what the client knows; so it explains the client's replies. The client's own steps in it are those that its
-- replies name, and its nodes and rows are those that it counts.
pub record EndsFor (s : Store) (log : Log) (c : Client) : Type 0 where
  pub on : (objects : List Object) → SeesOn (caller_of s c objects) (seen_of c) log.histories
  pub fits : FitsHolds (holds_of c) (record { nodes = log.nodes; rows = log.rows })
  pub steps : (objects : List Object) (kept : Kept) → IsKeptBy (seen_of c) (caller_of s c objects) kept
      → (region colour : ℕ)
      → places_of c.number (log.histories region colour) ≡ kept.made region colour
  pub ids : length (log.nodes c.number) ≡ c.count
  pub rows : map (λ (b : BegunRow). b.node) (filter (is_of c.number) (log.rows c.region)) ≡ nodes_of_rows c
  -- it has begun rows of its own region alone; where it has finished they have outcomes, and none of its ids is open
  pub rows_at_home : (region : ℕ) (b : BegunRow) → region < length s.regions → Contains (log.rows region) b
      → b.row.client ≡ c.number → region ≡ c.region
  pub closed : Finished c → (region colour : ℕ) (id : Id) → region < length s.regions → colour < s.size.colours
      → id.client ≡ c.number → open_entry id (entries (log.histories region colour)) ≡ None
  pub decided : Finished c → (b : BegunRow) → Contains (log.rows c.region) b → b.row.client ≡ c.number → b.last ≢ Open
  -- what it helped is of its region, and complete
  pub helped : (region colour : ℕ) (e : Entry) → region < length s.regions → colour < s.size.colours
      → Contains (log.histories region colour) e → e.by ≡ c.number → IsHelp c.number e.event
      → Helps c × (region ≡ c.region)
      × ((b : BegunRow) → Contains (log.rows region) b → IsStepOf b.node.id e.event
      → EndsComplete log s.size.colours region b)
  pub row_nodes : (b : BegunRow) → Contains (log.rows c.region) b → b.row.client ≡ c.number
      → slice_get (log.nodes c.number) b.node.id.count ≡ Some b.node

-- What the store of these clients ends with: a log, with what it is to each of them; and the nodes of each one's rows are
-- those that it had.
pub record ClosesAsLog (s : Store) (clients : List Client) (closed : Closed) : Type 0 where
  pub log : Log
  pub ends : EndsStore (length s.regions) s.size.colours (map holds_of clients) closed.regions log
  pub each : (n : ℕ) (c : Client) → slice_get clients n ≡ Some c → EndsFor s log c
  pub nodes : closed.nodes ≡ map (λ (c : Client). c.rows.items) clients
