-- Tables of places: by a number, by an id, and those that replies print.
use Rattle.std.specs.Prelude.{◌≡◌, Bool, ◌==◌, ◌&&◌, ℕ, ◌+◌, ◌<◌, List, [], ◌∷◌, Option, Some, None, length, map, slice_get, slice_index_or, if◌then◌else◌}
use Rattle.std.specs.List.{find, list_any}
use Rattle.log_node.specs.declared.ids.Id.{Id}
use Rattle.log_node.specs.Order.{same_id}
use Rattle.log_node.specs.Outcomes.{final_number}
use Rattle.col_core.specs.declared.Event.{Event}
use Rattle.col_core.specs.declared.Event.TheVariants.{Propose, Settle}
use Rattle.col_core.specs.declared.Entry.{Entry}
use Rattle.col_core.specs.Log.{places_of}
use Rattle.script_text.specs.declared.script.Command.{Command}
use Rattle.report_text.specs.declared.report.RowReport.{RowReport}
use Rattle.run_rules.specs.Telling.{is_step_of}
use Rattle.walk_law.specs.declared.printed.Print.{Print}
use Rattle.walk_law.specs.declared.printed.Printed.{Printed}
use Rattle.walk_law.specs.declared.step_table.StepTable.{StepTable}

-- BY A NUMBER

-- the places under a number
abbrev pub places_at : List (List ℕ) → ℕ → List ℕ
places_at lists number = slice_index_or lists number []

-- the places of the items for which a test holds, where the first item has this place
abbrev pub numbers_where : {A : Type 0} → (A → Bool) → ℕ → List A → List ℕ
numbers_where test place [] = []
numbers_where test place (x ∷ xs) =
    if test x then place ∷ numbers_where test (place + 1) xs else numbers_where test (place + 1) xs

-- the command is a client's
abbrev pub is_asked_by : ℕ → Command → Bool
is_asked_by client command = command.client == client

-- under each number the places of that client's commands
pub record AreOfClients (clients : ℕ) (commands : List Command) (lists : List (List ℕ)) : Type 0 where
  pub many : length lists ≡ clients
  pub each : (client : ℕ) → client < clients → places_at lists client ≡ numbers_where (is_asked_by client) 0 commands

-- under each number the places of that client's own events
pub record AreOfMakers (clients : ℕ) (journal : List Entry) (lists : List (List ℕ)) : Type 0 where
  pub many : length lists ≡ clients
  pub each : (client : ℕ) → client < clients → places_at lists client ≡ places_of client journal

-- BY AN ID

-- the event is a step of the id that its client made by itself
abbrev pub is_own_step : Id → Entry → Bool
is_own_step id e = (e.by == id.client) && is_step_of id e.event

-- the id, where it is of the client
abbrev pub own_id : ℕ → Id → Option Id
own_id by id = if id.client == by then Some id else None

-- the id of which its client made a step by this event
abbrev pub step_made : ℕ → Event → Option Id
step_made by (Propose id floor wants) = own_id by id
step_made by (Settle id outcome) = own_id by id
step_made by _ = None

-- what is found
abbrev pub listed_or : Option (Id × List ℕ) → List ℕ
listed_or None = []
listed_or (Some found) = found.1

-- the places that are kept for an id
abbrev pub steps_in : StepTable → Id → List ℕ
steps_in table id = listed_or (find (λ e. same_id e.0 id) table.by_id.entries)

-- those of the own steps of each id
abbrev pub AreSteps : List Entry → StepTable → Type 0
AreSteps journal table = (id : Id) → steps_in table id ≡ numbers_where (is_own_step id) 0 journal

-- WHAT IS PRINTED

-- the same client, column and place
abbrev pub same_print : Print → Print → Bool
same_print a b = (a.client == b.client) && ((a.region == b.region) && ((a.colour == b.colour) && (a.place == b.place)))

-- this was put in
abbrev pub is_printed : Printed → ℕ → ℕ → ℕ → ℕ → Bool
is_printed table client region colour place =
    list_any (λ (it : Print). same_print it (record { client = client; region = region; colour = colour; place = place }))
    table.prints.keys

-- OF ROWS

-- the same region and id
abbrev pub same_row : ℕ → Id → ℕ → Id → Bool
same_row region id r other = (region == r) && same_id id other

-- the first row of a region with an id
abbrev pub row_with : ℕ → Id → List RowReport → Option RowReport
row_with region id rows = find (λ (r : RowReport). same_row region id r.region r.id) rows

-- its final number; 0 where there is none
abbrev pub final_of : Option RowReport → ℕ
final_of None = 0
final_of (Some r) = final_number r.last
