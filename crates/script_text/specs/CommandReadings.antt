-- What a command line gives.
use Rattle.std.specs.Prelude.{false, ℕ, ◌+◌, ◌*◌, ◌==◌, nat_lt, not, List, [], ◌∷◌, Option, Some, None, Result, Ok, Err}
use Rattle.std.specs.List.{list_any}
use Rattle.script_text.specs.declared.commands.What.{What}
use Rattle.script_text.specs.declared.commands.What.TheVariants as whats
use Rattle.script_text.specs.declared.script.Reason.{Reason}
use Rattle.script_text.specs.declared.script.Reason.TheVariants as reasons
use Rattle.script_text.specs.declared.item.Item.{Item}
use Rattle.script_text.specs.declared.item.Item.TheVariants as items
use Rattle.script_text.specs.declared.known.Known.{Known}
use Rattle.script_text.specs.declared.given.Given.{Given}
use Rattle.script_text.specs.declared.table.Field.{Field}
use Rattle.script_text.specs.declared.table.Field.TheVariants as fields
use Rattle.script_text.specs.declared.table.Last.{Last}
use Rattle.script_text.specs.declared.table.Last.TheVariants as lasts
use Rattle.script_text.specs.declared.commands.Word.{Word}
use Rattle.script_text.specs.declared.limits.TheConstants.{STEPS_DIGITS}
use Rattle.script_text.specs.Pieces.{first_in, names_in}
use Rattle.script_text.specs.Reads.{holds}
use Rattle.script_text.specs.Table.{word_at, row_fields, last_of, own_fields, later_fields, fits, nothing}
use Rattle.script_text.specs.Commands.{what_of}
use Rattle.script_text.specs.Readings.{◌>>=◌, refuse, number_at, each_at, object_colour_at, object_colours_at, colours_set_at, text_at, value_at, path_at, key_at, pair_at, digits_at, object_at}

-- what is given after the fields of one kind
unfoldable pub taken_at : Known → Field → List (List ℕ) → Given → Result Given Reason
taken_at known fields.Steps own given = digits_at STEPS_DIGITS (first_in own) >>= λ n. Ok (record given { number = n })
taken_at known fields.Cols own given = colours_set_at known.script.colours (names_in (first_in own)) >>= λ s. Ok (record given { colours = s.0; count = s.1 })
taken_at known fields.Colour own given = number_at reasons.UnknownColour known.script.colours (first_in own) >>= λ c. Ok (record given { colour = c })
taken_at known fields.Region own given = number_at reasons.UnknownRegion known.script.regions (first_in own) >>= λ r. Ok (record given { region = r })
taken_at known fields.Text own given = text_at known.script.objects (first_in own) >>= λ t. Ok (record given { text = t })
taken_at known (fields.Object of) own given = object_at of known.script.objects (first_in own) >>= λ o. Ok (record given { object = o })
taken_at known fields.Key own given = key_at [] (first_in own) >>= λ k. Ok (record given { key = k })
taken_at known fields.Value own given = value_at (first_in own) >>= λ v. Ok (record given { value = v })
taken_at known (fields.Path root) own given = path_at root (first_in own) >>= λ p. Ok (record given { path = p })
taken_at known fields.Target own given = path_at false (first_in own) >>= λ p. Ok (record given { target = p })
taken_at known (fields.Keys most) own given = each_at key_at [] own >>= λ ks. Ok (record given { keys = ks })
taken_at known (fields.Pairs most) own given = each_at pair_at [] own >>= λ ps. Ok (record given { pairs = ps })
taken_at known fields.ObjectColour own given =
    object_colour_at known.script.objects known.script.colours false [] (first_in own) >>= λ c. Ok (record given { colour = c })
taken_at known (fields.ObjectColours most alone) own given =
    object_colours_at known.script.objects known.script.colours alone own >>= λ ns. Ok (record given { order = ns })

-- and after all fields
unfoldable pub given_at : Known → List Field → List (List ℕ) → Given → Result Given Reason
given_at known [] args given = Ok given
given_at known (field ∷ fields) args given = do
  next ← taken_at known field (own_fields field args) given
  given_at known fields (later_fields field args) next

-- the tests after the fields
unfoldable pub ended_well : Known → ℕ → Last → Given → Result Given Reason
ended_well known client lasts.Nothing given = Ok given
ended_well known client lasts.StopFits given =
    refuse (nat_lt given.count 2) reasons.StopNeedsTwoColours (refuse (nat_lt (2 * given.count + 2) given.number) reasons.BadNumber (Ok given))
ended_well known client lasts.ReadHeld given = refuse (not (holds known.held (record { client = client; object = given.object }))) reasons.NoRead (Ok given)

-- what a command asks for, by its word
unfoldable pub what_at : Known → ℕ → Word → List (List ℕ) → Result What Reason
what_at known client word args = refuse (not (fits (row_fields word) args)) reasons.BadForm (do
  given ← given_at known (row_fields word) args nothing
  ended ← ended_well known client (last_of word) given
  Ok (what_of word ended))

-- what an append, a sync, a trim and a pull ask for, by their fields
unfoldable pub append_at : Known → List ℕ → List ℕ → Result What Reason
append_at known cols text = do
  set ← colours_set_at known.script.colours (names_in cols)
  bytes ← text_at known.script.objects text
  Ok (whats.Append set.0 bytes)

-- a sync: its colour
unfoldable pub sync_at : Known → List ℕ → Result What Reason
sync_at known field = number_at reasons.UnknownColour known.script.colours field >>= λ colour. Ok (whats.Sync colour)

-- a trim: its colour
unfoldable pub trim_at : Known → List ℕ → Result What Reason
trim_at known field = number_at reasons.UnknownColour known.script.colours field >>= λ colour. Ok (whats.Trim colour)

-- a pull: the region from which, and the colour
unfoldable pub pull_at : Known → List ℕ → List ℕ → Result What Reason
pull_at known name field = do
  region ← number_at reasons.UnknownRegion known.script.regions name
  colour ← number_at reasons.UnknownColour known.script.colours field
  Ok (whats.Pull region colour)

-- what a command asks for, if its word is one of the table
unfoldable pub worded_at : Known → ℕ → Option Word → List (List ℕ) → Result What Reason
worded_at known client None args = Err reasons.UnknownCommand
worded_at known client (Some word) args = what_at known client word args

-- what the fields behind a client's name ask for
unfoldable pub asked_at : Known → ℕ → List (List ℕ) → Result What Reason
asked_at known client [] = Err reasons.UnknownCommand
asked_at known client (field ∷ args) = worded_at known client (word_at known.script.version field) args

-- the client that a command line names
unfoldable pub caller_at : Known → List ℕ → Result ℕ Reason
caller_at known name = do
  client ← number_at reasons.UnknownClient known.script.clients name
  refuse (list_any (λ c. c == client) known.stopped) reasons.ClientStopped (Ok client)

-- a command line: its client, and what it asks for
unfoldable pub command_at : Known → ℕ → List ℕ → List (List ℕ) → Result Item Reason
command_at known number name fields = do
  client ← caller_at known name
  what ← asked_at known client fields
  Ok (items.Asks (record { line = number; client = client; what = what }))
