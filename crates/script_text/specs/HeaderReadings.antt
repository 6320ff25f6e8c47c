-- What a header line gives.
use Rattle.std.specs.Prelude.{ℕ, ◌+◌, nat_le, nat_lt, not, ◌&&◌, List, [], ◌∷◌, length, map, Option, Some, None, Result, Ok, Err, codes, if◌then◌else◌}
use Rattle.std.specs.Str.{bytes_eq}
use Rattle.script_text.specs.declared.table.Sort.{Sort}
use Rattle.script_text.specs.declared.script.Object.{Object}
use Rattle.script_text.specs.declared.script.Reason.{Reason}
use Rattle.script_text.specs.declared.script.Reason.TheVariants as reasons
use Rattle.script_text.specs.declared.item.Item.{Item}
use Rattle.script_text.specs.declared.item.Item.TheVariants as items
use Rattle.script_text.specs.declared.known.Known.{Known}
use Rattle.script_text.specs.declared.limits.Limits.{Limits}
use Rattle.script_text.specs.declared.limits.TheConstants.{ROWS_DIGITS}
use Rattle.script_text.specs.Versions.{limits_in}
use Rattle.script_text.specs.Pieces.{is_number, number_value, is_between}
use Rattle.script_text.specs.Items.{may_begin}
use Rattle.script_text.specs.Readings.{◌>>=◌, refuse, number_at, new_name_at, new_names_at, with_none, with_one, with_two}
use Rattle.script_text.specs.Table.{fits, nothing, sort_fields, sort_at, kind_of}
use Rattle.script_text.specs.CommandReadings.{given_at}

-- the limits of the version that is known
abbrev pub limits_by : Known → Limits
limits_by known = limits_in known.script.version

-- the version
unfoldable pub version_at : List (List ℕ) → Result Item Reason
version_at (field ∷ []) =
    if bytes_eq field (codes "1") then Ok (items.Version 1)
    else (if bytes_eq field (codes "2") then Ok (items.Version 2) else Err reasons.BadVersion)
version_at _ = Err reasons.BadVersion

-- the line of the regions: their names, no more than there may be
unfoldable pub regions_at : Limits → List (List ℕ) → Result Item Reason
regions_at limits args = refuse (not (is_between 1 limits.regions (length args))) reasons.BadForm (new_names_at args >>= λ names. Ok (items.Regions names))

-- the line of the colours, in the same way
unfoldable pub colour_line_at : Limits → List (List ℕ) → Result Item Reason
colour_line_at limits args = refuse (not (is_between 1 limits.colours (length args))) reasons.BadForm (new_names_at args >>= λ names. Ok (items.Colours names))

-- the line of the rows: how many each client may begin
unfoldable pub rows_at : Limits → List ℕ → Result Item Reason
rows_at limits field = refuse (not (is_number ROWS_DIGITS field && is_between 1 limits.rows (number_value field))) reasons.BadNumber (Ok (items.Rows (number_value field)))

-- a client's new name, and its region
unfoldable pub client_named_at : Known → List ℕ → List ℕ → Result Item Reason
client_named_at known field region = do
  name ← new_name_at known.script.clients field
  home ← number_at reasons.UnknownRegion known.script.regions region
  Ok (items.Client name home)

-- the line of a client, where there is room for one
unfoldable pub client_at : Known → List ℕ → List ℕ → Result Item Reason
client_at known field region = refuse (nat_le (limits_by known).clients (length known.script.clients)) reasons.BadForm (client_named_at known field region)

-- the names of the objects so far
abbrev pub object_names_in : Known → List (List ℕ)
object_names_in known = map (λ (o : Object). o.name) known.script.objects

-- a new object's name, where there is room for one
unfoldable pub object_name_at : Known → List ℕ → Result (List ℕ) Reason
object_name_at known field = refuse (nat_le (limits_by known).objects (length known.script.objects)) reasons.BadForm (new_name_at (object_names_in known) field)

-- the line of an object of this sort
unfoldable pub sorted_at : Known → Sort → List (List ℕ) → Result Item Reason
sorted_at known sort [] = Err reasons.BadForm
sorted_at known sort (field ∷ args) =
    refuse (not (fits (sort_fields sort) args)) reasons.BadForm (refuse (nat_lt ((limits_by known).colours + 1) (length args)) reasons.BadForm (do
      name ← object_name_at known field
      given ← given_at known (sort_fields sort) args nothing
      Ok (items.Declared (record { name = name; kind = kind_of sort given }))))

-- the line of an object, if the word is one that declares objects
unfoldable pub declared_at : Known → Option Sort → List (List ℕ) → Result Item Reason
declared_at known None args = Err reasons.BadHeader
declared_at known (Some sort) args = sorted_at known sort args

-- a header line, by its word
unfoldable pub headed_at : Known → List ℕ → List (List ℕ) → Result Item Reason
headed_at known word args =
    if bytes_eq word (codes "fuzzylog") then version_at args
    else (if bytes_eq word (codes "regions") then regions_at (limits_by known) args
    else (if bytes_eq word (codes "colours") then colour_line_at (limits_by known) args
    else (if bytes_eq word (codes "rows") then with_one (rows_at (limits_by known)) args
    else (if bytes_eq word (codes "client") then with_two (client_at known) args
    else (if bytes_eq word (codes "begin") then with_none (Ok items.Begin) args
    else declared_at known (sort_at known.script.version word) args)))))

-- a header line, where its word may come
unfoldable pub header_at : Known → List ℕ → List (List ℕ) → Result Item Reason
header_at known word args = refuse (not (may_begin known.script.version known.stage word)) reasons.BadHeader (headed_at known word args)
