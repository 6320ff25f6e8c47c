-- What a line gives, and what the bytes give line after line.
use Rattle.std.specs.Prelude.{◌≡◌, ℕ, ◌+◌, ◌==◌, nat_lt, nat_le, true, false, not, ◌&&◌, List, [], ◌∷◌, length, Option, Some, None, Result, Ok, Err, if◌then◌else◌}
use Rattle.std.specs.List.{list_any}
use Rattle.script_text.specs.declared.commands.What.{What}
use Rattle.script_text.specs.declared.script.Script.{Script}
use Rattle.script_text.specs.declared.script.Reason.{Reason}
use Rattle.script_text.specs.declared.script.Reason.TheVariants as reasons
use Rattle.script_text.specs.declared.item.Item.{Item}
use Rattle.script_text.specs.declared.fault.Fault.{Fault}
use Rattle.script_text.specs.declared.fault.Fault.TheVariants as faults
use Rattle.script_text.specs.declared.known.Known.{Known}
use Rattle.script_text.specs.declared.reading.ScriptFault.{ScriptFault}
use Rattle.script_text.specs.declared.reading.ScriptFault.TheVariants as script_faults
use Rattle.script_text.specs.declared.limits.TheConstants.{MAX_BYTES, MAX_LINES}
use Rattle.script_text.specs.Pieces.{lines_of, fields_of, is_ascii_line}
use Rattle.script_text.specs.Versions.{is_version_line}
use Rattle.script_text.specs.Items.{is_begun}
use Rattle.script_text.specs.Grammar.{is_passed_over}
use Rattle.script_text.specs.Known.{known_with, known_of}
use Rattle.script_text.specs.Readings.{◌>>=◌, refuse}
use Rattle.script_text.specs.HeaderReadings.{header_at}
use Rattle.script_text.specs.CommandReadings.{asked_at, command_at}

-- what a line's fields say
unfoldable pub item_at : Known → ℕ → List (List ℕ) → Result Item Reason
item_at known number [] = Err reasons.BadForm
item_at known number (word ∷ fields) =
    if is_begun known.stage then command_at known number word fields else header_at known word fields

-- ---- all lines

-- no field is empty
unfoldable pub full_item_at : Known → ℕ → List (List ℕ) → Result Item Reason
full_item_at known number fields = refuse (list_any (λ (field : List ℕ). length field == 0) fields) reasons.BadForm (item_at known number fields)

-- what a line says that has passed the first tests, or nothing where it is passed over
unfoldable pub said_at : Known → ℕ → List ℕ → Result (Option Item) Reason
said_at known number line =
    if is_passed_over (number, line) then Ok None else full_item_at known number (fields_of line) >>= λ item. Ok (Some item)

-- bytes that a line may have, with no empty field among them
pub record IsWellCut (bytes : List ℕ) : Type 0 where
  pub ascii : is_ascii_line bytes ≡ true
  pub full : list_any (λ (field : List ℕ). length field == 0) (fields_of bytes) ≡ false

-- these bytes, behind a client's name, ask for this
pub record IsAsked (known : Known) (bytes : List ℕ) (what : What) : Type 0 where
  pub whole : IsWellCut bytes
  pub asks : (client : ℕ) → asked_at known client (fields_of bytes) ≡ Ok what

-- what a line of ASCII gives; line 1 is the version's
unfoldable pub line_at : Known → ℕ → List ℕ → Result (Option Item) Reason
line_at known number line =
    refuse (not (is_ascii_line line)) reasons.NotAscii (refuse ((number == 1) && not (is_version_line line)) reasons.BadVersion (said_at known number line))

-- a refusal has its line's number
abbrev pub then_at : {A B : Type 0} → ℕ → Result A Reason → (A → Result B (ℕ × Reason)) → Result B (ℕ × Reason)
then_at number (Ok x) f = f x
then_at number (Err why) f = Err (number, why)

-- what is known after these lines, of which the first has the number after this one
unfoldable pub lines_at : Known → ℕ → List (List ℕ) → Result Known (ℕ × Reason)
lines_at known number [] = Ok known
lines_at known number (line ∷ lines) =
    then_at (number + 1) (refuse (nat_le MAX_LINES number) reasons.TooManyLines (line_at known (number + 1) line)) (λ said. lines_at (known_with known said) (number + 1) lines)

-- the script, where the header has ended
unfoldable pub ended_at : ℕ → Known → Result Script (ℕ × Reason)
ended_at number known =
    if is_begun known.stage then Ok known.script
    else Err (number + 1, if number == 0 then reasons.BadVersion else reasons.MissingBegin)

-- the same, where no line was refused before
abbrev pub ends_at : ℕ → Result Known (ℕ × Reason) → Result Script (ℕ × Reason)
ends_at number (Ok known) = ended_at number known
ends_at number (Err refusal) = Err refusal

-- the script that the bytes give, or the first faulty line with its reason
unfoldable pub script_at : List ℕ → Result Script (ℕ × Reason)
script_at bytes =
    if nat_lt MAX_BYTES (length bytes) then Err (0, reasons.ScriptTooLong)
    else ends_at (length (lines_of bytes)) (lines_at (known_of []) 0 (lines_of bytes))

-- a fault in the line with this number
abbrev pub fault_at : ℕ → Fault → ScriptFault
fault_at number faults.NoMemory = script_faults.NoMemory
fault_at number (faults.Refused why) = script_faults.Refused number why

-- what a function returned is what the bytes give, unless memory ran out
abbrev pub FailsAt : {X : Type 0} → ScriptFault → Result X (ℕ × Reason) → Type 0
FailsAt script_faults.NoMemory reading = Unit {0}
FailsAt (script_faults.Refused line why) reading = reading ≡ Err (line, why)

-- the same of all that it may have returned, a value or a fault
abbrev pub GivesAt : {X : Type 0} → Result X ScriptFault → Result X (ℕ × Reason) → Type 0
GivesAt (Ok x) reading = reading ≡ Ok x
GivesAt (Err fault) reading = FailsAt fault reading
