-- The pieces of a report's lines as they are read: what stands at the front of the bytes, and the bytes behind it. What is read counts only
-- where it is printed so, so nothing is asked of what stands between the parts of a piece.
use Rattle.std.specs.Prelude.{Bool, ℕ, suc, ◌+◌, ◌*◌, ◌-◌, ◌%◌, ◌^◌, ◌==◌, ◌&&◌, ◌||◌, not, nat_lt, List, [], ◌∷◌, length, take, drop, Option, Some, None, if◌then◌else◌}
use Rattle.log_node.specs.declared.ids.Id.{Id}
use Rattle.log_node.specs.declared.ids.Key.{Key}
use Rattle.log_node.specs.declared.ids.Counts.{Counts}
use Rattle.log_node.specs.declared.node.At.{At}
use Rattle.log_node.specs.declared.node.At.TheVariants.{Event, Look}
use Rattle.script_text.specs.declared.script.Script.{Script}
use Rattle.script_text.specs.Pieces.{is_digit, is_letter_or_digit, number_of}
use Rattle.report_text.specs.declared.report.SyncPiece.{SyncPiece}
use Rattle.report_text.specs.declared.report.RaisePiece.{RaisePiece}
use Rattle.report_text.specs.declared.report.PointPiece.{PointPiece}

-- the first byte, or 0 where there is none
abbrev pub first_of : List ℕ → ℕ
first_of [] = 0
first_of (b ∷ bs) = b

-- how many letters and digits stand at the front
abbrev pub word_len : List ℕ → ℕ
word_len [] = 0
word_len (b ∷ bs) = if is_letter_or_digit b then suc (word_len bs) else 0

-- the letters and digits at the front
unfoldable pub word_at : List ℕ → List ℕ × List ℕ
word_at bytes = (take (word_len bytes) bytes, drop (word_len bytes) bytes)

-- digits that go on with a number, of which as much is kept as 64 bits hold
abbrev pub digits_at : ℕ → List ℕ → ℕ × List ℕ
digits_at value [] = (value, [])
digits_at value (b ∷ bs) =
    if is_digit b then digits_at ((value * 10 % 2 ^ 64 + (b - 48)) % 2 ^ 64) bs else (value, b ∷ bs)

-- a number
unfoldable pub number_at : List ℕ → ℕ × List ℕ
number_at bytes = digits_at 0 bytes

-- a number, of which 32 bits are kept
unfoldable pub small_at : List ℕ → ℕ × List ℕ
small_at bytes = ((number_at bytes).0 % 2 ^ 32, (number_at bytes).1)

-- a number, of which 8 bits are kept
unfoldable pub byte_at : List ℕ → ℕ × List ℕ
byte_at bytes = ((number_at bytes).0 % 2 ^ 8, (number_at bytes).1)

-- a number that was found, or else the first
abbrev pub or_first : Option ℕ → ℕ
or_first None = 0
or_first (Some n) = n

-- the number of the name at the front, or that of the first name where it is none of these
unfoldable pub named_at : List (List ℕ) → List ℕ → ℕ × List ℕ
named_at names bytes = (or_first (number_of names (word_at bytes).0), (word_at bytes).1)

-- an id
unfoldable pub id_at : Script → List ℕ → Id × List ℕ
id_at script bytes =
    let name = named_at script.clients bytes in
    let count = number_at (drop 1 name.1) in
    (record { client = name.0; count = count.0 }, count.1)

-- a key
unfoldable pub key_at : Script → List ℕ → Key × List ℕ
key_at script bytes =
    let id = id_at script bytes in
    let stamp = number_at (drop 1 id.1) in
    (record { stamp = stamp.0; id = id.0 }, stamp.1)

-- one number more behind a comma, or 0 where there is none
unfoldable pub further_at : Bool → List ℕ → ℕ × List ℕ
further_at more bytes = if more then number_at (drop 1 bytes) else (0, bytes)

-- one number for each of so many regions
unfoldable pub numbers_at : ℕ → List ℕ → Counts × List ℕ
numbers_at regions bytes =
    let a = number_at bytes in
    let b = further_at (nat_lt 1 regions) a.1 in
    let c = further_at (nat_lt 2 regions) b.1 in
    let d = further_at (nat_lt 3 regions) c.1 in
    (record { 0 = a.0 ∷ b.0 ∷ c.0 ∷ d.0 ∷ [] }, d.1)

-- counts
unfoldable pub counts_at : Script → List ℕ → Counts × List ℕ
counts_at script bytes = numbers_at (length script.regions) bytes

-- the place of an event behind `!`, or else the number of events before a look
unfoldable pub place_at : List ℕ → At × List ℕ
place_at bytes =
    let n = number_at (drop 1 bytes) in
    (if first_of bytes == 33 then Event n.0 else Look n.0, n.1)

-- a raise
unfoldable pub raise_at : Script → List ℕ → RaisePiece × List ℕ
raise_at script bytes =
    let name = named_at script.colours bytes in
    let place = place_at name.1 in
    (record { colour = name.0; at = place.0 }, place.1)

-- where an append stands
unfoldable pub point_at : Script → List ℕ → PointPiece × List ℕ
point_at script bytes =
    let raise = raise_at script bytes in
    let position = number_at (drop 1 raise.1) in
    (record { colour = raise.0.colour; at = raise.0.at; position = position.0 }, position.1)

-- a sync
unfoldable pub sync_at : Script → List ℕ → SyncPiece × List ℕ
sync_at script bytes =
    let name = named_at script.colours bytes in
    let events = number_at (drop 1 name.1) in
    let counts = counts_at script (drop 1 events.1) in
    (record { colour = name.0; events = events.0; counts = counts.0 }, counts.1)

-- what stands behind a word that follows a space; 0 where no word does
abbrev pub behind_word : List ℕ → ℕ
behind_word bytes = if first_of bytes == 32 then first_of (word_at (drop 1 bytes)).1 else 0

-- a point begins, behind a space
abbrev pub point_begins : List ℕ → Bool
point_begins bytes = (behind_word bytes == 33) || (behind_word bytes == 63)

-- what stands behind a name, a sign and a number that follow a space
abbrev pub behind_events : List ℕ → ℕ
behind_events bytes = first_of (number_at (drop 1 (word_at (drop 1 bytes)).1)).1

-- a raise begins, behind a space: other than a sync it has no slash
abbrev pub raise_begins : List ℕ → Bool
raise_begins bytes = point_begins bytes && not (behind_events bytes == 47)

-- a sync begins, behind a space
abbrev pub sync_begins : List ℕ → Bool
sync_begins bytes = behind_word bytes == 63
