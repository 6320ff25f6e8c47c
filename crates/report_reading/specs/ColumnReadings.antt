-- The lines of a column as they are read.
use Rattle.std.specs.Prelude.{Bool, true, false, ℕ, ◌*◌, ◌/◌, ◌%◌, ◌-◌, ◌^◌, ◌==◌, ◌&&◌, ◌||◌, not, nat_lt, List, length, drop, Option, Some, if◌then◌else◌}
use Rattle.log_node.specs.declared.ids.Key.{Key}
use Rattle.log_node.specs.declared.node.Head.{Head}
use Rattle.col_core.specs.declared.Event.{Event}
use Rattle.col_core.specs.declared.Event.TheVariants.{Single, Propose, Settle, Raise, Give, Carry, Trim}
use Rattle.col_core.specs.declared.Entry.{Entry}
use Rattle.script_text.specs.declared.script.Script.{Script}
use Rattle.script_text.specs.Pieces.{is_digit, is_letter_or_digit, name_of}
use Rattle.report_text.specs.declared.report.QueueKey.{QueueKey}
use Rattle.report_text.specs.declared.report.ColumnReport.{ColumnReport}
use Rattle.report_reading.specs.declared.columns.Entering.{Entering}
use Rattle.report_reading.specs.declared.columns.Closing.{Closing}
use Rattle.report_reading.specs.Known.{Known}
use Rattle.report_reading.specs.Lists.{◌>>=◌, each_at}
use Rattle.report_reading.specs.Pieces.{first_of, number_at, named_at, id_at, key_at, counts_at}
use Rattle.report_reading.specs.RowReadings.{outcome_at}

-- a carried node
unfoldable pub head_at : Script → List ℕ → Head × List ℕ
head_at script bytes =
    let key = key_at script bytes in
    let needs = counts_at script (drop 1 key.1) in
    (record { key = key.0; needs = needs.0 }, needs.1)

-- carried nodes, each behind a space
abbrev pub heads_at : Known → List ℕ → Option (List Head × List ℕ)
heads_at known bytes = each_at (λ _ b. first_of b == 32) (λ _ b. Some (head_at known.script (drop 1 b))) bytes

-- an id that enters, with the floor and the wants of its append and the stamp that it was given
unfoldable pub entering_at : Script → List ℕ → Entering × List ℕ
entering_at script bytes =
    let id = id_at script bytes in
    let floor = number_at (drop 7 id.1) in
    let wants = counts_at script (drop 7 floor.1) in
    let stamp = number_at (drop 7 wants.1) in
    (record { id = id.0; floor = floor.0; wants = wants.0; stamp = stamp.0 }, stamp.1)

-- a single or a propose
abbrev pub entered : ℕ → Bool → Entering → Entry
entered by single e =
    record { by = by; event = if single then Single e.id e.floor e.wants else Propose e.id e.floor e.wants; stamp = e.stamp }

-- an entry that gives no stamp
abbrev pub unstamped : ℕ → Event → Entry
unstamped by event = record { by = by; event = event; stamp = 0 }

-- an id that is settled
unfoldable pub settle_at : Script → ℕ → List ℕ → Entry × List ℕ
settle_at script by bytes =
    let id = id_at script bytes in
    let outcome = outcome_at (drop 1 id.1) in
    (unstamped by (Settle id.0 outcome.0), outcome.1)

-- what was asked for by a region
unfoldable pub give_at : Script → ℕ → List ℕ → Entry × List ℕ
give_at script by bytes =
    let region = named_at script.regions bytes in
    let from = number_at (drop 1 region.1) in
    (unstamped by (Give region.0 from.0), from.1)

-- nodes that are carried
unfoldable pub carry_at : Known → ℕ → List ℕ → Option (Entry × List ℕ)
carry_at known by bytes =
    let region = named_at known.script.regions bytes in
    let start = number_at (drop 1 region.1) in
    heads_at known start.1 >>= λ heads.
    Some (unstamped by (Carry region.0 start.0 heads.0), heads.1)

-- an event by its first letters
unfoldable pub event_at : Known → ℕ → List ℕ → Option (Entry × List ℕ)
event_at known by bytes =
    let next = first_of bytes in
    if next == 115 then
    (if first_of (drop 1 bytes) == 105 then
    (let e = entering_at known.script (drop 7 bytes) in
    Some (entered by true e.0, e.1))
    else Some (settle_at known.script by (drop 7 bytes)))
    else if next == 112 then
    (let e = entering_at known.script (drop 8 bytes) in
    Some (entered by false e.0, e.1))
    else if next == 114 then
    Some (unstamped by (Raise (number_at (drop 6 bytes)).0), (number_at (drop 6 bytes)).1)
    else if next == 103 then Some (give_at known.script by (drop 5 bytes))
    else if next == 99 then carry_at known by (drop 6 bytes)
    else Some (unstamped by (Trim (counts_at known.script (drop 5 bytes)).0), (counts_at known.script (drop 5 bytes)).1)

-- a line of a journal
unfoldable pub entry_at : Known → List ℕ → Option (Entry × List ℕ)
entry_at known bytes =
    let place = number_at bytes in
    let by = named_at known.script.clients (drop 1 place.1) in
    event_at known by.0 (drop 1 by.1) >>= λ entry.
    Some (entry.0, drop 1 entry.1)

-- a line of a journal begins; there are no more of them than 64 bits count
abbrev pub entry_begins : ℕ → List ℕ → Bool
entry_begins place bytes = nat_lt place (2 ^ 64 - 1) && is_digit (first_of bytes)

-- a journal
abbrev pub journal_at : Known → List ℕ → Option (List Entry × List ℕ)
journal_at known bytes = each_at entry_begins (λ _ b. entry_at known b) bytes

-- one more of a list begins: at a comma, or with a letter or a digit where it is the first
abbrev pub listed_begins : List ℕ → Bool
listed_begins bytes = (first_of bytes == 44) || is_letter_or_digit (first_of bytes)

-- behind a comma, if there is one
abbrev pub behind_comma : List ℕ → List ℕ
behind_comma bytes = if first_of bytes == 44 then drop 1 bytes else bytes

-- behind the dash of an empty list, if there is one
abbrev pub behind_dash : List ℕ → List ℕ
behind_dash bytes = if first_of bytes == 45 then drop 1 bytes else bytes

-- a key that is not in the line, which is open where `?` stands behind it
unfoldable pub queue_key_at : Script → List ℕ → QueueKey × List ℕ
queue_key_at script bytes =
    let key = key_at script bytes in
    let waits = first_of key.1 == 63 in
    (record { key = key.0; settled = not waits }, if waits then drop 1 key.1 else key.1)

-- keys with commas between them, or a dash
abbrev pub line_at : Known → List ℕ → Option (List Key × List ℕ)
line_at known bytes =
    each_at (λ _ b. listed_begins b) (λ _ b. Some (key_at known.script (behind_comma b))) bytes >>= λ keys.
    Some (keys.0, behind_dash keys.1)

-- keys that are not in the line, with commas between them, or a dash
abbrev pub queue_at : Known → List ℕ → Option (List QueueKey × List ℕ)
queue_at known bytes =
    each_at (λ _ b. listed_begins b) (λ _ b. Some (queue_key_at known.script (behind_comma b))) bytes >>= λ keys.
    Some (keys.0, behind_dash keys.1)

-- what a column is in the end
unfoldable pub closing_at : Known → List ℕ → Option (Closing × List ℕ)
closing_at known bytes =
    let clock = number_at (drop 8 bytes) in
    line_at known (drop 6 clock.1) >>= λ line.
    queue_at known (drop 7 line.1) >>= λ queue.
    let cut = counts_at known.script (drop 5 queue.1) in
    let base = counts_at known.script (drop 6 cut.1) in
    Some (record { clock = clock.0; line = line.0; queue = queue.0; cut = cut.0; base = base.0 }, drop 1 base.1)

-- there is a column in the place
abbrev pub column_begins : Known → ℕ → Bool
column_begins known place = nat_lt place (length known.script.regions * length known.script.colours)

-- behind the line of a column that has these names
abbrev pub behind_names : List ℕ → List ℕ → List ℕ → List ℕ
behind_names region colour bytes = drop 1 (drop (length colour) (drop 1 (drop (length region) (drop 7 bytes))))

-- the column in a place, whose names the script has
unfoldable pub column_at : Known → ℕ → List ℕ → Option (ColumnReport × List ℕ)
column_at known place bytes =
    let region = place / length known.script.colours in
    let colour = place % length known.script.colours in
    let region_name = name_of known.script.regions region in
    let colour_name = name_of known.script.colours colour in
    journal_at known (behind_names region_name colour_name bytes) >>= λ journal.
    closing_at known journal.1 >>= λ closing.
    Some (
      record {
        region = region;
        colour = colour;
        region_name = region_name;
        colour_name = colour_name;
        journal = journal.0;
        clock = closing.0.clock;
        line = closing.0.line;
        queue = closing.0.queue;
        cut = closing.0.cut;
        base = closing.0.base;
      },
      closing.1,
    )
