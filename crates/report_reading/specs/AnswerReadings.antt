-- Answers as they are read, by their first word and by the word of the command.
use Rattle.std.specs.Prelude.{Bool, true, false, ℕ, ◌==◌, ◌&&◌, not, List, [], drop, Option, Some, None, codes, if◌then◌else◌}
use Rattle.std.specs.Str.{bytes_eq}
use Rattle.object_form.specs.declared.tree_why.TreeWhy.{TreeWhy}
use Rattle.object_form.specs.declared.tree_why.TreeWhy.TheVariants as whys
use Rattle.script_text.specs.declared.commands.Word.{Word}
use Rattle.script_text.specs.declared.commands.Word.TheVariants as words
use Rattle.script_text.specs.Pieces.{is_key}
use Rattle.report_text.specs.declared.report.SyncPiece.{SyncPiece}
use Rattle.report_text.specs.declared.report.RaisePiece.{RaisePiece}
use Rattle.report_text.specs.declared.report.PointPiece.{PointPiece}
use Rattle.report_text.specs.declared.report.KeyAnswer.{KeyAnswer}
use Rattle.report_text.specs.declared.report.Ended.{Ended}
use Rattle.report_text.specs.declared.report.Ended.TheVariants as endings
use Rattle.report_text.specs.declared.report.Answer.{Answer}
use Rattle.report_text.specs.declared.report.Answer.TheVariants.{Stood, StampEnd, Full, Stopped, Synced, Scanned, Pulled, SameRegion, Based, Got, GotMany, GotKeys, Ruled, Changed, Listed, Undecided, Decided, Moved, NoTx, Took, UnreadTrimmed, UnreadNoMemory, Trimmed, NotHome, NoMemory}
use Rattle.report_reading.specs.declared.reads.Read.{Read}
use Rattle.report_reading.specs.declared.reads.Ruling.{Ruling}
use Rattle.report_reading.specs.Known.{Known}
use Rattle.report_reading.specs.Lists.{◌>>=◌, each_at}
use Rattle.report_reading.specs.Pieces.{first_of, word_at, number_at, small_at, byte_at, named_at, counts_at, place_at, raise_at, point_at, sync_at, behind_word, point_begins, raise_begins, sync_begins}
use Rattle.report_reading.specs.ColumnReadings.{listed_begins, behind_comma, behind_dash}

-- a key or a value
unfoldable pub key_text_at : List ℕ → Option (List ℕ × List ℕ)
key_text_at bytes = if is_key (word_at bytes).0 then Some (word_at bytes) else None

-- texts with commas between them, or a dash
abbrev pub texts_at : Known → List ℕ → Option (List (List ℕ) × List ℕ)
texts_at known bytes =
    each_at (λ _ b. listed_begins b) (λ _ b. key_text_at (behind_comma b)) bytes >>= λ texts.
    Some (texts.0, behind_dash texts.1)

-- points, each behind a space
abbrev pub points_at : Known → List ℕ → Option (List PointPiece × List ℕ)
points_at known bytes = each_at (λ _ b. point_begins b) (λ _ b. Some (point_at known.script (drop 1 b))) bytes

-- the raises of a stamped read, each behind a space
abbrev pub raises_at : Known → List ℕ → Option (List RaisePiece × List ℕ)
raises_at known bytes = each_at (λ _ b. raise_begins b) (λ _ b. Some (raise_at known.script (drop 1 b))) bytes

-- its syncs, each behind a space
abbrev pub syncs_at : Known → List ℕ → Option (List SyncPiece × List ℕ)
syncs_at known bytes = each_at (λ _ b. sync_begins b) (λ _ b. Some (sync_at known.script (drop 1 b))) bytes

-- the raises and the syncs of a stamped read
unfoldable pub read_at : Known → List ℕ → Option (Read × List ℕ)
read_at known bytes =
    raises_at known bytes >>= λ raises.
    syncs_at known raises.1 >>= λ syncs.
    Some (record { raises = raises.0; syncs = syncs.0 }, syncs.1)

-- a row begins: `row` behind a space, and no point of a colour of that name
abbrev pub has_row : List ℕ → Bool
has_row bytes = (first_of bytes == 32) && (first_of (drop 1 bytes) == 114) && not (point_begins bytes)

-- the number of a row, where one begins
unfoldable pub row_number_told_at : List ℕ → Option ℕ × List ℕ
row_number_told_at bytes =
    if has_row bytes then (Some (small_at (drop 5 bytes)).0, (small_at (drop 5 bytes)).1) else (None, bytes)

-- what stands behind the first words of a ruling
unfoldable pub ruling_at : Known → List ℕ → Option (Ruling × List ℕ)
ruling_at known bytes =
    let stamp = number_at bytes in
    let row = row_number_told_at stamp.1 in
    points_at known row.1 >>= λ points.
    let read_stamp = number_at (drop 4 points.1) in
    read_at known read_stamp.1 >>= λ read.
    Some (record { stamp = stamp.0; row = row.0; points = points.0; read_stamp = read_stamp.0; read = read.0 }, read.1)

-- a value, or none, and a space
unfoldable pub value_at : Bool → List ℕ → Option (Option (List ℕ) × List ℕ)
value_at found bytes =
    if found then (key_text_at bytes >>= λ value. Some (Some value.0, drop 1 value.1)) else Some (None, bytes)

-- KEY=VALUE, or KEY=-
unfoldable pub key_answer_at : List ℕ → Option (KeyAnswer × List ℕ)
key_answer_at bytes =
    key_text_at bytes >>= λ key.
    (if first_of (drop 1 key.1) == 45 then Some (record { key = key.0; value = None }, drop 2 key.1)
    else key_text_at (drop 1 key.1) >>= λ value. Some (record { key = key.0; value = Some value.0 }, value.1))

-- such an answer begins, behind a space
abbrev pub key_answer_begins : List ℕ → Bool
key_answer_begins bytes = behind_word bytes == 61

-- where a node stands
unfoldable pub stood_at : Known → List ℕ → Option (Answer × List ℕ)
stood_at known bytes =
    let stamp = number_at bytes in
    let row = row_number_told_at stamp.1 in
    points_at known row.1 >>= λ points. Some (Stood stamp.0 row.0 points.0, points.1)

unfoldable pub synced_at : Known → List ℕ → Answer × List ℕ
synced_at known bytes =
    let sync = sync_at known.script bytes in
    let plays = number_at (drop 7 sync.1) in
    (Synced sync.0 plays.0, plays.1)

unfoldable pub scanned_at : Known → List ℕ → Option (Answer × List ℕ)
scanned_at known bytes =
    let stamp = number_at bytes in
    let nodes = number_at (drop 7 stamp.1) in
    read_at known nodes.1 >>= λ read. Some (Scanned stamp.0 nodes.0 read.0.raises read.0.syncs, read.1)

unfoldable pub pulled_at : List ℕ → Answer × List ℕ
pulled_at bytes =
    let nodes = number_at bytes in
    let give = place_at (drop 6 nodes.1) in
    let carry = place_at (drop 7 give.1) in
    (Pulled nodes.0 give.0 carry.0, carry.1)

unfoldable pub based_at : Known → List ℕ → Answer × List ℕ
based_at known bytes =
    let place = place_at bytes in
    let base = counts_at known.script (drop 6 place.1) in
    (Based place.0 base.0, base.1)

-- one value at most
unfoldable pub got_at : Known → Bool → List ℕ → Option (Answer × List ℕ)
got_at known found bytes =
    value_at found bytes >>= λ value.
    let sync = sync_at known.script value.1 in
    Some (Got value.0 sync.0, sync.1)

-- the values that were found, and a space
unfoldable pub values_at : Known → Bool → List ℕ → Option (List (List ℕ) × List ℕ)
values_at known found bytes =
    if found then (texts_at known bytes >>= λ values. Some (values.0, drop 1 values.1)) else Some ([], bytes)

unfoldable pub got_many_at : Known → Bool → List ℕ → Option (Answer × List ℕ)
got_many_at known found bytes =
    values_at known found bytes >>= λ values.
    let sync = sync_at known.script values.1 in
    Some (GotMany values.0 sync.0, sync.1)

unfoldable pub got_keys_at : Known → List ℕ → Option (Answer × List ℕ)
got_keys_at known bytes =
    let stamp = number_at bytes in
    each_at (λ _ b. key_answer_begins b) (λ _ b. key_answer_at (drop 1 b)) stamp.1 >>= λ keys.
    read_at known keys.1 >>= λ read. Some (GotKeys stamp.0 keys.0 read.0.raises read.0.syncs, read.1)

unfoldable pub took_at : Known → Bool → List ℕ → Option (Answer × List ℕ)
took_at known found bytes =
    value_at found bytes >>= λ value.
    let point = point_at known.script value.1 in
    let sync = sync_at known.script (drop 1 point.1) in
    Some (Took value.0 point.0 sync.0, sync.1)

-- the names in a path
unfoldable pub listed_at : Known → List ℕ → Option (Answer × List ℕ)
listed_at known bytes =
    let stamp = number_at bytes in
    texts_at known (drop 1 stamp.1) >>= λ names.
    read_at known names.1 >>= λ read. Some (Listed (Some names.0) stamp.0 read.0.raises read.0.syncs, read.1)

-- no such path
unfoldable pub missing_at : Known → List ℕ → Option (Answer × List ℕ)
missing_at known bytes =
    let stamp = number_at bytes in
    read_at known stamp.1 >>= λ read. Some (Listed None stamp.0 read.0.raises read.0.syncs, read.1)

unfoldable pub undecided_at : Known → List ℕ → Answer × List ℕ
undecided_at known bytes =
    let stamp = number_at bytes in
    let sync = sync_at known.script (drop 1 stamp.1) in
    (Undecided stamp.0 sync.0, sync.1)

-- how the append of a decision ended
unfoldable pub ended_at : Known → List ℕ → Ended × List ℕ
ended_at known bytes =
    let next = first_of bytes in
    if next == 111 then
    (let stamp = number_at (drop 3 bytes) in
    let point = point_at known.script (drop 1 stamp.1) in
    (endings.Stood stamp.0 point.0, point.1))
    else if next == 115 then
    (let colour = named_at known.script.colours (drop 9 bytes) in (endings.StampEnd colour.0, colour.1))
    else (endings.NoMemory, drop 8 bytes)

-- a decision: whether it commits, the sync, the stamped read, and its append
unfoldable pub decided_at : Known → Bool → List ℕ → Option (Answer × List ℕ)
decided_at known commits bytes =
    let stamp = number_at bytes in
    let sync = sync_at known.script (drop 1 stamp.1) in
    let read_stamp = number_at (drop 4 sync.1) in
    read_at known read_stamp.1 >>= λ read.
    let ended = ended_at known (drop 1 read.1) in
    Some (Decided commits stamp.0 sync.0 read_stamp.0 read.0.raises read.0.syncs ended.0, ended.1)

-- a transaction that commits, or not because of this key
unfoldable pub ruled_at : Known → Option (List ℕ) → List ℕ → Option (Answer × List ℕ)
ruled_at known conflict bytes =
    ruling_at known bytes >>= λ r.
    Some (Ruled conflict r.0.stamp r.0.row r.0.points r.0.read_stamp r.0.read.raises r.0.read.syncs, r.1)

-- the key for which a transaction does not commit
unfoldable pub conflict_at : Known → List ℕ → Option (Answer × List ℕ)
conflict_at known bytes = key_text_at bytes >>= λ key. ruled_at known (Some key.0) (drop 1 key.1)

-- a change of a tree
unfoldable pub changed_at : Known → Option TreeWhy → List ℕ → Option (Answer × List ℕ)
changed_at known failed bytes =
    ruling_at known bytes >>= λ r.
    Some (Changed failed r.0.stamp r.0.row r.0.points r.0.read_stamp r.0.read.raises r.0.read.syncs, r.1)

-- the reason for which a change failed
abbrev pub why_named : List ℕ → TreeWhy
why_named name =
    if bytes_eq name (codes "exists") then whys.Exists
    else if bytes_eq name (codes "noparent") then whys.NoParent
    else if bytes_eq name (codes "missing") then whys.Missing
    else if bytes_eq name (codes "notempty") then whys.NotEmpty
    else if bytes_eq name (codes "inside") then whys.Inside
    else whys.Deep

-- a change that failed
unfoldable pub failed_at : Known → List ℕ → Option (Answer × List ℕ)
failed_at known bytes =
    let why = word_at bytes in
    changed_at known (Some (why_named why.0)) (drop 1 why.1)

-- a conditional append that found that its colour had moved on
unfoldable pub moved_at : Known → List ℕ → Answer × List ℕ
moved_at known bytes =
    let lined = number_at bytes in
    let waiting = number_at (drop 1 lined.1) in
    let colour = named_at known.script.colours (drop 1 waiting.1) in
    let events = number_at (drop 1 colour.1) in
    (Moved lined.0 waiting.0 colour.0 events.0, events.1)

-- an object that could not be read behind the append
unfoldable pub unread_at : Known → List ℕ → Answer × List ℕ
unread_at known bytes =
    let stamp = number_at bytes in
    if first_of (drop 1 stamp.1) == 116 then
    (let colour = named_at known.script.colours (drop 9 stamp.1) in
    let base = counts_at known.script (drop 1 colour.1) in
    (UnreadTrimmed stamp.0 colour.0 base.0, base.1))
    else (UnreadNoMemory stamp.0, drop 9 stamp.1)

-- nodes that are trimmed
unfoldable pub trimmed_at : Known → List ℕ → Answer × List ℕ
trimmed_at known bytes =
    let colour = named_at known.script.colours bytes in
    let base = counts_at known.script (drop 1 colour.1) in
    (Trimmed colour.0 base.0, base.1)

-- what stands behind `ok`
unfoldable pub ok_at : Known → Bool → Word → List ℕ → Option (Answer × List ℕ)
ok_at known many words.Sync bytes = Some (synced_at known bytes)
ok_at known many words.Scan bytes = scanned_at known bytes
ok_at known many words.Pull bytes = Some (pulled_at bytes)
ok_at known many words.Trim bytes = Some (based_at known bytes)
ok_at known many words.Get bytes = if many then got_many_at known true bytes else got_at known true bytes
ok_at known many words.Peek bytes = got_at known true bytes
ok_at known many words.Decide bytes = got_at known true bytes
ok_at known many words.GetAll bytes = got_keys_at known bytes
ok_at known many words.Read bytes = got_keys_at known bytes
ok_at known many words.Deq bytes = took_at known true bytes
ok_at known many words.Ls bytes = listed_at known bytes
ok_at known many _ bytes = stood_at known bytes

-- what stands behind `none`
unfoldable pub none_at : Known → Bool → Word → List ℕ → Option (Answer × List ℕ)
none_at known many words.Get bytes = if many then got_many_at known false bytes else got_at known false bytes
none_at known many words.Deq bytes = took_at known false bytes
none_at known many _ bytes = got_at known false bytes

-- what stands behind `committed`
unfoldable pub committed_at : Known → Word → List ℕ → Option (Answer × List ℕ)
committed_at known words.Decide bytes = decided_at known true bytes
committed_at known _ bytes = ruled_at known None bytes

-- what stands behind `conflict`
unfoldable pub conflicting_at : Known → Word → List ℕ → Option (Answer × List ℕ)
conflicting_at known words.Decide bytes = decided_at known false bytes
conflicting_at known _ bytes = conflict_at known bytes

-- a colour at which no stamp is left
unfoldable pub stamp_end_at : Known → List ℕ → Answer × List ℕ
stamp_end_at known bytes =
    let colour = named_at known.script.colours bytes in
    (StampEnd colour.0, colour.1)

-- how many rows are used
unfoldable pub full_at : List ℕ → Answer × List ℕ
full_at bytes =
    let used = small_at bytes in
    (Full used.0, used.1)

-- how many steps were taken
unfoldable pub stopped_at : List ℕ → Answer × List ℕ
stopped_at bytes =
    let steps = byte_at bytes in
    (Stopped steps.0, steps.1)

-- the home of an object
unfoldable pub not_home_at : Known → List ℕ → Answer × List ℕ
not_home_at known bytes =
    let home = named_at known.script.regions bytes in
    (NotHome home.0, home.1)

-- an answer without lists and texts, by its first word: the bytes behind that word and a space, and those behind the word
unfoldable pub short_at : Known → List ℕ → List ℕ → List ℕ → Answer × List ℕ
short_at known head rest end =
    if bytes_eq head (codes "stampend") then stamp_end_at known rest
    else if bytes_eq head (codes "full") then full_at rest
    else if bytes_eq head (codes "stopped") then stopped_at rest
    else if bytes_eq head (codes "sameregion") then (SameRegion, end)
    else if bytes_eq head (codes "undecided") then undecided_at known rest
    else if bytes_eq head (codes "moved") then moved_at known rest
    else if bytes_eq head (codes "notx") then (NoTx, end)
    else if bytes_eq head (codes "unread") then unread_at known rest
    else if bytes_eq head (codes "trimmed") then trimmed_at known rest
    else if bytes_eq head (codes "nothome") then not_home_at known rest
    else (NoMemory, end)

-- an answer, by its first word
unfoldable pub answer_at : Known → Bool → Word → List ℕ → Option (Answer × List ℕ)
answer_at known many word bytes =
    let head = (word_at bytes).0 in
    let end = (word_at bytes).1 in
    let rest = drop 1 end in
    if bytes_eq head (codes "ok") then ok_at known many word rest
    else if bytes_eq head (codes "none") then none_at known many word rest
    else if bytes_eq head (codes "committed") then committed_at known word rest
    else if bytes_eq head (codes "conflict") then conflicting_at known word rest
    else if bytes_eq head (codes "done") then changed_at known None rest
    else if bytes_eq head (codes "failed") then failed_at known rest
    else if bytes_eq head (codes "missing") then missing_at known rest
    else Some (short_at known head rest end)
