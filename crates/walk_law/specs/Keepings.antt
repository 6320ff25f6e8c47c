-- What a client keeps, as a judge counts it up from reply to reply.
use Rattle.std.specs.Prelude.{◌≡◌, ℕ, ◌+◌, ◌*◌, ◌<◌, List, [], map, Option, Some, None, slice_get, slice_index, slice_index_or}
use Rattle.std.specs.List.{fold}
use Rattle.log_node.specs.declared.ids.Counts.{Counts}
use Rattle.log_node.specs.declared.limits.TheConstants.{MAX_COLOURS, MAX_REGIONS}
use Rattle.log_node.specs.declared.forms.Version.{Version}
use Rattle.log_node.specs.Vectors.{zeros}
use Rattle.col_core.specs.Keeping.{Kept}
use Rattle.script_text.specs.declared.commands.What.{What}
use Rattle.report_text.specs.declared.report.Answer.{Answer}
use Rattle.report_text.specs.declared.report.Answer.TheVariants as answers
use Rattle.report_text.specs.declared.report.KeyAnswer.{KeyAnswer}
use Rattle.report_text.specs.declared.report.RaisePiece.{RaisePiece}
use Rattle.report_text.specs.declared.report.ReplyLine.{ReplyLine}
use Rattle.lawful_run.specs.Reads.{kept_after_place}

-- What is counted up, in tables of all colours, columns and objects that there can be; of a read the place of its reply among
-- the client's.
pub record Counted : Type 0 where
  pub floor : ℕ
  pub starts : List Counts
  pub seen : List ℕ
  pub known : List ℕ
  pub made : List (List ℕ)
  pub ids : ℕ
  pub rows : ℕ
  pub reads : List (Option ℕ)

-- the place of a column in a table of all that a log can have
abbrev pub cell : ℕ → ℕ → ℕ
cell region colour = MAX_COLOURS * region + colour

-- the numbers are such as a log can have
abbrev pub IsCell : ℕ → ℕ → Type 0
IsCell region colour = (region < MAX_REGIONS) × (colour < MAX_COLOURS)

-- the snapshot of the last sync of a colour
abbrev pub start_at : Counted → ℕ → Counts
start_at counted colour = slice_index_or counted.starts colour zeros

-- how many events of a column are seen
abbrev pub seen_at : Counted → ℕ → ℕ → ℕ
seen_at counted region colour = slice_index counted.seen (cell region colour)

-- how many nodes of a colour are known to stand
abbrev pub known_at : Counted → ℕ → ℕ
known_at counted colour = slice_index counted.known colour

-- the places of a column at which events were made
abbrev pub made_at : Counted → ℕ → ℕ → List ℕ
made_at counted region colour = slice_index_or counted.made (cell region colour) []

-- the place of the read of an object
abbrev pub read_at : Counted → ℕ → Option ℕ
read_at counted object = slice_index_or counted.reads object None

-- the answer shows these keys
abbrev pub ShowsKeys : List (List ℕ) → Answer → Type 0
ShowsKeys keys (answers.GotKeys stamp shown raises syncs) = keys ≡ map (λ (k : KeyAnswer). k.key) shown
ShowsKeys keys _ = ⊥

-- what a read found is of the keys of the answer in this place of the replies; and there is none where no place is
abbrev pub IsFoundAt : List ReplyLine → Option (List Version) → Option ℕ → Type 0
IsFoundAt replies None None = Unit {0}
IsFoundAt replies None (Some place) = ⊥
IsFoundAt replies (Some found) None = ⊥
IsFoundAt replies (Some found) (Some place) =
    (r : ReplyLine) × (slice_get replies place ≡ Some r) × ShowsKeys (map (λ (v : Version). v.key) found) r.answer

-- what is counted is what a client with these replies keeps
pub record IsCounted (replies : List ReplyLine) (kept : Kept) (counted : Counted) : Type 0 where
  pub floor : counted.floor ≡ kept.floor
  pub starts : (colour : ℕ) → colour < 256 → start_at counted colour ≡ kept.starts colour
  pub seen : (region colour : ℕ) → IsCell region colour → seen_at counted region colour ≡ kept.seen region colour
  pub known : (colour : ℕ) → colour < 256 → known_at counted colour ≡ kept.known colour
  pub made : (region colour : ℕ) → IsCell region colour → made_at counted region colour ≡ kept.made region colour
  pub ids : counted.ids ≡ kept.ids
  pub rows : counted.rows ≡ kept.rows
  pub reads : (object : ℕ) → object < 256 → IsFoundAt replies (kept.reads object) (read_at counted object)

-- as many ids and rows as before
pub record KeepsCount (old new : Counted) : Type 0 where
  pub ids : new.ids ≡ old.ids
  pub rows : new.rows ≡ old.rows

-- behind raises in the columns of a region
abbrev pub kept_raised : ℕ → Kept → List RaisePiece → Kept
kept_raised own kept raises = fold (λ k (r : RaisePiece). kept_after_place k own r.colour r.at) kept raises
