-- Syncs within other commands, as that of a get, whose nodes no answer shows.
use Rattle.std.specs.Prelude.{◌≡◌, ℕ, max, length}
use Rattle.log_node.specs.declared.ids.Counts.{Counts}
use Rattle.col_core.specs.Keeping.{Kept, updated}
use Rattle.report_text.specs.declared.report.SyncPiece.{SyncPiece}
use Rattle.lawful_run.specs.Callers.{Caller}
use Rattle.lawful_run.specs.Reads.{kept_after_piece, greatest_played, HidesSync}
use Rattle.client_law.specs.Knowing.{Seen, Rest, log_seen, SeesOn}
use Rattle.client_law.specs.Making.{MakesNone}
use Rattle.client_law.specs.Kept.{IsKeptBy}
use Rattle.client_law.specs.Moves.{LooksThere}

-- What is kept after a sync that looked at all that is seen: the floor is above all that it has played.
abbrev pub KeptAfterPiece : Type 0
KeptAfterPiece = (old new : Seen) (rest : Rest) (caller : Caller) (kept : Kept) (sync : SyncPiece)
    → SeesOn caller old new → MakesNone caller.client old new → IsKeptBy old caller kept
    → LooksThere new caller kept sync.colour sync.counts → sync.events ≡ length (new caller.own sync.colour)
    → IsKeptBy new caller (kept_after_piece (log_seen new rest) caller kept sync)

-- the greatest stamp that a sync plays which looks at all that is seen
abbrev pub stamp_there : Seen → Rest → Caller → Kept → ℕ → Counts → ℕ
stamp_there new rest caller kept colour snapshot =
    greatest_played (log_seen new rest) caller kept colour (length (new caller.own colour)) snapshot

-- what is kept after a sync that no answer tells of
abbrev pub kept_hidden : Seen → Rest → Caller → Kept → ℕ → Counts → Kept
kept_hidden new rest caller kept colour snapshot = record kept {
  floor = max kept.floor (stamp_there new rest caller kept colour snapshot);
  starts = updated kept.starts colour snapshot;
}

-- A sync may have played of which no answer tells.
abbrev pub PlayedUntold : Type 0
PlayedUntold = (old new : Seen) (rest : Rest) (caller : Caller) (kept : Kept) (colour : ℕ) (snapshot : Counts)
    → SeesOn caller old new → IsKeptBy old caller kept → LooksThere new caller kept colour snapshot
    → HidesSync (log_seen new rest) caller kept colour snapshot (stamp_there new rest caller kept colour snapshot)

-- What is kept after it.
abbrev pub KeptUntold : Type 0
KeptUntold = (old new : Seen) (rest : Rest) (caller : Caller) (kept : Kept) (colour : ℕ) (snapshot : Counts)
    → SeesOn caller old new → MakesNone caller.client old new → IsKeptBy old caller kept
    → LooksThere new caller kept colour snapshot
    → IsKeptBy new caller (kept_hidden new rest caller kept colour snapshot)
