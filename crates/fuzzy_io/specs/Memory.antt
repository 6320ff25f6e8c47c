-- A source and a sink in memory, as contracts see them, and what their calls do.
use Rattle.std.specs.Prelude.{Bool, ℕ, ◌==◌, min, List, [], ◌++◌, length, take, drop, Ok, Err, if◌then◌else◌}
use Rattle.std.specs.declared.result.Result.{Result}
use Rattle.std.specs.List.{list_any}
use Rattle.fuzzy_io.specs.declared.source.Failed.{Failed}
use Rattle.fuzzy_io.specs.Causes.{counted}

-- a source: what is left, the most that a read gives, the numbers of the reads that fail, how many reads came, how many failed
pub record BytesLeft : Type 0 where
  pub unread : List ℕ
  pub at_most : ℕ
  pub failing : List ℕ
  pub reads : ℕ
  pub faults : ℕ

-- a sink: what it holds, the most that a write takes, the numbers of the writes that fail, how many writes came, how many failed
pub record BytesHeld : Type 0 where
  pub bytes : List ℕ
  pub at_most : ℕ
  pub failing : List ℕ
  pub writes : ℕ
  pub faults : ℕ

abbrev pub is_listed : List ℕ → ℕ → Bool
is_listed failing number = list_any (λ listed. listed == number) failing

abbrev pub unread_source : List ℕ → ℕ → List ℕ → BytesLeft
unread_source bytes at_most failing = record { unread = bytes; at_most = at_most; failing = failing; reads = 0; faults = 0 }

-- the next read fails
abbrev pub read_fails : BytesLeft → Bool
read_fails source = is_listed source.failing source.reads

-- how many bytes a read with this much room gives: all that it may
abbrev pub read_count : BytesLeft → ℕ → ℕ
read_count source room = min (min (length source.unread) room) source.at_most

abbrev pub read_answer : BytesLeft → ℕ → Result ℕ Failed
read_answer source room = if read_fails source then Err (record {}) else Ok (read_count source room)

-- the piece after a read: the bytes at its front
abbrev pub read_piece : BytesLeft → List ℕ → List ℕ
read_piece source into =
    if read_fails source then into
    else take (read_count source (length into)) source.unread ++ drop (read_count source (length into)) into

-- the source after a read
abbrev pub after_read : BytesLeft → ℕ → BytesLeft
after_read source room =
    if read_fails source then record source { reads = counted source.reads; faults = counted source.faults }
    else record source { unread = drop (read_count source room) source.unread; reads = counted source.reads }

abbrev pub empty_sink : ℕ → List ℕ → BytesHeld
empty_sink at_most failing = record { bytes = []; at_most = at_most; failing = failing; writes = 0; faults = 0 }

-- how many bytes of a piece of this length a write takes
abbrev pub write_count : BytesHeld → ℕ → ℕ
write_count sink n = min n sink.at_most

-- the sink after a write that took these bytes
abbrev pub after_write : BytesHeld → List ℕ → BytesHeld
after_write sink taken = record sink { bytes = sink.bytes ++ taken; writes = counted sink.writes }

abbrev pub after_failed_write : BytesHeld → BytesHeld
after_failed_write sink = record sink { writes = counted sink.writes; faults = counted sink.faults }
