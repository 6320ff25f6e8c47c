-- The keys that reads go over, as beginnings of whole lines and of their order.
use Rattle.std.specs.Prelude.{◌≡◌, ℕ, ◌-◌, ◌^◌, ◌<◌, ◌≤◌, List, length, map, take}
use Rattle.std.specs.List.{Contains}
use Rattle.log_node.specs.declared.limits.TheConstants.{MAX_REGIONS}
use Rattle.log_node.specs.declared.ids.Key.{Key}
use Rattle.log_node.specs.Vectors.{at}
use Rattle.col_core.specs.History.{line}
use Rattle.col_core.specs.Log.{Log}
use Rattle.col_core.specs.Computed.{dated}
use Rattle.col_core.specs.Keeping.{Kept}
use Rattle.col_core.specs.Legal.{IsColumnHistory}
use Rattle.playback.specs.Merging.{region_order, up_to}
use Rattle.report_text.specs.declared.report.RaisePiece.{RaisePiece}
use Rattle.report_text.specs.declared.report.SyncPiece.{SyncPiece}
use Rattle.lawful_run.specs.Callers.{Caller}
use Rattle.lawful_run.specs.Objects.{own_played}
use Rattle.lawful_run.specs.Reads.{AreKeysRead, ReadsAt, Syncs}

-- the whole own lines of these colours
abbrev pub whole_lines : Log → ℕ → List ℕ → List (List Key)
whole_lines log region colours = map (λ colour. line (log.histories region colour)) colours

-- all their keys, each once, in rising order
abbrev pub whole_order : Log → ℕ → List ℕ → List Key
whole_order log region colours = region_order (2 ^ 64 - 1) (whole_lines log region colours)

-- A stamped read of some colours, whose histories are lawful, goes over the beginning of their order up to its stamp.
abbrev pub ReadsBegin : Type 0
ReadsBegin = (log : Log) (caller : Caller) (kept : Kept) (colours : List ℕ) (stamp : ℕ) (raises : List RaisePiece)
    (syncs : List SyncPiece) (after : Kept) (n : ℕ)
    → ((colour : ℕ) → Contains colours colour
    → IsColumnHistory caller.own caller.regions (dated caller.own (log.histories caller.own colour)))
    → stamp < 2 ^ 64 → ReadsAt log caller kept colours stamp raises syncs after
    → take n (whole_order log caller.own colours) ≡ up_to stamp (whole_order log caller.own colours)
    → AreKeysRead log caller stamp syncs (take n (whole_order log caller.own colours))

-- The own nodes that a sync played are the first of the whole line, whose history is lawful, as many as its snapshot counts.
abbrev pub PlayedBegin : Type 0
PlayedBegin = (log : Log) (caller : Caller) (kept : Kept) (sync : SyncPiece) → caller.own < MAX_REGIONS
    → IsColumnHistory caller.own caller.regions (dated caller.own (log.histories caller.own sync.colour))
    → Syncs log caller kept sync.colour sync.events sync.counts
    → (take (at sync.counts caller.own) (line (log.histories caller.own sync.colour)) ≡ own_played log caller sync)
    × (at sync.counts caller.own ≤ length (line (log.histories caller.own sync.colour)))
