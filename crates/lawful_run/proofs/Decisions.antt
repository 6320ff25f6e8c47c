-- What a decide does before its node is appended: it uses no id, and what it asks to append does not rest on what it keeps.
use Rattle.std.proofs.Common.{ℕ, List, refl, sym, subst}
use Rattle.log_node.specs.declared.ids.Colours.{Colours}
use Rattle.col_core.specs.Log.{Log}
use Rattle.col_core.specs.Keeping.{Kept}
use Rattle.script_text.specs.declared.commands.What.{What}
use Rattle.report_text.specs.declared.report.RaisePiece.{RaisePiece}
use Rattle.report_text.specs.declared.report.SyncPiece.{SyncPiece}
use Rattle.lawful_run.specs.Callers.{Caller}
use Rattle.lawful_run.specs.Deeds.{AsksToAppend}
use Rattle.lawful_run.specs.Reads.{ReadsAt, kept_after_piece}
use Rattle.lawful_run.specs.Parts.{AsksToDecide}
use Rattle.lawful_run.proofs.Traces.{Quiet, quiet_then, read}
use Rattle.lawful_run.proofs.Uses.{quiet_same}

-- the node that a decide asks to append does not rest on what its client keeps
pub decide_asks : (caller : Caller) (kept other : Kept) (what : What) (sync : SyncPiece) (own : List ℕ)
    → AsksToDecide caller what sync own → (colours : Colours) (text : List ℕ)
    → AsksToAppend caller kept what colours text → AsksToAppend caller other what colours text
decide_asks caller kept other what sync own asks colours text a =
    subst (λ (w : What). AsksToAppend caller other w colours text) (sym asks.2)
    (subst (λ (w : What). AsksToAppend caller kept w colours text) asks.2 a)

-- a sync, and a stamped read behind it
pub reads_behind : (log : Log) (caller : Caller) (kept : Kept) (sync : SyncPiece) (colours : List ℕ) (stamp : ℕ)
    (raises : List RaisePiece) (syncs : List SyncPiece) (after : Kept)
    → ReadsAt log caller (kept_after_piece log caller kept sync) colours stamp raises syncs after → Quiet log kept after
reads_behind log caller kept sync colours stamp raises syncs after reads =
    quiet_then (quiet_same log kept (kept_after_piece log caller kept sync) refl refl)
    (read log caller (kept_after_piece log caller kept sync) colours stamp raises syncs after reads)
