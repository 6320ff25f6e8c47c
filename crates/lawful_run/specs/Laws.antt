-- Laws of explanations.
use Rattle.std.specs.Prelude.{ℕ, ◌≤◌, List, ◌++◌}
use Rattle.std.specs.List.{Contains}
use Rattle.log_node.specs.declared.ids.Key.{Key}
use Rattle.col_core.specs.declared.Entry.{Entry}
use Rattle.col_core.specs.History.{clock, line}
use Rattle.col_core.specs.Computed.{dated}
use Rattle.col_core.specs.Legal.{IsColumnHistory}
use Rattle.col_core.specs.RegionOrder.{IsClearUpTo}
use Rattle.col_core.specs.Log.{Log, IsLater}
use Rattle.col_core.specs.Keeping.{Kept}
use Rattle.script_text.specs.declared.script.Command.{Command}
use Rattle.report_text.specs.declared.report.ReplyLine.{ReplyLine}
use Rattle.lawful_run.specs.Callers.{Caller}
use Rattle.lawful_run.specs.Explains.{Explained}

-- what a log explains to a client, each later log explains as well
abbrev pub ExplanationsLast : Type 0
ExplanationsLast =
    (old new : Log) → IsLater old new → (caller : Caller) (commands : List Command) (replies : List ReplyLine)
    (kept : Kept)
    → Explained old caller commands replies kept → Explained new caller commands replies kept

-- Where the clock is at a stamp and no open entry up to it is left, no key up to it comes into the line any more: what
-- a stamped read shows is all that the whole histories have up to its stamp.
abbrev pub ReadItemsLast : Type 0
ReadItemsLast = (own regions : ℕ) (history more : List Entry) (stamp : ℕ)
    → IsColumnHistory own regions (dated own (history ++ more)) → stamp ≤ clock history → IsClearUpTo stamp history
    → (key : Key) → key.stamp ≤ stamp → Contains (line (history ++ more)) key → Contains (line history) key
