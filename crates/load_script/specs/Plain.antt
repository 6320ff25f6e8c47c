-- Scripts that only append, sync and pull, and reports of runs that found memory.
use Rattle.std.specs.Prelude.{◌≡◌, Bool, true, false, not, ◌≤◌, ℕ, length}
use Rattle.std.specs.List.{All, list_all}
use Rattle.script_text.specs.declared.commands.What.{What}
use Rattle.script_text.specs.declared.commands.What.TheVariants as whats
use Rattle.script_text.specs.declared.script.Command.{Command}
use Rattle.script_text.specs.declared.script.Script.{Script}
use Rattle.report_text.specs.declared.report.Answer.{Answer}
use Rattle.report_text.specs.declared.report.Answer.TheVariants as answers
use Rattle.report_text.specs.declared.report.Ended.{Ended}
use Rattle.report_text.specs.declared.report.Ended.TheVariants as endings
use Rattle.report_text.specs.declared.report.ClientReport.{ClientReport}
use Rattle.report_text.specs.declared.report.ReplyLine.{ReplyLine}
use Rattle.report_text.specs.declared.report.Report.{Report}
use Rattle.lawful_run.specs.Callers.{commands_of}

-- an append, a sync or a pull
abbrev pub IsPlainWhat : What → Type 0
IsPlainWhat (whats.Append colours text) = Unit {0}
IsPlainWhat (whats.Sync colour) = Unit {0}
IsPlainWhat (whats.Pull region colour) = Unit {0}
IsPlainWhat _ = ⊥

-- The script only appends, syncs and pulls, and no client has more commands than rows.
pub record IsPlainScript (script : Script) : Type 0 where
  pub plain : All (λ (c : Command). IsPlainWhat c.what) script.commands
  pub rows : (client : ℕ) → length (commands_of script client) ≤ script.shape.rows

-- the append of a decision ended for want of memory
abbrev pub ended_wanting : Ended → Bool
ended_wanting (endings.Stood stamp point) = false
ended_wanting (endings.StampEnd colour) = false
ended_wanting endings.NoMemory = true

-- the answer tells of want of memory
abbrev pub wants_memory : Answer → Bool
wants_memory (answers.Stood stamp row points) = false
wants_memory (answers.StampEnd colour) = false
wants_memory (answers.Full used) = false
wants_memory (answers.Stopped steps) = false
wants_memory (answers.Synced sync plays) = false
wants_memory (answers.Scanned stamp nodes raises syncs) = false
wants_memory (answers.Pulled nodes give carry) = false
wants_memory answers.SameRegion = false
wants_memory (answers.Based at base) = false
wants_memory (answers.Got value sync) = false
wants_memory (answers.GotMany values sync) = false
wants_memory (answers.GotKeys stamp keys raises syncs) = false
wants_memory (answers.Ruled conflict stamp row points read_stamp raises syncs) = false
wants_memory (answers.Changed failed stamp row points read_stamp raises syncs) = false
wants_memory (answers.Listed names stamp raises syncs) = false
wants_memory (answers.Undecided stamp sync) = false
wants_memory (answers.Decided commits stamp sync read_stamp raises syncs ended) = ended_wanting ended
wants_memory (answers.Moved lined waiting colour events) = false
wants_memory answers.NoTx = false
wants_memory (answers.Took value point sync) = false
wants_memory (answers.UnreadTrimmed stamp colour base) = false
wants_memory (answers.UnreadNoMemory stamp) = true
wants_memory (answers.Trimmed colour base) = false
wants_memory (answers.NotHome home) = false
wants_memory answers.NoMemory = true

-- a reply does not tell of want of memory
abbrev pub is_unwanting : ReplyLine → Bool
is_unwanting reply = not (wants_memory reply.answer)

-- none of a client's does
abbrev pub found_all : ClientReport → Bool
found_all client = list_all is_unwanting client.replies

-- no reply tells of want of memory
abbrev pub found_memory : Report → Bool
found_memory report = list_all found_all report.clients

-- no reply tells of want of memory
abbrev pub IsUnwanting : Report → Type 0
IsUnwanting report = found_memory report ≡ true
