-- What holds of each run of a load.
use Rattle.std.specs.Prelude.{◌≡◌, ℕ, ◌*◌, ◌≤◌, [], ◌∷◌, Some, codes, slice_get}
use Rattle.script_text.specs.declared.script.Command.{Command}
use Rattle.script_text.specs.Fitting.{IsFitting}
use Rattle.report_text.specs.declared.report.ReplyLine.{ReplyLine}
use Rattle.report_text.specs.declared.report.Report.{Report}
use Rattle.lawful_run.specs.Callers.{commands_of}
use Rattle.lawful_run.specs.Lawful.{LawfulRun}
use Rattle.lawful_run.specs.Readings.{HasReply, told}
use Rattle.load_script.specs.declared.script.TheConstants.{MAX_LOAD}
use Rattle.load_script.specs.Generated.{load_script}
use Rattle.load_script.specs.Plain.{IsPlainScript, IsUnwanting}
use Rattle.load_script.specs.Summing.{appended, is_node, tells_node, load_summary, shown_summary, summary_text}

-- The script of a load fits, and only appends, syncs and pulls.
abbrev pub LoadsFit : Type 0
LoadsFit = (count : ℕ) → count ≤ MAX_LOAD → IsFitting (load_script count) × IsPlainScript (load_script count)

-- In each lawful run of a load, in which no command found want of memory, just the appends are answered with a node that
-- stands: none is refused, for no row being left or for the stamps' end.
abbrev pub EachAppendStands : Type 0
EachAppendStands =
    (count : ℕ) (report : Report) → count ≤ MAX_LOAD → LawfulRun (load_script count) report → IsUnwanting report
    → (client k : ℕ) (command : Command) (reply : ReplyLine)
    → slice_get (commands_of (load_script count) client) k ≡ Some command → HasReply report client k reply
    → tells_node (told reply.answer) ≡ is_node (appended command.what)

-- The report of such a run shows the load's summary.
abbrev pub LoadsComeToTheirSummary : Type 0
LoadsComeToTheirSummary =
    (count : ℕ) (report : Report) → count ≤ MAX_LOAD → LawfulRun (load_script count) report → IsUnwanting report
    → shown_summary count report ≡ load_summary count

-- In a load of a multiple of eight rounds each client appends once in eight to each of the six sets.
abbrev pub LoadsOfEights : Type 0
LoadsOfEights =
    (k : ℕ) → load_summary (8 * k) ≡ record {
      count = 8 * k;
      lengths = 8 * k ∷ 12 * k ∷ 8 * k ∷ 4 * k ∷ 8 * k ∷ 12 * k ∷ 8 * k ∷ 4 * k ∷ [];
      nodes = 48 * k;
      rows = 16 * k;
    }

-- what a load of one round prints
abbrev pub LoadOfOne : Type 0
LoadOfOne = summary_text (load_summary 1) ≡ codes "load 1\neast 0 2 1 1\nwest 2 1 1 0\nnodes 6 rows 2\n"
