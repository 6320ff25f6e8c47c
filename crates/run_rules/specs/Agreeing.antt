-- When two accounts of one report tell the same of its script's columns and clients.
use Rattle.std.specs.Prelude.{◌≡◌, Bool, IsTrue, ℕ, ◌<◌, List, map, Option, Some, slice_get}
use Rattle.std.specs.List.{AllZip}
use Rattle.std.specs.Option.{option_map}
use Rattle.log_node.specs.declared.forms.Version.{Version}
use Rattle.log_node.specs.declared.node.Node.{Node}
use Rattle.log_node.specs.Sets.{members}
use Rattle.col_core.specs.Keeping.{Kept}
use Rattle.script_text.specs.declared.script.Script.{Script}
use Rattle.report_text.specs.declared.report.Answer.{Answer}
use Rattle.report_text.specs.declared.report.Answer.TheVariants as answers
use Rattle.report_text.specs.declared.report.ClientReport.{ClientReport}
use Rattle.report_text.specs.declared.report.Report.{Report}
use Rattle.lawful_run.specs.Callers.{Caller, caller_of}
use Rattle.lawful_run.specs.Columns.{row_report}
use Rattle.run_rules.specs.Told.{Step, Account, kept_at, is_several}
use Rattle.run_rules.specs.Shown.{begins_row}

-- the shape has the column
abbrev pub HasColumn : Script → ℕ → ℕ → Type 0
HasColumn script region colour = (region < script.shape.regions) × (colour < script.shape.colours)

-- the keys of what a read found, whoever wrote there
abbrev pub keys_found : Option (List Version) → Option (List (List ℕ))
keys_found found = option_map (λ (versions : List Version). map (λ (v : Version). v.key) versions) found

-- A client keeps the same by both, but for columns that the shape does not have, and for who wrote what reads found.
pub record KeepSame (script : Script) (a b : Kept) : Type 0 where
  pub floor : a.floor ≡ b.floor
  pub starts : (colour : ℕ) → a.starts colour ≡ b.starts colour
  pub seen : (region colour : ℕ) → HasColumn script region colour → a.seen region colour ≡ b.seen region colour
  pub known : (colour : ℕ) → a.known colour ≡ b.known colour
  pub made : (region colour : ℕ) → HasColumn script region colour → a.made region colour ≡ b.made region colour
  pub ids : a.ids ≡ b.ids
  pub rows : a.rows ≡ b.rows
  pub reads : (object : ℕ) → keys_found (a.reads object) ≡ keys_found (b.reads object)

-- behind the answer to a step a row was begun
abbrev pub began_row : Caller → Step → Bool
began_row caller step = begins_row (is_several caller (kept_at step) step.command.what) step.reply.answer

-- the answer is that of a pull
abbrev pub IsPulled : Answer → Type 0
IsPulled (answers.Pulled count give carry) = Unit {0}
IsPulled _ = ⊥

-- The steps are one command with one reply, before which the client kept the same; and so are the places of own steps of
-- a row that was begun, and the gives of a pull that were too low.
pub record AreStepsAlike (script : Script) (caller : Caller) (a b : Step) : Type 0 where
  pub command : a.command ≡ b.command
  pub reply : a.reply ≡ b.reply
  pub kept : KeepSame script a.kept b.kept
  pub places : IsTrue (began_row caller a) → (colour : ℕ) → colour < script.shape.colours
      → a.untold.places colour ≡ b.untold.places colour
  pub too_low : IsPulled a.reply.answer → a.untold.too_low ≡ b.untold.too_low

-- The nodes are one but for their texts, of which those of commits name who wrote what reads found.
pub record AreNodesAlike (a b : Node) : Type 0 where
  pub id : a.id ≡ b.id
  pub region : a.region ≡ b.region
  pub colours : members a.colours ≡ members b.colours
  pub floor : a.floor ≡ b.floor
  pub wants : a.wants ≡ b.wants
  pub row : a.row ≡ b.row

-- The accounts tell the same, but for columns that the shape does not have, and for who wrote what reads found and so for
-- texts.
pub record Agree (script : Script) (report : Report) (a b : Account) : Type 0 where
  pub histories : (region colour : ℕ) → HasColumn script region colour
      → a.log.histories region colour ≡ b.log.histories region colour
  pub rows : (region : ℕ) → region < script.shape.regions
      → map (row_report region) (a.log.rows region) ≡ map (row_report region) (b.log.rows region)
  pub steps : (n : ℕ) (c : ClientReport) → slice_get report.clients n ≡ Some c
      → AllZip (AreStepsAlike script (caller_of script n)) (a.steps n) (b.steps n)
  pub last : (n : ℕ) (c : ClientReport) → slice_get report.clients n ≡ Some c
      → KeepSame script (a.last n) (b.last n)

-- and so do the nodes that clients appended
abbrev pub AgreeOnNodes : Report → Account → Account → Type 0
AgreeOnNodes report a b = (n : ℕ) (c : ClientReport) → slice_get report.clients n ≡ Some c
    → AllZip AreNodesAlike (a.log.nodes n) (b.log.nodes n)
