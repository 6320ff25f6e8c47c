-- In an account that is computed the nodes of decisions say what these are to say.
use Rattle.std.proofs.Common.{◌≡◌, ◌∙◌, refl, ap, ℕ, List, [], ◌∷◌, Some}
use Rattle.std.specs.Prelude.{slice_get}
use Rattle.log_node.specs.declared.forms.Version.{Version}
use Rattle.log_node.specs.declared.node.Node.{Node}
use Rattle.log_node.specs.Seen.{PlacedNode}
use Rattle.part_fold.specs.declared.decision.Decision.{Decision}
use Rattle.part_fold.specs.Decisions.{decision_text}
use Rattle.col_core.specs.Keeping.{Kept}
use Rattle.col_core.specs.Log.{Log}
use Rattle.script_text.specs.declared.commands.What.{What}
use Rattle.script_text.specs.declared.commands.What.TheVariants as whats
use Rattle.script_text.specs.declared.script.Script.{Script}
use Rattle.script_text.specs.Fitting.{IsFitting}
use Rattle.report_text.specs.declared.report.Answer.{Answer}
use Rattle.report_text.specs.declared.report.Answer.TheVariants as answers
use Rattle.report_text.specs.declared.report.ClientReport.{ClientReport}
use Rattle.report_text.specs.declared.report.Ended.TheVariants as ends
use Rattle.report_text.specs.declared.report.Report.{Report}
use Rattle.lawful_run.specs.Asks.{kind_asked, object_colours}
use Rattle.lawful_run.specs.Callers.{Caller, caller_of, node_of}
use Rattle.lawful_run.specs.Deeds.{ShardsOf}
use Rattle.lawful_run.specs.Reads.{kept_after_piece}
use Rattle.run_rules.specs.Told.{Account, Step, kept_at, kept_deciding}
use Rattle.run_rules.specs.Telling.{FindKeys, IsWellFormed, account_of, account_with, log_of, no_nodes}
use Rattle.run_rules.specs.Answering.{CanHave}
use Rattle.run_rules.specs.Rules.{IsReplyTo, Rule1}
use Rattle.run_rules.specs.Nodes.{node_asked, node_told, nodes_with, set_reached}
use Rattle.run_rules.specs.Shown.{SaysSo}
use Rattle.run_rules.proofs.ByNumber.{Numbered, numbered_more}
use Rattle.run_rules.proofs.Lists.{all_at}
use Rattle.run_rules.proofs.NodesAlike.{read_ids}
use Rattle.run_rules.proofs.NodesTold.{IsToldThere, of_client, replies}

-- the node of a decision, where it stands, says this
abbrev pub SaysDecision : Decision → Log → Caller → Kept → Answer → Type 0
SaysDecision decision log caller kept (answers.Decided commits stamp sync read_stamp raises syncs ended) =
    SaysSo log caller (kept_deciding log caller kept sync read_stamp raises syncs) (decision_text decision) ended
SaysDecision decision log caller kept _ = Unit {0}

module _ (n : ℕ) (script : Script) (report : Report) (x y : ℕ → List Node) where
  abbrev it : Caller
  it = caller_of script n

  abbrev before : Log
  before = log_of report x

  told_says : (decision : Decision) (what : What) (kept : Kept) (nodes : List PlacedNode) (answer : Answer)
      → CanHave it kept what nodes answer
      → ((m : Node) → slice_get (node_told decision before it kept what answer) 0 ≡ Some m → slice_get (y n) kept.ids ≡ Some m)
      → SaysDecision decision (log_of report y) it kept answer
  told_says decision what kept nodes (answers.Decided commits stamp sync read_stamp raises syncs (ends.Stood own point)) can there =
      let middle = kept_deciding before it kept sync read_stamp raises syncs in
      let asked : What = whats.Decide can.2.0 can.2.1 in
      let node = node_of it middle (set_reached (object_colours (kind_asked it asked)) (ShardsOf (can.2.1 ∷ [])))
      (decision_text decision) in (
        node,
        ap (slice_get (y n)) (read_ids before it (kept_after_piece before it kept sync) read_stamp raises syncs)
            ∙ there node (ap (λ (w : What). slice_get (node_asked decision it middle w) 0) can.2.2),
        refl,
        refl,
      )
  told_says decision what kept nodes (answers.Decided commits stamp sync read_stamp raises syncs _) can there = tt
  told_says decision what kept nodes _ can there = tt

module _ (script : Script) (report : Report) (found : ℕ → ℕ → List Version) (decided : ℕ → ℕ → Decision)
    (fits : IsFitting script) (well : IsWellFormed script report)
    (keys : (n : ℕ) (c : ClientReport) → slice_get report.clients n ≡ Some c → FindKeys (found n) c.replies)
    (first : Rule1 script report (account_of script report no_nodes)) where
  abbrev nodes : ℕ → List Node
  nodes = nodes_with script report found decided

  abbrev full : Account
  full = account_with script report nodes found

  pub decisions_said : (n : ℕ) (c : ClientReport) → slice_get report.clients n ≡ Some c
      → Numbered (λ k s. SaysDecision (decided n k) full.log (caller_of script n) (kept_at s) s.reply.answer) (full.steps n)
  decisions_said n c there =
      numbered_more (λ (k : ℕ) (s : Step). IsToldThere script fits n report no_nodes nodes (decided n k) s)
      (λ (k : ℕ) (s : Step). SaysDecision (decided n k) full.log (caller_of script n) (kept_at s) s.reply.answer) (full.steps n)
      (of_client script report found decided fits well keys first n c there).0
      (λ k s at told.
      let reply = all_at (IsReplyTo (caller_of script n)) (full.steps n) k s at
      ((replies script report found decided fits well keys first).replies n c there) in
      told_says n script report no_nodes nodes (decided n k) s.command.what (kept_at s) s.reply.nodes s.reply.answer reply.answer
      told)
