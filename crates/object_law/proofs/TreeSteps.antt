-- What a tree says of a step that shows a change.
use Rattle.std.proofs.Common.{◌≡◌, ◌∙◌, ap, sym, subst, Bool, IfOk, Result, ℕ, List, Option}
use Rattle.log_node.specs.declared.ids.Id.{Id}
use Rattle.log_node.specs.declared.ids.Key.{Key}
use Rattle.log_node.specs.declared.node.Node.{Node}
use Rattle.log_node.proofs.CallerLemmas.{same_some}
use Rattle.object_form.specs.declared.tree_why.TreeWhy.{TreeWhy}
use Rattle.std.specs.Prelude.{Some, slice_get}
use Rattle.col_core.specs.Keeping.{Kept}
use Rattle.script_text.specs.declared.commands.What.{What}
use Rattle.script_text.specs.declared.script.Command.{Command}
use Rattle.report_text.specs.declared.report.Answer.{Answer}
use Rattle.report_text.specs.declared.report.Answer.TheVariants as answers
use Rattle.report_text.specs.declared.report.PointPiece.{PointPiece}
use Rattle.report_text.specs.declared.report.RaisePiece.{RaisePiece}
use Rattle.report_text.specs.declared.report.ReplyLine.{ReplyLine}
use Rattle.report_text.specs.declared.report.SyncPiece.{SyncPiece}
use Rattle.lawful_run.specs.Asks.{Committing}
use Rattle.lawful_run.specs.Callers.{caller_of, commands_of}
use Rattle.lawful_run.specs.Deeds.{manner_of}
use Rattle.column_track.specs.Tracks.{Tells}
use Rattle.run_rules.specs.Answering.{CanHave}
use Rattle.run_rules.specs.Shown.{own_key}
use Rattle.run_rules.specs.Telling.{replies_to}
use Rattle.run_rules.specs.Told.{Step, kept_at, stamp_told}
use Rattle.walk_law.specs.Keepings.{Counted, IsCounted}
use Rattle.object_law.specs.Thirteenth.{IsTreeAnswer, TellsChange, TreesSaySo}
use Rattle.walk_law.specs.Walking.{IsSeen, Walked, log_walked}

pub change_said : (walked : Walked) (table : List (List Node)) (client place : ℕ) (counted : Counted) (step : Step)
    → IsSeen walked client place counted step → (command : Command) → slice_get (commands_of walked.script client) place ≡ Some command
    → (reply : ReplyLine) → slice_get (replies_to walked.report client) place ≡ Some reply
    → (failed : Option TreeWhy) (stamp : ℕ) (row : Option ℕ) (points : List PointPiece) (read_stamp : ℕ) (raises : List RaisePiece)
    (syncs : List SyncPiece) → reply.answer ≡ answers.Changed failed stamp row points read_stamp raises syncs → (own : ℕ) (id : Id)
    → ((kept : Kept) → IsCounted (replies_to walked.report client) kept counted
    → own ≡ stamp_told (log_walked walked) (caller_of walked.script client) kept row points)
    → id ≡ record { client = client; count = counted.ids } → {E : Type 0} (r : Result Bool E) → (manner_of command.what ≡ Committing
    → IfOk r (λ b. Tells b (TellsChange walked table (caller_of walked.script client) command.what failed stamp
    (record { stamp = own; id = id }) read_stamp)))
    → IfOk r (λ b. Tells b (TreesSaySo walked table (caller_of walked.script client) step))
change_said walked table client place counted step seen command at_c reply at_r failed stamp row points read_stamp raises syncs is own id
    of_log next r told =
    let it = caller_of walked.script client in
    let answer : Answer = answers.Changed failed stamp row points read_stamp raises syncs in
    let kept = kept_at step in
    let same : command ≡ step.command = same_some (sym at_c ∙ seen.command) in
    let shown : step.reply.answer ≡ answer =
    ap (λ (r : ReplyLine). r.answer) (same_some (sym seen.reply ∙ at_r)) ∙ is in
    let can = subst (CanHave it kept step.command.what step.reply.nodes) shown seen.can.answer in
    let manner = subst (λ (d : Command). manner_of d.what ≡ Committing) (sym same) can.1 in
    let key : Key = record { stamp = own; id = id } in
    let at_id : id ≡ record { client = it.client; count = kept.ids } =
    next ∙ ap (λ (n : ℕ). let i : Id = record { client = client; count = n } in i) seen.kept.ids in
    let key_is : key ≡ own_key it kept (stamp_told (log_walked walked) it kept row points) =
    ap (λ (n : ℕ). let k : Key = record { stamp = n; id = id } in k) (of_log kept seen.kept)
    ∙ ap (λ (i : Id). let k : Key = record { stamp = stamp_told (log_walked walked) it kept row points; id = i } in k) at_id in
    subst (λ (a : Answer). IfOk r (λ (b : Bool). Tells b (IsTreeAnswer walked table it kept step.command.what a))) (sym shown)
    (subst (λ (d : Command). IfOk r (λ (b : Bool). Tells b (IsTreeAnswer walked table it kept d.what answer))) same
    (subst (λ (k : Key). IfOk r (λ (b : Bool). Tells b (TellsChange walked table it command.what failed stamp k read_stamp)))
    key_is (told manner)))
