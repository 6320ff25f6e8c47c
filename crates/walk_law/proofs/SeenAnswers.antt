-- What may be used of an answer that a command can have: its colours are of the shape, and its stamped read has the command's.
use Rattle.std.proofs.Common.{◌≡◌, ◌∙◌, refl, ap, sym, subst, Bool, ℕ, ◌<◌, List, [], ◌∷◌, Option, Some, None, inl, inr}
use Rattle.std.specs.Prelude.{◌==◌, slice_get}
use Rattle.std.specs.List.{All}
use Rattle.std.proofs.lemmas.List.Elements.{All-contains}
use Rattle.log_node.proofs.CallerLemmas.{same_some}
use Rattle.object_fold.specs.Maps.{Value}
use Rattle.object_fold.specs.Nodes.{shard_of}
use Rattle.col_core.specs.Keeping.{Kept}
use Rattle.col_core.proofs.CallerLemmas.{In, all_in, contains_in, in_filter, slice_in}
use Rattle.script_text.specs.Fitting.{IsFitting, IsWithin}
use Rattle.script_text.specs.declared.commands.What.{What}
use Rattle.script_text.specs.declared.script.Kind.{Kind}
use Rattle.script_text.specs.declared.script.Kind.TheVariants as kinds
use Rattle.script_text.specs.declared.script.Script.{Script}
use Rattle.script_text.specs.declared.script.Command.{Command}
use Rattle.report_text.specs.declared.report.ReplyLine.{ReplyLine}
use Rattle.report_text.specs.declared.report.Report.{Report}
use Rattle.report_text.specs.declared.report.PointPiece.{PointPiece}
use Rattle.report_text.specs.declared.report.RaisePiece.{RaisePiece}
use Rattle.report_text.specs.declared.report.SyncPiece.{SyncPiece}
use Rattle.lawful_run.specs.Asks.{kind_asked, kind_of_object, object_colours, rising}
use Rattle.lawful_run.specs.Callers.{Caller, caller_of, commands_of}
use Rattle.lawful_run.specs.Deeds.{colours_synced}
use Rattle.lawful_run.specs.Parts.{AsksToDecide}
use Rattle.run_rules.specs.Answering.{CanGet, CanHave, HasPoints, HasReads}
use Rattle.run_rules.specs.Told.{Step, colours_asked, kept_at, kept_told}
use Rattle.run_rules.specs.Telling.{replies_to, untold_told}
use Rattle.lawful_run.specs.Refusals.{kept_behind}
use Rattle.walk_law.specs.Behind.{IsAnswered}
use Rattle.walk_law.specs.Keepings.{Counted, IsCounted}
use Rattle.walk_law.specs.Ninth.{PassesTo, ShowsFirst, StepShows, log_shown}
use Rattle.walk_law.specs.Walking.{CountsBehind, IsSeen, Walked, log_walked, places_printed}
use Rattle.run_rules.proofs.CallerLemmas.{appended_within, kind_within, synced_within}

module _ (script : Script) (fits : IsFitting script) (n : ℕ) (what : What)
    (within : IsWithin script.shape.regions script.shape.colours what) where
  abbrev who : Caller
  who = caller_of script n

  pub one_low : (colour : ℕ) → colours_synced who what ≡ colour ∷ [] → colour < script.shape.colours
  one_low colour e = synced_within script fits n what within colour (subst (In colour) (sym e) (inl refl))

  pub all_low : All (λ c. c < script.shape.colours) (colours_synced who what)
  all_low = all_in (λ c. c < script.shape.colours) (colours_synced who what) (synced_within script fits n what within)

  pub decide_own : (sync : SyncPiece) (colours : List ℕ) → AsksToDecide who what sync colours
      → object_colours (kind_asked who what) ≡ colours
  decide_own sync colours asks = ap (λ (w : What). object_colours (kind_asked who w)) asks.2 ∙ ap object_colours asks.4

  decide_synced : (sync : SyncPiece) (colours : List ℕ) → AsksToDecide who what sync colours
      → colours_synced who what ≡ sync.colour ∷ rising colours
  decide_synced sync colours asks =
      ap (colours_synced who) asks.2
      ∙ (ap (λ own. shard_of own asks.1 ∷ rising own) (ap object_colours asks.4) ∙ ap (λ k. k ∷ rising colours) (sym asks.5))

  pub decide_low : (sync : SyncPiece) (colours : List ℕ) → AsksToDecide who what sync colours → sync.colour < script.shape.colours
  decide_low sync colours asks =
      synced_within script fits n what within sync.colour (subst (In sync.colour) (sym (decide_synced sync colours asks)) (inl refl))

  pub decide_all : (sync : SyncPiece) (colours : List ℕ) → AsksToDecide who what sync colours
      → All (λ c. c < script.shape.colours) (rising (object_colours (kind_asked who what)))
  decide_all sync colours asks =
      subst (λ own. All (λ c. c < script.shape.colours) (rising own)) (sym (decide_own sync colours asks))
      (all_in (λ c. c < script.shape.colours) (rising colours) (λ c i.
      synced_within script fits n what within c (subst (In c) (sym (decide_synced sync colours asks)) (inr i))))

  pub decide_has : (sync : SyncPiece) (colours : List ℕ) (raises : List RaisePiece) (syncs : List SyncPiece)
      → AsksToDecide who what sync colours → HasReads (rising colours) raises syncs
      → HasReads (rising (object_colours (kind_asked who what))) raises syncs
  decide_has sync colours raises syncs asks has =
      subst (λ own. HasReads (rising own) raises syncs) (sym (decide_own sync colours asks)) has

  pub got_low : (value : Value) (sync : SyncPiece) (kind : Option Kind) → CanGet who what sync value kind
      → sync.colour < script.shape.colours
  got_low value sync (Some (kinds.Map home colours)) can = one_low sync.colour can.1.3
  got_low value sync (Some (kinds.Parts home colours)) can = elim can [
    | inl x ↦ one_low sync.colour x.1.3
    | inr x ↦ decide_low sync colours x.0
  ]
  got_low value sync _ can = absurd can

  pub point_low : (kept : Kept) (point : PointPiece) (colour : ℕ) → HasPoints (colours_asked who kept what) None (point ∷ [])
      → colour ≡ point.colour → colour < script.shape.colours
  point_low kept point colour has is =
      subst (λ c. c < script.shape.colours) (sym is)
      (appended_within script fits n kept what within point.colour (subst (In point.colour) has.0 (inl refl)))

-- the colour of a causal map is of the shape
pub kind_low : (script : Script) (fits : IsFitting script) (n object colour : ℕ)
    → kind_of_object (caller_of script n) object ≡ Some (kinds.Causal colour) → colour < script.shape.colours
kind_low script fits n object colour e = kind_within script fits n object (kinds.Causal colour) e

-- A STEP THAT IS SEEN

module _ (walked : Walked) (fits : IsFitting walked.script) (client place : ℕ) (old : Counted) (step : Step)
    (seen : IsSeen walked client place old step) (command : Command) (reply : ReplyLine)
    (at_command : slice_get (commands_of walked.script client) place ≡ Some command)
    (at_reply : slice_get (replies_to walked.report client) place ≡ Some reply) where
  abbrev caller : Caller
  caller = caller_of walked.script client

  pub same_command : step.command ≡ command
  same_command = same_some (sym seen.command ∙ at_command)

  same_reply : step.reply ≡ reply
  same_reply = same_some (sym seen.reply ∙ at_reply)

  pub step_answered : IsAnswered walked client place command.what reply.answer (kept_at step) step.untold old
  step_answered = record {
    reply = (reply, at_reply, refl);
    told = seen.untold
        ∙ (ap (λ (c : Command). untold_told (log_walked walked) caller (places_printed walked client) (kept_at step) c.what
        step.reply.answer) same_command
        ∙ ap (λ (r : ReplyLine). untold_told (log_walked walked) caller (places_printed walked client) (kept_at step) command.what
        r.answer) same_reply);
    counts = seen.kept;
  }

  pub step_can : CanHave caller (kept_at step) command.what reply.nodes reply.answer
  step_can =
      subst (λ (r : ReplyLine). CanHave caller (kept_at step) command.what r.nodes r.answer) same_reply
      (subst (λ (c : Command). CanHave caller (kept_at step) c.what step.reply.nodes step.reply.answer) same_command seen.can.answer)

  pub step_within : IsWithin walked.script.shape.regions walked.script.shape.colours command.what
  step_within =
      let i = in_filter (λ (c : Command). c.client == client) command walked.script.commands
      (slice_in (commands_of walked.script client) place command at_command) in
      All-contains (λ (c : Command). IsWithin walked.script.shape.regions walked.script.shape.colours c.what) walked.script.commands
      command fits.commands (contains_in walked.script.commands command i.0)

  pub step_passes : (texts : Report) (new : Counted) (b : Bool)
      → PassesTo (replies_to walked.report client)
      (ShowsFirst texts (log_shown walked.script walked.report) step.untold caller (kept_at step) command.what reply.nodes reply.answer)
      (kept_told (log_walked walked) step.untold caller (kept_at step) command.what reply.answer) new b
      → PassesTo (replies_to walked.report client) (StepShows walked.script walked.report texts caller step)
      (kept_told (log_walked walked) step.untold caller (kept_at step) step.command.what step.reply.answer) new b
  step_passes texts new b passes =
      subst (λ (c : Command). PassesTo (replies_to walked.report client)
      (ShowsFirst texts (log_shown walked.script walked.report) step.untold caller (kept_at step) c.what step.reply.nodes
      step.reply.answer)
      (kept_told (log_walked walked) step.untold caller (kept_at step) c.what step.reply.answer) new b) (sym same_command)
      (subst (λ (r : ReplyLine). PassesTo (replies_to walked.report client)
      (ShowsFirst texts (log_shown walked.script walked.report) step.untold caller (kept_at step) command.what r.nodes r.answer)
      (kept_told (log_walked walked) step.untold caller (kept_at step) command.what r.answer) new b) (sym same_reply) passes)

  -- what is kept behind it
  pub step_behind : (new : Counted)
      → IsCounted (replies_to walked.report client) (kept_behind command.what
      (kept_told (log_walked walked) step.untold caller (kept_at step) step.command.what step.reply.answer)) new
      → CountsBehind walked client step new
  step_behind new is =
      subst (λ (c : Command). IsCounted (replies_to walked.report client) (kept_behind c.what
      (kept_told (log_walked walked) step.untold caller (kept_at step) step.command.what step.reply.answer)) new) (sym same_command) is
