use Rattle.std.proofs.Common.{◌∙◌, refl, subst, sym}
use Rattle.log_node.proofs.CallerLemmas.{same_some}
use Rattle.script_text.specs.declared.script.Command.{Command}
use Rattle.report_text.specs.declared.report.ReplyLine.{ReplyLine}
use Rattle.part_fold.specs.declared.decision.Decision.{Decision}
use Rattle.lawful_run.specs.Callers.{caller_of, commands_of}
use Rattle.lawful_run.specs.Refusals.{kept_before}
use Rattle.run_rules.specs.Told.{kept_appending}
use Rattle.run_rules.specs.Telling.{replies_to}
use Rattle.object_law.specs.Drafts.{SaysDraft, StepsOn}
use Rattle.walk_law.specs.Finds.{decision_at}
use Rattle.walk_law.specs.Walking.{log_walked, places_printed}
use Rattle.object_law.proofs.FindingLemmas.{command_within, left_out, on, used_same, written_at}
use Rattle.object_law.proofs.drafts.Going.next.Goals as goal

pub draft_appended-requires-clause-within : goal.draft_appended-requires-clause-within
draft_appended-requires-clause-within c =
    command_within c.args.subject.now.script c.agrees.ensures.may.1.fitting c.args.client c.args.place c.command.result.now
    c.command.ensures

pub draft_appended-requires-clause-counts : goal.draft_appended-requires-clause-counts
draft_appended-requires-clause-counts c =
    let replies = replies_to c.args.subject.now.report c.args.client in
    let kept = c.requires.counts.0 in (
      _,
      c.in_ok-to_append.ensures.kept replies (kept_before c.command.result.now.what kept)
          (c.begin.ensures.kept replies kept c.requires.counts.1),
    )

pub returns-clause-step : goal.returns-clause-step
returns-clause-step c = λ found kept command reply keys counts asks told.
    let walked = c.args.subject.now in
    let client = c.args.client in
    let place = c.args.place in
    let log = log_walked walked in
    let caller = caller_of walked.script client in
    let replies = replies_to walked.report client in
    let commands = commands_of walked.script client in
    let decision = decision_at c.args.decisions.now client place in
    let mine : Command = c.command.result.now in
    let its : ReplyLine = c.reply.result.now in
    let before = kept_before mine.what kept in
    let appending = kept_appending log caller before its.answer in
    let begun = c.begin.ensures.kept replies kept counts.counted in
    let ready = c.in_ok-to_append.ensures.kept replies before begun in
    let untold = left_out walked client place found decision kept mine its in
    let made : SaysDraft commands found decision caller appending mine.what its.answer c.in_ok-made.made =
    subst (λ (d : Decision). SaysDraft commands found d caller appending mine.what its.answer c.in_ok-made.made)
    c.decision-decision.ensures
    (c.in_ok-made.ensures appending commands found ready
    (used_same decision log caller kept mine.what its.answer ∙ c.used-used.ensures.read found kept counts.reads)
    (written_at commands mine place c.command.ensures c.used-used.result c.used-used.ensures.commit)) in
    let behind = c.end.ensures.kept replies _
    (c.in_ok-behind_append.ensures.kept before untold its c.reply.ensures refl refl ready) in
    subst (λ (r : ReplyLine). StepsOn walked client place found decision kept c.in_ok-made.made c.end.new.self c.pass.new.self command r)
    (same_some (sym c.reply.ensures ∙ told))
    (subst (λ (m : Command). StepsOn walked client place found decision kept c.in_ok-made.made c.end.new.self c.pass.new.self m its)
    (same_some (sym c.command.ensures ∙ asks))
    (on walked client place found decision kept mine its c.in_ok-made.made c.end.new.self c.pass.new.self c.reply.ensures
    keys made behind
    (c.pass.ensures found log caller (places_printed walked client) kept mine its refl refl counts.reads)))
