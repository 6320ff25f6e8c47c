use Rattle.std.proofs.Common.{◌∙◌, ◌+◌, ◌<◌, ◌≤◌, ap, sym, subst, rules, List, drop, get_or, length}
use Rattle.std.proofs.lemmas.List.{drop_all, length-set}
use Rattle.script_text.specs.declared.script.Command.{Command}
use Rattle.column_track.specs.Tracks.{Tells}
use Rattle.lawful_run.specs.Callers.{caller_of, commands_of}
use Rattle.walk_law.specs.Replies.{AreAllPassed, Passed, of_client}
use Rattle.walk_law.proofs.AllReplies.{all_told, before, come_on, goes, goes_not, have_begun, theirs_too}
use Rattle.walk_law.proofs.replies.are_replies.Goals as goal

pub loop-command-init : goal.loop-command-init
loop-command-init c = record {
  come = have_begun c.args.script.now c.args.clients.now c.in_ok-progress.progress.items c.in_ok-progress.ensures.each;
  len = search rules;
}

pub returns-then-not-branch : goal.returns-then-not-branch
returns-then-not-branch c = λ log shown all.
    let script = c.args.script.now in
    let clients = c.args.clients.now in
    let i = c.loop-command.command-index in
    let command = c.command-item.result in
    let come = c.loop-command.invariant.come in
    let long = c.loop-command.invariant.len in
    let passed = c.loop-command.progress.items in
    let client = c.index-clients-client.result in
    let replies = c.as_slice-replies.result.now in
    let lt : i < length script.commands = search rules in
    let is = c.command-item.is ∙ ap (λ (l : List Command). get_or l i command) c.as_slice-command-items.ensures in
    let within = subst (λ (x : Command). x.client < length clients) (sym is) (c.requires.callers i command lt) in
    goes_not c.in_ok-passes.field-0 _ _ c.if-not-branch.true
    (c.in_ok-passes.ensures log (caller_of script command.client) (shown command.client) (commands_of script command.client)
    (of_client command.client (drop (i + 1) script.commands)) (sym c.as_slice-objects.ensures)
    (before script clients i passed come long command lt is within client replies c.as_slice-replies.ensures log shown
    c.index_mut.result.now c.index_mut.ensures.value))
    (theirs_too script clients i passed come long command lt is within client replies c.as_slice-replies.ensures log shown all)

pub loop-command-preserved : goal.loop-command-preserved
loop-command-preserved c =
    let script = c.args.script.now in
    let clients = c.args.clients.now in
    let i = c.loop-command.command-index in
    let command = c.command-item.result in
    let come = c.loop-command.invariant.come in
    let long = c.loop-command.invariant.len in
    let passed = c.loop-command.progress.items in
    let client = c.index-clients-client.result in
    let replies = c.as_slice-replies.result.now in
    let lt : i < length script.commands = search rules in
    let is = c.command-item.is ∙ ap (λ (l : List Command). get_or l i command) c.as_slice-command-items.ensures in
    let within = subst (λ (x : Command). x.client < length clients) (sym is) (c.requires.callers i command lt) in record {
      come = come_on script clients i passed come long command lt is within client replies c.as_slice-replies.ensures
          c.passes.new.progress (λ log shown.
          goes c.in_ok-passes.field-0 _ _ c.if-not-branch.false
          (c.in_ok-passes.ensures log (caller_of script command.client) (shown command.client) (commands_of script command.client)
          (of_client command.client (drop (i + 1) script.commands)) (sym c.as_slice-objects.ensures)
          (before script clients i passed come long command lt is within client replies c.as_slice-replies.ensures log shown
          c.index_mut.result.now c.index_mut.ensures.value)));
      len = length-set passed command.client c.passes.new.progress ∙ long;
    }

pub returns : goal.returns
returns c = λ log shown.
    let script = c.args.script.now in
    let clients = c.args.clients.now in
    let i = c.loop-command.command-index in
    let past : length script.commands ≤ i = search rules in
    all_told script clients c.loop-command.progress.items (drop i script.commands) (drop_all i script.commands past)
    c.loop-command.invariant.come c.loop-command.invariant.len log shown c.are_passed.result
    (subst (λ (l : List Passed). Tells c.are_passed.result (AreAllPassed clients l)) c.as_slice.ensures.value c.are_passed.ensures)
