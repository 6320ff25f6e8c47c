use Rattle.std.proofs.Common.{refl, sym, subst, rules, Bool, Option, List}
use Rattle.log_node.specs.declared.forms.Version.{Version}
use Rattle.std.specs.Option.{option_copied}
use Rattle.script_text.specs.Commands.{use_of}
use Rattle.column_track.specs.Tracks.{Tells}
use Rattle.run_rules.specs.Telling.{step_of}
use Rattle.run_rules.specs.Rules.{IsReplyTo}
use Rattle.walk_law.specs.Asking.{AreFoundOf}
use Rattle.walk_law.proofs.RepliesLemmas.{found_before, got, not_replied, replied}
use Rattle.walk_law.proofs.replies.passes.Goals as goal

pub returns-then-not-branch : goal.returns-then-not-branch
returns-then-not-branch c = λ log caller shown all left objects come.
    let step = step_of log caller shown come.kept c.args.command.now c.in-Some.reply.now in
    not_replied c.args.progress.now come c.in-Some.reply.now (got c.args.replies.now c.in-Some.reply.now c.progress.inside.next c.args.progress.now.next (search rules) c.in-Some.ensures.lookup.0 c.in-Some.ensures.lookup.1)
    (subst (λ (b : Bool). Tells b (IsReplyTo caller step)) c.if-not-branch.true
    (c.in_ok-is_reply_to.ensures caller step objects refl refl
    (subst (λ (f : Option (List Version)). AreFoundOf f (option_copied c.used-found.result))
    (sym (found_before (use_of c.args.command.now.what) come.kept)) (c.used-found.ensures come.kept come.reads))))

pub returns : goal.returns
returns c = λ log caller shown all left objects come.
    let step = step_of log caller shown come.kept c.args.command.now c.in-Some.reply.now in
    replied c.args.progress.now come c.in-Some.reply.now (got c.args.replies.now c.in-Some.reply.now c.progress.inside.next c.args.progress.now.next (search rules) c.in-Some.ensures.lookup.0 c.in-Some.ensures.lookup.1)
    (subst (λ (b : Bool). Tells b (IsReplyTo caller step)) c.if-not-branch.false
    (c.in_ok-is_reply_to.ensures caller step objects refl refl
    (subst (λ (f : Option (List Version)). AreFoundOf f (option_copied c.used-found.result))
    (sym (found_before (use_of c.args.command.now.what) come.kept)) (c.used-found.ensures come.kept come.reads))))
    c.pass.new.self c.pass.ensures.next
    (c.pass.ensures.reads log caller shown come.kept c.args.replies.now (got c.args.replies.now c.in-Some.reply.now c.progress.inside.next c.args.progress.now.next (search rules) c.in-Some.ensures.lookup.0 c.in-Some.ensures.lookup.1) come.reads)
