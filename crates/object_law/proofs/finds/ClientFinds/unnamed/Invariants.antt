use Rattle.std.proofs.Common.{◌≡◌, map, take}
use Rattle.report_text.specs.declared.report.ReplyLine.{ReplyLine}
use Rattle.run_rules.specs.Telling.{unnamed}
use Rattle.object_law.proofs.finds.ClientFinds.unnamed.Given as goal

-- those of the replies so far
abbrev pub invariant-loop-reply : goal.invariant-loop-reply
invariant-loop-reply l = l.found.items ≡ map (λ (r : ReplyLine). unnamed r.answer) (take l.reply-index l.replies)
