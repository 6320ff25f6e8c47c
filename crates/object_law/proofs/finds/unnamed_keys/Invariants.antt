use Rattle.std.proofs.Common.{◌≡◌, None, map, take}
use Rattle.log_node.specs.declared.forms.Version.{Version}
use Rattle.report_text.specs.declared.report.KeyAnswer.{KeyAnswer}
use Rattle.object_law.proofs.finds.unnamed_keys.Given as goal

-- those so far
abbrev pub invariant-loop-answer : goal.invariant-loop-answer
invariant-loop-answer l =
    l.found ≡ map (λ (k : KeyAnswer). let v : Version = record { key = k.key; writer = None } in v) (take l.answer-index l.shown)
