use Rattle.std.proofs.Common.{◌≡◌, ◌++◌, take}
use Rattle.object_form.specs.Forms.{pair_text}
use Rattle.walk_law.proofs.JoinedTexts.{later_text}
use Rattle.walk_law.proofs.texts_written.put_pairs.Given as goal

abbrev pub invariant-loop-pair : goal.invariant-loop-pair
invariant-loop-pair l = l.bytes.items ≡ l.initial.bytes.items ++ later_text pair_text (take l.pair-index l.others)
