use Rattle.std.proofs.Common.{◌≡◌, ◌++◌, take}
use Rattle.object_form.specs.Forms.{version_text}
use Rattle.walk_law.proofs.JoinedTexts.{later_text}
use Rattle.walk_law.proofs.texts_written.put_versions.Given as goal

abbrev pub invariant-loop-version : goal.invariant-loop-version
invariant-loop-version l = l.bytes.items ≡ l.initial.bytes.items ++ later_text version_text (take l.version-index l.others)
