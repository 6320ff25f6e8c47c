use Rattle.std.proofs.Common.{◌≡◌, ◌++◌, take}
use Rattle.object_form.specs.Forms.{version_text}
use Rattle.object_form.proofs.JoinLemmas.{later_text}
use Rattle.object_form.proofs.writing.put_versions.Given as goal

abbrev pub invariant-loop-version : goal.invariant-loop-version
invariant-loop-version l = l.bytes.items ≡ l.initial.bytes.items ++ later_text version_text (take l.version-index l.others)
