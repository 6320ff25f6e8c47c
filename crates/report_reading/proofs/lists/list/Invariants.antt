use Rattle.std.proofs.Common.{◌≡◌, ◌-◌, length}
use Rattle.report_reading.specs.Lists.{list_at, each_at}
use Rattle.report_reading.proofs.ListLemmas.{with_front}
use Rattle.report_reading.proofs.lists.list.Given as goal

-- what was read, and what is still read behind it, is all
abbrev pub invariant-loop-place : goal.invariant-loop-place
invariant-loop-place g l =
    let begins = g.T.Readable.begins_at l.setting in
    let value = g.T.Readable.value_at l.setting in
    with_front l.items (list_at begins value (length l.bytes - l.place) l.place l.rest) ≡ each_at begins value l.bytes

abbrev pub decreases-loop-place : goal.decreases-loop-place
decreases-loop-place g l = length l.bytes - l.place
