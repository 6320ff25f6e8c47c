use Rattle.walk_law.proofs.eleventh.begins_row.Goals as goal

pub returns-in-StampEnd : goal.returns-in-StampEnd
returns-in-StampEnd c = λ kept is. rw c.in-StampEnd.is (c.is_several.ensures kept is)
