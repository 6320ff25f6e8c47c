use Rattle.std.proofs.Common.{◌≡◌, ◌++◌, map, take, length}
use Rattle.std.specs.List.{enumerate_from}
use Rattle.log_node.specs.Vectors.{at}
use Rattle.run_picture.specs.Marks.{line_mark, queue_mark}
use Rattle.run_picture.proofs.marks.marks_of.Given as goal

-- the line, and the nodes of the queue so far
abbrev pub invariant-loop-waiting : goal.invariant-loop-waiting
invariant-loop-waiting l =
    l.found.items ≡ map (line_mark (at l.column.base l.column.region)) (enumerate_from 0 l.column.line)
    ++ map (queue_mark (length l.column.line)) (take l.waiting-index l.column.queue)
