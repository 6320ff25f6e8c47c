use Rattle.std.proofs.Common.{◌≡◌, ◌++◌}
use Rattle.std.specs.Prelude.{replicate, vec_capacity}
use Rattle.log_node.specs.declared.marks.Mark.TheVariants as mark
use Rattle.skeen_core.proofs.client_rows.push_unmarked.Given as goal

abbrev pub invariant-loop : goal.invariant-loop
invariant-loop l = record {
  items : l.marks.items ≡ l.initial.marks.items ++ replicate l.counter mark.None;
  room : vec_capacity l.marks ≡ vec_capacity l.initial.marks;
}
