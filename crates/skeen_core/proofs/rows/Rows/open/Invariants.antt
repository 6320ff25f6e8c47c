-- So many clients as were counted, each with no begun row.
use Rattle.std.proofs.Common.{◌≡◌, []}
use Rattle.std.specs.Prelude.{replicate}
use Rattle.skeen_core.proofs.rows.Rows.open.Given as goal

abbrev pub invariant-loop : goal.invariant-loop
invariant-loop l = l.all.items ≡ replicate l.counter (record { begun = []; colours = l.fn.colours; rows = l.rows })
