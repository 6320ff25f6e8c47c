use Rattle.std.proofs.Common.{Option, subst, arith}
use Rattle.std.specs.Prelude.{IfSome}
use Rattle.object_form.specs.Forms.{AreVersions}
use Rattle.region_fold.specs.declared.transactions.Tx.{Tx}
use Rattle.run_script.proofs.serving.reads.most_points.Goals as goal

pub overflow_add-result : goal.overflow_add-result
overflow_add-result c =
    let found = subst (λ (o : Option Tx). IfSome o (λ (t : Tx). AreVersions t.versions)) c.in-Some.is c.requires.found in
    let read = found.few in
    let written = c.requires.pairs.few in
    let first = c.len.ensures in
    let second = c.len-in-Some.ensures in
    omega (arith, read, written, first, second)
