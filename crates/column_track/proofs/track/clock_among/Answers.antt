use Rattle.std.proofs.Common.{rules, of_calls, refl, sym, subst, arith, []}
use Rattle.std.specs.Prelude.{nat_lt}
use Rattle.std.proofs.lemmas.Bool.{ltb-true, ltb-false, lt-leb}
use Rattle.std.proofs.lemmas.Fn.{always_returns_same}
use Rattle.std.proofs.lemmas.List.Sorted.{IsPartitionedBy-ltb}
use Rattle.column_track.specs.declared.marks.Mark.{Mark}
use Rattle.column_track.specs.Tracks.{Tells, mark_after}
use Rattle.column_track.specs.Doing.{HasClock}
use Rattle.column_track.proofs.TrackLemmas.{at_place, past}
use Rattle.column_track.proofs.track.clock_among.Goals as goal

pub returns-then-place-to : goal.returns-then-place-to
returns-then-place-to c =
    let ms = c.args.marks.now in
    let stamp = c.args.stamp in
    let point = c.partition_point.ensures.partitioned (λ (m : Mark). nat_lt m.clock stamp)
    (always_returns_same _ _ _ (λ a r f k. search (rules, of_calls))) (IsPartitionedBy-ltb (λ (m : Mark). m.clock) ms stamp c.requires.rises) in
    at_place ms c.args.from c.args.to stamp c.partition_point.result _ c.requires.rises c.requires.within
    (λ k lt. ltb-true _ stamp (point.0 k _ (omega arith) lt)) (λ k le lt. ltb-false _ stamp (point.1 k _ le lt))
    c.max-place.result c.max-place.ensures c.if-place-to.true _ refl

pub returns-else-place-to : goal.returns-else-place-to
returns-else-place-to c =
    let ms = c.args.marks.now in
    let stamp = c.args.stamp in
    let point = c.partition_point.ensures.partitioned (λ (m : Mark). nat_lt m.clock stamp)
    (always_returns_same _ _ _ (λ a r f k. search (rules, of_calls))) (IsPartitionedBy-ltb (λ (m : Mark). m.clock) ms stamp c.requires.rises) in
    subst (λ b. Tells b (HasClock ms c.args.from c.args.to stamp)) (sym (lt-leb c.max-place.result c.args.to c.if-place-to.false))
    (past ms c.args.from c.args.to stamp c.partition_point.result (mark_after 0 0 []) c.requires.rises c.requires.within
    (λ k lt. ltb-true _ stamp (point.0 k _ (omega arith) lt)) (λ k le lt. ltb-false _ stamp (point.1 k _ le lt))
    c.max-place.result c.max-place.ensures c.if-place-to.false)
