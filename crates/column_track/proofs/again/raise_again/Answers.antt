use Rattle.std.proofs.Common.{ap, arith}
use Rattle.col_core.specs.History.{clock}
use Rattle.column_track.proofs.EventLemmas.{same_events}
use Rattle.column_track.proofs.again.raise_again.Goals as goal
use Rattle.column_track.proofs.again.raise_again.Goals.{then-to-gt-MAX_STAMP-via-then-to-gt-MAX_STAMP, then-to-gt-MAX_STAMP-via-else-to-gt-MAX_STAMP+then-to-clock}

pub returns-then-to-gt-MAX_STAMP : goal.returns-then-to-gt-MAX_STAMP
returns-then-to-gt-MAX_STAMP c = λ lawful.
    let same = ap clock (same_events c.args.column.now) in
    let above = lawful.1 in
    let most = lawful.2 in
    elim c.then-to-gt-MAX_STAMP.branch [
      | then-to-gt-MAX_STAMP-via-then-to-gt-MAX_STAMP w ↦ let over = w.if-to-gt-MAX_STAMP in let f : ⊥ = omega (arith, most, over) in f
      | then-to-gt-MAX_STAMP-via-else-to-gt-MAX_STAMP+then-to-clock w ↦
          let under = w.if-to-clock in let is = w.clock.ensures in let f : ⊥ = omega (arith, above, under, is, same) in f
    ]
