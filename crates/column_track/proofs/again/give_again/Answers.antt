use Rattle.std.proofs.Common.{List, ap, arith, length}
use Rattle.col_core.specs.declared.Entry.{Entry}
use Rattle.col_core.specs.History.{line}
use Rattle.column_track.proofs.EventLemmas.{same_events}
use Rattle.column_track.proofs.again.give_again.Goals as goal
use Rattle.column_track.proofs.again.give_again.Goals.{then-region-via-then-region, then-region-via-else-region+then-region-regions, then-region-via-else-region+else-region-regions+then-from-line}

pub returns-then-region : goal.returns-then-region
returns-then-region c = λ lawful.
    let same = ap (λ (h : List Entry). length (line h)) (same_events c.args.column.now) in
    let many = c.requires in
    elim c.then-region.branch [
      | then-region-via-then-region w ↦
          let own = w.if-region in let is = c.region.ensures in lawful.1 (omega (arith, own, is))
      | then-region-via-else-region+then-region-regions w ↦
          let under = lawful.2 in let over = w.if-region-regions in let f : ⊥ = omega (arith, under, over, many) in f
      | then-region-via-else-region+else-region-regions+then-from-line w ↦
          let under = lawful.3 in let over = w.if-from-line in let is = ap length w.line.ensures in
          let f : ⊥ = omega (arith, under, over, is, same) in f
    ]
