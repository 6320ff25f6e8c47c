use Rattle.std.proofs.Common.{◌∙◌, ◌+◌, sym, subst, take}
use Rattle.walk_law.proofs.PlaceLemmas.{MadeSo, made_less, made_more}
use Rattle.walk_law.proofs.column_places.own_places.Goals as goal
use Rattle.walk_law.proofs.column_places.own_places.Goals.{then-is_own+in_ok-add, else-is_own}

pub loop-at-preserved : goal.loop-at-preserved
loop-at-preserved c =
    let journal = c.args.journal.now in
    let at = c.loop-at.at in
    let e = c.index-journal-at.result in
    elim c.if-is_own.branch [
      | then-is_own+in_ok-add w ↦
          subst (MadeSo c.args.clients (take (at + 1) journal)) (sym w.own-is)
          (made_more c.args.clients journal at e c.loop-at-test.true c.index-journal-at.is c.loop-at.own w.add.new.self
          (sym c.is_own.ensures ∙ w.if-is_own.true) w.in_ok-add.ensures.many w.in_ok-add.ensures.added c.loop-at.invariant)
      | else-is_own w ↦
          subst (MadeSo c.args.clients (take (at + 1) journal)) (sym w.own-is)
          (made_less c.args.clients journal at e c.loop-at-test.true c.index-journal-at.is c.loop-at.own
          (sym c.is_own.ensures ∙ w.if-is_own.false) c.loop-at.invariant)
    ]
