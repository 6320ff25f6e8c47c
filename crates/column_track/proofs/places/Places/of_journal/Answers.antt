use Rattle.std.proofs.Common.{◌∙◌, ◌+◌, ap, sym, subst, arith, length, take, refl}
use Rattle.std.proofs.lemmas.List.{length-take}
use Rattle.std.proofs.lemmas.Option.{slice_get_read}
use Rattle.column_track.specs.Doing.{ArePlaces, entering}
use Rattle.col_core.specs.declared.Entry.{Entry}
use Rattle.column_track.proofs.PlaceLemmas.{enters_twice, id_more, next_is, none_more}
use Rattle.column_track.proofs.places.Places.of_journal.Goals as goal
use Rattle.column_track.proofs.places.Places.of_journal.Goals.{in-Some+in_ok-add+else-not-branch, in_default}

pub returns-then-not-branch : goal.returns-then-not-branch
returns-then-not-branch c =
    let journal = c.args.journal.now in
    let at = c.loop-at.at in
    let e = c.index-journal-at.result in
    enters_twice journal at e c.in-Some.id c.loop-at.places
    (slice_get_read journal (length journal) at e refl c.loop-at-test.true c.index-journal-at.is)
    (ap (λ (d : Entry). entering d.event) c.index-journal-at.is ∙ (sym c.entering.ensures ∙ c.in-Some.is)) (sym c.in_ok-add.ensures.fresh ∙ c.if-not-branch.true) c.loop-at.invariant

pub loop-at-preserved : goal.loop-at-preserved
loop-at-preserved c =
    let journal = c.args.journal.now in
    let at = c.loop-at.at in
    let e = c.index-journal-at.result in
    let lt = c.loop-at-test.true in
    let next = next_is journal at e lt c.index-journal-at.is in
    let long = length-take at journal in
    elim c.match-entering.branch [
      | in-Some+in_ok-add+else-not-branch w ↦
          subst (λ p. ArePlaces (take (at + 1) journal) p) (sym w.places-is)
          (subst (λ l. ArePlaces l w.add.new.self) (sym next)
          (id_more (take at journal) e c.loop-at.places w.add.new.self w.in-Some.id at (omega (arith, long, lt))
          (ap (λ (d : Entry). entering d.event) c.index-journal-at.is ∙ (sym c.entering.ensures ∙ w.in-Some.is)) (sym w.in_ok-add.ensures.fresh ∙ w.if-not-branch.false) w.in_ok-add.ensures.added
          c.loop-at.invariant))
      | in_default w ↦
          subst (λ p. ArePlaces (take (at + 1) journal) p) (sym w.places-is)
          (subst (λ l. ArePlaces l c.loop-at.places) (sym next)
          (none_more (take at journal) e c.loop-at.places (ap (λ (d : Entry). entering d.event) c.index-journal-at.is ∙ (sym c.entering.ensures ∙ w.in_default.is)) c.loop-at.invariant))
    ]
