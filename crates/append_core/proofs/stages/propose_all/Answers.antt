use Rattle.std.proofs.Common.{◌≡◌, ℕ, ◌+◌, length, Option, set, refl, ap, sym, subst, ◌∙◌, arith, length-set}
use Rattle.std.proofs.lemmas.Option.{slice_get_read}
use Rattle.chain_store.proofs.CallerLemmas.{append_later}
use Rattle.append_core.specs.declared.stood.Point.{Point}
use Rattle.append_core.specs.Inside.{AreProposed}
use Rattle.append_core.proofs.Pointing.{colours_set, point_has, point_within}
use Rattle.append_core.proofs.Staging.{ahead_at, ahead_more, count_of, proposes_more, steps_at}
use Rattle.append_core.proofs.stages.propose_all.Goals as goal

pub propose-proposed-requires-clause-colour : goal.propose-proposed-requires-clause-colour
propose-proposed-requires-clause-colour g c =
    let l = c.loop-n in
    let i = l.invariant in
    let p = c.index.result.now in
    point_within c.args.region.now l.hold c.args.begun.now l.points.items l.n p i.begun i.points
    (slice_get_read l.points.items c.len-n-end.result l.n p (sym i.long) c.loop-n-test.true c.index.ensures)

pub propose-proposed-requires-clause-coloured : goal.propose-proposed-requires-clause-coloured
propose-proposed-requires-clause-coloured g c =
    let l = c.loop-n in
    let i = l.invariant in
    let p = c.index.result.now in
    point_has l.points.items c.args.begun.now.colours i.points l.n p
    (slice_get_read l.points.items c.len-n-end.result l.n p (sym i.long) c.loop-n-test.true c.index.ensures)

pub returns-then-not-goes_on-clause-begun : goal.returns-then-not-goes_on-clause-begun
returns-then-not-goes_on-clause-begun g c =
    let l = c.loop-n in
    let e = c.propose-proposed.ensures in
    append_later c.args.region.now l.hold c.propose-proposed.new.hold c.args.begun.now e.same.0 e.others.number
    l.invariant.begun

pub returns-then-not-goes_on-clause-points : goal.returns-then-not-goes_on-clause-points
returns-then-not-goes_on-clause-points g c =
    let l = c.loop-n in
    let i = l.invariant in
    let q = c.index_mut.result.now in
    colours_set l.points.items c.args.begun.now.colours l.n q
    (record { colour = q.colour; at = c.propose-proposed.result.at; position = q.position })
    (slice_get_read l.points.items c.len-n-end.result l.n q (sym i.long) c.loop-n-test.true c.index_mut.ensures.value) refl
    i.points

pub returns-then-not-goes_on-clause-err : goal.returns-then-not-goes_on-clause-err
returns-then-not-goes_on-clause-err g c = λ old x fresh is start.
    let l = c.loop-n in
    let i = l.invariant in
    let e = c.propose-proposed.ensures in
    let r = c.args.region.now in
    let k = c.propose-proposed.new.hold in
    let p = c.index.result.now in
    let q = c.index_mut.result.now in
    let read = slice_get_read l.points.items c.len-n-end.result l.n p (sym i.long) c.loop-n-test.true c.index.ensures in
    let write = slice_get_read l.points.items c.len-n-end.result l.n q (sym i.long) c.loop-n-test.true
    c.index_mut.ensures.value in
    let more = proposes_more r l.hold k c.args.begun.now l.points.items l.n p i.begun i.points read e.others e.same.0
    e.same.1 q c.propose-proposed.result.mark c.propose-proposed.result.at l.ended write e.set e.known e.entered e.at old x
    fresh is (i.proposed old x fresh is start) in (
      c.goes_on.ensures.stops c.if-not-goes_on.true,
      omega arith,
      steps_at r old k x (l.n + 1 + 1) (l.n + 2) (omega arith) more.steps,
    )

pub loop-n-preserved : goal.loop-n-preserved
loop-n-preserved g c =
    let l = c.loop-n in
    let i = l.invariant in
    let e = c.propose-proposed.ensures in
    let r = c.args.region.now in
    let k = c.propose-proposed.new.hold in
    let b = c.args.begun.now in
    let p = c.index.result.now in
    let q = c.index_mut.result.now in
    let points = l.points.items in
    let new : Point = record { colour = q.colour; at = c.propose-proposed.result.at; position = q.position } in
    let read = slice_get_read points c.len-n-end.result l.n p (sym i.long) c.loop-n-test.true c.index.ensures in
    let write = slice_get_read points c.len-n-end.result l.n q (sym i.long) c.loop-n-test.true c.index_mut.ensures.value in
    record {
      hold = e.hold;
      begun = append_later r l.hold k b e.same.0 e.others.number i.begun;
      points = colours_set points b.colours l.n q new write refl i.points;
      long = length-set points l.n new ∙ i.long;
      few = length-set points l.n new ∙ i.few;
      proposed = λ old x fresh is start.
          subst (λ (o : Option ℕ). AreProposed r old k x (set points l.n new) (l.n + 1) o) (sym c.first_end-ended.ensures)
          (proposes_more r l.hold k b points l.n p i.begun i.points read e.others e.same.0 e.same.1 q
          c.propose-proposed.result.mark c.propose-proposed.result.at l.ended write e.set e.known e.entered e.at old x fresh
          is (i.proposed old x fresh is start));
      ahead = λ start. ahead_at c.args.course.stop (l.n + 2) (l.n + 1 + 1) (omega arith)
          (ahead_more c.args.course.stop (l.n + 1) (l.n + 2) (omega arith)
          (c.goes_on.ensures.on c.if-not-goes_on.false) (i.ahead start));
    }

pub returns-clause-ok : goal.returns-clause-ok
returns-clause-ok g c = λ old x fresh is start ahead.
    let l = c.loop-n in
    let i = l.invariant in
    let r = c.args.region.now in
    let count = count_of l.points.items c.args.begun.now old x i.points is in
    let end : l.n ≡ length l.points.items = omega (arith, c.loop-n-test.false, c.loop-n.auto.n-end, i.long) in
    record {
      all = subst (λ (n : ℕ). AreProposed r old l.hold x l.points.items n l.ended) (end ∙ count)
          (i.proposed old x fresh is start);
      ahead = ahead_at c.args.course.stop (l.n + 1) _ (ap (λ (n : ℕ). n + 1) (end ∙ count)) (i.ahead ahead);
    }

pub returns-then-not-goes_on-clause-few : goal.returns-then-not-goes_on-clause-few
returns-then-not-goes_on-clause-few g c =
    let l = c.loop-n in
    let q = c.index_mut.result.now in
    length-set l.points.items l.n (record { colour = q.colour; at = c.propose-proposed.result.at; position = q.position })
    ∙ l.invariant.few
