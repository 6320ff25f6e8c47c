use Rattle.std.proofs.Common.{◌≡◌, ℕ, ◌+◌, length, List, get_or, refl, ap, sym, subst, ◌∙◌, arith, length-set}
use Rattle.std.proofs.lemmas.Option.{slice_get-get_or}
use Rattle.log_node.specs.declared.node.At.TheVariants.{Event}
use Rattle.stamp_board.proofs.CallerLemmas.{Learns-from, outcome_learnt}
use Rattle.chain_store.specs.Holds.{view_of}
use Rattle.chain_store.proofs.CallerLemmas.{append_later, goes_same, goes_then, later_same, later_then}
use Rattle.append_core.specs.declared.stood.Point.{Point}
use Rattle.append_core.specs.Helping.{IsStepIn}
use Rattle.append_core.specs.Inside.{AreSettled}
use Rattle.append_core.proofs.Pointing.{point_has, point_within}
use Rattle.append_core.proofs.Staging.{ahead_at, ahead_more, count_of, settles_more, steps_at}
use Rattle.append_core.proofs.Taking.{settled_on}
use Rattle.append_core.proofs.stages.settle_all.Goals as goal

-- the point at a place
abbrev point : List Point → ℕ → Point
point points n = get_or points n (record { colour = 0; at = Event 0; position = 0 })

pub loop-n-init : goal.loop-n-init
loop-n-init g c = record {
  hold = c.requires.hold;
  seat = later_same c.args.hold.now.seat;
  goes = goes_same (IsStepIn c.args.begun.now) c.args.hold.now c.args.hold.now refl;
  places = c.requires.few.1;
  settled = λ old x fresh is start. start.none;
  ahead = λ start. ahead_at c.args.course.stop (length c.args.points.now + 2) (0 + length c.args.points.now + 2) (omega arith)
      start;
}

pub settle-settled-requires-clause-begun : goal.settle-settled-requires-clause-begun
settle-settled-requires-clause-begun g c =
    let i = c.loop-n.invariant in
    append_later c.args.region.now c.args.hold.now c.loop-n.hold c.args.begun.now i.seat i.goes.number c.requires.begun

pub settle-settled-requires-clause-colour : goal.settle-settled-requires-clause-colour
settle-settled-requires-clause-colour g c =
    let l = c.loop-n in
    let i = l.invariant in
    let points = c.args.points.now in
    let knows = append_later c.args.region.now c.args.hold.now l.hold c.args.begun.now i.seat i.goes.number
    c.requires.begun in
    point_within c.args.region.now l.hold c.args.begun.now points l.n (point points l.n) knows c.requires.points
    (slice_get-get_or points l.n (record { colour = 0; at = Event 0; position = 0 }) c.loop-n-test.true)

pub settle-settled-requires-clause-coloured : goal.settle-settled-requires-clause-coloured
settle-settled-requires-clause-coloured g c =
    let l = c.loop-n in
    let points = c.args.points.now in
    point_has points c.args.begun.now.colours c.requires.points l.n (point points l.n)
    (slice_get-get_or points l.n (record { colour = 0; at = Event 0; position = 0 }) c.loop-n-test.true)

pub settle-settled-requires-clause-outcome : goal.settle-settled-requires-clause-outcome
settle-settled-requires-clause-outcome g c =
    let v = view_of c.args.hold.now in
    let w = view_of c.loop-n.hold in
    let s = c.loop-n.invariant.seat in (
      c.requires.outcome.0,
      outcome_learnt v w c.args.begun.now.row s.grows.size (Learns-from v w s.grows) c.args.outcome c.requires.outcome.1,
    )

pub returns-then-not-goes_on-clause-seat : goal.returns-then-not-goes_on-clause-seat
returns-then-not-goes_on-clause-seat g c =
    later_then c.args.hold.now.seat c.loop-n.hold.seat c.settle-settled.new.hold.seat c.loop-n.invariant.seat
    c.settle-settled.ensures.same.0

pub returns-then-not-goes_on-clause-goes : goal.returns-then-not-goes_on-clause-goes
returns-then-not-goes_on-clause-goes g c =
    let l = c.loop-n in
    let b = c.args.begun.now in
    let points = c.args.points.now in
    let e = c.settle-settled.ensures in
    let k = c.settle-settled.new.hold in
    let read = slice_get-get_or points l.n (record { colour = 0; at = Event 0; position = 0 }) c.loop-n-test.true in
    goes_then (IsStepIn b) c.args.hold.now l.hold k l.invariant.goes
    (settled_on l.hold k b (point points l.n).colour
    (point_has points b.colours c.requires.points l.n (point points l.n) read) e.others c.args.outcome
    c.settle-settled.result.at e.at)

pub returns-then-not-goes_on-clause-err : goal.returns-then-not-goes_on-clause-err
returns-then-not-goes_on-clause-err g c = λ old x fresh is start.
    let l = c.loop-n in
    let i = l.invariant in
    let r = c.args.region.now in
    let b = c.args.begun.now in
    let points = c.args.points.now in
    let e = c.settle-settled.ensures in
    let k = c.settle-settled.new.hold in
    let knows = append_later r c.args.hold.now l.hold b i.seat i.goes.number c.requires.begun in
    let read = slice_get-get_or points l.n (record { colour = 0; at = Event 0; position = 0 }) c.loop-n-test.true in
    let count = count_of points b old x c.requires.points is in
    let more = settles_more r l.hold k b points l.n (point points l.n) knows c.requires.points read e.others e.same.0
    e.same.1 c.args.outcome c.settle-settled.result.at c.settle-settled.result.position l.places e.at e.closed e.stands
    e.position old x is (i.settled old x fresh is start) in (
      c.goes_on.ensures.stops c.if-not-goes_on.true,
      omega arith,
      steps_at r old k x _ (length points + 3 + l.n) (omega (arith, count)) more.steps,
    )

pub loop-n-preserved : goal.loop-n-preserved
loop-n-preserved g c =
    let l = c.loop-n in
    let i = l.invariant in
    let r = c.args.region.now in
    let b = c.args.begun.now in
    let points = c.args.points.now in
    let e = c.settle-settled.ensures in
    let h = c.args.hold.now in
    let k = c.settle-settled.new.hold in
    let knows = append_later r h l.hold b i.seat i.goes.number c.requires.begun in
    let read = slice_get-get_or points l.n (record { colour = 0; at = Event 0; position = 0 }) c.loop-n-test.true in
    record {
      hold = e.hold;
      seat = later_then h.seat l.hold.seat k.seat i.seat e.same.0;
      goes = goes_then (IsStepIn b) h l.hold k i.goes
          (settled_on l.hold k b (point points l.n).colour
          (point_has points b.colours c.requires.points l.n (point points l.n) read) e.others c.args.outcome
          c.settle-settled.result.at e.at);
      places = length-set l.places l.n c.settle-settled.result.position ∙ i.places;
      settled = λ old x fresh is start.
          settles_more r l.hold k b points l.n (point points l.n) knows c.requires.points read e.others e.same.0 e.same.1
          c.args.outcome c.settle-settled.result.at c.settle-settled.result.position l.places e.at e.closed e.stands
          e.position old x is (i.settled old x fresh is start);
      ahead = λ start.
          let step = length points + 3 + l.n in
          ahead_at c.args.course.stop step (l.n + 1 + length points + 2) (omega arith)
          (ahead_more c.args.course.stop (l.n + length points + 2) step (omega arith)
          (c.goes_on.ensures.on c.if-not-goes_on.false) (i.ahead start));
    }

pub returns-clause-ok : goal.returns-clause-ok
returns-clause-ok g c = λ old x fresh is start.
    let l = c.loop-n in
    let i = l.invariant in
    let r = c.args.region.now in
    let points = c.args.points.now in
    let stop = c.args.course.stop in
    let count = count_of points c.args.begun.now old x c.requires.points is in
    let end : l.n ≡ length points = omega (arith, c.loop-n-test.false, c.loop-n.auto.n-end) in
    record {
      all = subst (λ (n : ℕ). AreSettled r old l.hold x c.args.outcome l.places n) (end ∙ count)
          (i.settled old x fresh is start);
      ahead = ahead_at stop (l.n + length points + 2) _ (λ j. (end ∙ count) j + count j + 2)
          (i.ahead (ahead_at stop _ (length points + 2) (ap (λ (n : ℕ). n + 2) (sym count)) start.ahead));
    }
