use Rattle.std.proofs.Common.{◌≡◌, ℕ, ◌+◌, length, map, ap, sym, subst, arith}
use Rattle.log_node.specs.declared.ids.Row.{Row}
use Rattle.log_node.specs.declared.node.Node.{Node}
use Rattle.log_node.specs.declared.marks.Mark.{Mark}
use Rattle.log_node.specs.Outcomes.{outcome_of}
use Rattle.log_node.specs.Seen.{BegunAppend}
use Rattle.log_node.specs.Sets.{members}
use Rattle.stamp_board.specs.Views.{KnowsAll, KnowsBegun, KnowsOutcome}
use Rattle.stamp_board.proofs.CallerLemmas.{Learns-from, outcome_learnt}
use Rattle.chain_store.specs.Beginning.{KnowsMarks}
use Rattle.chain_store.specs.Holds.{view_of}
use Rattle.chain_store.proofs.CallerLemmas.{append_later}
use Rattle.append_core.proofs.Marked.{all_known}
use Rattle.append_core.proofs.Staging.{ahead_at, ahead_more, count_of, steps_at}
use Rattle.append_core.proofs.Staged.{all_marked, decided_steps, low_colours, proposes_none, settles_none, takes_all}
use Rattle.append_core.proofs.stages.take_steps.Goals as goal

pub returns-then-not-goes_on-clause-err : goal.returns-then-not-goes_on-clause-err
returns-then-not-goes_on-clause-err g c = λ old x fresh is steps.
    let r = c.args.region.now in
    let b = c.args.begun.now in
    let h = c.propose_all.new.hold in
    let k = c.decide-outcome.new.hold in
    let points = c.propose_all.new.points.items in
    let ended = c.in_ok-ended.ended in
    let stop = c.args.course.stop in
    let knows = c.propose_all.ensures.begun in
    let e = c.decide-outcome.ensures in
    let row = ap (λ (a : BegunAppend). a.row) c.begun.view_is in
    let was = c.in_ok-ended.ensures.ok old x fresh is
    (proposes_none r old c.args.hold.now x c.args.points.now.items steps) c.requires.own.5 in
    let low = low_colours r h b old x knows is in
    let shut = e.closed (subst (λ (w : Row). KnowsAll (view_of h) w) (sym row)
    (all_known r h b knows (all_marked r old h x points ended stop was low b is))) in
    let count = count_of points b old x c.propose_all.ensures.points is in
    let long : c.len.result ≡ length points = omega (arith, c.len.ensures, c.propose_all.new.points.ok) in (
      c.goes_on.ensures.stops c.if-not-goes_on.true,
      omega arith,
      steps_at r old k x (length (members x.colours) + 2) (c.len.result + 2) (omega (arith, count, long))
          (decided_steps r old h x points ended stop was low k b is c.decide-outcome.result c.propose_all.ensures.points
          e.same.0 e.seat e.same.1 shut
          (subst (λ (w : Row). KnowsOutcome (view_of k) w c.decide-outcome.result) row (e.known shut))
          (subst (λ (w : Row). (y : Node) (mark : ℕ → Mark) → KnowsBegun (view_of h) w y
          → KnowsMarks (view_of h) w y mark → c.decide-outcome.result ≡ outcome_of (map mark (members y.colours))) row
          e.marks)),
    )

pub settle_all-requires-clause-begun : goal.settle_all-requires-clause-begun
settle_all-requires-clause-begun g c = λ κs met.
    append_later c.args.region.now c.propose_all.new.hold c.decide-outcome.new.hold c.args.begun.now
    c.decide-outcome.ensures.seat (ap (λ p. p.number) c.decide-outcome.ensures.same.0) c.propose_all.ensures.begun

pub settle_all-requires-clause-outcome : goal.settle_all-requires-clause-outcome
settle_all-requires-clause-outcome g c = λ κs met.
    let r = c.args.region.now in
    let b = c.args.begun.now in
    let h = c.propose_all.new.hold in
    let points = c.propose_all.new.points.items in
    let knows = c.propose_all.ensures.begun in
    let e = c.decide-outcome.ensures in
    let o = c.requires.own in
    let row = ap (λ (a : BegunAppend). a.row) c.begun.view_is in
    let was = c.in_ok-ended.ensures.ok o.0 o.1 o.2 o.3
    (proposes_none r o.0 c.args.hold.now o.1 c.args.points.now.items o.4) o.5 in
    let low = low_colours r h b o.0 o.1 knows o.3 in
    let shut = e.closed (subst (λ (w : Row). KnowsAll (view_of h) w) (sym row)
    (all_known r h b knows (all_marked r o.0 h o.1 points c.in_ok-ended.ended c.args.course.stop was low b o.3))) in (
      shut,
      subst (λ (w : Row). KnowsOutcome (view_of c.decide-outcome.new.hold) w c.decide-outcome.result) row (e.known shut),
    )

pub returns-in-Ok-clause-ok : goal.returns-in-Ok-clause-ok
returns-in-Ok-clause-ok g c = λ old x fresh is steps.
    let r = c.args.region.now in
    let b = c.args.begun.now in
    let h = c.propose_all.new.hold in
    let k = c.decide-outcome.new.hold in
    let m = c.settle_all.new.hold in
    let points = c.propose_all.new.points.items in
    let ended = c.in_ok-ended.ended in
    let stop = c.args.course.stop in
    let knows = c.propose_all.ensures.begun in
    let e = c.decide-outcome.ensures in
    let o = c.decide-outcome.result in
    let s = c.settle_all.ensures.seat in
    let row = ap (λ (a : BegunAppend). a.row) c.begun.view_is in
    let was = c.in_ok-ended.ensures.ok old x fresh is
    (proposes_none r old c.args.hold.now x c.args.points.now.items steps) c.requires.own.5 in
    let low = low_colours r h b old x knows is in
    let shut = e.closed (subst (λ (w : Row). KnowsAll (view_of h) w) (sym row)
    (all_known r h b knows (all_marked r old h x points ended stop was low b is))) in
    let known = subst (λ (w : Row). KnowsOutcome (view_of k) w o) row (e.known shut) in
    let marks = subst (λ (w : Row). (y : Node) (mark : ℕ → Mark) → KnowsBegun (view_of h) w y
    → KnowsMarks (view_of h) w y mark → o ≡ outcome_of (map mark (members y.colours))) row e.marks in
    let count = count_of points b old x c.propose_all.ensures.points is in
    let long : c.len.result ≡ length points = omega (arith, c.len.ensures, c.propose_all.new.points.ok) in
    let ahead = ahead_at stop (c.len.result + 2) (length (members x.colours) + 2) (omega (arith, count, long))
    (ahead_more stop (length (members x.colours) + 1) (c.len.result + 2) (omega (arith, count, long))
    (c.goes_on.ensures.on c.if-not-goes_on.false) was.ahead) in
    let start = settles_none r old h x points ended stop was low k b is o c.propose_all.ensures.points e.same.0 e.seat
    e.same.1 shut known marks c.args.places.now ahead in
    takes_all r old h x points ended stop was low k b is o c.propose_all.ensures.points e.same.0 e.seat e.same.1 shut
    known marks m c.settle_all.new.places c.settle_all.ensures.goes s
    (subst (λ (w : Row). KnowsOutcome (view_of m) w o) (ap (λ (a : BegunAppend). a.row) is)
    (outcome_learnt (view_of k) (view_of m) b.row s.grows.size (Learns-from (view_of k) (view_of m) s.grows) o known))
    (c.in-Ok.ensures.ok old x fresh is start)

pub returns-in-Err-clause-err : goal.returns-in-Err-clause-err
returns-in-Err-clause-err g c = λ old x fresh is steps.
    let r = c.args.region.now in
    let b = c.args.begun.now in
    let h = c.propose_all.new.hold in
    let k = c.decide-outcome.new.hold in
    let points = c.propose_all.new.points.items in
    let ended = c.in_ok-ended.ended in
    let stop = c.args.course.stop in
    let knows = c.propose_all.ensures.begun in
    let e = c.decide-outcome.ensures in
    let o = c.decide-outcome.result in
    let row = ap (λ (a : BegunAppend). a.row) c.begun.view_is in
    let was = c.in_ok-ended.ensures.ok old x fresh is
    (proposes_none r old c.args.hold.now x c.args.points.now.items steps) c.requires.own.5 in
    let low = low_colours r h b old x knows is in
    let shut = e.closed (subst (λ (w : Row). KnowsAll (view_of h) w) (sym row)
    (all_known r h b knows (all_marked r old h x points ended stop was low b is))) in
    let known = subst (λ (w : Row). KnowsOutcome (view_of k) w o) row (e.known shut) in
    let marks = subst (λ (w : Row). (y : Node) (mark : ℕ → Mark) → KnowsBegun (view_of h) w y
    → KnowsMarks (view_of h) w y mark → o ≡ outcome_of (map mark (members y.colours))) row e.marks in
    let count = count_of points b old x c.propose_all.ensures.points is in
    let long : c.len.result ≡ length points = omega (arith, c.len.ensures, c.propose_all.new.points.ok) in
    let ahead = ahead_at stop (c.len.result + 2) (length (members x.colours) + 2) (omega (arith, count, long))
    (ahead_more stop (length (members x.colours) + 1) (c.len.result + 2) (omega (arith, count, long))
    (c.goes_on.ensures.on c.if-not-goes_on.false) was.ahead) in
    c.in-Err.ensures.err old x fresh is
    (settles_none r old h x points ended stop was low k b is o c.propose_all.ensures.points e.same.0 e.seat e.same.1 shut
    known marks c.args.places.now ahead)
