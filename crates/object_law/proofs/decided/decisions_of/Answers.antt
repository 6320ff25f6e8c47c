use Rattle.std.proofs.Common.{arith}
use Rattle.object_law.proofs.DecidedLemmas.{decided_all, decided_before, decided_next, decided_none, step_at}
use Rattle.object_law.proofs.decided.decisions_of.Goals as goal

pub loop-at-init : goal.loop-at-init
loop-at-init c = (
  decided_none c.args.subject.now c.in_ok-all.all.items c.in_ok-all.ensures.are c.in_ok-decisions.decisions
      c.in_ok-decisions.ensures.none c.in_ok-decisions.ensures.slots,
  c.in_ok-plays.ensures,
)

pub decision_by-requires-clause-below : goal.decision_by-requires-clause-below
decision_by-requires-clause-below c =
    let less = c.loop-at-test.true in
    let end = c.len-at-end.ensures in
    decided_before c.args.subject.now c.in_ok-all.all.items c.loop-at.at c.loop-at.decisions c.loop-at.invariant.0
    c.in_ok-all.ensures.are c.in_ok-all.ensures.rising c.index-it.result.now (omega (arith, less, end)) c.index-it.ensures

pub note-requires-clause-client : goal.note-requires-clause-client
note-requires-clause-client c =
    let walked = c.args.subject.now in
    let it = c.index-it.result.now in
    let less = c.loop-at-test.true in
    let end = c.len-at-end.ensures in
    (c.loop-at.invariant.0.slots it.client it.place
    (step_at walked c.in_ok-all.all.items c.loop-at.at it c.in_ok-all.ensures.are (omega (arith, less, end)) c.index-it.ensures)).0

pub note-requires-clause-place : goal.note-requires-clause-place
note-requires-clause-place c =
    let walked = c.args.subject.now in
    let it = c.index-it.result.now in
    let less = c.loop-at-test.true in
    let end = c.len-at-end.ensures in
    (c.loop-at.invariant.0.slots it.client it.place
    (step_at walked c.in_ok-all.all.items c.loop-at.at it c.in_ok-all.ensures.are (omega (arith, less, end)) c.index-it.ensures)).1

pub loop-at-preserved : goal.loop-at-preserved
loop-at-preserved c =
    let walked = c.args.subject.now in
    let it = c.index-it.result.now in
    let less = c.loop-at-test.true in
    let end = c.len-at-end.ensures in (
      decided_next walked c.in_ok-all.all.items c.loop-at.at c.loop-at.decisions c.loop-at.invariant.0 it c.index-it.ensures
          (step_at walked c.in_ok-all.all.items c.loop-at.at it c.in_ok-all.ensures.are (omega (arith, less, end)) c.index-it.ensures)
          c.in_ok-decision.decision c.in_ok-decision.ensures.says c.note.new.decisions c.note.ensures,
      c.in_ok-decision.ensures.plays,
    )

pub returns : goal.returns
returns c =
    let ge = c.loop-at-test.false in
    let end = c.len-at-end.ensures in
    decided_all c.args.subject.now c.in_ok-all.all.items c.loop-at.at c.loop-at.decisions c.loop-at.invariant.0
    (omega (arith, ge, end))
