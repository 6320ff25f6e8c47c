use Rattle.std.proofs.Common.{◌∙◌, ◌+◌, ap, arith, subst, sym}
use Rattle.object_law.proofs.DecisionLists.{AreDecisionsTo, decisions_end, no_more_decisions, one_more_decision}
use Rattle.object_law.proofs.decisions_by_stamp.add_client.Goals as goal
use Rattle.object_law.proofs.decisions_by_stamp.add_client.Goals.{in-Some+in_ok-push, in_default}

pub loop-place-preserved : goal.loop-place-preserved
loop-place-preserved c =
    let walked = c.args.subject.now in
    let client = c.args.client in
    let place = c.loop-place.place in
    let decisions = c.loop-place.decisions.items in
    let count = c.count-place-end.ensures.count in
    let less = c.loop-place-test.true in
    elim c.match-stamp_of_read.branch [
      | in-Some+in_ok-push w ↦
          one_more_decision walked client place decisions c.reply.result.now c.reply.ensures c.loop-place.invariant
          (record { walker = c.requires.client; there = omega (arith, count, less) }) w.in-Some.stamp
          (sym c.stamp_of_read.ensures ∙ w.in-Some.is) c.match-stamp_of_read.decisions.items
          (ap (λ v. v.items) w.decisions-is ∙ w.in_ok-push.ensures.items)
      | in_default w ↦
          subst (AreDecisionsTo walked client (place + 1)) (sym (ap (λ v. v.items) w.decisions-is))
          (no_more_decisions walked client place decisions c.reply.result.now c.reply.ensures c.loop-place.invariant
          (sym c.stamp_of_read.ensures ∙ w.in_default.is))
    ]

pub returns : goal.returns
returns c =
    let count = c.count-place-end.ensures.count in
    let ge = c.loop-place-test.false in
    decisions_end c.args.subject.now c.args.client c.loop-place.place c.loop-place.decisions.items c.agrees.ensures.may.0
    c.agrees.ensures.may.1 (omega (arith, count, ge)) c.loop-place.invariant
