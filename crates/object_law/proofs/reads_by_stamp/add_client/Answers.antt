use Rattle.std.proofs.Common.{◌∙◌, ◌+◌, ap, arith, subst, sym}
use Rattle.object_law.proofs.ReadLemmas.{AreReadsTo, no_more_reads, one_more_read, reads_end}
use Rattle.object_law.proofs.reads_by_stamp.add_client.Goals as goal
use Rattle.object_law.proofs.reads_by_stamp.add_client.Goals.{in-Some+in_ok-push, in_default}

pub loop-place-preserved : goal.loop-place-preserved
loop-place-preserved c =
    let walked = c.args.subject.now in
    let client = c.args.client in
    let place = c.loop-place.place in
    let reads = c.loop-place.reads.items in
    let count = c.count-place-end.ensures.count in
    let less = c.loop-place-test.true in
    elim c.match-read_stamp.branch [
      | in-Some+in_ok-push w ↦
          one_more_read walked client place reads c.reply.result.now c.reply.ensures c.loop-place.invariant
          (record { walker = c.requires.client; there = omega (arith, count, less) }) w.in-Some.stamp
          (sym c.read_stamp.ensures ∙ w.in-Some.is) c.match-read_stamp.reads.items
          (ap (λ v. v.items) w.reads-is ∙ w.in_ok-push.ensures.items)
      | in_default w ↦
          subst (AreReadsTo walked client (place + 1)) (sym (ap (λ v. v.items) w.reads-is))
          (no_more_reads walked client place reads c.reply.result.now c.reply.ensures c.loop-place.invariant
          (sym c.read_stamp.ensures ∙ w.in_default.is))
    ]

pub returns : goal.returns
returns c =
    let count = c.count-place-end.ensures.count in
    let ge = c.loop-place-test.false in
    reads_end c.args.subject.now c.args.client c.loop-place.place c.loop-place.reads.items c.agrees.ensures.may.0 c.agrees.ensures.may.1
    (omega (arith, count, ge)) c.loop-place.invariant
