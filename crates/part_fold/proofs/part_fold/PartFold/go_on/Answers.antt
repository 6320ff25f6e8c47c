use Rattle.std.proofs.Common.{sym, ◌∙◌}
use Rattle.part_fold.proofs.KnownLemmas.{settles_front}
use Rattle.part_fold.proofs.part_fold.PartFold.go_on.Goals as goal

pub loop-commits-preserved : goal.loop-commits-preserved
loop-commits-preserved c =
    let told = sym c.front_verdict.ensures ∙ c.in-Some.is in
    record {
      room = c.settle.ensures.room;
      part = c.settle.ensures.settles.part ∙ c.loop-commits.invariant.part;
      holds = λ said txs h. settles_front c.loop-commits.self c.settle.new.self said txs c.in-Some.commits (c.loop-commits.invariant.holds said txs h) told c.settle.ensures.settles;
    }
