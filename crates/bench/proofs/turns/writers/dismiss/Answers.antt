use Rattle.turn_cell.specs.Cells.{IsReady}
use Rattle.turn_cell.proofs.CallerLemmas.{joined_at, left_at}
use Rattle.bench.specs.Writers.{no_tag, IsWriter}
use Rattle.bench.proofs.Hiring.{moved_one}
use Rattle.bench.proofs.turns.writers.dismiss.Goals as goal

pub loop-writer-preserved : goal.loop-writer-preserved
loop-writer-preserved g c =
    let i = c.loop-writer.invariant in
    let e = c.in-Some.ensures.items in
    let r = left_at c.loop-writer.writers.items c.pop.new.self.items c.in-Some.writer (λ _. IsWriter c.args.cell.now) e
    i.left in record {
      left = r.0;
      ready = joined_at c.loop-writer.passes c.push.new.self c.in-Some.writer.pass (λ _. IsReady no_tag c.args.cell.now)
          c.in_ok-push.ensures.ok i.ready r.1.0;
      count = moved_one c.loop-writer.writers.items c.pop.new.self.items c.in-Some.writer c.loop-writer.passes
          c.push.new.self c.in-Some.writer.pass _ e c.in_ok-push.ensures.ok i.count;
    }
