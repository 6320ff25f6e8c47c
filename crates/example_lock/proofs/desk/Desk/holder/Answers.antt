use Rattle.std.proofs.Common.{List, sym, subst}
use Rattle.object_fold.specs.Nodes.{ObjectNode}
use Rattle.region_fold.specs.Reads.{AreWriters}
use Rattle.example_lock.specs.Desks.{HasLock}
use Rattle.example_lock.proofs.Answers.{looks}
use Rattle.example_lock.proofs.desk.Desk.holder.Goals as goal

pub returns-in-Ok-clause-ok : goal.returns-in-Ok-clause-ok
returns-in-Ok-clause-ok g c =
    looks c.args.store.now c.args.self.now.client c.read.new.client c.args.self.now.fold.kept.last c.in-Ok._read c.holder.result
    (λ (nodes : List ObjectNode). HasLock c.read.new.self.kept.state nodes × AreWriters nodes)
    (λ nodes held. c.holder.ensures nodes
    (subst (λ x. HasLock x nodes) (sym c.state.ensures) held.0)) c.in-Ok.ensures.ok
