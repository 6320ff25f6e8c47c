use Rattle.std.proofs.Common.{ap, arith}
use Rattle.skeen_core.specs.Boards.{changed_at, decided}
use Rattle.skeen_core.proofs.Clients.{board-set, clients-length}
use Rattle.skeen_core.proofs.rows.Rows.decide.Goals as goal

pub returns-clause-rows : goal.returns-clause-rows
returns-clause-rows c =
    let i = c.self.inside in
    let long = clients-length i.colours i.rows i.clients.items c.args.self.now c.self.view_is in
    board-set i.colours i.rows i.clients.items c.args.self.now c.args.row.client c.index_mut.result.now
    c.decide.new.self
    (λ rs. changed_at rs c.args.row.number decided) c.self.view_is (omega (arith, long, c.requires.0))
    c.index_mut.ensures.value (ap (λ r. r.begun) c.decide.ensures.rows)
