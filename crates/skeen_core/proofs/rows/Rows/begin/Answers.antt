use Rattle.std.proofs.Common.{◌++◌, ◌∷◌, [], ap, ◌∙◌, arith}
use Rattle.skeen_core.specs.Boards.{with_begun, fresh_row}
use Rattle.skeen_core.proofs.Clients.{board-set, clients-length}
use Rattle.skeen_core.proofs.rows.Rows.begin.Goals as goal

pub returns-clause-rows : goal.returns-clause-rows
returns-clause-rows c =
    let i = c.self.inside in
    let long = clients-length i.colours i.rows i.clients.items c.args.self.now c.self.view_is in
    let set = board-set i.colours i.rows i.clients.items c.args.self.now c.args.client c.index_mut.result.now
    c.begin.new.self
    (λ rs. rs ++ fresh_row c.deref.result.now.id c.deref-2.result.now.colours ∷ []) c.self.view_is
    (omega (arith, long, c.requires.client)) c.index_mut.ensures.value (ap (λ r. r.begun) c.begin.ensures) in
    set
    ∙ ap (λ n. with_begun c.args.self.now c.args.client (fresh_row n.id c.deref-2.result.now.colours)) c.deref.ensures
    ∙ ap (λ n. with_begun c.args.self.now c.args.client (fresh_row c.args.node.now.value.id n.colours))
    c.deref-2.ensures
