use Rattle.std.proofs.Common.{ap, ◌∙◌, arith}
use Rattle.std.specs.Prelude.{slice_get}
use Rattle.skeen_core.specs.Boards.{begun_at, changed_at, with_mark}
use Rattle.skeen_core.proofs.Clients.{board-set, board-rows, some-begun, some-within, client-within}
use Rattle.skeen_core.proofs.rows.Rows.set.Goals as goal

pub mark-requires-clause-begun : goal.mark-requires-clause-begun
mark-requires-clause-begun c =
    let i = c.self.inside in
    let begun = some-begun (begun_at c.args.self.now c.args.row) c.args.colour c.requires.row in
    let within = client-within i.colours i.rows i.clients.items c.args.self.now c.args.row begun.0 c.self.view_is
    begun.1 in
    let rows = board-rows i.colours i.rows i.clients.items c.args.self.now c.args.row.client c.index_mut.result.now
    c.self.view_is within c.index_mut.ensures.value in
    some-within c.index_mut.result.now.begun c.args.row.number begun.0
    (ap (λ rs. slice_get rs c.args.row.number) rows ∙ begun.1)

pub mark-requires-clause-colour : goal.mark-requires-clause-colour
mark-requires-clause-colour c =
    let i = c.self.inside in
    let begun = some-begun (begun_at c.args.self.now c.args.row) c.args.colour c.requires.row in
    let within = client-within i.colours i.rows i.clients.items c.args.self.now c.args.row begun.0 c.self.view_is
    begun.1 in
    let its = c.self.invariant.1 c.args.row.client c.index_mut.result.now within in
    let colours = ap (λ r. r.colours) c.index_mut.ensures.value ∙ its.0 in
    let same = ap (λ b. b.colours) c.self.view_is in
    omega (arith, colours, same, c.requires.colour)

pub returns-clause-rows : goal.returns-clause-rows
returns-clause-rows c =
    let i = c.self.inside in
    let begun = some-begun (begun_at c.args.self.now c.args.row) c.args.colour c.requires.row in
    let within = client-within i.colours i.rows i.clients.items c.args.self.now c.args.row begun.0 c.self.view_is
    begun.1 in
    board-set i.colours i.rows i.clients.items c.args.self.now c.args.row.client c.index_mut.result.now c.mark.new.self
    (λ rs. changed_at rs c.args.row.number (with_mark c.args.colour c.args.mark)) c.self.view_is within
    c.index_mut.ensures.value (ap (λ r. r.begun) c.mark.ensures.rows)
