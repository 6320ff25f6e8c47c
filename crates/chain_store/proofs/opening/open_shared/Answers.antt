use Rattle.std.proofs.Common.{List, sym, subst, ◌∙◌}
use Rattle.turn_cell.specs.Cells.{AreNewPasses}
use Rattle.chain_store.specs.Desks.{column_copied}
use Rattle.chain_store.specs.Openings.{CopiesPass}
use Rattle.chain_store.proofs.Dealing.{all_got_new, one_apart}
use Rattle.chain_store.proofs.opening.open_shared.Goals as goal

pub open-requires-clause-pass : goal.open-requires-clause-pass
open-requires-clause-pass c =
    let apart = one_apart c.in_ok-cell.cell c.clients-count.result c.in_ok-cell.passes c.pop.new.self.items c.in-Some.own
    c.in_ok-cell.ensures.passes (sym c.into_vec-passes.ensures ∙ c.in-Some.ensures.items) in
    (c.clients-count.result, apart.1)

pub returns-clause-clients : goal.returns-clause-clients
returns-clause-clients c =
    let apart = one_apart c.in_ok-cell.cell c.clients-count.result c.in_ok-cell.passes c.pop.new.self.items c.in-Some.own
    c.in_ok-cell.ensures.passes (sym c.into_vec-passes.ensures ∙ c.in-Some.ensures.items) in
    let share = c.in_ok-share-in-Some.share in
    all_got_new c.in_ok-cell.cell share c.clients-count.result c.args.clients.now.items c.deal.new.clients.items
    c.pop.new.self.items c.into_vec.result.items c.in_ok-deal-in-Some.ensures apart.0
    (subst (λ (qs : List CopiesPass). AreNewPasses column_copied share.copies c.clients-count.result qs)
    (sym c.into_vec.ensures) c.in_ok-share-in-Some.ensures.passes)
