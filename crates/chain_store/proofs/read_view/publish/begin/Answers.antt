use Rattle.std.proofs.Common.{subst, sym, ◌∙◌}
use Rattle.chain_store.specs.Copies.{shape_of, IsGood}
use Rattle.chain_store.proofs.CopyKept.{some_ok}
use Rattle.chain_store.proofs.CopyLooks.{ready_of}
use Rattle.chain_store.proofs.read_view.publish.begin.Goals as goal

pub seen_from-requires : goal.seen_from-requires
seen_from-requires g c = ready_of c.args.cell.now c.args.copies.now.pass c.requires.of c.args.copies.now.aside

pub shown_first-requires-clause-good : goal.shown_first-requires-clause-good
shown_first-requires-clause-good g c =
    let all = some_ok c.new.result c.in_ok-writer.writer _ (sym c.in_ok-writer.was ∙ c.ok-2.ensures.value) c.new.ensures in
    subst (λ z. IsGood (shape_of z)) (sym all.0) c.copied-first.ensures.good
