use Rattle.std.proofs.Common.{refl, subst, sym}
use Rattle.std.specs.Prelude.{IfSome}
use Rattle.turn_cell.specs.Cells.{seen}
use Rattle.chain_store.specs.Passes.{ShowsHistory, tag_in}
use Rattle.chain_store.proofs.CopyKept.{ok_some}
use Rattle.chain_store.proofs.CopyLooks.{shown_to}
use Rattle.chain_store.proofs.read_view.beside.shown_from.Goals as goal

pub returns-clause-view : goal.returns-clause-view
returns-clause-view c =
    let cell = c.args.cell.now in
    let q = c.meets.new.pass in
    subst (λ o. IfSome o (λ v. ShowsHistory (tag_in cell) (seen q) c.args.from v)) (sym c.ok.ensures.value)
    (ok_some c.look.result _ _
    (λ v is. shown_to cell c.args.copy.now c.requires.copy.0 c.requires.copy.1 q c.args.from v (c.if-not-meets.ensures.seen refl) is)
    c.look.ensures)
