use Rattle.std.proofs.Common.{refl, subst, sym}
use Rattle.std.specs.Prelude.{IfSome}
use Rattle.turn_cell.specs.Cells.{seen}
use Rattle.chain_store.specs.Looking.{ShowsOn}
use Rattle.chain_store.specs.Passes.{tag_in}
use Rattle.chain_store.proofs.CopyKept.{ok_some}
use Rattle.chain_store.proofs.CopyLooks.{shown_on_to}
use Rattle.chain_store.proofs.read_view.beside.shown_on_from.Goals as goal

pub returns-clause-looked : goal.returns-clause-looked
returns-clause-looked c =
    let cell = c.args.cell.now in
    let q = c.meets.new.pass in
    subst (λ o. IfSome o (ShowsOn (tag_in cell) (seen q) c.args.from)) (sym c.ok.ensures.value)
    (ok_some c.look_on.result _ _
    (λ l is. shown_on_to cell c.args.copy.now c.requires.copy.0 c.requires.copy.1 q c.args.from l (c.if-not-meets.ensures.seen refl) is)
    c.look_on.ensures)
