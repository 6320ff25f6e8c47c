use Rattle.std.proofs.Common.{subst, sym}
use Rattle.turn_cell.specs.Cells.{seen}
use Rattle.chain_store.specs.Looking.{ShowsOn}
use Rattle.chain_store.specs.Passes.{tag_in}
use Rattle.chain_store.proofs.Passing.{shows_on, ok_as}
use Rattle.chain_store.proofs.Turning.{stood, tagged}
use Rattle.chain_store.proofs.looks.looked_at.Goals as goal

pub returns-clause-looked : goal.returns-clause-looked
returns-clause-looked c =
    let tag = tag_in c.args.turn.cell.now in
    let x = c.args.turn.value.value in
    let y = c.deref.result.now in
    let q = c.args.pass.now in
    let w = c.end.ensures.look c.requires.value in
    ok_as c.looked_on-looked.result _ _
    (λ looked v. subst (λ l. ShowsOn tag l c.args.from looked) (sym w.1.0)
    (shows_on y tag (seen q) c.args.from looked (stood x y (seen q) c.deref.ensures c.requires.value)
    (tagged x y tag c.deref.ensures c.requires.tag) v)) c.looked_on-looked.ensures
