use Rattle.std.proofs.Common.{inl, subst, sym}
use Rattle.turn_cell.specs.Cells.{seen}
use Rattle.chain_store.specs.Passes.{ShowsHistory, tag_in}
use Rattle.chain_store.proofs.Passing.{shows_history, ok_as}
use Rattle.chain_store.proofs.Turning.{stood, tagged}
use Rattle.chain_store.proofs.looks.view_at.Goals as goal

pub end-requires-clause-value : goal.end-requires-clause-value
end-requires-clause-value c = inl c.requires.value

pub returns-clause-pass : goal.returns-clause-pass
returns-clause-pass c =
    (c.end.ensures.holder c.args.by c.requires.turn, (c.end.ensures.look c.requires.value).1.0)

pub returns-clause-view : goal.returns-clause-view
returns-clause-view c =
    let tag = tag_in c.args.turn.cell.now in
    let x = c.args.turn.value.value in
    let y = c.deref.result.now in
    let q = c.args.pass.now in
    let w = c.end.ensures.look c.requires.value in
    ok_as c.look-view.result _ _
    (λ view v. subst (λ l. ShowsHistory tag l c.args.from view) (sym w.1.0)
    (shows_history y tag (seen q) c.args.from view (stood x y (seen q) c.deref.ensures c.requires.value)
    (tagged x y tag c.deref.ensures c.requires.tag) v)) c.look-view.ensures
