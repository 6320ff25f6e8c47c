use Rattle.std.proofs.Common.{subst, sym}
use Rattle.std.specs.Prelude.{IfSome}
use Rattle.turn_cell.specs.Cells.{seen}
use Rattle.chain_store.specs.Passes.{ShowsHistory, tag_in}
use Rattle.chain_store.proofs.Passing.{shows_history}
use Rattle.chain_store.proofs.Turning.{stood, tagged}
use Rattle.chain_store.proofs.CopyKept.{ok_some}
use Rattle.chain_store.proofs.read_view.publish.seen_from.Goals as goal

pub returns-clause-view : goal.returns-clause-view
returns-clause-view g c =
    let t = c.watch-turn.ensures in
    let tag = tag_in c.args.cell.now in
    let x = c.watch-turn.result.value.value in
    let y = c.deref.result.now in
    let q = c.watch-turn.new.pass in
    let w = c.put.ensures.look t.value in
    subst (λ o. IfSome o (λ v. ShowsHistory tag (seen c.put.new.pass) c.args.cut v)) (sym c.ok-view.ensures.value)
    (ok_some c.look.result _ _
    (λ v h. subst (λ l. ShowsHistory tag l c.args.cut v) (sym w.1.0)
    (shows_history y tag (seen q) c.args.cut v (stood x y (seen q) c.deref.ensures t.value)
    (tagged x y tag c.deref.ensures t.tag) h)) c.look.ensures)
