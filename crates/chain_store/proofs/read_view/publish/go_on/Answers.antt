use Rattle.chain_store.proofs.CopyLooks.{ready_of}
use Rattle.chain_store.proofs.read_view.publish.go_on.Goals as goal

pub seen_from-view-requires : goal.seen_from-view-requires
seen_from-view-requires g c = ready_of c.args.cell.now c.args.copies.now.pass c.requires.of c.args.copies.now.aside
