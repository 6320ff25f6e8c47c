use Rattle.turn_cell.specs.Cells.{seen}
use Rattle.chain_store.specs.Passes.{tag_in}
use Rattle.chain_store.proofs.Passing.{ids_of}
use Rattle.chain_store.proofs.Turning.{lawful_at}
use Rattle.chain_store.proofs.read_view.publish.watch.Goals as goal

pub returns-clause-lawful : goal.returns-clause-lawful
returns-clause-lawful g c =
    let t = c.take-turn.ensures in
    lawful_at c.take-turn.result.value.value c.deref.result.now (tag_in c.args.cell.now) (seen c.take-turn.new.pass)
    c.deref.ensures t.value.0 t.value.1 c.agrees.ensures.lawful

pub returns-clause-ids : goal.returns-clause-ids
returns-clause-ids g c = ids_of c.take-turn.result.value.value (seen c.take-turn.new.pass) c.take-turn.ensures.value.0
