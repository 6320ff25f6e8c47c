use Rattle.turn_cell.specs.Cells.{seen}
use Rattle.chain_store.specs.Passes.{tag_in}
use Rattle.chain_store.proofs.Passing.{ids_of}
use Rattle.chain_store.proofs.Turning.{begun, sees, lawful_at}
use Rattle.chain_store.proofs.turns.begin.Goals as goal

pub returns : goal.returns
returns g c =
    let t = c.take-turn.ensures in
    let cell = c.args.cell.now in
    let p = c.args.pass.now in
    let q = c.take-turn.new.pass in
    let x = c.take-turn.result.value.value in record {
      turn = (begun cell c.args.by p q c.requires t.seen t.made.0 t.made.1 t.turn.0, t.turn.1);
      more = sees cell c.args.by p q c.requires t.seen t.made.0 t.made.1;
      value = t.value.0;
      tag = t.value.1;
      lawful = lawful_at x c.deref.result.now (tag_in cell) (seen q) c.deref.ensures t.value.0 t.value.1
          c.agrees.ensures.lawful;
      ids = ids_of x (seen q) t.value.0;
    }
