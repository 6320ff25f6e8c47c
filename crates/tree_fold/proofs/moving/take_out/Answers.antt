use Rattle.tree_fold.proofs.MoveLemmas.{out_one}
use Rattle.tree_fold.proofs.moving.take_out.Goals as goal

pub loop-place-preserved : goal.loop-place-preserved
loop-place-preserved c = record {
  placed = c.take_entry.ensures.placed;
  ordered = c.take_entry.ensures.ordered;
  out = out_one c.args.entries.now c.loop-place.entries c.take_entry.new.entries c.args.places.now c.loop-place.place-index _ c.loop-place-test.true c.take_entry.ensures.out c.loop-place.invariant.out;
}
