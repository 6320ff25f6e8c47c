use Rattle.std.proofs.Common.{◌+◌, ◌*◌, sym, ap, ◌∙◌, arith}
use Rattle.tree_fold.specs.Places.{name_number}
use Rattle.tree_fold.proofs.PlaceLemmas.{number_step, number_room, number_more}
use Rattle.tree_fold.proofs.places.name_number.Goals as goal

pub overflow_mul-number : goal.overflow_mul-number
overflow_mul-number c = let room = number_room c.loop-at.at c.loop-at.number c.loop-at-test.true c.loop-at.invariant.low in omega (arith, room)

pub overflow_add-number : goal.overflow_add-number
overflow_add-number c = let room = number_room c.loop-at.at c.loop-at.number c.loop-at-test.true c.loop-at.invariant.low in omega (arith, room, c.byte_at.type_inv)

pub loop-at-preserved : goal.loop-at-preserved
loop-at-preserved c = record {
  is = ap (λ n. n * 256 + c.byte_at.result) c.loop-at.invariant.is ∙ ap (λ b. name_number c.loop-at.at c.args.name.now * 256 + b) c.byte_at.ensures ∙ sym (number_step c.loop-at.at c.args.name.now);
  low = number_more c.loop-at.at c.loop-at.number c.byte_at.result c.loop-at.invariant.low (omega (arith, c.byte_at.type_inv));
}
