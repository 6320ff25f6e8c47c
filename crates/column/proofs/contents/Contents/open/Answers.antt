use Rattle.std.proofs.Common.{refl, arith}
use Rattle.column.proofs.Steps.{new_is, new_numbers}
use Rattle.column.proofs.contents.Contents.open.Goals as goal

pub invariant_of-result : goal.invariant_of-result
invariant_of-result c =
    let region = c.args.region in
    rw (c.new.ensures.items, c.open.ensures, c.in_ok-open.ensures) (record {
      column_is = new_is region c.args.colour c.args.shape.now.regions c.requires.region c.requires.colour
          c.requires.regions;
      numbers_are = new_numbers region c.args.colour c.args.shape.now.regions;
      room_is = record { enough = omega arith; few = omega arith; room = omega arith; spares = refl };
    })
