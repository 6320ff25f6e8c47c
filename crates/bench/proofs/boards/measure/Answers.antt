use Rattle.std.proofs.Common.{arith}
use Rattle.log_node.specs.declared.limits.TheConstants.{MAX_ROWS}
use Rattle.stamp_board.proofs.CallerLemmas.{words_within}
use Rattle.bench.proofs.boards.measure.Goals as goal

pub open-requires : goal.open-requires
open-requires g c =
    let few = c.if-rows-gt-MAX_ROWS.false in
    let some = c.if-rows-eq0.false in
    record {
      size = record {
        some_clients = omega arith;
        few_clients = omega arith;
        some_colours = omega arith;
        few_colours = omega arith;
        some_rows = omega (arith, some);
        few_rows = omega (arith, few);
        few_words = words_within 16 c.args.rows 16 16 MAX_ROWS 16 (omega arith) (omega (arith, few)) (omega arith) (omega arith);
      };
    }
