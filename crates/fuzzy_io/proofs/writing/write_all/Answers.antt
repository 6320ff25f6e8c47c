use Rattle.std.proofs.Common.{arith, length-drop, ◌∙◌}
use Rattle.std.proofs.lemmas.List.{take_rest}
use Rattle.fuzzy_io.proofs.Fronts.{appends_more}
use Rattle.fuzzy_io.proofs.writing.write_all.Goals as goal

pub loop-done-preserved : goal.loop-done-preserved
loop-done-preserved g c =
    let wrote = c.in_ok-done.ensures.bytes in
    record {
      within = let less = wrote.0 in let all = length-drop c.loop-done.done c.args.bytes.now in omega (arith, less, all, c.loop-done.invariant.within);
      out = appends_more _ _ _ c.loop-done.done c.in_ok-done.field-0 c.args.bytes.now c.loop-done.invariant.out (rw (take_rest c.args.bytes.now c.loop-done.done) at wrote.2);
      clean = c.in_ok-done.ensures.cause ∙ c.loop-done.invariant.clean;
    }
