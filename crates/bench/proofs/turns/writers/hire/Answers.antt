use Rattle.std.proofs.Common.{rules, ◌≤◌, length, subst, sym}
use Rattle.turn_cell.proofs.CallerLemmas.{joined_at}
use Rattle.bench.specs.declared.turns.writers.Writer.{Writer}
use Rattle.bench.specs.Writers.{IsWriter}
use Rattle.bench.proofs.Hiring.{are_new, left_new, hired, moved_one}
use Rattle.bench.proofs.turns.writers.hire.Goals as goal

pub loop-pass-init : goal.loop-pass-init
loop-pass-init g c = record {
  left = are_new c.args.cell.now c.args.passes c.into_vec-passes.result.items c.into_vec-passes.ensures c.requires.0;
  hired = search rules;
  few = subst (λ l. length l ≤ 255) (sym c.into_vec-passes.ensures) c.requires.1;
  count = search rules;
}

pub loop-pass-preserved : goal.loop-pass-preserved
loop-pass-preserved g c =
    let i = c.loop-pass.invariant in
    let e = c.in-Some.ensures.items in
    let f = c.in_ok-push.ensures.items in
    let w : Writer g.row.P.Denot = record { by = c.len-by.result; pass = c.in-Some.pass } in
    let r = left_new c.args.cell.now c.loop-pass.passes.items c.pop.new.self.items c.in-Some.pass e i.left in record {
      left = r.0;
      hired = joined_at c.loop-pass.writers.items c.push.new.self.items w (λ _. IsWriter c.args.cell.now) f i.hired
          (hired c.args.cell.now w (length c.pop.new.self.items) (search rules) r.1);
      few = search rules;
      count = moved_one c.loop-pass.passes.items c.pop.new.self.items c.in-Some.pass c.loop-pass.writers.items
          c.push.new.self.items w _ e f i.count;
    }
