use Rattle.std.proofs.Common.{rules, ◌≡◌, ◌<◌, ℕ, [], ◌∷◌, length, refl, ap, sym, subst, ◌∙◌, arith, length-append, slice_get}
use Rattle.turn_cell.specs.Cells.{seen}
use Rattle.turn_cell.proofs.CallerLemmas.{joined_at, left_at}
use Rattle.chain_store.specs.Passes.{IsHolder}
use Rattle.bench.specs.declared.columns.jobs.Job.{Job}
use Rattle.bench.specs.Jobs.{IsJob}
use Rattle.bench.proofs.columns.jobs.hire.Goals as goal

pub loop-init : goal.loop-init
loop-init c =
    let e = c.into_vec-passes.ensures in
    record {
      left = (refl, λ n p at. c.requires.passes.1 n p (ap (λ l. slice_get l n) (sym e) ∙ at));
      few = omega (arith, ap length e, c.requires.passes.0);
      hired = c.requires.jobs;
    }

pub loop-preserved : goal.loop-preserved
loop-preserved c =
    let i = c.loop.invariant in
    let cell = c.args.cell in
    let pass = c.in-Some.pass in
    let rest = c.pop.new.self.items in
    let e = c.in-Some.ensures.items in
    let r = left_at c.loop.passes.items rest pass (λ n p. IsHolder cell.now n p × (seen p ≡ [])) e i.left.1 in
    let less : length rest < 4 = omega (arith, ap length e, length-append rest (pass ∷ []), i.few) in
    let by : c.len-by.result ≡ length rest = search rules in
    let job : Job = record { cell = cell; by = c.len-by.result; pass = pass } in
    record {
      left = (refl, r.0);
      few = omega (arith, less);
      hired = joined_at c.loop.jobs.items c.push.new.self.items job (λ _. IsJob) c.in_ok-push.ensures.items i.hired
          record {
            column = c.requires.column;
            few = omega (arith, less, by);
            holds = subst (λ (k : ℕ). IsHolder cell.now k pass) (sym by) r.1.0;
          };
    }
