use Rattle.std.proofs.Common.{◌∙◌, sym}
use Rattle.run_script.proofs.Loads.{load_can_run, loaded}
use Rattle.run_script.proofs.top.load_text.Goals as goal

pub run_beside-requires-after_bounds : goal.run_beside-requires-after_bounds
run_beside-requires-after_bounds g c κs within = (
  c.in_ok-script.script,
  load_can_run c.loads_fit.ensures c.args.count c.requires c.in_ok-script.script c.in_ok-script.ensures c.in_ok-dealt.dealt
      c.in_ok-dealt.ensures,
)

pub returns-then-found-clause-ran : goal.returns-then-found-clause-ran
returns-then-found-clause-ran g c =
    loaded c.loads_fit.ensures c.loads_come_to_their_summary.ensures.summary c.args.count c.requires c.in_ok-script.script
    c.in_ok-script.ensures c.in_ok-dealt.dealt c.in_ok-dealt.ensures c.in_ok-report.report c.in_ok-report.ensures
    (sym c.found_memory-found.ensures ∙ c.if-found.true)
