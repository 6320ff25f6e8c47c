use Rattle.run_script.proofs.RunsOf.{run_on_threads}
use Rattle.run_script.proofs.top.do_dealt.Goals as goal

pub returns-in-Ok-printed-clause-done : goal.returns-in-Ok-printed-clause-done
returns-in-Ok-printed-clause-done g c = λ _ script can.
    (c.in-Ok.report, run_on_threads script c.in-Ok.report (c.in-Ok.ensures script can), c.in-Ok-printed.ensures.ok)

-- where the sink failed, it got the beginning of the report's text
pub returns-in-Err-printed-clause-front : goal.returns-in-Err-printed-clause-front
returns-in-Err-printed-clause-front g c = λ _ script can.
    (c.in-Ok.report, run_on_threads script c.in-Ok.report (c.in-Ok.ensures script can), c.in-Err-printed.ensures.front)
