use Rattle.run_script.proofs.RunsOf.{run_in_file}
use Rattle.run_script.proofs.top.do_script.Goals as goal

-- where the sink failed, it got the beginning of the report's text
pub returns-in-Err-printed-clause-front : goal.returns-in-Err-printed-clause-front
returns-in-Err-printed-clause-front g c = λ _.
    let e = c.in-Ok.ensures in
    (c.in-Ok.report, run_in_file c.args.script c.in-Ok.report e.ok e.lawful e.exact, c.in-Err-printed.ensures.front)

pub returns-in-Ok-printed-clause-done : goal.returns-in-Ok-printed-clause-done
returns-in-Ok-printed-clause-done g c = λ _.
    let e = c.in-Ok.ensures in
    (c.in-Ok.report, run_in_file c.args.script c.in-Ok.report e.ok e.lawful e.exact, c.in-Ok-printed.ensures.ok)
