use Rattle.run_script.specs.declared.asked.Asked.TheVariants.{Run, Step}
use Rattle.script_text.proofs.CallerLemmas.{script_fits, rows_few}
use Rattle.run_script.proofs.RunsOf.{can_run, the_script}
use Rattle.run_script.proofs.TopLemmas.{refusal_written, refusal_begun, run_written, front_begun}
use Rattle.run_script.proofs.top.do_bytes.Goals as goal

-- IN THE ORDER OF THE FILE

pub do_script-requires-clause-fits : goal.do_script-requires-clause-fits
do_script-requires-clause-fits g c = script_fits _ _ c.in-Ok.ensures.accepted

pub do_script-requires-clause-rows : goal.do_script-requires-clause-rows
do_script-requires-clause-rows g c =
    rows_few _ _ (c.rows_are_within_limits.ensures _ _ c.in-Ok.ensures.accepted)

pub returns-in-Ok-clause-done : goal.returns-in-Ok-clause-done
returns-in-Ok-clause-done g c = λ e. run_written c.args.asked Step c.args.bytes.now _ _ c.in-Ok.script c.in-Step.is
    (the_script c.args.bytes.now c.in-Ok.script c.in-Ok.ensures.accepted) (c.do_script.ensures.done e)

pub returns-in-Ok-clause-front : goal.returns-in-Ok-clause-front
returns-in-Ok-clause-front g c = λ e. front_begun c.args.asked Step c.args.bytes.now _ _ c.in-Ok.script c.in-Step.is
    (the_script c.args.bytes.now c.in-Ok.script c.in-Ok.ensures.accepted) (c.do_script.ensures.front e)

pub returns-in-Err-Refused-clause-refused : goal.returns-in-Err-Refused-clause-refused
returns-in-Err-Refused-clause-refused g c = λ e.
    refusal_written c.args.bytes.now _ _ c.in-Err-Refused.line c.in-Err-Refused.why (record {
      refused = (rw c.in-Err-Refused.field-0-is at c.in-Err-Refused.ensures.refused);
      none = (rw c.in-Err-Refused.field-0-is at c.in-Err-Refused.ensures.only);
    })
    (rw c.in-Err-Refused.field-0-is at (c.refuse.ensures.refused e))

pub returns-in-Err-Refused-clause-front : goal.returns-in-Err-Refused-clause-front
returns-in-Err-Refused-clause-front g c = λ e.
    refusal_begun c.args.asked c.args.bytes.now _ _ c.in-Err-Refused.line c.in-Err-Refused.why (record {
      refused = (rw c.in-Err-Refused.field-0-is at c.in-Err-Refused.ensures.refused);
      none = (rw c.in-Err-Refused.field-0-is at c.in-Err-Refused.ensures.only);
    })
    (rw c.in-Err-Refused.field-0-is at (c.refuse.ensures.front e))

-- ON THREADS

pub do_dealt-requires-after_bounds : goal.do_dealt-requires-after_bounds
do_dealt-requires-after_bounds g c κs within =
    let read = c.in-Ok-parse_beside.ensures.accepted in (
      read.0,
      can_run c.rows_are_within_limits.ensures c.scripts_stop_last.ensures c.args.bytes.now read.0 c.in-Ok-parse_beside.dealt read.1
          read.2,
    )

pub returns-in-Ok-parse_beside-clause-done : goal.returns-in-Ok-parse_beside-clause-done
returns-in-Ok-parse_beside-clause-done g c = λ e.
    let read = c.in-Ok-parse_beside.ensures.accepted in
    run_written c.args.asked Run c.args.bytes.now _ _ read.0 c.in-Run.is (the_script c.args.bytes.now read.0 read.1)
    (c.do_dealt.ensures.done e read.0
    (can_run c.rows_are_within_limits.ensures c.scripts_stop_last.ensures c.args.bytes.now read.0 c.in-Ok-parse_beside.dealt read.1
    read.2))

pub returns-in-Ok-parse_beside-clause-front : goal.returns-in-Ok-parse_beside-clause-front
returns-in-Ok-parse_beside-clause-front g c = λ e.
    let read = c.in-Ok-parse_beside.ensures.accepted in
    front_begun c.args.asked Run c.args.bytes.now _ _ read.0 c.in-Run.is (the_script c.args.bytes.now read.0 read.1)
    (c.do_dealt.ensures.front e read.0
    (can_run c.rows_are_within_limits.ensures c.scripts_stop_last.ensures c.args.bytes.now read.0 c.in-Ok-parse_beside.dealt read.1
    read.2))

pub returns-in-Err-Refused-parse_beside-clause-refused : goal.returns-in-Err-Refused-parse_beside-clause-refused
returns-in-Err-Refused-parse_beside-clause-refused g c = λ e.
    let fault = c.in-Err-Refused-parse_beside in
    refusal_written c.args.bytes.now _ _ fault.line fault.why (record {
      refused = (rw fault.field-0-is at fault.ensures.refused);
      none = (rw fault.field-0-is at fault.ensures.only);
    })
    (rw fault.field-0-is at (c.refuse-in-Err-Refused-parse_beside.ensures.refused e))

pub returns-in-Err-Refused-parse_beside-clause-front : goal.returns-in-Err-Refused-parse_beside-clause-front
returns-in-Err-Refused-parse_beside-clause-front g c = λ e.
    let fault = c.in-Err-Refused-parse_beside in
    refusal_begun c.args.asked c.args.bytes.now _ _ fault.line fault.why (record {
      refused = (rw fault.field-0-is at fault.ensures.refused);
      none = (rw fault.field-0-is at fault.ensures.only);
    })
    (rw fault.field-0-is at (c.refuse-in-Err-Refused-parse_beside.ensures.front e))
