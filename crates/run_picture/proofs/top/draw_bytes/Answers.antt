use Rattle.script_text.proofs.CallerLemmas.{script_fits, rows_few}
use Rattle.run_picture.proofs.top.draw_bytes.Goals as goal

pub draw_script-requires-clause-fits : goal.draw_script-requires-clause-fits
draw_script-requires-clause-fits g c = script_fits _ _ c.in-Ok.ensures.accepted

pub draw_script-requires-clause-rows : goal.draw_script-requires-clause-rows
draw_script-requires-clause-rows g c = rows_few _ _ (c.rows_are_within_limits.ensures _ _ c.in-Ok.ensures.accepted)

pub draw_script-requires-clause-stops : goal.draw_script-requires-clause-stops
draw_script-requires-clause-stops g c = c.scripts_stop_last.ensures _ _ c.in-Ok.ensures.accepted
