use Rattle.script_text.proofs.CallerLemmas.{script_fits}
use Rattle.tests_law.proofs.tests.breaks.Goals as goal

pub read_report-requires : goal.read_report-requires
read_report-requires g c = c.scripts_name_apart.ensures _ _ c.in_ok-script.ensures.accepted

pub least_of_nine-requires : goal.least_of_nine-requires
least_of_nine-requires g c = script_fits _ _ c.in_ok-script.ensures.accepted
