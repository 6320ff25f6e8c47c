use Rattle.std.proofs.Common.{Bool}
use Rattle.log_node.proofs.CallerLemmas.{ok_then}
use Rattle.column_track.specs.Tracks.{Tells}
use Rattle.run_rules.specs.Deciding.{account_showing}
use Rattle.run_rules.specs.Shown.{Rule13}
use Rattle.walk_law.specs.Walking.{DecidesEachStep}
use Rattle.object_law.specs.Thirteenth.{TreesSaySo}
use Rattle.object_law.proofs.ThirteenthLaws.{thirteenth_told}
use Rattle.object_law.proofs.thirteenth.keeps_thirteenth.Goals as goal

pub returns : goal.returns
returns c =
    let walked = c.args.subject.now in
    let table = c.args.nodes.now in
    let may = c.agrees.ensures.may.1 in
    ok_then c.each_step_played.result (DecidesEachStep walked (TreesSaySo walked table))
    (λ (b : Bool). Tells b (Rule13 walked.script walked.report (account_showing walked.script walked.report)))
    (thirteenth_told c.thirteenth_is_said.ensures walked.script walked.report table may.fitting may.formed c.requires.nodes
    c.requires.kept)
    c.each_step_played.ensures
