use Rattle.std.proofs.Common.{Bool}
use Rattle.log_node.proofs.CallerLemmas.{ok_then}
use Rattle.column_track.specs.Tracks.{Tells}
use Rattle.run_rules.specs.Deciding.{account_showing}
use Rattle.run_rules.specs.Shown.{Rule10}
use Rattle.run_rules.specs.Telling.{account_of, no_nodes}
use Rattle.run_rules.specs.Told.{OfEachStep}
use Rattle.walk_law.specs.Walking.{DecidesEachStep}
use Rattle.walk_law.proofs.CallerLemmas.{told_as}
use Rattle.object_law.specs.Tenth.{AnswersSo}
use Rattle.object_law.proofs.TenthSteps.{cuts_shown}
use Rattle.object_law.proofs.tenth.keeps_tenth.Goals as goal

pub each_step_played-requires : goal.each_step_played-requires
each_step_played-requires c =
    let may = c.agrees.ensures.may.1 in record {
      played = c.in_ok-plays.ensures c.args.nodes.now;
      cuts = cuts_shown c.finds_tell.ensures c.computed_account_agrees.ensures c.args.subject.now.script c.args.subject.now.report
          may.fitting may.formed c.requires.kept;
    }

pub returns : goal.returns
returns c =
    let walked = c.args.subject.now in
    let script = walked.script in
    let report = walked.report in
    let table = c.args.nodes.now in
    let may = c.agrees.ensures.may.1 in
    let law = c.tenth_is_right.ensures script report table may.fitting may.formed c.requires.nodes c.requires.kept in
    ok_then c.each_step_played.result (DecidesEachStep walked (AnswersSo walked table))
    (λ (b : Bool). Tells b (Rule10 script report (account_showing script report)))
    (λ b told. told_as b (OfEachStep script report (account_of script report no_nodes) (AnswersSo walked table))
    (Rule10 script report (account_showing script report)) law.0 law.1 (told no_nodes))
    c.each_step_played.ensures
