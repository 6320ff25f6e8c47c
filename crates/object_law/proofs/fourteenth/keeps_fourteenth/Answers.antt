use Rattle.std.proofs.Common.{Bool}
use Rattle.log_node.proofs.CallerLemmas.{ok_then}
use Rattle.column_track.specs.Tracks.{Tells}
use Rattle.run_rules.specs.Keeping.{Keeps}
use Rattle.object_law.specs.Fourteenth.{AnswersByParts}
use Rattle.walk_law.specs.Walking.{DecidesEachStep}
use Rattle.object_law.proofs.FourteenthLaws.{fourteenth_told}
use Rattle.walk_law.proofs.CallerLemmas.{told_not, told_so}
use Rattle.object_law.proofs.fourteenth.keeps_fourteenth.Goals as goal

pub returns-then-not-shows_decisions : goal.returns-then-not-shows_decisions
returns-then-not-shows_decisions c = λ k.
    let walked = c.args.subject.now in
    told_not c.shows_decisions.result c.shows_decisions.ensures c.if-not-shows_decisions.true
    ((c.fourteenth_is_decided.ensures walked.script walked.report c.agrees.ensures.may.1.fitting c.requires.differ
    c.requires.keeps).1 k).0

pub each_step_played-requires : goal.each_step_played-requires
each_step_played-requires c = record {
  plays_are = c.in_ok-plays.ensures c.args.subject.now c.args.nodes.now;
  differ = c.requires.differ;
}

pub returns : goal.returns
returns c =
    let walked = c.args.subject.now in
    let table = c.args.nodes.now in
    ok_then c.each_step_played.result (DecidesEachStep walked (AnswersByParts walked table))
    (λ (b : Bool). Tells b (Keeps walked.script walked.report 14))
    (λ b told. fourteenth_told c.fourteenth_is_decided.ensures c.fourteenth_is_of_parts.ensures walked.script walked.report table
    c.agrees.ensures.may.1.fitting c.requires.differ c.requires.keeps
    (told_so c.shows_decisions.result c.shows_decisions.ensures c.if-not-shows_decisions.false) c.requires.nodes b told)
    c.each_step_played.ensures
