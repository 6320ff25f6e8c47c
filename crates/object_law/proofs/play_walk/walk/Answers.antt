use Rattle.std.proofs.Common.{arith}
use Rattle.lawful_run.specs.Callers.{caller_of}
use Rattle.walk_law.proofs.CallerLemmas.{first_walked, step_few, step_goes, step_stops, walked_all}
use Rattle.object_law.proofs.play_walk.walk.Goals as goal

pub loop-place-init : goal.loop-place-init
loop-place-init g c =
    let walked = c.args.subject.now in
    let may = c.agrees.ensures.may in (
      first_walked walked may.0 may.1 c.args.client c.requires.client
          (g.C.PlayCheck.Asks walked c.args.nodes.now (caller_of walked.script c.args.client)) c.in_ok-keeping.keeping
          c.in_ok-keeping.ensures,
      c.requires.stands,
    )

pub go_on-requires-clause-few : goal.go_on-requires-clause-few
go_on-requires-clause-few g c =
    let walked = c.args.subject.now in
    let may = c.agrees.ensures.may in
    let count = c.count-place-end.ensures.count in
    let few = c.count-place-end.ensures.few in
    let less = c.loop-place-test.true in
    step_few walked may.0 may.1 c.args.client c.requires.client
    (g.C.PlayCheck.Asks walked c.args.nodes.now (caller_of walked.script c.args.client)) c.loop-place.place
    (omega (arith, count, less)) c.loop-place.keeping c.begin.new.self c.loop-place.invariant.0 c.command.result.now c.command.ensures
    c.begin.ensures.kept c.begin.ensures.count (omega (arith, count, few))

pub returns-then-not-branch-clause-told : goal.returns-then-not-branch-clause-told
returns-then-not-branch-clause-told g c =
    let walked = c.args.subject.now in
    let may = c.agrees.ensures.may in
    let count = c.count-place-end.ensures.count in
    let less = c.loop-place-test.true in
    step_stops walked may.0 may.1 c.args.client c.requires.client
    (g.C.PlayCheck.Asks walked c.args.nodes.now (caller_of walked.script c.args.client)) c.loop-place.place
    (omega (arith, count, less)) c.loop-place.keeping c.begin.new.self c.loop-place.invariant.0 c.command.result.now c.command.ensures
    c.begin.ensures.kept c.begin.ensures.count c.go_on.new.keeping c.in_ok-go_on.field-0 c.in_ok-go_on.ensures.told c.if-not-branch.true

pub loop-place-preserved : goal.loop-place-preserved
loop-place-preserved g c =
    let walked = c.args.subject.now in
    let may = c.agrees.ensures.may in
    let count = c.count-place-end.ensures.count in
    let less = c.loop-place-test.true in (
      step_goes walked may.0 may.1 c.args.client c.requires.client
          (g.C.PlayCheck.Asks walked c.args.nodes.now (caller_of walked.script c.args.client)) c.loop-place.place
          (omega (arith, count, less)) c.loop-place.keeping c.begin.new.self c.loop-place.invariant.0 c.command.result.now c.command.ensures
          c.begin.ensures.kept c.begin.ensures.count c.go_on.new.keeping c.in_ok-go_on.field-0 c.in_ok-go_on.ensures.told
          c.if-not-branch.false,
      c.in_ok-go_on.ensures.stands,
    )

pub returns-clause-told : goal.returns-clause-told
returns-clause-told g c =
    let walked = c.args.subject.now in
    let may = c.agrees.ensures.may in
    let count = c.count-place-end.ensures.count in
    let ge = c.loop-place-test.false in
    let le = c.loop-place.auto.place-end in
    walked_all walked may.0 may.1 c.args.client c.requires.client
    (g.C.PlayCheck.Asks walked c.args.nodes.now (caller_of walked.script c.args.client)) c.loop-place.place c.loop-place.keeping
    (omega (arith, count, ge)) (omega (arith, count, le)) c.loop-place.invariant.0
