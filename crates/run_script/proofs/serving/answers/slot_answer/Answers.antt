use Rattle.std.proofs.Common.{◌∙◌, Some, ap, length, sym}
use Rattle.script_meaning.proofs.CallerLemmas.{kind_colours}
use Rattle.log_client.proofs.CallerLemmas.{rests_same}
use Rattle.run_script.proofs.Slots.{given_opened, given_there, given_unopened, has_there, kept_there, opened_kept}
use Rattle.run_script.proofs.serving.answers.slot_answer.Goals as goal

pub object_answer-requires-clause-kept : goal.object_answer-requires-clause-kept
object_answer-requires-clause-kept g c κs within =
    (kept_there c.args.object.now c.in-Some.opened c.args.client.now c.args.slot.now c.in-Some.is c.requires.kept).1

pub object_answer-requires-clause-has : goal.object_answer-requires-clause-has
object_answer-requires-clause-has g c κs within =
    let there = kept_there c.args.object.now c.in-Some.opened c.args.client.now c.args.slot.now c.in-Some.is c.requires.kept in
    has_there c.args.object.now c.in-Some.opened c.args.what there.0 c.requires.has

pub returns-in-Some-clause-kept : goal.returns-in-Some-clause-kept
returns-in-Some-clause-kept g c =
    let there = kept_there c.args.object.now c.in-Some.opened c.args.client.now c.args.slot.now c.in-Some.is c.requires.kept in
    let stays = c.object_answer.ensures.stays in
    (stays.0 ∙ there.0, stays.1)

pub returns-in-Some-clause-gives : goal.returns-in-Some-clause-gives
returns-in-Some-clause-gives g c = λ objects n asked at.
    let there = kept_there c.args.object.now c.in-Some.opened c.args.client.now c.args.slot.now c.in-Some.is c.requires.kept in
    given_there c.args.store.now objects c.args.client.now n c.args.what c.object_answer.new.client c.in-Some.opened
    c.object_answer.new.opened c.object_answer.result
    (c.object_answer.ensures.gives objects n asked (at ∙ ap Some (sym there.0))) c.args.slot.now c.in-Some.is

pub open-requires : goal.open-requires
open-requires g c =
    (kind_colours (length c.args.store.now.regions) c.args.store.now.size.colours c.args.object.now.kind
    c.requires.openable.1).few

pub returns-in_default-clause-rests : goal.returns-in_default-clause-rests
returns-in_default-clause-rests g c = rests_same c.args.store.now c.args.client.now c.requires.client

pub returns-in_default-clause-gives : goal.returns-in_default-clause-gives
returns-in_default-clause-gives g c = λ objects n asked at.
    given_unopened c.args.store.now objects c.args.client.now n c.args.what c.args.slot.now c.in-None.is c.requires.client asked

pub object_answer-answer-requires-clause-kept : goal.object_answer-answer-requires-clause-kept
object_answer-answer-requires-clause-kept g c κs within =
    let e = c.in-Ok.ensures in
    opened_kept c.args.object.now c.in-Ok.opened c.args.store.now c.args.client.now c.requires.client c.requires.openable e.kind
    e.unfolded

pub object_answer-answer-requires-clause-has : goal.object_answer-answer-requires-clause-has
object_answer-answer-requires-clause-has g c κs within =
    has_there c.args.object.now c.in-Ok.opened c.args.what c.in-Ok.ensures.kind c.requires.has

pub returns-in-Ok-clause-kept : goal.returns-in-Ok-clause-kept
returns-in-Ok-clause-kept g c =
    let stays = c.object_answer-answer.ensures.stays in
    (stays.0 ∙ c.in-Ok.ensures.kind, stays.1)

pub returns-in-Ok-clause-gives : goal.returns-in-Ok-clause-gives
returns-in-Ok-clause-gives g c = λ objects n asked at.
    let e = c.in-Ok.ensures in
    given_opened c.args.store.now objects c.args.client.now n c.args.what c.object_answer-answer.new.client c.in-Ok.opened
    c.object_answer-answer.new.opened c.object_answer-answer.result
    (c.object_answer-answer.ensures.gives objects n asked (at ∙ ap Some (sym e.kind))) c.args.slot.now c.in-None.is e.unfolded.0
