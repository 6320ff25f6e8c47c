use Rattle.std.proofs.Common.{◌∙◌, List, None, set, sym, subst, arith}
use Rattle.std.proofs.lemmas.List.{get_or_read}
use Rattle.std.proofs.lemmas.Option.{slice_get_within}
use Rattle.log_node.specs.Seen.{PlacedNode}
use Rattle.run_script.specs.Opened.{IsOpenable}
use Rattle.run_script.specs.Serving.{GivesAll}
use Rattle.run_script.proofs.ObjectFrames.{found_there, is_there, kept_on, kept_with, of_with}
use Rattle.run_script.proofs.ReadsFound.{given_by_log, given_of_slot}
use Rattle.run_script.proofs.Slots.{kind_at, slot_there, slot_within}
use Rattle.run_script.proofs.serving.answers.answer.Goals as goal

pub returns-in-None-clause-gives : goal.returns-in-None-clause-gives
returns-in-None-clause-gives g c =
    given_by_log c.args.store.now c.args.objects.now c.args.client.now c.log_answer.new.client c.args.slots.now.items c.args.what
    c.log_answer.result.0 c.log_answer.result.1 (sym c.object_asked.ensures ∙ c.in-None.is)
    c.log_answer.ensures

pub returns-in-None-clause-kept : goal.returns-in-None-clause-kept
returns-in-None-clause-kept g c =
    kept_on c.reads_go_on.ensures c.args.store.now c.args.client.now c.log_answer.new.client c.args.what c.log_answer.result.0
    c.log_answer.result.1 c.args.slots.now.items c.requires.client c.log_answer.ensures c.requires.kept

pub bounds-objects-number : goal.bounds-objects-number
bounds-objects-number g c =
    let o = is_there c.args.objects.now c.args.what c.in-Some.number c.requires.uses (sym c.object_asked.ensures ∙ c.in-Some.is) in
    slice_get_within c.args.objects.now c.in-Some.number o.0 o.1

pub index_mut-slot-requires : goal.index_mut-slot-requires
index_mut-slot-requires g c =
    let o = is_there c.args.objects.now c.args.what c.in-Some.number c.requires.uses (sym c.object_asked.ensures ∙ c.in-Some.is) in
    let low = slot_within c.args.objects.now c.args.slots.now.items c.in-Some.number o.0 c.requires.of o.1 in
    let long = c.args.slots.now.ok.0 in
    omega (arith, low, long)

pub slot_answer-answer-requires-clause-openable : goal.slot_answer-answer-requires-clause-openable
slot_answer-answer-requires-clause-openable g c κs within =
    let there = found_there c.args.objects.now c.args.what c.in-Some.number c.index-objects-number.result
    c.requires.uses (sym c.object_asked.ensures ∙ c.in-Some.is) c.index-objects-number.is in
    subst (IsOpenable c.args.store.now) (sym c.index-objects-number.is)
    (c.requires.openable c.in-Some.number c.index-objects-number.result
    (slice_get_within c.args.objects.now c.in-Some.number c.index-objects-number.result there.0))

pub slot_answer-answer-requires-clause-kept : goal.slot_answer-answer-requires-clause-kept
slot_answer-answer-requires-clause-kept g c κs within =
    let there = found_there c.args.objects.now c.args.what c.in-Some.number c.index-objects-number.result
    c.requires.uses (sym c.object_asked.ensures ∙ c.in-Some.is) c.index-objects-number.is in
    slot_there c.args.client.now c.args.objects.now c.args.slots.now.items c.in-Some.number c.index-objects-number.result
    c.index_mut-slot.result.now c.requires.of c.requires.kept there.0 c.index_mut-slot.ensures.value

pub slot_answer-answer-requires-clause-has : goal.slot_answer-answer-requires-clause-has
slot_answer-answer-requires-clause-has g c κs within =
    (found_there c.args.objects.now c.args.what c.in-Some.number c.index-objects-number.result
    c.requires.uses (sym c.object_asked.ensures ∙ c.in-Some.is) c.index-objects-number.is).1

pub returns-in-Some-clause-gives : goal.returns-in-Some-clause-gives
returns-in-Some-clause-gives g c =
    let asked = sym c.object_asked.ensures ∙ c.in-Some.is in
    let there = found_there c.args.objects.now c.args.what c.in-Some.number c.index-objects-number.result
    c.requires.uses asked c.index-objects-number.is in
    let lt = slot_within c.args.objects.now c.args.slots.now.items c.in-Some.number c.index-objects-number.result c.requires.of
    there.0 in
    subst (λ (nodes : List PlacedNode). GivesAll c.args.store.now c.args.objects.now c.args.client.now c.slot_answer-answer.new.client
    c.args.slots.now.items (set c.args.slots.now.items c.in-Some.number c.slot_answer-answer.new.slot)
    c.args.what c.slot_answer-answer.result nodes) (sym c.new.ensures)
    (given_of_slot c.args.store.now c.args.objects.now c.args.client.now c.slot_answer-answer.new.client c.args.slots.now.items
    c.in-Some.number c.index_mut-slot.result.now c.slot_answer-answer.new.slot c.args.what c.slot_answer-answer.result lt
    (sym (get_or_read c.args.slots.now.items c.in-Some.number c.index_mut-slot.result.now lt c.index_mut-slot.ensures.value None))
    (c.slot_answer-answer.ensures.gives c.args.objects.now c.in-Some.number asked
    (kind_at c.args.objects.now c.in-Some.number c.index-objects-number.result there.0)))

pub returns-in-Some-clause-kept : goal.returns-in-Some-clause-kept
returns-in-Some-clause-kept g c = λ done.
    let e = c.slot_answer-answer.ensures in
    kept_with c.reads_go_on.ensures c.args.store.now c.args.client.now c.slot_answer-answer.new.client c.args.slots.now.items
    c.in-Some.number c.slot_answer-answer.new.slot c.requires.client e.rests c.requires.kept e.kept.1

pub returns-in-Some-clause-of : goal.returns-in-Some-clause-of
returns-in-Some-clause-of g c =
    let there = found_there c.args.objects.now c.args.what c.in-Some.number c.index-objects-number.result
    c.requires.uses (sym c.object_asked.ensures ∙ c.in-Some.is) c.index-objects-number.is in
    of_with c.args.objects.now c.args.slots.now.items c.in-Some.number c.index-objects-number.result c.slot_answer-answer.new.slot
    c.requires.of there.0 c.slot_answer-answer.ensures.kept.0
