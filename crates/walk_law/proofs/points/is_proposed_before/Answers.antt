use Rattle.std.proofs.Common.{◌∙◌, ap, arith}
use Rattle.lawful_run.specs.Callers.{caller_of}
use Rattle.walk_law.specs.Walking.{journal_walked, log_walked}
use Rattle.walk_law.proofs.SixthLemmas.{before_told, none_before, not_before, not_there, read_none, read_there}
use Rattle.walk_law.proofs.points.is_proposed_before.Goals as goal

pub returns-in_default : goal.returns-in_default
returns-in_default c = λ kept is.
    none_before (log_walked c.args.subject.now) (caller_of c.args.subject.now.script c.args.client) kept c.args.colour c.args.seen
    c.next_place.result (c.next_place.ensures kept is) c.in_default.is

pub returns-then-place-seen : goal.returns-then-place-seen
returns-then-place-seen c = λ kept is.
    let late = c.if-place-seen.true in
    not_before (log_walked c.args.subject.now) (caller_of c.args.subject.now.script c.args.client) kept c.args.colour c.args.seen
    c.next_place.result (c.next_place.ensures kept is) c.in-Some.place c.in-Some.is (omega (arith, late))

pub returns-in-Some-get : goal.returns-in-Some-get
returns-in-Some-get c = λ kept is.
    let less = c.if-place-seen.false in
    before_told (log_walked c.args.subject.now) (caller_of c.args.subject.now.script c.args.client) kept c.args.colour c.args.seen
    c.next_place.result (c.next_place.ensures kept is) c.in-Some.place c.in-Some.is (omega (arith, less)) c.in-Some-get.entry.now
    (read_there c.journal.result.now (journal_walked c.args.subject.now (caller_of c.args.subject.now.script c.args.client).own c.args.colour)
    (c.journal.ensures ∙ ap (λ r. journal_walked c.args.subject.now r c.args.colour) c.requires.own) c.in-Some.place
    c.in-Some-get.entry.now c.in-Some-get.ensures.lookup.3.0 c.in-Some-get.ensures.lookup.3.1)
    c.is_helped.result (c.is_helped.ensures kept is)

pub returns-in-None : goal.returns-in-None
returns-in-None c = λ kept is.
    not_there (log_walked c.args.subject.now) (caller_of c.args.subject.now.script c.args.client) kept c.args.colour c.args.seen
    c.next_place.result (c.next_place.ensures kept is) c.in-Some.place c.in-Some.is
    (read_none c.journal.result.now (journal_walked c.args.subject.now (caller_of c.args.subject.now.script c.args.client).own c.args.colour)
    (c.journal.ensures ∙ ap (λ r. journal_walked c.args.subject.now r c.args.colour) c.requires.own) c.in-Some.place
    c.in-None.ensures.lookup.3)
