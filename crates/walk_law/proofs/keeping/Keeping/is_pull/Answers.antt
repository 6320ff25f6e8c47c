use Rattle.std.proofs.Common.{ap, subst, ℕ, List, length, arith, rules}
use Rattle.std.specs.List.{All}
use Rattle.column_track.specs.Tracks.{Tells}
use Rattle.lawful_run.specs.Callers.{caller_of}
use Rattle.lawful_run.specs.Moves.{GivesTooLow}
use Rattle.run_rules.specs.Telling.{log_of, made_between, replies_to}
use Rattle.walk_law.specs.Walking.{journal_walked, log_walked}
use Rattle.walk_law.proofs.PullLemmas.{pull_none, pull_short, pull_there, pull_told}
use Rattle.walk_law.proofs.keeping.Keeping.is_pull.Goals as goal

pub returns-in_default : goal.returns-in_default
returns-in_default c = λ told kept lt low is x. c.in_default.ensures.carried told kept is x.carries

pub returns-then-is_none : goal.returns-then-is_none
returns-then-is_none c = λ told kept lt low is.
    pull_none c.args.subject.now told c.args.client kept c.args.self.now is c.args.region c.args.colour c.args.nodes c.args.place c.args.carry
    c.own-own.result c.own-own.ensures.own (search rules) c.seen-seen.result c.seen-seen.ensures c.events_until-until.result
    c.events_until-until.ensures (made_between (log_walked c.args.subject.now) (caller_of c.args.subject.now.script c.args.client) kept c.args.region
    c.args.colour c.args.place) c.given.result (c.given.ensures told) c.is_none.result c.is_none.ensures c.if-is_none.true

pub returns-then-place-event_count : goal.returns-then-place-event_count
returns-then-place-event_count c = λ told kept lt low is.
    pull_there c.args.subject.now told c.args.client kept c.args.self.now is c.args.region c.args.colour c.args.nodes c.args.place c.args.carry
    c.own-own.result c.own-own.ensures.own (search rules) c.seen-seen.result c.seen-seen.ensures c.events_until-until.result
    c.events_until-until.ensures (made_between (log_walked c.args.subject.now) (caller_of c.args.subject.now.script c.args.client) kept c.args.region
    c.args.colour c.args.place) (let count = c.event_count.ensures in let more = c.if-place-event_count.true in omega (arith, count, more))

pub held_of-requires-clause-events : goal.held_of-requires-clause-events
held_of-requires-clause-events c =
    let within = c.in-Some.ensures.within in
    let own = ap (λ (o : ℕ). length (journal_walked c.args.subject.now o c.args.colour)) c.own-own.ensures.own in
    omega (arith, within, own)

pub returns-then-line_length-held_of : goal.returns-then-line_length-held_of
returns-then-line_length-held_of c = λ told kept lt low is.
    pull_short c.args.subject.now told c.args.client kept c.args.self.now is c.args.region c.args.colour c.args.nodes c.args.place c.args.carry
    c.own-own.result c.own-own.ensures.own (search rules) c.seen-seen.result c.seen-seen.ensures c.events_until-until.result
    c.events_until-until.ensures (made_between (log_walked c.args.subject.now) (caller_of c.args.subject.now.script c.args.client) kept c.args.region
    c.args.colour c.args.place) c.in-Some.behind (c.in-Some.ensures.carried told kept is).1
    (let line = c.line_length.ensures in
    let held = c.held_of.ensures in
    let more = c.if-line_length-held_of.true in omega (arith, line, held, more))

pub returns : goal.returns
returns c = λ told kept lt low is.
    let carried = c.in-Some.ensures.carried told kept is in
    pull_told c.args.subject.now told c.args.client kept c.args.self.now is c.args.region c.args.colour c.args.nodes c.args.place c.args.carry
    c.own-own.result c.own-own.ensures.own (search rules) c.seen-seen.result c.seen-seen.ensures c.events_until-until.result
    c.events_until-until.ensures c.if-region-own.false (search rules) carried.0 c.in-Some.behind carried.1 c.given.result (c.given.ensures told)
    c.is_none.result c.is_none.ensures c.if-is_none.false
    (let line = c.line_length.ensures in
    let held = c.held_of.ensures in
    let most = c.if-line_length-held_of.false in omega (arith, line, held, most))
    (made_between (log_walked c.args.subject.now) (caller_of c.args.subject.now.script c.args.client) kept c.args.region
    c.args.colour c.args.place) c.give_too_low.result
    (subst (λ (places : List ℕ). Tells c.give_too_low.result (All (GivesTooLow (log_of c.args.subject.now.report told)
    (caller_of c.args.subject.now.script c.args.client) c.args.region c.args.colour c.seen-seen.result c.events_until-until.result)
    places)) (c.made_between-made.ensures (replies_to c.args.subject.now.report c.args.client) kept is) (c.give_too_low.ensures told))
