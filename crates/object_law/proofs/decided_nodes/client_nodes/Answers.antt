use Rattle.std.proofs.Common.{arith, subst}
use Rattle.log_node.proofs.CallerLemmas.{get_within}
use Rattle.part_fold.specs.declared.decision.Decision.{Decision}
use Rattle.run_rules.specs.Telling.{replies_to}
use Rattle.lawful_run.specs.Callers.{commands_of}
use Rattle.walk_law.specs.Finds.{finds_at}
use Rattle.object_law.specs.Drafts.{StepsOn}
use Rattle.object_law.proofs.DecidedGoing.{decided_all, decided_begun, decided_counted, decided_few, decided_on}
use Rattle.object_law.proofs.decided_nodes.client_nodes.Goals as goal

pub loop-place-init : goal.loop-place-init
loop-place-init c =
    let walked = c.args.subject.now in
    let may = c.agrees.ensures.may in
    let found = finds_at c.args.finds.now in
    decided_begun walked may.0 may.1 c.args.client c.requires.client found c.in_ok-going.going.keeping c.in_ok-going.going.places
    c.new-nodes.result c.new-nodes.ensures
    (c.in_ok-going.ensures.counts (replies_to walked.report c.args.client) (found c.args.client)) c.in_ok-going.ensures.none

pub next-requires-clause-few : goal.next-requires-clause-few
next-requires-clause-few c =
    let walked = c.args.subject.now in
    let may = c.agrees.ensures.may in
    let count = c.count-place-end.ensures.count in
    let few = c.count-place-end.ensures.few in
    let less = c.loop-place-test.true in
    decided_few walked may.0 may.1 c.args.client c.requires.client (finds_at c.args.finds.now) c.loop-place.place
    (omega (arith, count, less)) c.loop-place.going.keeping c.loop-place.going.places c.loop-place.nodes c.loop-place.invariant
    (omega (arith, count, few))

pub next-requires-clause-counts : goal.next-requires-clause-counts
next-requires-clause-counts c =
    let walked = c.args.subject.now in
    let may = c.agrees.ensures.may in
    let count = c.count-place-end.ensures.count in
    let less = c.loop-place-test.true in
    decided_counted walked may.0 may.1 c.args.client c.requires.client (finds_at c.args.finds.now) c.loop-place.place
    (omega (arith, count, less)) c.loop-place.going.keeping c.loop-place.going.places c.loop-place.nodes c.loop-place.invariant

pub loop-place-preserved : goal.loop-place-preserved
loop-place-preserved c =
    let walked = c.args.subject.now in
    let may = c.agrees.ensures.may in
    let client = c.args.client in
    let place = c.loop-place.place in
    let found = finds_at c.args.finds.now in
    let count = c.count-place-end.ensures.count in
    let test = c.loop-place-test.true in
    let command = get_within (commands_of walked.script client) place (omega (arith, count, test)) in
    decided_on walked may.0 may.1 client c.requires.client found place (omega (arith, count, test)) c.loop-place.going.keeping
    c.loop-place.going.places c.loop-place.nodes c.loop-place.invariant c.in_ok-made.made c.next.new.self.keeping
    c.next.new.self.places command.0 command.1
    (λ f kept m r keys counts asks told.
    subst (λ (d : Decision). StepsOn walked client place f d kept c.in_ok-made.made c.next.new.self.keeping c.next.new.self.places m r)
    (c.none-decisions.ensures client place)
    (c.in_ok-made.ensures.step f kept m r keys counts asks told))
    c.requires.keys c.in_ok-made.ensures.ids c.in_ok-made.ensures.rows c.add_node.new.nodes
    (c.in_ok-add_node.ensures command.0 command.1)

pub returns : goal.returns
returns c =
    let walked = c.args.subject.now in
    let may = c.agrees.ensures.may in
    let count = c.count-place-end.ensures.count in
    let ge = c.loop-place-test.false in
    decided_all walked may.0 may.1 c.args.client c.requires.client (finds_at c.args.finds.now) c.loop-place.place
    (omega (arith, count, ge)) c.loop-place.going.keeping c.loop-place.going.places c.loop-place.nodes c.loop-place.invariant
