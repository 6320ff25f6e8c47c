use Rattle.std.proofs.Common.{arith, subst}
use Rattle.std.specs.List.{All}
use Rattle.column_track.specs.Tracks.{Tells}
use Rattle.object_law.specs.NodeTables.{nodes_at}
use Rattle.object_law.specs.Showing.{SaysShown}
use Rattle.walk_law.proofs.CallerLemmas.{told_not, told_so}
use Rattle.object_law.proofs.ShowingLemmas.{among_all, first_all, first_next}
use Rattle.object_law.proofs.showing.each_says_shown.Goals as goal

pub loop-client-init : goal.loop-client-init
loop-client-init c = λ k lt. absurd (let f : ⊥ = omega (arith, lt) in f)

pub returns-then-not-all_say_shown : goal.returns-then-not-all_say_shown
returns-then-not-all_say_shown c = λ all.
    let says = SaysShown c.args.decided c.args.texts.now in
    let less = c.loop-client-test.true in
    let many = c.clients-client-end.ensures in
    told_not c.all_say_shown.result
    (subst (λ l. Tells c.all_say_shown.result (All says l)) c.of_client.ensures c.all_say_shown.ensures)
    c.if-not-all_say_shown.true
    (among_all says c.args.subject.now.report (nodes_at c.args.nodes.now) c.loop-client.client (omega (arith, less, many)) all)

pub loop-client-preserved : goal.loop-client-preserved
loop-client-preserved c =
    let says = SaysShown c.args.decided c.args.texts.now in
    first_next says c.args.subject.now.report (nodes_at c.args.nodes.now) c.loop-client.client c.loop-client.invariant
    (subst (All says) c.of_client.ensures
    (told_so c.all_say_shown.result c.all_say_shown.ensures c.if-not-all_say_shown.false))

pub returns : goal.returns
returns c =
    let ge = c.loop-client-test.false in
    let many = c.clients-client-end.ensures in
    first_all (SaysShown c.args.decided c.args.texts.now) c.args.subject.now.report (nodes_at c.args.nodes.now) c.loop-client.client
    (omega (arith, ge, many)) c.loop-client.invariant
