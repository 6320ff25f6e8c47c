use Rattle.std.proofs.Common.{subst, sym}
use Rattle.std.specs.Prelude.{◌==◌}
use Rattle.lawful_run.specs.Callers.{caller_of}
use Rattle.object_law.specs.Fourteenth.{synced_nodes}
use Rattle.object_law.specs.PartAnswers.{IsWaitedFor}
use Rattle.object_law.proofs.PartLemmas.{own_are, tells_same, undecided_not, undecided_told}
use Rattle.object_law.proofs.fourteenth.PartPlays.is_undecided.Goals as goal

pub waiting-requires-clause-own : goal.waiting-requires-clause-own
waiting-requires-clause-own c =
    (own_are c.args.subject.now.script c.agrees.ensures.may.1.fitting c.requires.stands.differ c.args.client c.args.what.now
    c.in-Some.own.now (sym (c.in-Some.ensures c.args.client))).within

pub waiting-requires-clause-differ : goal.waiting-requires-clause-differ
waiting-requires-clause-differ c =
    (own_are c.args.subject.now.script c.agrees.ensures.may.1.fitting c.requires.stands.differ c.args.client c.args.what.now
    c.in-Some.own.now (sym (c.in-Some.ensures c.args.client))).differ

pub returns-in-Some-2-clause-told : goal.returns-in-Some-2-clause-told
returns-in-Some-2-clause-told c = λ home colours key asks.
    let walked = c.args.subject.now in
    let script = walked.script in
    let caller = caller_of script c.args.client in
    let own = c.in-Some.own.now in
    let sync = c.args.sync.now in
    let nodes = synced_nodes walked c.args.nodes.now caller sync in
    let are = own_are script c.agrees.ensures.may.1.fitting c.requires.stands.differ c.args.client c.args.what.now own
    (sym (c.in-Some.ensures c.args.client)) in
    undecided_told script caller c.args.what.now own are sync nodes home colours key asks c.args.stamp c.in-Some-2.key
    (subst (IsWaitedFor own sync.colour nodes) c.in-Some-2.is c.in_ok-key.ensures.told) (c.in-Some-2.key.stamp == c.args.stamp)
    (tells_same c.in-Some-2.key.stamp c.args.stamp)

pub returns-in-None-clause-told : goal.returns-in-None-clause-told
returns-in-None-clause-told c = λ home colours key asks.
    let walked = c.args.subject.now in
    let script = walked.script in
    let caller = caller_of script c.args.client in
    let own = c.in-Some.own.now in
    let sync = c.args.sync.now in
    let nodes = synced_nodes walked c.args.nodes.now caller sync in
    let are = own_are script c.agrees.ensures.may.1.fitting c.requires.stands.differ c.args.client c.args.what.now own
    (sym (c.in-Some.ensures c.args.client)) in
    undecided_not script caller c.args.what.now own are sync nodes c.args.stamp
    (subst (IsWaitedFor own sync.colour nodes) c.in-None.is c.in_ok-key.ensures.told)
