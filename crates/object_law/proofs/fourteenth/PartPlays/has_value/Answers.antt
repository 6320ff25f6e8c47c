use Rattle.std.proofs.Common.{◌∙◌, ap, subst, sym, ℕ}
use Rattle.log_node.specs.Vectors.{at}
use Rattle.part_fold.specs.PartStates.{IsPart}
use Rattle.part_fold.specs.Parts.{Part}
use Rattle.part_fold.specs.declared.part_fold.PartFold.{PartFold}
use Rattle.column_track.specs.Tracks.{Tells}
use Rattle.lawful_run.specs.Callers.{caller_of}
use Rattle.object_law.specs.Fourteenth.{synced_nodes}
use Rattle.object_law.specs.PartAnswers.{IsPlayOf, IsValueOfPart}
use Rattle.object_law.specs.Tenth.{line_nodes}
use Rattle.object_law.proofs.PartLemmas.{own_are, value_told}
use Rattle.object_law.proofs.fourteenth.PartPlays.has_value.Goals as goal

pub played-requires-clause-own : goal.played-requires-clause-own
played-requires-clause-own c =
    let script = c.args.subject.now.script in
    (own_are script c.agrees.ensures.may.1.fitting c.requires.stands.differ c.args.client c.args.what.now c.in-Some.own.now
    (sym (c.in-Some.ensures c.args.client))).within

pub returns-clause-told : goal.returns-clause-told
returns-clause-told c = λ can.
    let walked = c.args.subject.now in
    let script = walked.script in
    let table = c.args.nodes.now in
    let caller = caller_of script c.args.client in
    let sync = c.args.sync.now in
    let own = c.in-Some.own.now in
    let are = own_are script c.agrees.ensures.may.1.fitting c.requires.stands.differ c.args.client c.args.what.now own
    (sym (c.in-Some.ensures c.args.client)) in
    let p = subst (IsPlayOf walked table c.own.result own sync.colour (at sync.counts c.own.result)) c.in-Some-2.is
    c.in_ok-play.ensures.play in
    let nodes = synced_nodes walked table caller sync in
    let held = subst (λ (r : ℕ). IsPart c.in-Some-2.play.play.fold (line_nodes walked table r sync.colour (at sync.counts r)))
    c.own.ensures.own p.4 in
    value_told script caller c.args.what.now own are sync p.1 p.2 nodes c.args.value.now can c.is_value-right.result
    (subst (λ (part : Part). Tells c.is_value-right.result (IsValueOfPart c.args.what.now c.args.value.now part nodes))
    (ap (λ (f : PartFold). f.part) c.part.ensures ∙ p.3)
    (c.is_value-right.ensures nodes (subst (λ (f : PartFold). IsPart f nodes) (sym c.part.ensures) held)))
