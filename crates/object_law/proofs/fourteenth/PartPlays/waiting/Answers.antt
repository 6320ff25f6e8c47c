use Rattle.std.proofs.Common.{◌∙◌, ap, subst, sym, ℕ}
use Rattle.log_node.specs.Vectors.{at}
use Rattle.part_fold.specs.PartStates.{IsPart}
use Rattle.part_fold.specs.Parts.{Part, undecided_after}
use Rattle.part_fold.specs.declared.part_fold.PartFold.{PartFold}
use Rattle.lawful_run.specs.Callers.{caller_of}
use Rattle.object_law.specs.Fourteenth.{synced_nodes}
use Rattle.object_law.specs.PartAnswers.{IsPlayOf}
use Rattle.object_law.specs.Tenth.{line_nodes}
use Rattle.object_law.proofs.PartLemmas.{waits_told}
use Rattle.object_law.proofs.fourteenth.PartPlays.waiting.Goals as goal

pub returns-clause-told : goal.returns-clause-told
returns-clause-told c =
    let walked = c.args.subject.now in
    let table = c.args.nodes.now in
    let sync = c.args.sync.now in
    let own = c.args.own.now in
    let p = subst (IsPlayOf walked table c.own.result own sync.colour (at sync.counts c.own.result)) c.in-Some.is
    c.in_ok-play.ensures.play in
    let nodes = synced_nodes walked table (caller_of walked.script c.args.client) sync in
    let held = subst (λ (r : ℕ). IsPart c.in-Some.play.play.fold (line_nodes walked table r sync.colour (at sync.counts r)))
    c.own.ensures.own p.4 in
    waits_told own c.requires.differ p.1 sync.colour p.2 nodes c.undecided-key.result
    (c.undecided-key.ensures nodes (subst (λ (f : PartFold). IsPart f nodes) (sym c.part.ensures) held)
    ∙ ap (λ (part : Part). undecided_after part nodes) (ap (λ (f : PartFold). f.part) c.part.ensures ∙ p.3))
