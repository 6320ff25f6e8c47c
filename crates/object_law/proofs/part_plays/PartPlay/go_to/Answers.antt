use Rattle.std.proofs.Common.{◌≡◌, ◌∙◌, ap, subst, List, take, ℕ}
use Rattle.log_node.specs.declared.ids.Key.{Key}
use Rattle.part_fold.specs.PartStates.{IsPart}
use Rattle.col_core.specs.History.{line}
use Rattle.object_law.specs.NodeTables.{nodes_under}
use Rattle.object_law.specs.ObjectPlays.{HoldsLine}
use Rattle.walk_law.specs.Walking.{journal_walked}
use Rattle.std.proofs.lemmas.List.{take_min}
use Rattle.object_law.proofs.part_plays.PartPlay.go_to.Goals as goal

pub returns-clause-part : goal.returns-clause-part
returns-clause-part c =
    let keys = line (journal_walked c.args.subject.now c.args.self.now.shard.region c.args.self.now.shard.colour) in
    let same : c.line-line.result.now ≡ keys = c.line-line.ensures ∙ ap line c.track.ensures.journal in
    subst (λ (ks : List Key). IsPart c.go_to.new.self.fold (nodes_under c.args.nodes.now ks))
    (ap (λ (n : ℕ). take n c.line-line.result.now) c.min-place.ensures
    ∙ (take_min c.args.count c.line-line.result.now ∙ ap (λ (ks : List Key). take c.args.count ks) same))
    c.in_ok-go_to.ensures.here

pub returns-clause-holds : goal.returns-clause-holds
returns-clause-holds c =
    let keys = line (journal_walked c.args.subject.now c.args.self.now.shard.region c.args.self.now.shard.colour) in
    let same : c.line-line.result.now ≡ keys = c.line-line.ensures ∙ ap line c.track.ensures.journal in
    record {
      holds = subst (λ (ks : List Key). HoldsLine IsPart c.args.nodes.now ks c.go_to.new.self) same c.in_ok-go_to.ensures.holds;
      part = c.in_ok-go_to.ensures.opened ∙ c.requires.holds.part;
    }
