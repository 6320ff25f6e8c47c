use Rattle.std.proofs.Common.{◌≡◌, ◌∙◌, ap, subst, sym, List, take, ℕ}
use Rattle.std.specs.List.{All}
use Rattle.std.proofs.lemmas.List.{take_min}
use Rattle.log_node.specs.Vectors.{at}
use Rattle.log_node.specs.declared.ids.Key.{Key}
use Rattle.part_fold.specs.Parts.{Part, undecided_after}
use Rattle.col_core.specs.History.{line}
use Rattle.object_law.specs.Decided.{StandsDecided, decided_nodes}
use Rattle.object_law.specs.declared.part_plays.Shard.{Shard}
use Rattle.walk_law.specs.Finds.{decision_at}
use Rattle.walk_law.specs.Walking.{journal_walked}
use Rattle.object_law.proofs.decided_plays.DecidedPlay.waiting.Goals as goal

pub go_to-requires-clause-stand : goal.go_to-requires-clause-stand
go_to-requires-clause-stand c =
    let keys = c.line-keys.result.now in
    let count = at c.args.sync.now.counts c.args.self.now.shard.region in
    subst (All (StandsDecided c.args.subject.now (decision_at c.args.decisions.now)))
    (sym (ap (λ (n : ℕ). take n keys) c.min-count.ensures
    ∙ (take_min c.of_region.result keys
    ∙ (ap (λ (n : ℕ). take n keys) c.of_region.ensures
    ∙ ap (λ (ks : List Key). take count ks) (c.line-keys.ensures ∙ ap line c.track.ensures.journal)))))
    c.requires.stand

pub returns-clause-waits : goal.returns-clause-waits
returns-clause-waits c =
    let walked = c.args.subject.now in
    let keys = c.line-keys.result.now in
    let old = c.args.self.now.shard in
    let part : Part = record { place = old.place; colours = old.colours } in
    let its = line (journal_walked walked old.region old.colour) in
    let same : keys ≡ its = c.line-keys.ensures ∙ ap line c.track.ensures.journal in
    c.behind.ensures
    ∙ (ap (λ (s : Shard). let p : Part = record { place = s.place; colours = s.colours } in
    undecided_after p (decided_nodes walked (take c.min-count.result (line (journal_walked walked s.region s.colour)))))
    c.in_ok-go_to.ensures.shard
    ∙ ap (λ (ks : List Key). undecided_after part (decided_nodes walked ks))
    (ap (λ (ks : List Key). take c.min-count.result ks) (sym same)
    ∙ (ap (λ (n : ℕ). take n keys) c.min-count.ensures
    ∙ (take_min c.of_region.result keys
    ∙ (ap (λ (n : ℕ). take n keys) c.of_region.ensures
    ∙ ap (λ (ks : List Key). take (at c.args.sync.now.counts old.region) ks) same)))))
