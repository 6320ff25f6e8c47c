use Rattle.std.proofs.Common.{◌≡◌, ◌∙◌, ◌+◌, ◌<◌, ◌≤◌, ap, arith, length, length-append, subst, sym, take, ℕ, List, [], ◌∷◌}
use Rattle.std.specs.Prelude.{slice_index_or}
use Rattle.log_node.specs.declared.ids.Key.{Key}
use Rattle.part_fold.specs.PartStates.{IsPart}
use Rattle.part_fold.specs.Parts.{Part, undecided_after}
use Rattle.col_core.specs.History.{line}
use Rattle.object_law.specs.Decided.{StandsDecided, decided_nodes}
use Rattle.walk_law.specs.Finds.{decision_at}
use Rattle.walk_law.specs.Walking.{journal_walked}
use Rattle.object_law.proofs.DecidedLemmas.{decided_more, noted_more, stands_at}
use Rattle.object_law.proofs.decided_plays.DecidedPlay.go_to.Goals as goal

pub loop-self-preserved : goal.loop-self-preserved
loop-self-preserved c =
    let walked = c.args.subject.now in
    let self = c.loop-self.self in
    let decided = decision_at c.args.decisions.now in
    let keys = c.args.keys.now in
    let held = c.loop-self.invariant.0 in
    let shard = c.loop-self.invariant.1 in
    let less = c.loop-self-test.true in
    let within = c.requires.within in
    let its = line (journal_walked walked self.shard.region self.shard.colour) in
    let same : keys ≡ its = c.requires.keys ∙ ap (λ s. line (journal_walked walked s.region s.colour)) (sym shard) in
    let key = c.key_at-key.result in
    let is : key ≡ slice_index_or keys self.count key = c.key_at-key.ensures in
    let low : self.count < length keys = omega (arith, less, within) in
    let part : Part = record { place = self.shard.place; colours = self.shard.colours } in
    let is_part : c.feed.new.part.part ≡ part = c.in_ok-feed.ensures.part ∙ held.part in
    let fed : IsPart c.feed.new.part (decided_nodes walked (take (self.count + 1) its)) =
    subst (λ (ks : List Key). IsPart c.feed.new.part (decided_nodes walked (take (self.count + 1) ks))) same
    (decided_more walked decided keys self.count key low is
    (stands_at (StandsDecided walked decided) keys c.args.count self.count key c.requires.stand less low is)
    c.feed.new.part
    (c.in_ok-feed.ensures.holds (decided_nodes walked (take self.count keys))
    (subst (λ (ks : List Key). IsPart self.part (decided_nodes walked (take self.count ks))) (sym same) held.holds))) in
    let longer = c.in_ok-push.ensures.items in
    let many = held.many in
    let long = ap length longer ∙ length-append self.waits.items (c.undecided.result ∷ []) in (
      record {
        count = subst (λ (ks : List Key). self.count + 1 ≤ length ks) same (omega (arith, low));
        part = is_part;
        holds = fed;
        many = omega (arith, long, many);
        noted = noted_more self.waits.items c.push.new.self.items c.undecided.result longer
            (λ (k : ℕ). undecided_after part (decided_nodes walked (take (k + 1) its))) self.count many held.noted
            (c.undecided.ensures (decided_nodes walked (take (self.count + 1) its)) fed
            ∙ ap (λ (p : Part). undecided_after p (decided_nodes walked (take (self.count + 1) its))) is_part);
      },
      shard,
    )
