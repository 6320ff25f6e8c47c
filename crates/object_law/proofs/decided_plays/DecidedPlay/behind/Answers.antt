use Rattle.std.proofs.Common.{◌≡◌, ◌∙◌, ◌+◌, ◌-◌, ap, arith, take, ℕ}
use Rattle.part_fold.specs.Parts.{Part, undecided_after}
use Rattle.col_core.specs.History.{line}
use Rattle.object_law.specs.Decided.{decided_nodes}
use Rattle.walk_law.specs.Walking.{journal_walked}
use Rattle.object_law.proofs.decided_plays.DecidedPlay.behind.Goals as goal

pub returns-then-count-eq0 : goal.returns-then-count-eq0
returns-then-count-eq0 c =
    let walked = c.args.subject.now in
    let shard = c.args.self.now.shard in
    let part : Part = record { place = shard.place; colours = shard.colours } in
    let none = c.if-count-eq0.true in
    let e : 0 ≡ c.args.count = omega (arith, none) in
    c.before_any.ensures
    ∙ ap (λ (n : ℕ). undecided_after part (decided_nodes walked (take n (line (journal_walked walked shard.region shard.colour))))) e

pub returns : goal.returns
returns c =
    let walked = c.args.subject.now in
    let shard = c.args.self.now.shard in
    let part : Part = record { place = shard.place; colours = shard.colours } in
    let some = c.if-count-eq0.false in
    let fed = c.requires.fed in
    let e : c.args.count - 1 + 1 ≡ c.args.count = omega (arith, some) in
    c.index.ensures
    ∙ (c.requires.play.noted (c.args.count - 1) c.index.result.now (omega (arith, some, fed))
    ∙ ap (λ (n : ℕ). undecided_after part (decided_nodes walked (take n (line (journal_walked walked shard.region shard.colour))))) e)
