use Rattle.std.proofs.Common.{◌≤◌, ◌-◌, length, nat_lt, sym, refl, ◌∙◌, arith}
use Rattle.tree_fold.specs.Paths.{goes_on_from}
use Rattle.tree_fold.proofs.EntryLemmas.{any_part, long_deeper}
use Rattle.tree_fold.proofs.PlaceLemmas.{not_less}
use Rattle.tree_fold.proofs.entries.goes_deeper.Goals as goal

pub returns-then-path-lt-MAX_NAMES : goal.returns-then-path-lt-MAX_NAMES
returns-then-path-lt-MAX_NAMES c =
    let path = c.args.path.now in
    rw c.below.ensures at c.any_deeper.ensures ∙ any_part c.args.entries.now.entries (goes_on_from path) (λ q. nat_lt c.args.room (length q - length path)) _ c.requires.placed (λ q root. refl)

pub returns-else-path-lt-MAX_NAMES : goal.returns-else-path-lt-MAX_NAMES
returns-else-path-lt-MAX_NAMES c =
    let path = c.args.path.now in
    let long : 4 ≤ length path = omega (arith, c.if-path-lt-MAX_NAMES.false) in
    not_less (length path) 4 long ∙ sym (long_deeper c.args.entries.now.entries path (λ q. nat_lt c.args.room (length q - length path)) c.requires.placed long)
