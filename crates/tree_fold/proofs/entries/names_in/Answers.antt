use Rattle.std.proofs.Common.{◌≤◌, length, map, sym, ap, ◌∙◌, arith}
use Rattle.tree_fold.specs.Places.{own_name}
use Rattle.tree_fold.proofs.EntryLemmas.{long_children}
use Rattle.tree_fold.proofs.entries.names_in.Goals as goal

pub returns-then-path-eq-MAX_NAMES : goal.returns-then-path-eq-MAX_NAMES
returns-then-path-eq-MAX_NAMES c =
    let long : 4 ≤ length c.args.path.now = omega (arith, c.if-path-eq-MAX_NAMES.true) in
    c.new.ensures ∙ ap (map (λ e. own_name e.1.path)) (sym (long_children c.args.entries.now.entries c.args.path.now c.requires.placed long))
