use Rattle.std.proofs.Common.{◌≡◌, ◌++◌, map}
use Rattle.tree_fold.specs.Places.{own_name}
use Rattle.tree_fold.proofs.entries.own_names.Given as goal

-- the names so far, and those of the entries that are left
abbrev pub invariant-loop-entry : goal.invariant-loop-entry
invariant-loop-entry l = l.names ++ map (λ e. own_name e.1.path) l.entry-iterator ≡ map (λ e. own_name e.1.path) l.initial.entry-iterator
