use Rattle.std.specs.BTreeMap.{values}
use Rattle.tree_fold.proofs.TreeLemmas.{may_move}
use Rattle.tree_fold.proofs.DoneLemmas.{free_places, moved_paths, move_does, renamed_begin, target_absent}
use Rattle.std.proofs.Common.{length, map}
use Rattle.tree_fold.specs.Places.{renamed}
use Rattle.tree_fold.proofs.changing.relocate.Goals as goal

pub put_branch-requires-clause-paths : goal.put_branch-requires-clause-paths
put_branch-requires-clause-paths c =
    let m = c.args.entries.now in
    let source = c.args.source.now in
    let target = c.args.target.now in
    let found = c.in_ok-moved.ensures in
    rw found.2.entries (moved_paths source target (values m) found.0 c.requires.target (may_move (values m) source target c.requires.done).shallow found.1)

pub put_branch-requires-clause-free : goal.put_branch-requires-clause-free
put_branch-requires-clause-free c =
    let m = c.args.entries.now in
    let source = c.args.source.now in
    let target = c.args.target.now in
    let found = c.in_ok-moved.ensures in
    let paths = moved_paths source target (values m) found.0 c.requires.target (may_move (values m) source target c.requires.done).shallow found.1 in
    rw found.2.entries (free_places m target (map (renamed (length source) target) found.0) c.requires.kept.placed (target_absent m source target c.requires.kept c.requires.done) paths (renamed_begin (length source) target found.0))

pub returns-clause-ok : goal.returns-clause-ok
returns-clause-ok c =
    let found = c.in_ok-moved.ensures in
    move_does c.args.entries.now c.put_branch.new.entries c.take_out.new.entries c.args.source.now c.args.target.now found.0 c.in_ok-moved.moved c.requires.kept c.requires.done
    c.put_branch.ensures.placed c.take_out.ensures.placed c.take_out.ensures.ordered found.1 found.2 c.in_ok-put_branch.ensures.ok (rw c.deref.ensures.value at c.take_out.ensures.out)
