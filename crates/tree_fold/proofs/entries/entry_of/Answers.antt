use Rattle.std.proofs.Common.{sym, ◌∙◌}
use Rattle.tree_fold.proofs.EntryLemmas.{found, found_none, empty_root, below_if}
use Rattle.tree_fold.proofs.entries.entry_of.Goals as goal

pub returns-then-is_empty : goal.returns-then-is_empty
returns-then-is_empty c = sym (found_none c.args.entries.now.entries c.args.path.now c.requires.placed (empty_root c.args.path.now c.if-is_empty.ensures))

pub returns : goal.returns
returns c =
    let path = c.args.path.now in
    rw c.place_of.ensures at c.get.ensures.value ∙ sym (found c.args.entries.now.entries path c.requires.placed (below_if path c.requires.path c.if-is_empty.ensures))
