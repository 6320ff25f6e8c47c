use Rattle.std.proofs.Common.{◌≡◌, ◌≤◌, ℕ, Some, slice_get, length}
use Rattle.chain_store.specs.Passes.{ColumnPass}
use Rattle.chain_store.specs.Openings.{CopiesPass, Dealt}
use Rattle.chain_store.proofs.opening.deal.Given as goal

-- the passes that are left are the first ones; the others are dealt
abbrev pub invariant-loop-pass : goal.invariant-loop-pass
invariant-loop-pass l = record {
  left : (n : ℕ) (p : ColumnPass) → slice_get l.passes.items n ≡ Some p → slice_get l.initial.passes.items n ≡ Some p;
  too : (n : ℕ) (q : CopiesPass) → slice_get l.copies.items n ≡ Some q → slice_get l.initial.copies.items n ≡ Some q;
  both : length l.copies.items ≡ length l.passes.items;
  short : length l.passes.items ≤ length l.clients.items;
  dealt : Dealt l.initial.clients.items l.clients.items l.initial.passes.items l.initial.copies.items (length l.passes.items);
}

abbrev pub decreases-loop-pass : goal.decreases-loop-pass
decreases-loop-pass l = length l.passes.items
