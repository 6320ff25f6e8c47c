use Rattle.std.proofs.Common.{[], ap, sym}
use Rattle.std.specs.Option.{option_map}
use Rattle.object_law.proofs.drafts.Going.new.Goals as goal

pub returns-clause-counts : goal.returns-clause-counts
returns-clause-counts c = λ replies found. record {
  counted = c.in_ok-new.ensures replies;
  reads = λ object lt. sym (ap (option_map found) (c.in_ok-new-2.ensures object));
}

pub returns-clause-none : goal.returns-clause-none
returns-clause-none c = let is = c.in_ok-new.ensures [] in (is.ids, is.rows)
