use Rattle.client_law.proofs.Unshown.{kept_unshown_all, kept_unshown_one, unshown_alone, unshown_in_all}
use Rattle.client_law.proofs.laws.unshown_stand.Goals as goal

pub returns : goal.returns
returns c = record {
  alone = unshown_alone;
  kept_alone = kept_unshown_one;
  several = unshown_in_all;
  kept = kept_unshown_all;
}
