use Rattle.col_core.proofs.ChainGrowth.{held_grows, cut_grows, base_grows}
use Rattle.col_core.proofs.laws.cuts_grow.Goals as goal

pub returns : goal.returns
returns c = λ own regions history more h. record {
  held_more = held_grows own regions history more h;
  cut_more = cut_grows own regions history more h;
  base_more = base_grows own regions history more;
}
