use Rattle.std.proofs.Common.{◌∙◌}
use Rattle.object_law.proofs.several_plays.SeveralPlay.new.Goals as goal

pub returns-clause-holds : goal.returns-clause-holds
returns-clause-holds c = λ table. record {
  order = c.requires;
  colours = c.of.ensures.opened ∙ (c.new.ensures.colours ∙ (c.in_ok-colours.ensures ∙ c.as_slice.ensures));
  holds = c.of.ensures.holds table c.args.order.keys.items;
}
