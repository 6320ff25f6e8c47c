use Rattle.object_law.proofs.ruled_plays.RuledPlay.new.Goals as goal

pub returns-clause-holds : goal.returns-clause-holds
returns-clause-holds c = λ table. record {
  order = c.requires;
  holds = c.new.ensures table c.args.order.keys.items;
}
