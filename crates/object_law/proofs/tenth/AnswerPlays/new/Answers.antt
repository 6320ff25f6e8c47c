use Rattle.object_law.proofs.tenth.AnswerPlays.new.Goals as goal

pub returns : goal.returns
returns c = λ table. record {
  shards = c.new.ensures table;
  queues = c.new-2.ensures table;
  causal = c.in_ok-new.ensures c.args.subject.now table;
  several = c.new-4.ensures table;
  maps = c.new-5.ensures table;
  rulings = c.new-6.ensures table;
}
