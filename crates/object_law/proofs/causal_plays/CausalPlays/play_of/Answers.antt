use Rattle.object_law.proofs.causal_plays.CausalPlays.play_of.Goals as goal

pub returns-clause-play : goal.returns-clause-play
returns-clause-play c = λ walked table plays. (c.new.ensures.holds walked table, (c.take.ensures walked table plays).1)
