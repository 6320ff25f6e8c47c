use Rattle.std.proofs.lemmas.Bool.{ne_eqb}
use Rattle.run_picture.proofs.lanes.put_left_out.Goals as goal

pub returns-else-count-eq0 : goal.returns-else-count-eq0
returns-else-count-eq0 g c = rw (ne_eqb c.args.count 0 c.if-count-eq0.false) c.put_all-else-count-eq0.ensures
