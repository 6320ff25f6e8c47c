use Rattle.script_text.proofs.FrequentLemmas.{found_pull, found_trim}
use Rattle.script_text.proofs.frequent.moved.Goals as goal

pub returns-in-Some-clause-asked : goal.returns-in-Some-clause-asked
returns-in-Some-clause-asked c = found_pull c.args.known.now c.requires.version c.args.bytes.now c.in-Some.args.now c.pull.result c.in-Some.ensures c.pull.ensures.full c.pull.ensures.what

pub returns-in-Some-after-clause-asked : goal.returns-in-Some-after-clause-asked
returns-in-Some-after-clause-asked c = found_trim c.args.known.now c.requires.version c.args.bytes.now c.in-Some-after.field.now c.trim.result c.in-Some-after.ensures c.trim.ensures.full c.trim.ensures.what
