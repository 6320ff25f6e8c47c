use Rattle.script_text.proofs.FrequentLemmas.{found_append, found_sync}
use Rattle.script_text.proofs.frequent.asked.Goals as goal

pub returns-in-Some-clause-asked : goal.returns-in-Some-clause-asked
returns-in-Some-clause-asked c = found_append c.args.known.now c.requires.version c.args.bytes.now c.in-Some.args.now c.append.result c.in-Some.ensures c.append.ensures.full c.append.ensures.what

pub returns-in-Some-after-clause-asked : goal.returns-in-Some-after-clause-asked
returns-in-Some-after-clause-asked c = found_sync c.args.known.now c.requires.version c.args.bytes.now c.in-Some-after.field.now c.sync.result c.in-Some-after.ensures c.sync.ensures.full c.sync.ensures.what
