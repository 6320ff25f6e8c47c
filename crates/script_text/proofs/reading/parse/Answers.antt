use Rattle.script_text.proofs.ScriptLaws.{parse_accepted, parse_only, parse_refused}
use Rattle.script_text.proofs.reading.parse.Goals as goal

pub returns-clause-accepted : goal.returns-clause-accepted
returns-clause-accepted c = parse_accepted c.args.bytes.now c.script.result c.script.ensures

pub returns-clause-only : goal.returns-clause-only
returns-clause-only c = parse_only c.args.bytes.now c.script.result c.script.ensures

pub returns-clause-refused : goal.returns-clause-refused
returns-clause-refused c = parse_refused c.args.bytes.now c.script.result c.script.ensures
