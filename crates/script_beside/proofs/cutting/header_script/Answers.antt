use Rattle.std.proofs.Common.{rules}
use Rattle.script_beside.proofs.PartLemmas.{is_header}
use Rattle.script_beside.proofs.cutting.header_script.Goals as goal

pub returns-clause-header : goal.returns-clause-header
returns-clause-header c = is_header c.args.header.now c.in-Ok.script c.requires (c.is_empty.ensures.0 (search rules)) c.in-Ok.ensures.only
