use Rattle.std.proofs.Common.{ap, ◌∙◌}
use Rattle.script_text.specs.Table.{last_of}
use Rattle.script_text.proofs.CommandLaws.{stop_small}
use Rattle.script_text.proofs.command.by_row.Goals as goal

pub into_what-requires : goal.into_what-requires
into_what-requires c = λ e.
    stop_small c.args.known.now c.args.client c.row-last.result.3 c.in_ok-given.given c.in_ok-given.given c.in_ok-given.ensures.few c.in_ok-ended_well.ensures (c.row-last.ensures.last ∙ ap last_of e)
