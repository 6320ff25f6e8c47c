use Rattle.run_picture.proofs.LogCommands.{log_commands}
use Rattle.run_picture.proofs.labels.put_named.Goals as goal

pub unreachable-requires : goal.unreachable-requires
unreachable-requires g c =
    log_commands c.args.what.now c.requires c.in_default.not-Append c.in_default.not-Stop c.in_default.not-Scan
    c.in_default.not-Sync c.in_default.not-Trim c.in_default.not-Pull c.in_default.not-Only

pub returns-in-Append : goal.returns-in-Append
returns-in-Append g c = rw c.in-Append.is c.put_colours.ensures

pub returns-in-Stop : goal.returns-in-Stop
returns-in-Stop g c = rw c.in-Stop.is c.put_colours-in-Stop.ensures
