use Rattle.std.proofs.Common.{length, subst, arith}
use Rattle.script_text.specs.Fitting.{IsWithin}
use Rattle.run_script.proofs.GivingCommands.{colours_of, log_commands}
use Rattle.run_script.proofs.serving.answers.log_answer.Goals as goal

pub append-requires-clause-colours : goal.append-requires-clause-colours
append-requires-clause-colours g c κs within =
    let named = subst (IsWithin (length c.args.store.now.regions) c.args.store.now.size.colours) c.in-Append.is
    c.requires.within in
    colours_of c.args.store.now c.in-Append.colours 1 (omega arith) named.0 named.1

pub scan-requires-clause-colours : goal.scan-requires-clause-colours
scan-requires-clause-colours g c =
    let named = subst (IsWithin (length c.args.store.now.regions) c.args.store.now.size.colours) c.in-Scan.is
    c.requires.within in
    colours_of c.args.store.now c.in-Scan.colours 1 (omega arith) named.0 named.1

pub stop-requires-clause-colours : goal.stop-requires-clause-colours
stop-requires-clause-colours g c κs within =
    let named = subst (IsWithin (length c.args.store.now.regions) c.args.store.now.size.colours) c.in-Stop.is
    c.requires.within in
    colours_of c.args.store.now c.in-Stop.colours 2 (omega arith) named.0 named.1

pub unreachable-requires : goal.unreachable-requires
unreachable-requires g c =
    log_commands c.args.what c.requires.of_none c.in_default.not-Append c.in_default.not-Stop c.in_default.not-Sync
    c.in_default.not-Scan c.in_default.not-Pull c.in_default.not-Trim c.in_default.not-Only
