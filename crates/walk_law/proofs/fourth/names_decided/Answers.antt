use Rattle.lawful_run.specs.Reads.{kept_after_piece}
use Rattle.run_rules.specs.Told.{kept_deciding}
use Rattle.walk_law.specs.Walking.{log_walked}
use Rattle.walk_law.proofs.FourthLemmas.{third_told, then_not, then_so}
use Rattle.walk_law.proofs.fourth.names_decided.Goals as goal

pub returns-then-not-names_sync : goal.returns-then-not-names_sync
returns-then-not-names_sync c = λ caller kept untold stamp s low raises syncs end named.
    then_not _ _ c.names_sync.result (c.names_sync.ensures caller kept s low) c.if-not-names_sync.true named.0

pub returns-then-not-names_read : goal.returns-then-not-names_read
returns-then-not-names_read c = λ caller kept untold stamp s low raises syncs end named.
    let piece = kept_after_piece (log_walked c.args.subject.now) caller kept c.args.sync in
    let synced = then_so _ _ c.names_sync.result (c.names_sync.ensures caller kept s low) c.if-not-names_sync.false in
    then_not _ _ c.names_read.result (c.names_read.ensures caller piece stamp synced.1 raises syncs) c.if-not-names_read.true named.1

pub returns : goal.returns
returns c = λ caller kept untold stamp s low raises syncs end.
    let log = log_walked c.args.subject.now in
    let piece = kept_after_piece log caller kept c.args.sync in
    let synced = then_so _ _ c.names_sync.result (c.names_sync.ensures caller kept s low) c.if-not-names_sync.false in
    let read = then_so _ _ c.names_read.result (c.names_read.ensures caller piece stamp synced.1 raises syncs)
    c.if-not-names_read.false in
    third_told _ _ _ c.names_end.result synced.0 read.0
    (c.names_end.ensures caller (kept_deciding log caller kept c.args.sync stamp c.args.raises.now c.args.syncs.now) untold read.1 end)
