use Rattle.run_rules.specs.Told.{kept_after_raises, kept_after_read, kept_after_syncs}
use Rattle.std.proofs.Common.{refl}
use Rattle.walk_law.specs.Walking.{log_walked}
use Rattle.walk_law.proofs.FourthLemmas.{sees_as, then_as, then_not, then_so}
use Rattle.walk_law.proofs.own_seen.OwnSeen.names_read.Goals as goal

pub returns-then-not-names_raises : goal.returns-then-not-names_raises
returns-then-not-names_raises c = λ caller kept stamp s raises syncs names.
    then_not _ _ c.names_raises.result (c.names_raises.ensures caller kept s raises) c.if-not-names_raises.true names.0

pub returns : goal.returns
returns c = λ caller kept stamp s raises syncs.
    let log = log_walked c.args.subject.now in
    let behind = kept_after_raises caller kept c.args.raises.now in
    let both = then_so _ _ c.names_raises.result (c.names_raises.ensures caller kept s raises) c.if-not-names_raises.false in
    then_as _ _ _ _ c.names_syncs.result (λ named. (both.0, named)) (λ named. named.1)
    (λ t. sees_as caller (kept_after_syncs log caller behind c.args.syncs.now)
    (kept_after_read log caller kept stamp c.args.raises.now c.args.syncs.now) c.names_syncs.new.self (λ colour low. refl)
    (λ colour low. refl) t)
    (c.names_syncs.ensures caller behind both.1 syncs)
