use Rattle.lawful_run.specs.Callers.{caller_of}
use Rattle.run_rules.specs.Telling.{replies_to}
use Rattle.walk_law.proofs.CauseLemmas.{no_tx_away, no_tx_told}
use Rattle.walk_law.proofs.Lists.{told_not, told_so}
use Rattle.walk_law.proofs.eleventh.has_no_tx.Goals as goal

pub returns-then-not-is_home : goal.returns-then-not-is_home
returns-then-not-is_home c = λ kept is.
    no_tx_away (caller_of c.args.subject.now.script c.args.client) kept c.in-Commit.object c.in-Commit.pairs c.args.what.now
    c.in-Commit.is c.home_asked.result (c.home_asked.ensures c.args.client) c.own.result c.own.ensures.own
    (told_not c.is_home.result c.is_home.ensures c.if-not-is_home.true)

pub returns-else-not-is_home : goal.returns-else-not-is_home
returns-else-not-is_home c = λ kept is.
    no_tx_told (caller_of c.args.subject.now.script c.args.client) kept c.in-Commit.object c.in-Commit.pairs c.args.what.now
    c.in-Commit.is c.home_asked.result (c.home_asked.ensures c.args.client) c.own.result c.own.ensures.own
    (told_so c.is_home.result c.is_home.ensures c.if-not-is_home.false) c.is_unread.result
    (c.is_unread.ensures (replies_to c.args.subject.now.report c.args.client) kept is)
