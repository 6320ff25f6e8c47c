use Rattle.std.proofs.Common.{rules}
use Rattle.log_node.proofs.CallerLemmas.{ok_then}
use Rattle.lawful_run.specs.Callers.{caller_of}
use Rattle.run_rules.specs.Told.{kept_after_read}
use Rattle.run_rules.specs.Telling.{log_of, replies_to}
use Rattle.walk_law.proofs.Lists.{told_so}
use Rattle.walk_law.proofs.ReadingLemmas.{passes_as}
use Rattle.walk_law.proofs.keeping.Keeping.shows_scan.Goals as goal

pub returns : goal.returns
returns c = λ told kept colours has low is.
    let caller = caller_of c.args.subject.now.script c.args.client in
    let log = log_of c.args.subject.now.report told in
    let replies = replies_to c.args.subject.now.report c.args.client in
    let keys = told_so c.in_ok-are_keys_read.field-0 (c.in_ok-are_keys_read.ensures told) c.if-not-branch.false in
    let texts = told_so c.are_texts_first.result c.are_texts_first.ensures c.if-not-are_texts_first.false in
    ok_then c.reads.result _ _
    (passes_as replies (kept_after_read log caller kept c.args.stamp c.args.raises.now c.args.syncs.now) c.reads.new.self
    (λ reads. (search rules, reads, keys, texts)) (λ x. x.1)) (c.reads.ensures.kept told kept colours has low is)
