use Rattle.std.proofs.Common.{sym, arith}
use Rattle.lawful_run.specs.Callers.{caller_of}
use Rattle.lawful_run.specs.Reads.{kept_after_piece}
use Rattle.run_rules.specs.Told.{kept_after_read}
use Rattle.run_rules.specs.Telling.{log_of, replies_to}
use Rattle.walk_law.proofs.ReadingLemmas.{passes_not, passes_so}
use Rattle.walk_law.proofs.keeping.Keeping.shows_decided.Goals as goal

pub returns-then-not-branch : goal.returns-then-not-branch
returns-then-not-branch c = λ told kept untold colours has below low is x.
    let caller = caller_of c.args.subject.now.script c.args.client in
    let log = log_of c.args.subject.now.report told in
    let replies = replies_to c.args.subject.now.report c.args.client in
    let so = passes_so replies (kept_after_piece log caller kept c.args.sync) c.shows_sync.new.self c.shows_sync.result
    (c.shows_sync.ensures.kept told kept low is) c.if-not-shows_sync.false in
    passes_not replies
    (kept_after_read log caller (kept_after_piece log caller kept c.args.sync) c.args.stamp c.args.raises.now c.args.syncs.now)
    c.reads.new.self c.in_ok-reads.field-0
    (c.in_ok-reads.ensures.kept told (kept_after_piece log caller kept c.args.sync) colours has below so.1) c.if-not-branch.true x.1

pub ended-requires : goal.ended-requires
ended-requires c =
    let few = c.requires.few.ids in
    let one = c.shows_sync.ensures.count.ids in
    let two = c.in_ok-reads.ensures.count.ids in
    omega (arith, few, one, two)

pub returns : goal.returns
returns c = λ told kept untold colours has below low is.
    let caller = caller_of c.args.subject.now.script c.args.client in
    let log = log_of c.args.subject.now.report told in
    let replies = replies_to c.args.subject.now.report c.args.client in
    let synced = kept_after_piece log caller kept c.args.sync in
    let so = passes_so replies synced c.shows_sync.new.self c.shows_sync.result (c.shows_sync.ensures.kept told kept low is)
    c.if-not-shows_sync.false in
    let read = kept_after_read log caller synced c.args.stamp c.args.raises.now c.args.syncs.now in
    let done = passes_so replies read c.reads.new.self c.in_ok-reads.field-0
    (c.in_ok-reads.ensures.kept told synced colours has below so.1) c.if-not-branch.false in
    ((so.0, done.0), c.in_ok-ended.ensures.kept replies caller read untold (sym c.own.ensures.own) done.1)
