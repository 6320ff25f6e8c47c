use Rattle.std.proofs.Common.{◌∙◌, arith}
use Rattle.lawful_run.specs.Callers.{caller_of}
use Rattle.run_rules.specs.Told.{kept_after_raises, kept_after_syncs}
use Rattle.run_rules.specs.Telling.{log_of, replies_to}
use Rattle.walk_law.proofs.Lists.{told_not, told_so}
use Rattle.walk_law.proofs.ReadingLemmas.{clocks_of, passes_not, passes_so, raises_below, raises_of, reads_so, syncs_below, syncs_of}
use Rattle.walk_law.proofs.keeping.Keeping.reads.Goals as goal

pub returns-then-not-is_above_clocks-clause-kept : goal.returns-then-not-is_above_clocks-clause-kept
returns-then-not-is_above_clocks-clause-kept c = λ nodes kept colours has low is x.
    let script = c.args.subject.now.script in
    let caller = caller_of script c.args.client in
    let log = log_of c.args.subject.now.report nodes in
    let replies = replies_to c.args.subject.now.report c.args.client in
    let raises = c.args.raises.now in
    let syncs = c.args.syncs.now in
    let below = raises_below log caller kept colours c.args.stamp raises syncs has script low in
    told_not c.is_above_clocks.result (c.is_above_clocks.ensures nodes kept below is) c.if-not-is_above_clocks.true
    (clocks_of log caller kept colours c.args.stamp raises syncs has x)

pub returns-then-not-is_read_stamp-clause-kept : goal.returns-then-not-is_read_stamp-clause-kept
returns-then-not-is_read_stamp-clause-kept c = λ nodes kept colours has low is x.
    let script = c.args.subject.now.script in
    let caller = caller_of script c.args.client in
    let log = log_of c.args.subject.now.report nodes in
    let replies = replies_to c.args.subject.now.report c.args.client in
    let raises = c.args.raises.now in
    let syncs = c.args.syncs.now in
    let below = raises_below log caller kept colours c.args.stamp raises syncs has script low in
    told_not c.is_read_stamp.result (c.is_read_stamp.ensures nodes kept below is) c.if-not-is_read_stamp.true x.chosen

pub returns-then-not-branch-clause-kept : goal.returns-then-not-branch-clause-kept
returns-then-not-branch-clause-kept c = λ nodes kept colours has low is x.
    let script = c.args.subject.now.script in
    let caller = caller_of script c.args.client in
    let log = log_of c.args.subject.now.report nodes in
    let replies = replies_to c.args.subject.now.report c.args.client in
    let raises = c.args.raises.now in
    let syncs = c.args.syncs.now in
    let below = raises_below log caller kept colours c.args.stamp raises syncs has script low in
    passes_not replies (kept_after_raises caller kept raises) c.raises_clocks.new.self c.in_ok-raises_clocks.field-0
    (c.in_ok-raises_clocks.ensures.kept nodes kept below is) c.if-not-branch.true
    (raises_of log caller kept colours c.args.stamp raises syncs has x)

pub returns-then-not-clear_syncs-clause-kept : goal.returns-then-not-clear_syncs-clause-kept
returns-then-not-clear_syncs-clause-kept c = λ nodes kept colours has low is x.
    let script = c.args.subject.now.script in
    let caller = caller_of script c.args.client in
    let log = log_of c.args.subject.now.report nodes in
    let replies = replies_to c.args.subject.now.report c.args.client in
    let raises = c.args.raises.now in
    let syncs = c.args.syncs.now in
    let below = raises_below log caller kept colours c.args.stamp raises syncs has script low in
    let raised = kept_after_raises caller kept raises in
    let so = passes_so replies raised c.raises_clocks.new.self c.in_ok-raises_clocks.field-0
    (c.in_ok-raises_clocks.ensures.kept nodes kept below is) c.if-not-branch.false in
    passes_not replies (kept_after_syncs log caller raised syncs) c.clear_syncs.new.self c.clear_syncs.result
    (c.clear_syncs.ensures.kept nodes raised (syncs_below log caller kept colours c.args.stamp raises syncs has script low) so.1)
    c.if-not-clear_syncs.true (syncs_of log caller kept colours c.args.stamp raises syncs has x)

pub returns-clause-kept : goal.returns-clause-kept
returns-clause-kept c = λ nodes kept colours has low is.
    let script = c.args.subject.now.script in
    let caller = caller_of script c.args.client in
    let log = log_of c.args.subject.now.report nodes in
    let replies = replies_to c.args.subject.now.report c.args.client in
    let raises = c.args.raises.now in
    let syncs = c.args.syncs.now in
    let below = raises_below log caller kept colours c.args.stamp raises syncs has script low in
    let raised = kept_after_raises caller kept raises in
    let so = passes_so replies raised c.raises_clocks.new.self c.in_ok-raises_clocks.field-0
    (c.in_ok-raises_clocks.ensures.kept nodes kept below is) c.if-not-branch.false in
    let done = passes_so replies (kept_after_syncs log caller raised syncs) c.clear_syncs.new.self c.clear_syncs.result
    (c.clear_syncs.ensures.kept nodes raised (syncs_below log caller kept colours c.args.stamp raises syncs has script low) so.1)
    c.if-not-clear_syncs.false in
    let floor = c.floor.ensures ∙ is.floor in
    let least = c.if-stamp-floor.false in (
      reads_so log caller kept colours c.args.stamp raises syncs has (omega (arith, floor, least))
          (told_so c.is_above_clocks.result (c.is_above_clocks.ensures nodes kept below is) c.if-not-is_above_clocks.false)
          (told_so c.is_read_stamp.result (c.is_read_stamp.ensures nodes kept below is) c.if-not-is_read_stamp.false) so.0 done.0,
      c.raise_floor.ensures.kept replies (kept_after_syncs log caller raised syncs) done.1,
    )
