use Rattle.std.proofs.Common.{rules, subst, List, take}
use Rattle.report_text.specs.declared.report.RaisePiece.{RaisePiece}
use Rattle.lawful_run.specs.Callers.{caller_of}
use Rattle.lawful_run.specs.Reads.{Raises}
use Rattle.run_rules.specs.Told.{kept_after_raises}
use Rattle.run_rules.specs.Telling.{log_of, replies_to}
use Rattle.walk_law.specs.Keepings.{IsCounted}
use Rattle.walk_law.proofs.Lists.{told_not, told_so}
use Rattle.walk_law.proofs.PastLemmas.{take_all_of}
use Rattle.walk_law.proofs.ReadingLemmas.{raised_behind, raises_at, raises_more}
use Rattle.walk_law.proofs.keeping.Keeping.raises_clocks.Goals as goal

pub returns-then-not-is_raise-clause-kept : goal.returns-then-not-is_raise-clause-kept
returns-then-not-is_raise-clause-kept c = λ nodes kept below is all.
    let caller = caller_of c.args.subject.now.script c.args.client in
    let log = log_of c.args.subject.now.report nodes in
    told_not c.is_raise.result
    (c.is_raise.ensures nodes (kept_after_raises caller kept (take c.loop-raise.raise-index c.args.raises.now))
    (below c.loop-raise.raise-index _ c.loop-raise-test.true) (c.loop-raise.invariant.kept nodes kept below is).1) c.if-not-is_raise.true
    (raises_at log caller c.args.stamp kept (kept_after_raises caller kept c.args.raises.now) c.args.raises.now
    c.loop-raise.raise-index _ c.loop-raise-test.true all)

pub loop-raise-preserved : goal.loop-raise-preserved
loop-raise-preserved c = record {
  kept = λ nodes kept below is.
      let caller = caller_of c.args.subject.now.script c.args.client in
      let log = log_of c.args.subject.now.report nodes in
      let replies = replies_to c.args.subject.now.report c.args.client in
      let before = kept_after_raises caller kept (take c.loop-raise.raise-index c.args.raises.now) in
      let so = c.loop-raise.invariant.kept nodes kept below is in (
        raises_more log caller c.args.stamp kept c.args.raises.now c.loop-raise.raise-index _ c.loop-raise-test.true so.0
            (told_so c.is_raise.result
            (c.is_raise.ensures nodes before (below c.loop-raise.raise-index _ c.loop-raise-test.true) so.1) c.if-not-is_raise.false),
        raised_behind caller kept c.args.raises.now c.loop-raise.raise-index _ c.loop-raise-test.true c.own-own.result
            c.own-own.ensures.own replies c.place_at.new.self (c.in_ok-place_at.ensures.kept replies before so.1),
      );
  count = search rules;
}

pub returns-clause-kept : goal.returns-clause-kept
returns-clause-kept c = λ nodes kept below is.
    let caller = caller_of c.args.subject.now.script c.args.client in
    let log = log_of c.args.subject.now.report nodes in
    subst (λ (l : List RaisePiece). Raises log caller c.args.stamp kept l (kept_after_raises caller kept l)
    × IsCounted (replies_to c.args.subject.now.report c.args.client) (kept_after_raises caller kept l) c.loop-raise.self)
    (take_all_of c.args.raises.now c.loop-raise.raise-index c.loop-raise-test.false) (c.loop-raise.invariant.kept nodes kept below is)
