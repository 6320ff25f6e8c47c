use Rattle.std.proofs.Common.{subst, sym, List, take}
use Rattle.std.proofs.lemmas.List.Sums.{fold_more}
use Rattle.col_core.specs.Keeping.{Kept}
use Rattle.report_text.specs.declared.report.RaisePiece.{RaisePiece}
use Rattle.lawful_run.specs.Reads.{kept_after_place}
use Rattle.run_rules.specs.Told.{kept_after_raises}
use Rattle.walk_law.specs.Fourth.{Sees}
use Rattle.walk_law.specs.Walking.{log_walked}
use Rattle.walk_law.proofs.FourthLemmas.{AreInTurn, NamesRaise, raised, raises_turn, sees_placed, turn_at, turn_more, turn_raises}
use Rattle.walk_law.proofs.Lists.{told_not, told_so}
use Rattle.walk_law.proofs.PastLemmas.{take_all_of}
use Rattle.walk_law.proofs.own_seen.OwnSeen.names_raises.Goals as goal

pub returns-then-not-names_raise : goal.returns-then-not-names_raise
returns-then-not-names_raise c = λ caller kept s low names.
    let log = log_walked c.args.subject.now in
    let at = c.loop-raise.raise-index in
    let behind = kept_after_raises caller kept (take at c.args.raises.now) in
    told_not c.names_raise.result
    (c.names_raise.ensures caller behind (c.loop-raise.invariant caller kept s low).1 (low at _ c.loop-raise-test.true))
    c.if-not-names_raise.true
    (turn_at (NamesRaise log caller) (raised log caller) kept c.args.raises.now at _ c.loop-raise-test.true
    (raises_turn log caller kept c.args.raises.now names))

pub loop-raise-preserved : goal.loop-raise-preserved
loop-raise-preserved c = λ caller kept s low.
    let log = log_walked c.args.subject.now in
    let at = c.loop-raise.raise-index in
    let behind = kept_after_raises caller kept (take at c.args.raises.now) in
    let so = c.loop-raise.invariant caller kept s low in
    let named = told_so c.names_raise.result (c.names_raise.ensures caller behind so.1 (low at _ c.loop-raise-test.true))
    c.if-not-names_raise.false in (
      turn_more (NamesRaise log caller) (raised log caller) kept c.args.raises.now at _ c.loop-raise-test.true so.0 named,
      subst (λ (k : Kept). Sees caller k c.place.new.self)
          (sym (fold_more (λ (k : Kept) (r : RaisePiece). kept_after_place k caller.own r.colour r.at) kept c.args.raises.now at _
          c.loop-raise-test.true))
          (sees_placed caller behind _ _ c.place.new.self (c.place.ensures caller behind so.1)),
    )

pub returns : goal.returns
returns c = λ caller kept s low.
    let log = log_walked c.args.subject.now in
    let all = take_all_of c.args.raises.now c.loop-raise.raise-index c.loop-raise-test.false in
    let so = c.loop-raise.invariant caller kept s low in (
      turn_raises log caller kept c.args.raises.now
          (subst (λ (l : List RaisePiece). AreInTurn (NamesRaise log caller) (raised log caller) kept l) all so.0),
      subst (λ (l : List RaisePiece). Sees caller (kept_after_raises caller kept l) c.loop-raise.self) all so.1,
    )
