use Rattle.std.proofs.Common.{◌∙◌, arith, rules}
use Rattle.walk_law.proofs.RowSteps.{all_marks, mark_made, none_yet}
use Rattle.walk_law.proofs.keeping.Keeping.make_steps_of.Goals as goal

pub loop-mark-init : goal.loop-mark-init
loop-mark-init c = record {
  kept = λ replies kept s.
      let may = c.agrees.ensures.may in
      let row = c.requires.row in
      none_yet c.args.subject.now may.0 may.1 c.args.client c.requires.walker c.args.count row.0 row.1 c.args.marks.now row.2 replies kept
      c.args.self.now s;
  count = search rules;
}

pub loop-mark-preserved : goal.loop-mark-preserved
loop-mark-preserved c = record {
  kept = λ replies kept s.
      let may = c.agrees.ensures.may in
      let row = c.requires.row in
      mark_made c.args.subject.now may.0 may.1 c.args.client c.requires.walker c.args.count row.0 row.1 c.args.marks.now row.2
      c.loop-mark.mark-index _ c.loop-mark-test.true replies kept c.loop-mark.self c.places-in-loop-mark.new.self c.own-own.result
      c.as_slice.result.now c.own-own.ensures.own (c.as_slice.ensures ∙ c.in_ok-places.ensures)
      (c.in_ok-places-2.ensures.kept replies) (c.loop-mark.invariant.kept replies kept s);
  count = search rules;
}

pub returns-clause-kept : goal.returns-clause-kept
returns-clause-kept c replies kept s =
    let may = c.agrees.ensures.may in
    let row = c.requires.row in
    let ge = c.loop-mark-test.false in
    let le = c.loop-mark.auto.mark-index-end in
    all_marks c.args.subject.now may.0 may.1 c.args.client c.requires.walker c.args.count row.0 row.1 c.args.marks.now row.2 replies kept
    c.loop-mark.self c.loop-mark.mark-index (omega (arith, ge, le)) (c.loop-mark.invariant.kept replies kept s)
