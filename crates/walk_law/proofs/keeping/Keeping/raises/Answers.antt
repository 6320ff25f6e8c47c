use Rattle.std.proofs.Common.{sym, subst, List, take, rules}
use Rattle.std.proofs.lemmas.List.Sums.{fold_more}
use Rattle.walk_law.proofs.PastLemmas.{take_all_of}
use Rattle.col_core.specs.Keeping.{Kept}
use Rattle.report_text.specs.declared.report.RaisePiece.{RaisePiece}
use Rattle.lawful_run.specs.Reads.{kept_after_place}
use Rattle.walk_law.specs.Keepings.{IsCounted, kept_raised}
use Rattle.walk_law.proofs.keeping.Keeping.raises.Goals as goal

pub loop-raise-preserved : goal.loop-raise-preserved
loop-raise-preserved c = record {
  kept = λ replies kept s.
      subst (λ (k : Kept). IsCounted replies k c.place_at.new.self)
      (sym (fold_more (λ (k : Kept) (r : RaisePiece). kept_after_place k c.args.own r.colour r.at) kept
      c.args.raises.now c.loop-raise.raise-index _ c.loop-raise-test.true))
      (c.in_ok-place_at.ensures.kept replies (kept_raised c.args.own kept (take c.loop-raise.raise-index c.args.raises.now))
      (c.loop-raise.invariant.kept replies kept s));
  count = search rules;
}

pub returns-clause-kept : goal.returns-clause-kept
returns-clause-kept c replies kept s =
    subst (λ (l : List RaisePiece). IsCounted replies (kept_raised c.args.own kept l) c.loop-raise.self)
    (take_all_of c.args.raises.now c.loop-raise.raise-index c.loop-raise-test.false)
    (c.loop-raise.invariant.kept replies kept s)
