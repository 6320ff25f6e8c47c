use Rattle.std.proofs.Common.{◌<◌, List, sym, subst}
use Rattle.std.specs.List.{All}
use Rattle.report_text.specs.declared.report.PointPiece.{PointPiece}
use Rattle.column_track.specs.Tracks.{Tells}
use Rattle.lawful_run.specs.Callers.{caller_of}
use Rattle.walk_law.specs.Twelfth.{HasLowPoints, WasFirst, open_in}
use Rattle.walk_law.specs.Walking.{log_walked}
use Rattle.walk_law.proofs.GuardLemmas.{where_told}
use Rattle.walk_law.proofs.Lists.{told_so}
use Rattle.walk_law.proofs.twelfth.Guards.stands_first.Goals as goal

pub returns-else-not-is_guarding : goal.returns-else-not-is_guarding
returns-else-not-is_guarding c = λ kept is low.
    let colours = c.args.subject.now.script.shape.colours in
    rw c.in-Stood.is (where_told _ (told_so c.is_guarding.result c.is_guarding.ensures c.if-not-is_guarding.false)
    c.were_first.result
    (subst (λ (ps : List PointPiece). Tells c.were_first.result (All (WasFirst (open_in colours c.args.self.now.opens.by_column.items)
    (log_walked c.args.subject.now) (caller_of c.args.subject.now.script c.args.client) kept) ps)) c.as_slice.ensures
    (c.were_first.ensures kept is
    (subst (λ (ps : List PointPiece). All (λ (p : PointPiece). p.colour < colours) ps) (sym c.as_slice.ensures)
    (subst (HasLowPoints colours) c.in-Stood.is low)))))
