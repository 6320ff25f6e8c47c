use Rattle.std.proofs.Common.{subst}
use Rattle.column_track.specs.Tracks.{Tells}
use Rattle.std.specs.List.{All}
use Rattle.walk_law.specs.RowsBeside.{IsMarkedBeside, MaybeRowsAt}
use Rattle.walk_law.proofs.RowLemmas.{columns_told}
use Rattle.walk_law.proofs.rows.fit_columns.Goals as goal

pub returns-in_default : goal.returns-in_default
returns-in_default c = λ fit. subst (MaybeRowsAt c.args.rows.now) c.in_default.is c.in_ok-table.ensures fit.0

pub returns-then-not-branch : goal.returns-then-not-branch
returns-then-not-branch c = λ fit.
    subst (λ b. Tells b (All (IsMarkedBeside c.args.columns.now) c.args.rows.now)) c.if-not-branch.true c.in_ok-are_marked.ensures fit.1

pub returns : goal.returns
returns c =
    columns_told c.args.colours c.args.columns.now c.args.rows.now
    (subst (MaybeRowsAt c.args.rows.now) c.in-Some.is c.in_ok-table.ensures).apart
    (subst (λ b. Tells b (All (IsMarkedBeside c.args.columns.now) c.args.rows.now)) c.if-not-branch.false c.in_ok-are_marked.ensures)
    c.all_events_fit.result c.all_events_fit.ensures
