use Rattle.std.proofs.Common.{ℕ, subst, sym}
use Rattle.std.specs.List.{All}
use Rattle.column_track.specs.Tracks.{Tells}
use Rattle.log_node.proofs.CallerLemmas.{ok_then}
use Rattle.walk_law.specs.RowsBeside.{AreBegun, HasMarksBelow}
use Rattle.walk_law.proofs.RowLemmas.{below_of, fit_told, ordered_of, rising_of, some_of}
use Rattle.walk_law.proofs.rows.are_rows_beside.Goals as goal

pub returns-then-not-branch : goal.returns-then-not-branch
returns-then-not-branch c = λ are.
    subst (λ b. Tells b (AreBegun c.args.script.now c.args.region c.args.rows.now)) c.if-not-branch.true c.in_ok-are_begun.ensures
    (are.alone, ordered_of c.args.script.now c.args.region c.args.columns.now c.args.rows.now are)

pub fit_columns-requires-clause-below : goal.fit_columns-requires-clause-below
fit_columns-requires-clause-below c =
    subst (λ (n : ℕ). All (HasMarksBelow n) c.args.rows.now) (sym c.requires.colours)
    (below_of c.args.script.now c.args.region c.args.columns.now c.args.rows.now
    (subst (λ b. Tells b (AreBegun c.args.script.now c.args.region c.args.rows.now)) c.if-not-branch.false c.in_ok-are_begun.ensures).0)

pub fit_columns-requires-clause-some : goal.fit_columns-requires-clause-some
fit_columns-requires-clause-some c =
    some_of c.args.script.now c.args.region c.args.columns.now c.args.rows.now
    (subst (λ b. Tells b (AreBegun c.args.script.now c.args.region c.args.rows.now)) c.if-not-branch.false c.in_ok-are_begun.ensures).0

pub fit_columns-requires-clause-rising : goal.fit_columns-requires-clause-rising
fit_columns-requires-clause-rising c =
    rising_of c.args.script.now c.args.region c.args.columns.now c.args.rows.now
    (subst (λ b. Tells b (AreBegun c.args.script.now c.args.region c.args.rows.now)) c.if-not-branch.false c.in_ok-are_begun.ensures).0

pub returns : goal.returns
returns c =
    ok_then c.fit_columns.result _ _
    (λ b told. fit_told c.args.script.now c.args.region c.args.columns.now c.args.rows.now
    (subst (λ t. Tells t (AreBegun c.args.script.now c.args.region c.args.rows.now)) c.if-not-branch.false c.in_ok-are_begun.ensures) b told)
    c.fit_columns.ensures
