use Rattle.std.proofs.Common.{◌∙◌, ap, get_or, List, ℕ, subst, sym}
use Rattle.std.proofs.lemmas.List.{get_or-map}
use Rattle.column_track.specs.Tracks.{Tells}
use Rattle.walk_law.specs.RowsBeside.{IsMarkedBeside, floor_beside}
use Rattle.walk_law.proofs.Lists.{all_but, all_end, all_next}
use Rattle.walk_law.proofs.rows.are_marked.Goals as goal

pub is_marked-requires-clause-floor : goal.is_marked-requires-clause-floor
is_marked-requires-clause-floor c =
    ap (λ (l : List ℕ). get_or l c.loop-at.at 0) c.requires.floors
    ∙ (get_or-map (floor_beside c.args.columns.now) c.args.rows.now c.loop-at.at c.index-rows-at.result 0 c.loop-at-test.true
    ∙ ap (floor_beside c.args.columns.now) (sym c.index-rows-at.is))

pub returns-then-not-branch : goal.returns-then-not-branch
returns-then-not-branch c =
    all_but (IsMarkedBeside c.args.columns.now) c.args.rows.now c.loop-at.at c.index-rows-at.result c.loop-at-test.true c.index-rows-at.is
    (subst (λ b. Tells b (IsMarkedBeside c.args.columns.now c.index-rows-at.result)) c.if-not-branch.true c.in_ok-is_marked.ensures)

pub loop-at-preserved : goal.loop-at-preserved
loop-at-preserved c =
    all_next (IsMarkedBeside c.args.columns.now) c.args.rows.now c.loop-at.at c.index-rows-at.result c.loop-at-test.true c.index-rows-at.is
    c.loop-at.invariant
    (subst (λ b. Tells b (IsMarkedBeside c.args.columns.now c.index-rows-at.result)) c.if-not-branch.false c.in_ok-is_marked.ensures)

pub returns : goal.returns
returns c = all_end (IsMarkedBeside c.args.columns.now) c.args.rows.now c.loop-at.at c.loop-at-test.false c.loop-at.invariant
