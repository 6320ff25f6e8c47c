use Rattle.std.proofs.Common.{◌∙◌, arith, map, subst, sym}
use Rattle.std.specs.List.{All}
use Rattle.col_core.specs.declared.Entry.{Entry}
use Rattle.col_core.specs.Rows.{FitsRows}
use Rattle.walk_law.specs.RowsBeside.{bare_row}
use Rattle.walk_law.proofs.Lists.{told_not, told_so}
use Rattle.walk_law.proofs.RowLemmas.{beside_at, fit_more, history_there}
use Rattle.walk_law.proofs.rows.all_events_fit.Goals as goal

pub events_fit-requires-clause-journal : goal.events_fit-requires-clause-journal
events_fit-requires-clause-journal c =
    let lt = c.loop-colour-test.true in
    let many = c.requires.colours in
    c.as_slice-journal.ensures
    ∙ sym (history_there c.args.columns.now c.loop-colour.colour c.index-columns-at.result (omega (arith, lt, many)) c.index-columns-at.is)

pub events_fit-requires-clause-track : goal.events_fit-requires-clause-track
events_fit-requires-clause-track c =
    let lt = c.loop-colour-test.true in
    let many = c.requires.colours in
    beside_at c.args.columns.now c.args.tracks.now c.requires.beside c.loop-colour.colour c.index-columns-at.result c.index-tracks-at.result
    (omega (arith, lt, many)) c.index-columns-at.is c.index-tracks-at.is
    ∙ sym c.as_slice-journal.ensures

pub returns-then-not-events_fit : goal.returns-then-not-events_fit
returns-then-not-events_fit c = λ fit.
    let lt = c.loop-colour-test.true in
    let many = c.requires.colours in
    told_not c.events_fit.result c.events_fit.ensures c.if-not-events_fit.true
    (subst (All (λ (e : Entry). FitsRows (map (bare_row c.args.columns.now) c.args.rows.now) c.loop-colour.colour e.event))
    (history_there c.args.columns.now c.loop-colour.colour c.index-columns-at.result (omega (arith, lt, many)) c.index-columns-at.is
    ∙ sym c.as_slice-journal.ensures)
    (fit c.loop-colour.colour c.loop-colour-test.true))

pub loop-colour-preserved : goal.loop-colour-preserved
loop-colour-preserved c =
    let lt = c.loop-colour-test.true in
    let many = c.requires.colours in
    fit_more c.loop-colour.colour c.args.columns.now c.args.rows.now c.loop-colour.invariant
    (subst (All (λ (e : Entry). FitsRows (map (bare_row c.args.columns.now) c.args.rows.now) c.loop-colour.colour e.event))
    (c.as_slice-journal.ensures
    ∙ sym (history_there c.args.columns.now c.loop-colour.colour c.index-columns-at.result (omega (arith, lt, many)) c.index-columns-at.is))
    (told_so c.events_fit.result c.events_fit.ensures c.if-not-events_fit.false))
