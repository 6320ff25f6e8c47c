use Rattle.std.proofs.Common.{length, map, refl, subst, List}
use Rattle.std.proofs.lemmas.Option.{slice_get_read}
use Rattle.col_core.specs.declared.Entry.{Entry}
use Rattle.col_core.specs.Computed.{dated}
use Rattle.col_core.specs.Legal.{IsColumnHistory}
use Rattle.col_core.specs.Rows.{FitsRows}
use Rattle.walk_law.specs.RowsBeside.{ProposesFirst, bare_row}
use Rattle.walk_law.proofs.Lists.{all_end, item_step, item_stop}
use Rattle.walk_law.proofs.ToldLemmas.{first_so}
use Rattle.walk_law.proofs.rows.events_fit.Goals as goal

pub event_fits-requires-clause-first : goal.event_fits-requires-clause-first
event_fits-requires-clause-first c =
    let t = c.args.track.now in
    let e = c.entry-item.result in
    subst (λ (h : List Entry). ProposesFirst h e.event) c.requires.journal
    (first_so t.region t.regions c.args.journal.now
    (subst (λ (h : List Entry). IsColumnHistory t.region t.regions (dated t.region h)) c.requires.track c.agrees.ensures)
    c.loop-entry.entry-index e
    (slice_get_read c.args.journal.now (length c.args.journal.now) c.loop-entry.entry-index e refl c.loop-entry-test.true c.entry-item.is)
    e.event refl)

pub returns-then-not-event_fits : goal.returns-then-not-event_fits
returns-then-not-event_fits c =
    item_stop (λ (e : Entry). FitsRows (map (bare_row c.args.columns.now) c.args.rows.now) c.args.colour e.event) c.args.journal.now
    c.loop-entry.entry-index c.entry-item.result c.event_fits.result c.loop-entry-test.true c.entry-item.is c.event_fits.ensures
    c.if-not-event_fits.true

pub loop-entry-preserved : goal.loop-entry-preserved
loop-entry-preserved c =
    item_step (λ (e : Entry). FitsRows (map (bare_row c.args.columns.now) c.args.rows.now) c.args.colour e.event) c.args.journal.now
    c.loop-entry.entry-index c.entry-item.result c.event_fits.result c.loop-entry-test.true c.entry-item.is c.loop-entry.invariant
    c.event_fits.ensures c.if-not-event_fits.false

pub returns : goal.returns
returns c =
    all_end (λ (e : Entry). FitsRows (map (bare_row c.args.columns.now) c.args.rows.now) c.args.colour e.event) c.args.journal.now
    c.loop-entry.entry-index c.loop-entry-test.false c.loop-entry.invariant
