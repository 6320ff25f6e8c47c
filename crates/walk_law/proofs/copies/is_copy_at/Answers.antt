use Rattle.std.proofs.Common.{◌∙◌, ap, sym, subst, List}
use Rattle.col_core.specs.declared.Entry.{Entry}
use Rattle.col_core.specs.Computed.{dated}
use Rattle.col_core.specs.Copies.{IsTrueCopy}
use Rattle.column_track.specs.Tracks.{Tells, Tracked}
use Rattle.walk_law.specs.Columns.{journal_at}
use Rattle.walk_law.proofs.ColumnPlaces.{journal_is, region_is, there_within, track_is}
use Rattle.walk_law.proofs.CopiesLemmas.{copy_there}
use Rattle.walk_law.proofs.copies.is_copy_at.Goals as goal

pub bounds-columns-from : goal.bounds-columns-from
bounds-columns-from c =
    (there_within c.args.shape.now.regions c.args.shape.now.colours c.args.columns.now c.args.tracks.now c.requires.tracked c.args.origin c.args.colour
    c.requires.origin c.requires.colour c.column_place-from.result c.column_place-from.ensures).0

pub bounds-tracks-from : goal.bounds-tracks-from
bounds-tracks-from c =
    (there_within c.args.shape.now.regions c.args.shape.now.colours c.args.columns.now c.args.tracks.now c.requires.tracked c.args.origin c.args.colour
    c.requires.origin c.requires.colour c.column_place-from.result c.column_place-from.ensures).1

pub bounds-columns-to : goal.bounds-columns-to
bounds-columns-to c =
    (there_within c.args.shape.now.regions c.args.shape.now.colours c.args.columns.now c.args.tracks.now c.requires.tracked c.args.copier c.args.colour
    c.requires.copier c.requires.colour c.column_place-to.result c.column_place-to.ensures).0

pub is_true_copy-requires-clause-journal : goal.is_true_copy-requires-clause-journal
is_true_copy-requires-clause-journal c =
    ap (λ (t : Tracked). t.journal)
    (track_is c.args.shape.now.regions c.args.shape.now.colours c.args.columns.now c.args.tracks.now c.requires.tracked c.args.origin c.args.colour
    c.requires.origin c.requires.colour c.column_place-from.result c.column_place-from.ensures c.index-columns-from.result
    c.index-columns-from.is c.index-tracks-from.result c.index-tracks-from.is)
    ∙ sym c.as_slice-journal.ensures

pub is_true_copy-requires-clause-origin : goal.is_true_copy-requires-clause-origin
is_true_copy-requires-clause-origin c =
    ap (λ (t : Tracked). t.region)
    (track_is c.args.shape.now.regions c.args.shape.now.colours c.args.columns.now c.args.tracks.now c.requires.tracked c.args.origin c.args.colour
    c.requires.origin c.requires.colour c.column_place-from.result c.column_place-from.ensures c.index-columns-from.result
    c.index-columns-from.is c.index-tracks-from.result c.index-tracks-from.is)
    ∙ region_is c.args.shape.now.regions c.args.shape.now.colours c.args.columns.now c.args.tracks.now c.requires.tracked c.args.origin
    c.args.colour c.requires.origin c.requires.colour c.column_place-from.result c.column_place-from.ensures c.index-columns-from.result
    c.index-columns-from.is

pub returns : goal.returns
returns c =
    let origin = c.args.origin in
    let copier = c.args.copier in
    let colours = c.args.shape.now.colours in
    let columns = c.args.columns.now in
    let from = c.as_slice-journal.ensures
    ∙ sym (journal_is c.args.shape.now.regions colours columns c.args.tracks.now c.requires.tracked origin c.args.colour c.requires.origin
    c.requires.colour c.column_place-from.result c.column_place-from.ensures c.index-columns-from.result c.index-columns-from.is) in
    let to = c.as_slice-copies.ensures
    ∙ sym (journal_is c.args.shape.now.regions colours columns c.args.tracks.now c.requires.tracked copier c.args.colour c.requires.copier
    c.requires.colour c.column_place-to.result c.column_place-to.ensures c.index-columns-to.result c.index-columns-to.is) in
    copy_there (IsTrueCopy origin copier (dated origin (journal_at colours columns origin c.args.colour))
    (dated copier (journal_at colours columns copier c.args.colour))) origin copier c.is_true_copy.result c.if-origin-copier.false
    (subst (λ (h : List Entry). Tells c.is_true_copy.result (IsTrueCopy origin copier (dated origin (journal_at colours columns origin c.args.colour)) (dated copier h))) to
    (subst (λ (h : List Entry). Tells c.is_true_copy.result (IsTrueCopy origin copier (dated origin h) (dated copier c.as_slice-copies.result.now))) from
    c.is_true_copy.ensures))
