use Rattle.std.proofs.Common.{◌∙◌, sym}
use Rattle.log_node.specs.declared.marks.Mark.TheVariants as marks
use Rattle.walk_law.specs.RowsBeside.{bare_row, histories_in}
use Rattle.walk_law.proofs.RowLemmas.{beside_at, history_there, mark_as}
use Rattle.walk_law.proofs.rows.is_mark_of.Goals as goal

pub is_unproposed-requires : goal.is_unproposed-requires
is_unproposed-requires c =
    beside_at c.args.columns.now c.args.tracks.now c.requires.beside c.args.mark.colour c.index-columns-at.result c.index-tracks-at.result
    c.requires.below c.index-columns-at.is c.index-tracks-at.is
    ∙ sym c.as_slice-journal.ensures

pub is_proposed-requires : goal.is_proposed-requires
is_proposed-requires c =
    beside_at c.args.columns.now c.args.tracks.now c.requires.beside c.args.mark.colour c.index-columns-at.result c.index-tracks-at.result
    c.requires.below c.index-columns-at.is c.index-tracks-at.is
    ∙ sym c.as_slice-journal.ensures

pub is_fence_of-requires-clause-track : goal.is_fence_of-requires-clause-track
is_fence_of-requires-clause-track c =
    beside_at c.args.columns.now c.args.tracks.now c.requires.beside c.args.mark.colour c.index-columns-at.result c.index-tracks-at.result
    c.requires.below c.index-columns-at.is c.index-tracks-at.is
    ∙ sym c.as_slice-journal.ensures

pub returns-in-None : goal.returns-in-None
returns-in-None c =
    mark_as (histories_in c.args.columns.now c.args.mark.colour) c.as_slice-journal.result.now (bare_row c.args.columns.now c.args.row.now).node
    c.args.mark.mark marks.None c.is_unproposed.result
    (history_there c.args.columns.now c.args.mark.colour c.index-columns-at.result c.requires.below c.index-columns-at.is ∙ sym c.as_slice-journal.ensures)
    c.in-None.is c.is_unproposed.ensures

pub returns-in-Number : goal.returns-in-Number
returns-in-Number c =
    mark_as (histories_in c.args.columns.now c.args.mark.colour) c.as_slice-journal.result.now (bare_row c.args.columns.now c.args.row.now).node
    c.args.mark.mark (marks.Number c.in-Number.stamp) c.is_proposed.result
    (history_there c.args.columns.now c.args.mark.colour c.index-columns-at.result c.requires.below c.index-columns-at.is ∙ sym c.as_slice-journal.ensures)
    c.in-Number.is c.is_proposed.ensures

pub returns-in-Fenced : goal.returns-in-Fenced
returns-in-Fenced c =
    mark_as (histories_in c.args.columns.now c.args.mark.colour) c.as_slice-journal.result.now (bare_row c.args.columns.now c.args.row.now).node
    c.args.mark.mark (marks.Fenced c.in-Fenced.why) c.is_fence_of.result
    (history_there c.args.columns.now c.args.mark.colour c.index-columns-at.result c.requires.below c.index-columns-at.is ∙ sym c.as_slice-journal.ensures)
    c.in-Fenced.is c.is_fence_of.ensures
