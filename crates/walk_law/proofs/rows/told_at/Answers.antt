use Rattle.std.proofs.Common.{◌∙◌, ap, sym}
use Rattle.walk_law.specs.Proposals.{told_in}
use Rattle.walk_law.proofs.RowLemmas.{beside_at, history_there}
use Rattle.walk_law.proofs.rows.told_at.Goals as goal

pub proposal_in-requires : goal.proposal_in-requires
proposal_in-requires c =
    beside_at c.args.columns.now c.args.tracks.now c.requires.beside c.args.colour c.index-columns-at.result c.index-tracks-at.result
    c.requires.below c.index-columns-at.is c.index-tracks-at.is
    ∙ sym c.as_slice-journal.ensures

pub returns : goal.returns
returns c =
    c.proposal_in.ensures
    ∙ ap (told_in c.args.id)
    (c.as_slice-journal.ensures
    ∙ sym (history_there c.args.columns.now c.args.colour c.index-columns-at.result c.requires.below c.index-columns-at.is))
