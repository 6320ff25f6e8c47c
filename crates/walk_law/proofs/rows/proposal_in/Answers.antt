use Rattle.std.proofs.Common.{◌∙◌, subst, sym, List, Some, None}
use Rattle.col_core.specs.declared.Entry.{Entry}
use Rattle.col_core.specs.Computed.{dated}
use Rattle.col_core.specs.Legal.{IsColumnHistory}
use Rattle.column_track.specs.Tracks.{EntersAt}
use Rattle.walk_law.proofs.ToldLemmas.{told_nowhere, told_there}
use Rattle.walk_law.proofs.rows.proposal_in.Goals as goal

pub returns-in-Some : goal.returns-in-Some
returns-in-Some c =
    let t = c.args.track.now in
    c.told_by.ensures
    ∙ sym (told_there t.region t.regions c.args.journal.now
    (subst (λ (h : List Entry). IsColumnHistory t.region t.regions (dated t.region h)) c.requires c.agrees.ensures) c.args.id c.in-Some.place
    c.index-journal-place.result c.index-journal-place.is
    (subst (λ (h : List Entry). EntersAt h c.args.id (Some c.in-Some.place)) c.requires c.in-Some.ensures))

pub returns-in-None : goal.returns-in-None
returns-in-None c =
    sym (told_nowhere c.args.journal.now c.args.id
    (subst (λ (h : List Entry). EntersAt h c.args.id None) c.requires c.in-None.ensures))
