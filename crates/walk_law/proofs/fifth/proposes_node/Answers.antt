use Rattle.std.proofs.Common.{subst, List, Some, None}
use Rattle.col_core.specs.declared.Entry.{Entry}
use Rattle.col_core.specs.Computed.{dated}
use Rattle.col_core.specs.Legal.{IsColumnHistory}
use Rattle.column_track.specs.Tracks.{EntersAt}
use Rattle.walk_law.proofs.NextNodes.{proposes_none, proposes_told}
use Rattle.walk_law.proofs.fifth.proposes_node.Goals as goal

pub returns-in-Some : goal.returns-in-Some
returns-in-Some c =
    let t = c.args.track.now in
    proposes_told t.region t.regions c.args.journal.now
    (subst (λ (h : List Entry). IsColumnHistory t.region t.regions (dated t.region h)) c.requires c.agrees.ensures) c.args.id
    c.in-Some.place c.index-journal-place.result
    (subst (λ (h : List Entry). EntersAt h c.args.id (Some c.in-Some.place)) c.requires c.in-Some.ensures) c.args.floor c.args.wants
    c.proposes_so.result c.proposes_so.ensures

pub returns-in-None : goal.returns-in-None
returns-in-None c =
    proposes_none c.args.journal.now c.args.id
    (subst (λ (h : List Entry). EntersAt h c.args.id None) c.requires c.in-None.ensures) c.args.floor c.args.wants
