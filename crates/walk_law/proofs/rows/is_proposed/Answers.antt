use Rattle.std.proofs.Common.{subst, sym, refl, List}
use Rattle.col_core.specs.declared.Entry.{Entry}
use Rattle.col_core.specs.Computed.{dated}
use Rattle.col_core.specs.Legal.{IsColumnHistory}
use Rattle.walk_law.proofs.ToldLemmas.{proposed_none, proposed_told}
use Rattle.walk_law.proofs.rows.is_proposed.Goals as goal

pub returns-in-Some : goal.returns-in-Some
returns-in-Some c =
    let t = c.args.track.now in
    proposed_told t.region t.regions c.args.id c.args.journal.now
    (subst (λ (h : List Entry). IsColumnHistory t.region t.regions (dated t.region h)) c.requires c.agrees.ensures) c.in-Some.proposal
    c.args.stamp _ refl (sym c.in-Some.ensures)

pub returns-in-None : goal.returns-in-None
returns-in-None c = proposed_none c.args.id c.args.journal.now c.args.stamp (sym c.in-None.ensures)
