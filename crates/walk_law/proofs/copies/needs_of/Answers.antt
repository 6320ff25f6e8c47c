use Rattle.std.proofs.Common.{◌≡◌, ◌∙◌, ap, subst, sym, take, List, Some, None, true}
use Rattle.log_node.specs.declared.ids.Id.{Id}
use Rattle.log_node.specs.declared.ids.Counts.{Counts}
use Rattle.log_node.specs.Vectors.{least}
use Rattle.col_core.specs.declared.Entry.{Entry}
use Rattle.col_core.specs.History.{enters}
use Rattle.col_core.specs.Cuts.{needs_in}
use Rattle.col_core.specs.Computed.{cut, dated}
use Rattle.col_core.specs.Legal.{IsColumnHistory}
use Rattle.column_track.specs.declared.marks.Mark.{Mark}
use Rattle.column_track.specs.Tracks.{EntersAt}
use Rattle.walk_law.proofs.CopiesLemmas.{needs_nowhere, needs_there}
use Rattle.walk_law.proofs.copies.needs_of.Goals as goal

pub returns-in-Some : goal.returns-in-Some
returns-in-Some c =
    let t = c.args.track.now in
    let j = c.args.journal.now in
    let place = c.in-Some.place in
    let wants = c.wants_in.result in
    needs_there t.region t.regions j
    (subst (λ (h : List Entry). IsColumnHistory t.region t.regions (dated t.region h)) c.requires c.agrees.ensures) c.args.id place
    c.index-journal-place.result c.index-journal-place.is
    (subst (λ (h : List Entry). EntersAt h c.args.id (Some place)) c.requires c.in-Some.ensures) wants c.least.result
    (subst (λ (x : Entry). (i : Id) (v : Counts) → enters i x.event ≡ true → least wants v ≡ needs_in x.event v)
    (sym c.index-journal-place.is) c.wants_in.ensures)
    (c.least.ensures
    ∙ (ap (λ (m : Mark). least wants m.cut) c.mark.ensures
    ∙ ap (λ (h : List Entry). least wants (cut t.region (dated t.region (take place h)))) c.requires))

pub returns-in-None : goal.returns-in-None
returns-in-None c =
    let t = c.args.track.now in
    c.zeros.ensures
    ∙ needs_nowhere t.region c.args.journal.now c.args.id
    (subst (λ (h : List Entry). EntersAt h c.args.id None) c.requires c.in-None.ensures)
