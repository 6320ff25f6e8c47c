use Rattle.std.proofs.Common.{◌∙◌, ap, sym, refl, take}
use Rattle.column_track.specs.declared.marks.Mark.{Mark}
use Rattle.column_track.proofs.ClearLemmas.{clear_none, clear_some}
use Rattle.column_track.proofs.WaitLemmas.{rises_then}
use Rattle.column_track.proofs.track.Track.is_clear.Goals as goal

pub returns-in-Some : goal.returns-in-Some
returns-in-Some c =
    clear_some (take c.args.events c.args.self.now.journal) c.args.stamp
    (rises_then c.self.inside.column c.args.self.now c.self.view_is c.agrees.ensures.lawful c.args.events) c.in-Some.least
    (sym (ap (λ (m : Mark). m.least_open) c.mark.ensures) ∙ c.in-Some.is) _ refl

pub returns-in-None : goal.returns-in-None
returns-in-None c =
    clear_none (take c.args.events c.args.self.now.journal) c.args.stamp
    (rises_then c.self.inside.column c.args.self.now c.self.view_is c.agrees.ensures.lawful c.args.events)
    (sym (ap (λ (m : Mark). m.least_open) c.mark.ensures) ∙ c.in-None.is)
