use Rattle.std.proofs.Common.{◌∙◌, ◌+◌, ap, sym, arith, length, List}
use Rattle.std.specs.Prelude.{slice_get}
use Rattle.log_node.proofs.CallerLemmas.{same_some}
use Rattle.column_track.specs.declared.marks.Mark.{Mark}
use Rattle.column_track.proofs.TrackLemmas.{mark_at, marks_count, marks_seen}
use Rattle.column_track.proofs.track.Track.mark.Goals as goal

pub mark_in-requires : goal.mark_in-requires
mark_in-requires c =
    let t = c.args.self.now in
    let seen = marks_seen c.self.inside.column c.self.inside.marks.items c.self.inside.places t c.self.view_is c.self.invariant in
    let long = ap length (c.deref.ensures.value ∙ seen) ∙ marks_count t.region t.regions t.journal (length t.journal + 1) in
    let within = c.requires in
    omega (arith, long, within)

pub returns : goal.returns
returns c =
    let t = c.args.self.now in
    let seen = marks_seen c.self.inside.column c.self.inside.marks.items c.self.inside.places t c.self.view_is c.self.invariant in
    let within = c.requires in
    same_some
    (sym c.mark_in.ensures
    ∙ (ap (λ (ms : List Mark). slice_get ms c.args.events) (c.deref.ensures.value ∙ seen)
    ∙ mark_at t.region t.regions t.journal (length t.journal + 1) c.args.events (omega (arith, within))))
