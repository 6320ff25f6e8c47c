use Rattle.std.proofs.Common.{◌∙◌, ◌+◌, ap, sym, subst, arith, length, List}
use Rattle.column_track.specs.declared.marks.Mark.{Mark}
use Rattle.column_track.specs.Tracks.{Tells, WasClock}
use Rattle.column_track.specs.Doing.{ClocksDoNotFall, HasClock, marks_of}
use Rattle.column_track.proofs.TrackLemmas.{has, marks_count, marks_rise, marks_seen, told_as, was}
use Rattle.column_track.proofs.track.Track.was_clock.Goals as goal

pub clock_among-requires-clause-rises : goal.clock_among-requires-clause-rises
clock_among-requires-clause-rises c =
    let t = c.args.self.now in
    let seen = marks_seen c.self.inside.column c.self.inside.marks.items c.self.inside.places t c.self.view_is c.self.invariant in
    subst ClocksDoNotFall (sym (c.deref.ensures.value ∙ seen)) (marks_rise t.region t.regions t.journal (length t.journal + 1))

pub clock_among-requires-clause-within : goal.clock_among-requires-clause-within
clock_among-requires-clause-within c =
    let t = c.args.self.now in
    let seen = marks_seen c.self.inside.column c.self.inside.marks.items c.self.inside.places t c.self.view_is c.self.invariant in
    let long = ap length (c.deref.ensures.value ∙ seen) ∙ marks_count t.region t.regions t.journal (length t.journal + 1) in
    let within = c.requires in
    omega (arith, long, within)

pub returns : goal.returns
returns c =
    let t = c.args.self.now in
    let from = c.args.from in
    let to = c.args.to in
    let stamp = c.args.stamp in
    let seen = marks_seen c.self.inside.column c.self.inside.marks.items c.self.inside.places t c.self.view_is c.self.invariant in
    told_as c.clock_among.result (HasClock (marks_of t.region t.regions t.journal (length t.journal + 1)) from to stamp)
    (WasClock t.journal from to stamp)
    (was t.region t.regions t.journal from to stamp c.requires) (has t.region t.regions t.journal from to stamp c.requires)
    (subst (λ (ms : List Mark). Tells c.clock_among.result (HasClock ms from to stamp)) (c.deref.ensures.value ∙ seen) c.clock_among.ensures)
