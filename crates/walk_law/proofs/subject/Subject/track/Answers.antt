use Rattle.std.proofs.Common.{◌≡◌, ◌∙◌, ◌<◌, ap, subst, sym}
use Rattle.std.specs.Prelude.{slice_index_or}
use Rattle.column_track.specs.Tracks.{Tracked}
use Rattle.walk_law.specs.Walking.{Walked, journal_walked}
use Rattle.walk_law.proofs.SubjectLemmas.{track_at, track_within}
use Rattle.walk_law.proofs.subject.Subject.track.Goals as goal

pub bounds-self-inside-column_place : goal.bounds-self-inside-column_place
bounds-self-inside-column_place c =
    let lt = subst (λ (w : Walked). c.args.region < w.script.shape.regions) (sym c.self.view_is) c.requires.region in
    let low = subst (λ (w : Walked). c.args.colour < w.script.shape.colours) (sym c.self.view_is) c.requires.colour in
    track_within _ _ c.self.inside.tracks.now c.self.invariant.may c.args.region c.args.colour
    c.column_place.result lt low c.column_place.ensures

pub returns-clause-region : goal.returns-clause-region
returns-clause-region c =
    let lt = subst (λ (w : Walked). c.args.region < w.script.shape.regions) (sym c.self.view_is) c.requires.region in
    let low = subst (λ (w : Walked). c.args.colour < w.script.shape.colours) (sym c.self.view_is) c.requires.colour in
    let t = c.index-self-column_place.result in
    ap (λ (t : Tracked). t.region)
    (sym c.index-self-column_place.is ∙ track_at _ _ c.self.inside.tracks.now c.self.invariant.may c.args.region c.args.colour
    c.column_place.result t lt low c.column_place.ensures c.index-self-column_place.is)

pub returns-clause-regions : goal.returns-clause-regions
returns-clause-regions c =
    let lt = subst (λ (w : Walked). c.args.region < w.script.shape.regions) (sym c.self.view_is) c.requires.region in
    let low = subst (λ (w : Walked). c.args.colour < w.script.shape.colours) (sym c.self.view_is) c.requires.colour in
    let t = c.index-self-column_place.result in
    subst (λ (w : Walked). (slice_index_or c.self.inside.tracks.now c.column_place.result t).regions ≡ w.script.shape.regions) c.self.view_is
    (ap (λ (t : Tracked). t.regions)
    (sym c.index-self-column_place.is ∙ track_at _ _ c.self.inside.tracks.now c.self.invariant.may c.args.region c.args.colour
    c.column_place.result t lt low c.column_place.ensures c.index-self-column_place.is))

pub returns-clause-journal : goal.returns-clause-journal
returns-clause-journal c =
    let lt = subst (λ (w : Walked). c.args.region < w.script.shape.regions) (sym c.self.view_is) c.requires.region in
    let low = subst (λ (w : Walked). c.args.colour < w.script.shape.colours) (sym c.self.view_is) c.requires.colour in
    let t = c.index-self-column_place.result in
    subst (λ (w : Walked). (slice_index_or c.self.inside.tracks.now c.column_place.result t).journal
    ≡ journal_walked w c.args.region c.args.colour) c.self.view_is
    (ap (λ (t : Tracked). t.journal)
    (sym c.index-self-column_place.is ∙ track_at _ _ c.self.inside.tracks.now c.self.invariant.may c.args.region c.args.colour
    c.column_place.result t lt low c.column_place.ensures c.index-self-column_place.is))
