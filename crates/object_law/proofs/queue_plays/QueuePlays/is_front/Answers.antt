use Rattle.std.proofs.Common.{◌≡◌, ◌∙◌, ◌<◌, ap, sym, subst, ℕ, IfOk}
use Rattle.std.specs.List.{All}
use Rattle.std.specs.Prelude.{slice_set}
use Rattle.std.proofs.lemmas.List.Elements.{All-set}
use Rattle.std.proofs.lemmas.Option.{get_or_from_slice_get, slice_get_within}
use Rattle.object_fold.specs.Queues.{front_after}
use Rattle.column_track.specs.Tracks.{Tells}
use Rattle.object_law.specs.ObjectAnswers.{IsQueuePlay}
use Rattle.object_law.specs.Tenth.{line_nodes}
use Rattle.object_law.specs.declared.queue_plays.QueuePlay.{QueuePlay}
use Rattle.object_law.proofs.AmongLemmas.{ok_for_all}
use Rattle.object_law.proofs.queue_plays.QueuePlays.is_front.Goals as goal

pub is_front-requires-clause-holds : goal.is_front-requires-clause-holds
is_front-requires-clause-holds c =
    let items = c.place.new.self.plays.items in
    let place = c.in_ok-place.place in
    let at = c.in_ok-place.ensures.at in
    subst (IsQueuePlay c.args.subject.now c.args.nodes.now) (sym c.index_mut.ensures.value)
    (c.in_ok-place.ensures.plays c.args.nodes.now c.requires.plays place c.index_mut.result.now (slice_get_within items place at.play at.there))

pub is_front-requires-clause-region : goal.is_front-requires-clause-region
is_front-requires-clause-region c =
    let at = c.in_ok-place.ensures.at in
    let is = c.index_mut.ensures.value
    ∙ get_or_from_slice_get c.place.new.self.plays.items c.in_ok-place.place at.play c.index_mut.result.now at.there in
    subst (λ (region : ℕ). region < c.args.subject.now.script.shape.regions) (sym (ap (λ (p : QueuePlay). p.region) is ∙ at.is.0))
    c.requires.region

pub is_front-requires-clause-colour : goal.is_front-requires-clause-colour
is_front-requires-clause-colour c =
    let at = c.in_ok-place.ensures.at in
    let is = c.index_mut.ensures.value
    ∙ get_or_from_slice_get c.place.new.self.plays.items c.in_ok-place.place at.play c.index_mut.result.now at.there in
    subst (λ (colour : ℕ). colour < c.args.subject.now.script.shape.colours) (sym (ap (λ (p : QueuePlay). p.colour) is ∙ at.is.1))
    c.requires.colour

pub returns-clause-told : goal.returns-clause-told
returns-clause-told c =
    let walked = c.args.subject.now in
    let q = c.index_mut.result.now in
    let at = c.in_ok-place.ensures.at in
    let is = c.index_mut.ensures.value
    ∙ get_or_from_slice_get c.place.new.self.plays.items c.in_ok-place.place at.play q at.there in
    let Told : ℕ → ℕ → Type 0 = λ region colour. IfOk c.is_front.result (λ b. Tells b (c.args.value.now
    ≡ front_after (line_nodes walked c.args.nodes.now region colour c.args.count))) in
    subst (λ (region : ℕ). Told region c.args.colour) (ap (λ (p : QueuePlay). p.region) is ∙ at.is.0)
    (subst (λ (colour : ℕ). Told q.region colour) (ap (λ (p : QueuePlay). p.colour) is ∙ at.is.1)
    c.is_front.ensures.told)

pub returns-clause-plays : goal.returns-clause-plays
returns-clause-plays c =
    let all = IsQueuePlay c.args.subject.now c.args.nodes.now in
    let items = c.place.new.self.plays.items in
    let place = c.in_ok-place.place in
    let new = c.is_front.new.self in
    ok_for_all c.is_front.result (λ (u : Unit {0}). all new) (All all (slice_set items place new)) (λ u. c.is_front.ensures.holds)
    (λ f. All-set all items place new (f tt) (c.in_ok-place.ensures.plays c.args.nodes.now c.requires.plays))
