use Rattle.std.proofs.Common.{◌≡◌, ◌∙◌, ◌<◌, ap, sym, subst, ℕ, IfOk}
use Rattle.std.specs.List.{All}
use Rattle.std.specs.Prelude.{slice_set}
use Rattle.std.proofs.lemmas.List.Elements.{All-set}
use Rattle.std.proofs.lemmas.Option.{get_or_from_slice_get, slice_get_within}
use Rattle.object_fold.specs.Maps.{shard_value}
use Rattle.column_track.specs.Tracks.{Tells}
use Rattle.object_law.specs.ObjectAnswers.{IsShardPlay, colours_used}
use Rattle.object_law.specs.Tenth.{line_nodes}
use Rattle.object_law.specs.declared.shard_plays.ShardPlay.{ShardPlay}
use Rattle.object_law.proofs.AmongLemmas.{ok_for_all}
use Rattle.object_law.proofs.shard_plays.ShardPlays.is_value.Goals as goal

pub is_value-requires-clause-holds : goal.is_value-requires-clause-holds
is_value-requires-clause-holds c =
    let items = c.place.new.self.plays.items in
    let place = c.in_ok-place.place in
    let at = c.in_ok-place.ensures.at in
    subst (IsShardPlay c.args.subject.now c.args.nodes.now) (sym c.index_mut.ensures.value)
    (c.in_ok-place.ensures.plays c.args.nodes.now c.requires.plays place c.index_mut.result.now (slice_get_within items place at.play at.there))

pub is_value-requires-clause-region : goal.is_value-requires-clause-region
is_value-requires-clause-region c =
    let at = c.in_ok-place.ensures.at in
    let is = c.index_mut.ensures.value
    ∙ get_or_from_slice_get c.place.new.self.plays.items c.in_ok-place.place at.play c.index_mut.result.now at.there in
    subst (λ (region : ℕ). region < c.args.subject.now.script.shape.regions) (sym (ap (λ (p : ShardPlay). p.region) is ∙ at.region))
    c.requires.region

pub is_value-requires-clause-colour : goal.is_value-requires-clause-colour
is_value-requires-clause-colour c =
    let at = c.in_ok-place.ensures.at in
    let is = c.index_mut.ensures.value
    ∙ get_or_from_slice_get c.place.new.self.plays.items c.in_ok-place.place at.play c.index_mut.result.now at.there in
    subst (λ (colour : ℕ). colour < c.args.subject.now.script.shape.colours) (sym (ap (λ (p : ShardPlay). p.colour) is ∙ at.colour))
    c.requires.colour

pub returns-clause-told : goal.returns-clause-told
returns-clause-told c =
    let walked = c.args.subject.now in
    let q = c.index_mut.result.now in
    let at = c.in_ok-place.ensures.at in
    let is = c.index_mut.ensures.value
    ∙ get_or_from_slice_get c.place.new.self.plays.items c.in_ok-place.place at.play q at.there in
    let Told : ℕ → ℕ → ℕ → Type 0 = λ object region colour. IfOk c.is_value.result (λ b. Tells b (c.args.value.now
    ≡ shard_value (colours_used walked.script object) colour (line_nodes walked c.args.nodes.now region colour c.args.count)
    c.args.key.now)) in
    subst (λ (object : ℕ). Told object c.args.region c.args.colour) (ap (λ (p : ShardPlay). p.object) is ∙ at.object)
    (subst (λ (region : ℕ). Told q.object region c.args.colour) (ap (λ (p : ShardPlay). p.region) is ∙ at.region)
    (subst (λ (colour : ℕ). Told q.object q.region colour) (ap (λ (p : ShardPlay). p.colour) is ∙ at.colour)
    c.is_value.ensures.told))

pub returns-clause-plays : goal.returns-clause-plays
returns-clause-plays c =
    let all = IsShardPlay c.args.subject.now c.args.nodes.now in
    let items = c.place.new.self.plays.items in
    let place = c.in_ok-place.place in
    let new = c.is_value.new.self in
    ok_for_all c.is_value.result (λ (u : Unit {0}). all new) (All all (slice_set items place new)) (λ u. c.is_value.ensures.holds)
    (λ f. All-set all items place new (f tt) (c.in_ok-place.ensures.plays c.args.nodes.now c.requires.plays))
