use Rattle.std.proofs.Common.{IfOk, List, ℕ, refl, subst}
use Rattle.std.specs.Prelude.{IfSome}
use Rattle.tx_parts.specs.Deciding.{Decides, ShowsRead, StandsInOwn}
use Rattle.tx_parts.proofs.MapAnswers.{decides_not, found_there, its_key, of_key, players_with}
use Rattle.tx_parts.proofs.players.PartPlayers.decide.Goals as goal

pub returns-clause-players : goal.returns-clause-players
returns-clause-players g c =
    let e = c.decide.ensures in
    let there = found_there c.place_of_key.new.self c.args.key.now c.in_ok-place.place c.index_mut-player.result.now
    c.in_ok-place.ensures.there c.index_mut-player.ensures.value in
    players_with c.reads_go_on.ensures c.args.store.now c.args.client.now c.decide.new.client e.client c.place_of_key.new.self _
    c.in_ok-place.place c.index_mut-player.result.now c.decide.new.self c.requires.client c.place_of_key.ensures.players there.0 e.same
    e.player (refl, refl) refl

pub returns-clause-ok : goal.returns-clause-ok
returns-clause-ok g c =
    of_key c.args.store.now c.args.client.now c.decide.new.client c.args.self.now c.args.key.now c.index_mut-player.result.now
    (its_key c.args.self.now c.place_of_key.new.self c.args.key.now c.in_ok-place.place c.index_mut-player.result.now
    c.place_of_key.ensures.same c.in_ok-place.ensures.there c.index_mut-player.ensures.value) c.decide.result
    (λ r p. Decides c.args.store.now c.args.client.now c.decide.new.client p r.0 r.1) c.decide.ensures.ok

pub returns-clause-stands : goal.returns-clause-stands
returns-clause-stands g c =
    let its = its_key c.args.self.now c.place_of_key.new.self c.args.key.now c.in_ok-place.place c.index_mut-player.result.now
    c.place_of_key.ensures.same c.in_ok-place.ensures.there c.index_mut-player.ensures.value in
    subst (λ (colour : ℕ). IfOk c.decide.result (λ r. IfSome r.1 (StandsInOwn colour))) its.colour c.decide.ensures.stands

pub returns-clause-shows : goal.returns-clause-shows
returns-clause-shows g c =
    let its = its_key c.args.self.now c.place_of_key.new.self c.args.key.now c.in_ok-place.place c.index_mut-player.result.now
    c.place_of_key.ensures.same c.in_ok-place.ensures.there c.index_mut-player.ensures.value in
    subst (λ (colours : List ℕ). IfOk c.decide.result (λ r. IfSome r.1 (ShowsRead colours))) its.of.1 c.decide.ensures.shows

pub returns-clause-err : goal.returns-clause-err
returns-clause-err g c =
    decides_not c.args.store.now c.args.client.now c.decide.new.client c.args.self.now c.args.key.now c.index_mut-player.result.now
    (its_key c.args.self.now c.place_of_key.new.self c.args.key.now c.in_ok-place.place c.index_mut-player.result.now
    c.place_of_key.ensures.same c.in_ok-place.ensures.there c.index_mut-player.ensures.value) c.decide.result c.decide.ensures.err
