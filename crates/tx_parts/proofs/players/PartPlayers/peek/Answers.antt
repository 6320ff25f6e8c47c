use Rattle.std.proofs.Common.{refl}
use Rattle.tx_parts.specs.Players.{Peeks}
use Rattle.tx_parts.proofs.MapAnswers.{found_there, its_key, of_key, peeks_not, players_with}
use Rattle.tx_parts.proofs.players.PartPlayers.peek.Goals as goal

pub returns-clause-players : goal.returns-clause-players
returns-clause-players g c =
    let e = c.peek.ensures in
    let there = found_there c.place_of_key.new.self c.args.key.now c.in_ok-place.place c.index_mut-player.result.now
    c.in_ok-place.ensures.there c.index_mut-player.ensures.value in
    players_with c.reads_go_on.ensures c.args.store.now c.args.client.now c.peek.new.client e.client c.place_of_key.new.self _
    c.in_ok-place.place c.index_mut-player.result.now c.peek.new.self c.requires.client c.place_of_key.ensures.players there.0 e.same
    e.player (refl, refl) refl

pub returns-clause-ok : goal.returns-clause-ok
returns-clause-ok g c =
    of_key c.args.store.now c.args.client.now c.peek.new.client c.args.self.now c.args.key.now c.index_mut-player.result.now
    (its_key c.args.self.now c.place_of_key.new.self c.args.key.now c.in_ok-place.place c.index_mut-player.result.now
    c.place_of_key.ensures.same c.in_ok-place.ensures.there c.index_mut-player.ensures.value) c.peek.result
    (λ r p. Peeks c.args.store.now c.args.client.now c.peek.new.client p c.args.key.now r.0 r.1) c.peek.ensures.ok

pub returns-clause-err : goal.returns-clause-err
returns-clause-err g c =
    peeks_not c.args.store.now c.args.client.now c.peek.new.client c.args.self.now c.args.key.now c.index_mut-player.result.now
    (its_key c.args.self.now c.place_of_key.new.self c.args.key.now c.in_ok-place.place c.index_mut-player.result.now
    c.place_of_key.ensures.same c.in_ok-place.ensures.there c.index_mut-player.ensures.value) c.peek.result c.peek.ensures.err
