use Rattle.log_client.proofs.CallerLemmas.{rests_synced}
use Rattle.tx_parts.proofs.PlayerAnswers.{line_folds, player_folded, player_later}
use Rattle.tx_parts.proofs.player.PartPlayer.play.Goals as goal

pub fold_to-requires : goal.fold_to-requires
fold_to-requires g c =
    let e = c.sync.ensures in
    line_folds c.sync.new.self c.args.self.now c.line-line.result.now
    (player_later c.reads_go_on.ensures c.args.store.now c.args.client.now c.sync.new.self
    (rests_synced c.args.store.now c.args.client.now c.sync.new.self e.client e.same e.goes e.grows e.finished) c.args.self.now
    c.requires.client c.requires.player) c.line-line.ensures

pub returns-in-Ok-fold_to-clause-player : goal.returns-in-Ok-fold_to-clause-player
returns-in-Ok-fold_to-clause-player g c =
    let e = c.sync.ensures in
    player_folded c.sync.new.self c.args.self.now c.fold_to.new.self c.line-line.result.now
    (player_later c.reads_go_on.ensures c.args.store.now c.args.client.now c.sync.new.self
    (rests_synced c.args.store.now c.args.client.now c.sync.new.self e.client e.same e.goes e.grows e.finished) c.args.self.now
    c.requires.client c.requires.player) c.line-line.ensures c.fold_to.ensures.opened c.fold_to.ensures.folds

pub returns-in-Err-fold_to-clause-player : goal.returns-in-Err-fold_to-clause-player
returns-in-Err-fold_to-clause-player g c =
    let e = c.sync.ensures in
    player_folded c.sync.new.self c.args.self.now c.fold_to.new.self c.line-line.result.now
    (player_later c.reads_go_on.ensures c.args.store.now c.args.client.now c.sync.new.self
    (rests_synced c.args.store.now c.args.client.now c.sync.new.self e.client e.same e.goes e.grows e.finished) c.args.self.now
    c.requires.client c.requires.player) c.line-line.ensures c.fold_to.ensures.opened c.fold_to.ensures.folds

pub returns-in-Err-clause-player : goal.returns-in-Err-clause-player
returns-in-Err-clause-player g c =
    let e = c.sync.ensures in
    player_later c.reads_go_on.ensures c.args.store.now c.args.client.now c.sync.new.self
    (rests_synced c.args.store.now c.args.client.now c.sync.new.self e.client e.same e.goes e.grows e.finished) c.args.self.now
    c.requires.client c.requires.player
