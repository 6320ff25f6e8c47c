use Rattle.std.proofs.Common.{None, ap, subst, sym, ◌∙◌}
use Rattle.object_fold.specs.Nodes.{object_nodes}
use Rattle.lawful_run.specs.Asks.{rising}
use Rattle.log_client.specs.Clients.{own_line}
use Rattle.log_client.proofs.CallerLemmas.{rests_then}
use Rattle.tx_parts.specs.Deciding.{DecideRefused}
use Rattle.tx_parts.proofs.PlayerAnswers.{decide_refused, decides_on, ruled_not, waits_for}
use Rattle.tx_parts.proofs.player.PartPlayer.decide.Goals as goal

pub returns-in-Ok-clause-client : goal.returns-in-Ok-clause-client
returns-in-Ok-clause-client g c =
    rests_then c.args.store.now c.args.client.now c.play.new.client c.rule.new.client c.play.ensures.client c.rule.ensures.client

pub returns-in-Ok-clause-ok : goal.returns-in-Ok-clause-ok
returns-in-Ok-clause-ok g c =
    let e = c.play.ensures in
    let y = c.in_ok-synced.ensures in
    let nodes = object_nodes (own_line c.play.new.client c.args.self.now.colour) in
    decides_on c.args.store.now c.args.client.now c.play.new.client c.args.self.now c.play.new.self c.in_ok-synced.synced e.client
    e.same e.player y.played y.ok c.in-Some.key (sym (c.undecided.ensures nodes y.part) ∙ c.in-Some.is) c.rule.new.client
    c.in-Ok.decided e.map c.in-Ok.ensures.ok

pub returns-in-Ok-clause-shows : goal.returns-in-Ok-clause-shows
returns-in-Ok-clause-shows g c =
    let shows = c.in-Ok.ensures.shows in
    let same = ap rising c.play.ensures.same.1 in
    (shows.raises ∙ same, shows.syncs ∙ same)

pub returns-in-Ok-clause-played : goal.returns-in-Ok-clause-played
returns-in-Ok-clause-played g c = (c.play.new.client, c.in_ok-synced.ensures.played, c.in-Ok.ensures.shows.played)

pub returns-in-Err-clause-client : goal.returns-in-Err-clause-client
returns-in-Err-clause-client g c =
    rests_then c.args.store.now c.args.client.now c.play.new.client c.rule.new.client c.play.ensures.client c.rule.ensures.client

pub returns-in-Err-clause-err : goal.returns-in-Err-clause-err
returns-in-Err-clause-err g c =
    let e = c.play.ensures in
    let y = c.in_ok-synced.ensures in
    let nodes = object_nodes (own_line c.play.new.client c.args.self.now.colour) in
    subst (DecideRefused c.args.store.now c.args.client.now c.rule.new.client c.args.self.now) (sym c.refusal_of.ensures)
    (decide_refused c.args.store.now c.args.client.now c.rule.new.client c.args.self.now c.in-Err.fault
    (ruled_not c.args.store.now c.args.client.now c.play.new.client c.args.self.now c.play.new.self c.in_ok-synced.synced
    e.client e.same e.player y.played y.ok c.in-Some.key (sym (c.undecided.ensures nodes y.part) ∙ c.in-Some.is) c.rule.new.client
    c.in-Err.fault c.rule.ensures.client c.in-Err.ensures.err))

pub returns-in-None-clause-ok : goal.returns-in-None-clause-ok
returns-in-None-clause-ok g c =
    let e = c.play.ensures in
    let y = c.in_ok-synced.ensures in
    let nodes = object_nodes (own_line c.play.new.client c.args.self.now.colour) in
    waits_for c.args.store.now c.args.client.now c.play.new.client c.args.self.now c.play.new.self c.in_ok-synced.synced e.client
    e.same e.player y.played y.ok None (sym (c.undecided.ensures nodes y.part) ∙ c.in-None.is)
