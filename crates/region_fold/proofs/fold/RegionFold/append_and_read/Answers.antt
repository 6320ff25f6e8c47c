use Rattle.lawful_run.specs.Asks.{rising}
use Rattle.log_client.proofs.CallerLemmas.{answers_from, append_left, append_stood, rests_then}
use Rattle.region_fold.proofs.ReadAnswers.{colours_later, kept_later}
use Rattle.region_fold.proofs.TellAnswers.{tells, untold_leaves}
use Rattle.region_fold.proofs.fold.RegionFold.append_and_read.Goals as goal

pub read_behind-requires-clause-kept : goal.read_behind-requires-clause-kept
read_behind-requires-clause-kept g c =
    let e = c.in-Ok.ensures in
    kept_later g.F.NodeFold.Holds c.reads_go_on.ensures c.args.store.now c.args.client.now c.append.new.self
    (append_stood c.args.store.now c.args.client.now c.append.new.self e.client e.same e.goes e.grows c.in-Ok.own e.finished)
    (rising c.args.colours.now) c.args.self.now.kept c.requires.kept

pub read_behind-requires-clause-colours : goal.read_behind-requires-clause-colours
read_behind-requires-clause-colours g c =
    let e = c.in-Ok.ensures in
    colours_later c.args.store.now c.args.client.now c.append.new.self
    (append_stood c.args.store.now c.args.client.now c.append.new.self e.client e.same e.goes e.grows c.in-Ok.own e.finished)
    c.args.colours.now c.requires.client c.requires.colours

pub returns-in-Ok-read_behind-clause-client : goal.returns-in-Ok-read_behind-clause-client
returns-in-Ok-read_behind-clause-client g c =
    let e = c.in-Ok.ensures in
    rests_then c.args.store.now c.args.client.now c.append.new.self c.read_behind.new.client
    (append_stood c.args.store.now c.args.client.now c.append.new.self e.client e.same e.goes e.grows c.in-Ok.own e.finished)
    c.read_behind.ensures.client

pub returns-in-Err-read_behind-clause-client : goal.returns-in-Err-read_behind-clause-client
returns-in-Err-read_behind-clause-client g c =
    let e = c.in-Ok.ensures in
    rests_then c.args.store.now c.args.client.now c.append.new.self c.read_behind.new.client
    (append_stood c.args.store.now c.args.client.now c.append.new.self e.client e.same e.goes e.grows c.in-Ok.own e.finished)
    c.read_behind.ensures.client

pub returns-in-Ok-read_behind-clause-ok : goal.returns-in-Ok-read_behind-clause-ok
returns-in-Ok-read_behind-clause-ok g c =
    let e = c.in-Ok.ensures in
    tells g.F.NodeFold.told c.args.store.now c.args.client.now c.append.new.self c.read_behind.new.client c.args.colours.now
    c.args.set c.args.text c.requires.own c.args.self.now.kept.last c.in-Ok-read_behind.told c.in-Ok.own c.in-Ok-read_behind.read
    (append_stood c.args.store.now c.args.client.now c.append.new.self e.client e.same e.goes e.grows c.in-Ok.own e.finished)
    c.read_behind.ensures.client c.in-Ok.ensures.ok c.in-Ok-read_behind.ensures.ok

pub returns-in-Err-read_behind-clause-err : goal.returns-in-Err-read_behind-clause-err
returns-in-Err-read_behind-clause-err g c =
    let e = c.in-Ok.ensures in
    untold_leaves c.args.store.now c.args.client.now c.append.new.self c.read_behind.new.client c.args.set c.args.text
    c.in-Ok.own (rising c.args.colours.now) c.in-Err-read_behind.why
    (append_stood c.args.store.now c.args.client.now c.append.new.self e.client e.same e.goes e.grows c.in-Ok.own e.finished)
    c.read_behind.ensures.client c.in-Ok.ensures.ok c.in-Ok.ensures.points c.in-Err-read_behind.ensures.err

pub returns-in-Err-clause-client : goal.returns-in-Err-clause-client
returns-in-Err-clause-client g c =
    let e = c.in-Err.ensures in
    append_left c.args.store.now c.args.client.now c.append.new.self e.client e.same e.goes e.grows c.args.set c.args.text
    c.in-Err.fault e.finished e.err

pub returns-in-Err-clause-kept : goal.returns-in-Err-clause-kept
returns-in-Err-clause-kept g c =
    let e = c.in-Err.ensures in
    kept_later g.F.NodeFold.Holds c.reads_go_on.ensures c.args.store.now c.args.client.now c.append.new.self
    (append_left c.args.store.now c.args.client.now c.append.new.self e.client e.same e.goes e.grows c.args.set c.args.text
    c.in-Err.fault e.finished e.err)
    (rising c.args.colours.now) c.args.self.now.kept c.requires.kept

pub returns-in-Ok-read_behind-clause-shows : goal.returns-in-Ok-read_behind-clause-shows
returns-in-Ok-read_behind-clause-shows g c =
    let e = c.in-Ok.ensures in
    let shows = c.in-Ok-read_behind.ensures.shows in record {
      raises = shows.raises;
      syncs = shows.syncs;
      played = answers_from c.args.client.now c.append.new.self c.read_behind.new.client c.in-Ok-read_behind.read.syncs
          e.same.1 e.plays shows.played;
    }
