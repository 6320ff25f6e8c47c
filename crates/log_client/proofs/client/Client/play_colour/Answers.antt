use Rattle.std.proofs.Common.{refl, arith, ap}
use Rattle.stamp_board.specs.declared.view.Size.{Size}
use Rattle.log_client.proofs.Sync.SyncCalls.{colour_there, few_there, plays_from, sync_goes, sync_grows, sync_finished, sync_idle, sync_client, sync_answer, sync_nodes, sync_plays, sync_refused_client, sync_refused, sync_refused_grows}
use Rattle.log_client.proofs.client.Client.play_colour.Goals as goal

pub play_on-requires-clause-few : goal.play_on-requires-clause-few
play_on-requires-clause-few g c =
    few_there
    c.args.store.now c.args.self.now c.region-region.result.now c.index_mut-hold.result.now c.args.colour
    c.index_mut-track.result.now c.requires.client c.requires.colour c.region-region.ensures.there
    c.index_mut-hold.ensures.value c.index_mut-track.ensures.value

pub play_on-requires-clause-colour : goal.play_on-requires-clause-colour
play_on-requires-clause-colour g c =
    let is = colour_there
    c.args.store.now c.args.self.now c.region-region.result.now c.index_mut-hold.result.now c.args.colour
    c.index_mut-track.result.now c.requires.client c.requires.colour c.region-region.ensures.there
    c.index_mut-hold.ensures.value c.index_mut-track.ensures.value in
    let size = ap (λ (k : Size). k.colours) c.region-region.ensures.size in
    let lt = c.requires.colour in
    omega (arith, is, size, lt)

pub play_on-requires-clause-track : goal.play_on-requires-clause-track
play_on-requires-clause-track g c =
    plays_from
    c.args.store.now c.args.self.now c.region-region.result.now c.index_mut-hold.result.now c.args.colour
    c.index_mut-track.result.now c.requires.client c.requires.colour c.region-region.ensures.there
    c.index_mut-hold.ensures.value c.index_mut-track.ensures.value

pub returns-in-Ok-clause-rests : goal.returns-in-Ok-clause-rests
returns-in-Ok-clause-rests g c =
    let e = c.in-Ok.ensures in record {
      client = sync_client
          c.args.store.now c.args.self.now c.region-region.result.now c.index_mut-hold.result.now c.args.colour
          c.index_mut-track.result.now c.requires.client c.requires.colour c.region-region.ensures.there
          c.index_mut-hold.ensures.value c.index_mut-track.ensures.value
          c.play_on.new.hold c.play_on.new.track c.max-self.result e.hold e.others e.same e.sees
          c.in-Ok.synced c.in-Ok.stamp c.max-self.ensures e.ok;
      same = (refl, refl);
      goes = sync_goes
          c.args.store.now c.args.self.now c.region-region.result.now c.index_mut-hold.result.now c.args.colour
          c.index_mut-track.result.now c.requires.client c.requires.colour c.region-region.ensures.there
          c.index_mut-hold.ensures.value c.index_mut-track.ensures.value
          c.play_on.new.hold c.play_on.new.track c.max-self.result e.hold e.others e.same e.sees;
      grows = sync_grows
          c.args.store.now c.args.self.now c.region-region.result.now c.index_mut-hold.result.now c.args.colour
          c.index_mut-track.result.now c.requires.client c.requires.colour c.region-region.ensures.there
          c.index_mut-hold.ensures.value c.index_mut-track.ensures.value
          c.play_on.new.hold c.play_on.new.track c.max-self.result e.hold e.others e.same e.sees
          c.in-Ok.synced c.in-Ok.stamp c.max-self.ensures e.ok;
      finished = sync_finished
          c.args.store.now c.args.self.now c.region-region.result.now c.index_mut-hold.result.now c.args.colour
          c.index_mut-track.result.now c.requires.client c.requires.colour c.region-region.ensures.there
          c.index_mut-hold.ensures.value c.index_mut-track.ensures.value
          c.play_on.new.hold c.play_on.new.track c.max-self.result e.hold e.others e.same e.sees;
    }

pub returns-in-Ok-clause-answer : goal.returns-in-Ok-clause-answer
returns-in-Ok-clause-answer g c =
    let e = c.in-Ok.ensures in
    sync_answer
    c.args.store.now c.args.self.now c.region-region.result.now c.index_mut-hold.result.now c.args.colour
    c.index_mut-track.result.now c.requires.client c.requires.colour c.region-region.ensures.there
    c.index_mut-hold.ensures.value c.index_mut-track.ensures.value
    c.play_on.new.hold c.play_on.new.track c.max-self.result e.hold e.others e.same e.sees
    c.in-Ok.synced c.in-Ok.stamp c.max-self.ensures e.ok

pub returns-in-Ok-clause-ok : goal.returns-in-Ok-clause-ok
returns-in-Ok-clause-ok g c =
    let e = c.in-Ok.ensures in
    sync_plays
    c.args.store.now c.args.self.now c.region-region.result.now c.index_mut-hold.result.now c.args.colour
    c.index_mut-track.result.now c.requires.client c.requires.colour c.region-region.ensures.there
    c.index_mut-hold.ensures.value c.index_mut-track.ensures.value
    c.play_on.new.hold c.play_on.new.track c.max-self.result e.hold e.others e.same e.sees
    c.in-Ok.synced c.in-Ok.stamp c.max-self.ensures e.ok

pub returns-in-Err-clause-rests : goal.returns-in-Err-clause-rests
returns-in-Err-clause-rests g c =
    let e = c.in-Err.ensures in record {
      client = sync_refused_client
          c.args.store.now c.args.self.now c.region-region.result.now c.index_mut-hold.result.now c.args.colour
          c.index_mut-track.result.now c.requires.client c.requires.colour c.region-region.ensures.there
          c.index_mut-hold.ensures.value c.index_mut-track.ensures.value
          c.play_on.new.hold c.play_on.new.track c.args.self.now.floor e.hold e.others e.same e.sees refl e.same_track;
      same = (refl, refl);
      goes = sync_goes
          c.args.store.now c.args.self.now c.region-region.result.now c.index_mut-hold.result.now c.args.colour
          c.index_mut-track.result.now c.requires.client c.requires.colour c.region-region.ensures.there
          c.index_mut-hold.ensures.value c.index_mut-track.ensures.value
          c.play_on.new.hold c.play_on.new.track c.args.self.now.floor e.hold e.others e.same e.sees;
      grows = sync_refused_grows
          c.args.store.now c.args.self.now c.region-region.result.now c.index_mut-hold.result.now c.args.colour
          c.index_mut-track.result.now c.requires.client c.requires.colour c.region-region.ensures.there
          c.index_mut-hold.ensures.value c.index_mut-track.ensures.value
          c.play_on.new.hold c.play_on.new.track c.args.self.now.floor e.hold e.others e.same e.sees refl e.same_track;
      finished = sync_finished
          c.args.store.now c.args.self.now c.region-region.result.now c.index_mut-hold.result.now c.args.colour
          c.index_mut-track.result.now c.requires.client c.requires.colour c.region-region.ensures.there
          c.index_mut-hold.ensures.value c.index_mut-track.ensures.value
          c.play_on.new.hold c.play_on.new.track c.args.self.now.floor e.hold e.others e.same e.sees;
    }

pub returns-in-Err-clause-err : goal.returns-in-Err-clause-err
returns-in-Err-clause-err g c =
    let e = c.in-Err.ensures in
    sync_refused
    c.args.store.now c.args.self.now c.region-region.result.now c.index_mut-hold.result.now c.args.colour
    c.index_mut-track.result.now c.requires.client c.requires.colour c.region-region.ensures.there
    c.index_mut-hold.ensures.value c.index_mut-track.ensures.value
    c.play_on.new.hold c.play_on.new.track c.args.self.now.floor e.hold e.others e.same e.sees refl e.same_track
    c.in-Err.fault e.err

pub returns-in-Ok-clause-idle : goal.returns-in-Ok-clause-idle
returns-in-Ok-clause-idle g c =
    let e = c.in-Ok.ensures in
    sync_idle
    c.args.store.now c.args.self.now c.region-region.result.now c.index_mut-hold.result.now c.args.colour
    c.index_mut-track.result.now c.requires.client c.requires.colour c.region-region.ensures.there
    c.index_mut-hold.ensures.value c.index_mut-track.ensures.value
    c.play_on.new.hold c.play_on.new.track c.max-self.result e.hold e.others e.same e.sees

pub returns-in-Err-clause-idle : goal.returns-in-Err-clause-idle
returns-in-Err-clause-idle g c =
    let e = c.in-Err.ensures in
    sync_idle
    c.args.store.now c.args.self.now c.region-region.result.now c.index_mut-hold.result.now c.args.colour
    c.index_mut-track.result.now c.requires.client c.requires.colour c.region-region.ensures.there
    c.index_mut-hold.ensures.value c.index_mut-track.ensures.value
    c.play_on.new.hold c.play_on.new.track c.args.self.now.floor e.hold e.others e.same e.sees

pub returns-in-Ok-clause-nodes : goal.returns-in-Ok-clause-nodes
returns-in-Ok-clause-nodes g c shown =
    let e = c.in-Ok.ensures in
    sync_nodes
    c.args.store.now c.args.self.now c.region-region.result.now c.index_mut-hold.result.now c.args.colour
    c.index_mut-track.result.now c.requires.client c.requires.colour c.region-region.ensures.there
    c.index_mut-hold.ensures.value c.index_mut-track.ensures.value
    c.play_on.new.hold c.play_on.new.track c.max-self.result e.hold e.others e.same e.sees
    c.in-Ok.synced c.in-Ok.stamp c.max-self.ensures e.ok c.in-Ok.nodes (e.nodes shown)
