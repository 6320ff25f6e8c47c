use Rattle.std.proofs.Common.{arith, refl}
use Rattle.std.specs.Vec.{with_item}
use Rattle.log_client.proofs.Going.Growing.{grown_same}
use Rattle.log_client.proofs.Trim.TrimReplies.{look_client, look_goes, look_finished, look_idle, look_nothing, trim_client, trim_goes, trim_finished, trim_idle, trim_explained}
use Rattle.log_client.proofs.client.Client.trim.Goals as goal

pub returns-in-Ok-clause-client : goal.returns-in-Ok-clause-client
returns-in-Ok-clause-client g c =
    let e = c.in-Ok.ensures in
    trim_client
    c.args.store.now c.args.self.now c.region-region.result.now c.index_mut-hold.result.now c.trim.new.hold c.args.colour
    c.requires.client c.region-region.ensures.there c.index_mut-hold.ensures.value e.hold e.others e.same
    c.args.snapshot.now.counts c.in-Ok.answer.1 c.in-Ok.answer.0 e.ok

pub returns-in-Ok-clause-goes : goal.returns-in-Ok-clause-goes
returns-in-Ok-clause-goes g c =
    let e = c.in-Ok.ensures in
    trim_goes
    c.args.store.now c.args.self.now c.region-region.result.now c.index_mut-hold.result.now c.trim.new.hold c.args.colour
    c.requires.client c.region-region.ensures.there c.index_mut-hold.ensures.value e.hold e.others e.same
    c.args.snapshot.now.counts c.in-Ok.answer.1 c.in-Ok.answer.0 e.ok

pub returns-in-Ok-clause-finished : goal.returns-in-Ok-clause-finished
returns-in-Ok-clause-finished g c =
    let e = c.in-Ok.ensures in
    trim_finished
    c.args.store.now c.args.self.now c.region-region.result.now c.index_mut-hold.result.now c.trim.new.hold c.args.colour
    c.requires.client c.region-region.ensures.there c.index_mut-hold.ensures.value e.hold e.others e.same
    c.args.snapshot.now.counts c.in-Ok.answer.1 c.in-Ok.answer.0 e.ok

pub returns-in-Ok-clause-idle : goal.returns-in-Ok-clause-idle
returns-in-Ok-clause-idle g c =
    let e = c.in-Ok.ensures in
    trim_idle
    c.args.store.now c.args.self.now c.region-region.result.now c.index_mut-hold.result.now c.trim.new.hold c.args.colour
    c.requires.client c.region-region.ensures.there c.index_mut-hold.ensures.value e.hold e.others e.same
    c.args.snapshot.now.counts c.in-Ok.answer.1 c.in-Ok.answer.0 e.ok

pub returns-in-Ok-clause-ok : goal.returns-in-Ok-clause-ok
returns-in-Ok-clause-ok g c =
    let e = c.in-Ok.ensures in
    trim_explained
    c.args.store.now c.args.self.now c.region-region.result.now c.index_mut-hold.result.now c.trim.new.hold c.args.colour
    c.requires.client c.region-region.ensures.there c.index_mut-hold.ensures.value e.hold e.others e.same
    c.args.snapshot.now.counts c.in-Ok.answer.1 c.in-Ok.answer.0 e.ok

pub returns-in-Err-clause-client : goal.returns-in-Err-clause-client
returns-in-Err-clause-client g c =
    let e = c.in-Err.ensures in
    look_client
    c.args.store.now c.args.self.now c.region-region.result.now c.index_mut-hold.result.now c.trim.new.hold c.args.colour
    c.requires.client c.region-region.ensures.there c.index_mut-hold.ensures.value e.hold e.others e.same e.err

pub returns-in-Err-clause-goes : goal.returns-in-Err-clause-goes
returns-in-Err-clause-goes g c =
    let e = c.in-Err.ensures in
    look_goes
    c.args.store.now c.args.self.now c.region-region.result.now c.index_mut-hold.result.now c.trim.new.hold c.args.colour
    c.requires.client c.region-region.ensures.there c.index_mut-hold.ensures.value e.hold e.others e.same e.err

pub returns-in-Err-clause-finished : goal.returns-in-Err-clause-finished
returns-in-Err-clause-finished g c =
    let e = c.in-Err.ensures in
    look_finished
    c.args.store.now c.args.self.now c.region-region.result.now c.index_mut-hold.result.now c.trim.new.hold c.args.colour
    c.requires.client c.region-region.ensures.there c.index_mut-hold.ensures.value e.hold e.others e.same e.err

pub returns-in-Err-clause-idle : goal.returns-in-Err-clause-idle
returns-in-Err-clause-idle g c =
    let e = c.in-Err.ensures in
    look_idle
    c.args.store.now c.args.self.now c.region-region.result.now c.index_mut-hold.result.now c.trim.new.hold c.args.colour
    c.requires.client c.region-region.ensures.there c.index_mut-hold.ensures.value e.hold e.others e.same e.err

pub returns-in-Err-clause-err : goal.returns-in-Err-clause-err
returns-in-Err-clause-err g c =
    let e = c.in-Err.ensures in
    let region = c.if-snapshot-self.false in
    let colour = c.if-snapshot-colour.false in (
      (omega (arith, region), omega (arith, colour)),
      look_nothing
          c.args.store.now c.args.self.now c.region-region.result.now c.index_mut-hold.result.now c.trim.new.hold c.args.colour
          c.requires.client c.region-region.ensures.there c.index_mut-hold.ensures.value e.hold e.others e.same e.err,
    )

pub returns-in-Ok-clause-grows : goal.returns-in-Ok-clause-grows
returns-in-Ok-clause-grows g c = grown_same c.args.self.now (record c.args.self.now { holds = with_item c.args.self.now.holds c.args.self.now.region c.trim.new.hold }) refl

pub returns-in-Err-clause-grows : goal.returns-in-Err-clause-grows
returns-in-Err-clause-grows g c = grown_same c.args.self.now (record c.args.self.now { holds = with_item c.args.self.now.holds c.args.self.now.region c.trim.new.hold }) refl
