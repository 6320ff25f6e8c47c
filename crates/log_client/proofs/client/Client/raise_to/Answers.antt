use Rattle.log_client.proofs.Read.Raising.{look_helps, look_rests, look_keeps, raise_one_helps, raise_one_rests, raise_one}
use Rattle.log_client.proofs.client.Client.raise_to.Goals as goal

pub returns-in-Ok-clause-rests : goal.returns-in-Ok-clause-rests
returns-in-Ok-clause-rests g c =
    let e = c.in-Ok.ensures in
    raise_one_rests c.args.store.now c.args.self.now c.region-region.result.now c.index_mut-hold.result.now c.raise.new.hold c.args.colour
    c.requires.client c.region-region.ensures.there c.index_mut-hold.ensures.value e.hold e.others e.same c.args.stamp c.in-Ok.at e.ok

pub returns-in-Ok-clause-ok : goal.returns-in-Ok-clause-ok
returns-in-Ok-clause-ok g c =
    let e = c.in-Ok.ensures in
    raise_one c.args.store.now c.args.self.now c.region-region.result.now c.index_mut-hold.result.now c.raise.new.hold c.args.colour
    c.requires.client c.region-region.ensures.there c.index_mut-hold.ensures.value e.hold e.others e.same c.args.stamp c.in-Ok.at e.ok

pub returns-in-Err-clause-rests : goal.returns-in-Err-clause-rests
returns-in-Err-clause-rests g c =
    let e = c.in-Err.ensures in
    look_rests c.args.store.now c.args.self.now c.region-region.result.now c.index_mut-hold.result.now c.raise.new.hold c.args.colour
    c.requires.client c.region-region.ensures.there c.index_mut-hold.ensures.value e.hold e.others e.same e.err

pub returns-in-Err-clause-err : goal.returns-in-Err-clause-err
returns-in-Err-clause-err g c =
    let e = c.in-Err.ensures in
    look_keeps c.args.store.now c.args.self.now c.region-region.result.now c.index_mut-hold.result.now c.raise.new.hold c.args.colour
    c.requires.client c.region-region.ensures.there c.index_mut-hold.ensures.value e.hold e.others e.same e.err

pub returns-in-Ok-clause-idle : goal.returns-in-Ok-clause-idle
returns-in-Ok-clause-idle g c =
    let e = c.in-Ok.ensures in
    raise_one_helps c.args.store.now c.args.self.now c.region-region.result.now c.index_mut-hold.result.now c.raise.new.hold c.args.colour
    c.requires.client c.region-region.ensures.there c.index_mut-hold.ensures.value e.hold e.others e.same c.args.stamp c.in-Ok.at e.ok

pub returns-in-Err-clause-idle : goal.returns-in-Err-clause-idle
returns-in-Err-clause-idle g c =
    let e = c.in-Err.ensures in
    look_helps c.args.store.now c.args.self.now c.region-region.result.now c.index_mut-hold.result.now c.raise.new.hold c.args.colour
    c.requires.client c.region-region.ensures.there c.index_mut-hold.ensures.value e.hold e.others e.same e.err
