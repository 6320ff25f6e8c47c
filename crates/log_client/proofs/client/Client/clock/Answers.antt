use Rattle.std.proofs.Common.{ap, sym, ◌∙◌}
use Rattle.col_core.specs.History.{clock}
use Rattle.log_client.proofs.Read.Raising.{look_rests, look_keeps, look_seen}
use Rattle.log_client.proofs.client.Client.clock.Goals as goal

pub returns-clause-rests : goal.returns-clause-rests
returns-clause-rests g c =
    let e = c.clock-at.ensures in
    look_rests c.args.store.now c.args.self.now c.region-region.result.now c.index_mut-hold.result.now c.clock-at.new.hold c.args.colour
    c.requires.client c.region-region.ensures.there c.index_mut-hold.ensures.value e.hold e.others e.same e.look.0

pub returns-clause-keeps : goal.returns-clause-keeps
returns-clause-keeps g c =
    let e = c.clock-at.ensures in
    look_keeps c.args.store.now c.args.self.now c.region-region.result.now c.index_mut-hold.result.now c.clock-at.new.hold c.args.colour
    c.requires.client c.region-region.ensures.there c.index_mut-hold.ensures.value e.hold e.others e.same e.look.0

pub returns-clause-clock : goal.returns-clause-clock
returns-clause-clock g c =
    let e = c.clock-at.ensures in
    e.clock ∙ ap clock (sym (look_seen c.args.store.now c.args.self.now c.region-region.result.now c.index_mut-hold.result.now c.clock-at.new.hold c.args.colour
    c.requires.client c.region-region.ensures.there c.index_mut-hold.ensures.value e.hold e.others e.same e.look.0))
