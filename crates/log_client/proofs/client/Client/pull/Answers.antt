use Rattle.std.proofs.Common.{refl}
use Rattle.log_client.proofs.Going.Growing.{grown_same}
use Rattle.log_client.proofs.Pull.PullCalls.{call_client, call_goes, call_finished, call_idle, call_ok, call_err, hold_there}
use Rattle.log_client.proofs.client.Client.pull.Goals as goal

pub pull_between-requires-clause-from_hold : goal.pull_between-requires-clause-from_hold
pull_between-requires-clause-from_hold g c =
    hold_there c.args.store.now c.args.self.now c.requires.client c.args.from c.region-other.result.now
    c.region-other.ensures.there c.requires.from

pub pull_between-requires-clause-to_hold : goal.pull_between-requires-clause-to_hold
pull_between-requires-clause-to_hold g c =
    hold_there c.args.store.now c.args.self.now c.requires.client c.args.self.now.region c.region-own.result.now
    c.region-own.ensures.there c.requires.client.region

pub returns-clause-client : goal.returns-clause-client
returns-clause-client g c =
    call_client c.args.store.now c.args.self.now (record c.args.self.now { holds = c.pull_between.new.holds }) c.requires.client refl
    refl refl refl refl refl c.args.from c.args.colour c.region-other.result.now c.region-own.result.now
    c.region-other.ensures.there c.region-own.ensures.there c.requires.colour c.pull_between.result c.pull_between.ensures.ok
    c.pull_between.ensures.err

pub returns-clause-goes : goal.returns-clause-goes
returns-clause-goes g c =
    call_goes c.args.store.now c.args.self.now (record c.args.self.now { holds = c.pull_between.new.holds }) c.requires.client refl
    refl refl refl refl refl c.args.from c.args.colour c.region-other.result.now c.region-own.result.now
    c.region-other.ensures.there c.region-own.ensures.there c.requires.colour c.pull_between.result c.pull_between.ensures.ok
    c.pull_between.ensures.err

pub returns-clause-finished : goal.returns-clause-finished
returns-clause-finished g c =
    call_finished c.args.store.now c.args.self.now (record c.args.self.now { holds = c.pull_between.new.holds }) c.requires.client refl
    refl refl refl refl refl c.args.from c.args.colour c.region-other.result.now c.region-own.result.now
    c.region-other.ensures.there c.region-own.ensures.there c.requires.colour c.pull_between.result c.pull_between.ensures.ok
    c.pull_between.ensures.err

pub returns-clause-idle : goal.returns-clause-idle
returns-clause-idle g c =
    call_idle c.args.store.now c.args.self.now (record c.args.self.now { holds = c.pull_between.new.holds }) c.requires.client refl
    refl refl refl refl refl c.args.from c.args.colour c.region-other.result.now c.region-own.result.now
    c.region-other.ensures.there c.region-own.ensures.there c.requires.colour c.pull_between.result c.pull_between.ensures.ok
    c.pull_between.ensures.err

pub returns-clause-ok : goal.returns-clause-ok
returns-clause-ok g c =
    call_ok c.args.store.now c.args.self.now (record c.args.self.now { holds = c.pull_between.new.holds }) c.requires.client refl
    refl refl refl refl refl c.args.from c.args.colour c.region-other.result.now c.region-own.result.now
    c.region-other.ensures.there c.region-own.ensures.there c.requires.colour c.pull_between.result c.pull_between.ensures.ok
    c.pull_between.ensures.err

pub returns-clause-err : goal.returns-clause-err
returns-clause-err g c =
    call_err c.args.store.now c.args.self.now (record c.args.self.now { holds = c.pull_between.new.holds }) c.requires.client refl
    refl refl refl refl refl c.args.from c.args.colour c.region-other.result.now c.region-own.result.now
    c.region-other.ensures.there c.region-own.ensures.there c.requires.colour c.pull_between.result c.pull_between.ensures.ok
    c.pull_between.ensures.err

pub returns-clause-grows : goal.returns-clause-grows
returns-clause-grows g c =
    grown_same c.args.self.now (record c.args.self.now { holds = c.pull_between.new.holds }) refl
