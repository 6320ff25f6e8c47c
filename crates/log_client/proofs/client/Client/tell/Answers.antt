use Rattle.std.proofs.Common.{List, refl, subst}
use Rattle.chain_store.specs.declared.region.Region.{Region}
use Rattle.log_client.specs.Ending.{AreHoldsIn}
use Rattle.log_client.proofs.Going.Growing.{grown_same}
use Rattle.log_client.proofs.Telling.TellingAll.{told_all}
use Rattle.log_client.proofs.Going.Everywhere.{client_along, finished_along, idle_along, nothing_along}
use Rattle.log_client.proofs.client.Client.tell.Goals as goal

pub returns-in_err-holds-clause-client : goal.returns-in_err-holds-clause-client
returns-in_err-holds-clause-client c =
    let s = c.args.store.now in
    let old = c.args.self.now in
    let e = c.tell_all.ensures.holds in
    client_along s old (record old { holds = c.tell_all.new.holds }) c.requires.client refl refl refl refl refl refl
    (subst (λ (l : List Region). AreHoldsIn l c.tell_all.new.holds.items) c.as_slice.ensures e.0)
    (told_all old.holds.items c.tell_all.new.holds.items e.1)

pub returns-in_err-holds-clause-finished : goal.returns-in_err-holds-clause-finished
returns-in_err-holds-clause-finished c =
    let s = c.args.store.now in
    let old = c.args.self.now in
    let e = c.tell_all.ensures.holds in
    finished_along s old (record old { holds = c.tell_all.new.holds }) c.requires.client refl refl refl refl refl refl
    (subst (λ (l : List Region). AreHoldsIn l c.tell_all.new.holds.items) c.as_slice.ensures e.0)
    (told_all old.holds.items c.tell_all.new.holds.items e.1)

pub returns-in_err-holds-clause-idle : goal.returns-in_err-holds-clause-idle
returns-in_err-holds-clause-idle c =
    let s = c.args.store.now in
    let old = c.args.self.now in
    let e = c.tell_all.ensures.holds in
    idle_along s old (record old { holds = c.tell_all.new.holds }) c.requires.client refl refl refl refl refl refl
    (subst (λ (l : List Region). AreHoldsIn l c.tell_all.new.holds.items) c.as_slice.ensures e.0)
    (told_all old.holds.items c.tell_all.new.holds.items e.1)

pub returns-in_err-holds-clause-nothing : goal.returns-in_err-holds-clause-nothing
returns-in_err-holds-clause-nothing c =
    let s = c.args.store.now in
    let old = c.args.self.now in
    let e = c.tell_all.ensures.holds in
    nothing_along s old (record old { holds = c.tell_all.new.holds }) c.requires.client refl refl refl refl refl refl
    (subst (λ (l : List Region). AreHoldsIn l c.tell_all.new.holds.items) c.as_slice.ensures e.0)
    (told_all old.holds.items c.tell_all.new.holds.items e.1)

pub returns-clause-client : goal.returns-clause-client
returns-clause-client c =
    let s = c.args.store.now in
    let old = c.args.self.now in
    let e = c.tell_all.ensures.holds in
    client_along s old (record old { holds = c.tell_all.new.holds }) c.requires.client refl refl refl refl refl refl
    (subst (λ (l : List Region). AreHoldsIn l c.tell_all.new.holds.items) c.as_slice.ensures e.0)
    (told_all old.holds.items c.tell_all.new.holds.items e.1)

pub returns-clause-finished : goal.returns-clause-finished
returns-clause-finished c =
    let s = c.args.store.now in
    let old = c.args.self.now in
    let e = c.tell_all.ensures.holds in
    finished_along s old (record old { holds = c.tell_all.new.holds }) c.requires.client refl refl refl refl refl refl
    (subst (λ (l : List Region). AreHoldsIn l c.tell_all.new.holds.items) c.as_slice.ensures e.0)
    (told_all old.holds.items c.tell_all.new.holds.items e.1)

pub returns-clause-idle : goal.returns-clause-idle
returns-clause-idle c =
    let s = c.args.store.now in
    let old = c.args.self.now in
    let e = c.tell_all.ensures.holds in
    idle_along s old (record old { holds = c.tell_all.new.holds }) c.requires.client refl refl refl refl refl refl
    (subst (λ (l : List Region). AreHoldsIn l c.tell_all.new.holds.items) c.as_slice.ensures e.0)
    (told_all old.holds.items c.tell_all.new.holds.items e.1)

pub returns-clause-nothing : goal.returns-clause-nothing
returns-clause-nothing c =
    let s = c.args.store.now in
    let old = c.args.self.now in
    let e = c.tell_all.ensures.holds in
    nothing_along s old (record old { holds = c.tell_all.new.holds }) c.requires.client refl refl refl refl refl refl
    (subst (λ (l : List Region). AreHoldsIn l c.tell_all.new.holds.items) c.as_slice.ensures e.0)
    (told_all old.holds.items c.tell_all.new.holds.items e.1)

pub returns-in_err-holds-clause-grows : goal.returns-in_err-holds-clause-grows
returns-in_err-holds-clause-grows c =
    grown_same c.args.self.now (record c.args.self.now { holds = c.tell_all.new.holds }) refl

pub returns-clause-grows : goal.returns-clause-grows
returns-clause-grows c =
    grown_same c.args.self.now (record c.args.self.now { holds = c.tell_all.new.holds }) refl
