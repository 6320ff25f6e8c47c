use Rattle.std.proofs.Common.{List, refl, subst}
use Rattle.chain_store.specs.declared.region.Region.{Region}
use Rattle.log_client.specs.Ending.{AreHoldsIn}
use Rattle.log_client.proofs.Going.Growing.{grown_same}
use Rattle.log_client.proofs.Telling.TellingAll.{heard_all}
use Rattle.log_client.proofs.Going.Everywhere.{client_along, all_gone_on, finished_along, idle_along, nothing_along}
use Rattle.log_client.proofs.client.Client.hear.Goals as goal

pub returns-clause-client : goal.returns-clause-client
returns-clause-client c =
    let s = c.args.store.now in
    let old = c.args.self.now in
    let holds = subst (λ (l : List Region). AreHoldsIn l c.hear_all.new.holds.items) c.as_slice.ensures c.hear_all.ensures.holds in
    client_along s old (record old { holds = c.hear_all.new.holds }) c.requires.client refl refl refl refl refl refl holds
    (heard_all s.regions old.holds.items c.args.note.holds.items c.hear_all.new.holds.items holds.0 c.requires.note.0
    c.hear_all.ensures.heard)

pub returns-clause-goes : goal.returns-clause-goes
returns-clause-goes c =
    let s = c.args.store.now in
    let old = c.args.self.now in
    let holds = subst (λ (l : List Region). AreHoldsIn l c.hear_all.new.holds.items) c.as_slice.ensures c.hear_all.ensures.holds in
    all_gone_on s old (record old { holds = c.hear_all.new.holds }) c.requires.client refl refl refl refl refl refl holds
    (heard_all s.regions old.holds.items c.args.note.holds.items c.hear_all.new.holds.items holds.0 c.requires.note.0
    c.hear_all.ensures.heard)

pub returns-clause-finished : goal.returns-clause-finished
returns-clause-finished c =
    let s = c.args.store.now in
    let old = c.args.self.now in
    let holds = subst (λ (l : List Region). AreHoldsIn l c.hear_all.new.holds.items) c.as_slice.ensures c.hear_all.ensures.holds in
    finished_along s old (record old { holds = c.hear_all.new.holds }) c.requires.client refl refl refl refl refl refl holds
    (heard_all s.regions old.holds.items c.args.note.holds.items c.hear_all.new.holds.items holds.0 c.requires.note.0
    c.hear_all.ensures.heard)

pub returns-clause-idle : goal.returns-clause-idle
returns-clause-idle c =
    let s = c.args.store.now in
    let old = c.args.self.now in
    let holds = subst (λ (l : List Region). AreHoldsIn l c.hear_all.new.holds.items) c.as_slice.ensures c.hear_all.ensures.holds in
    idle_along s old (record old { holds = c.hear_all.new.holds }) c.requires.client refl refl refl refl refl refl holds
    (heard_all s.regions old.holds.items c.args.note.holds.items c.hear_all.new.holds.items holds.0 c.requires.note.0
    c.hear_all.ensures.heard)

pub returns-clause-nothing : goal.returns-clause-nothing
returns-clause-nothing c =
    let s = c.args.store.now in
    let old = c.args.self.now in
    let holds = subst (λ (l : List Region). AreHoldsIn l c.hear_all.new.holds.items) c.as_slice.ensures c.hear_all.ensures.holds in
    nothing_along s old (record old { holds = c.hear_all.new.holds }) c.requires.client refl refl refl refl refl refl holds
    (heard_all s.regions old.holds.items c.args.note.holds.items c.hear_all.new.holds.items holds.0 c.requires.note.0
    c.hear_all.ensures.heard)

pub returns-clause-grows : goal.returns-clause-grows
returns-clause-grows c =
    grown_same c.args.self.now (record c.args.self.now { holds = c.hear_all.new.holds }) refl
