use Rattle.std.proofs.Common.{◌≡◌, ◌<◌, ◌∙◌, [], ap, sym, refl, length, append-nil, arith}
use Rattle.log_node.specs.Vectors.{at}
use Rattle.log_node.proofs.CallerLemmas.{at-vector}
use Rattle.column.specs.Columns.{held_of}
use Rattle.ring_ends.specs.declared.receives.Receives.{Receives}
use Rattle.ring_ends.specs.Givens.{BeginsOtherwise}
use Rattle.ring_ends.specs.Places.{ring_place}
use Rattle.ring_ends.specs.Rings.{left}
use Rattle.chain_store.proofs.RingsGrow.{drained, undrained, waiting_now}
use Rattle.chain_store.proofs.RingEnds.{receives_within, receives_there, set_end, waits_on}
use Rattle.chain_store.proofs.seated.Seated.drain.Goals as goal

pub index_mut-receives-requires : goal.index_mut-receives-requires
index_mut-receives-requires c =
    receives_within c.args.self.now c.place_of-place.result c.args.region c.requires.region c.requires.other
    (c.place_of-place.ensures ∙ ap (λ r. ring_place r c.args.region) c.region.ensures)

pub returns-in_err-receive-clause-waiting : goal.returns-in_err-receive-clause-waiting
returns-in_err-receive-clause-waiting c =
    let s = c.args.self.now in
    let k = c.place_of-place.result in
    let q = c.index_mut-receives.result.now in
    waits_on s.rings.receives.items k s.column.region c.args.region q c.receive.new.self []
    (c.place_of-place.ensures ∙ ap (λ r. ring_place r c.args.region) c.region.ensures)
    (receives_there s k c.args.region c.requires.region c.requires.other
    (c.place_of-place.ensures ∙ ap (λ r. ring_place r c.args.region) c.region.ensures) q c.index_mut-receives.ensures.value)
    (c.in_err-receive.ensures.err.1 ∙ sym (append-nil q.waiting.items))

pub returns-in_err-receive-clause-stays : goal.returns-in_err-receive-clause-stays
returns-in_err-receive-clause-stays c = λ log st.
    let s = c.args.self.now in
    let k = c.place_of-place.result in
    let q = c.index_mut-receives.result.now in
    undrained s _ k c.args.region (c.place_of-place.ensures ∙ ap (λ r. ring_place r c.args.region) c.region.ensures)
    c.requires.region c.requires.other q c.receive.new.self
    (receives_there s k c.args.region c.requires.region c.requires.other
    (c.place_of-place.ensures ∙ ap (λ r. ring_place r c.args.region) c.region.ensures) q c.index_mut-receives.ensures.value)
    refl refl c.receive.ensures.ring c.in_err-receive.ensures.err.0 c.in_err-receive.ensures.err.1 log st

pub returns-in_default-clause-waiting : goal.returns-in_default-clause-waiting
returns-in_default-clause-waiting c =
    let s = c.args.self.now in
    let k = c.place_of-place.result in
    let q = c.index_mut-receives.result.now in
    let ok = c.in_ok-receive.ensures.ok in
    waits_on s.rings.receives.items k s.column.region c.args.region q c.receive.new.self ok.0
    (c.place_of-place.ensures ∙ ap (λ r. ring_place r c.args.region) c.region.ensures)
    (receives_there s k c.args.region c.requires.region c.requires.other
    (c.place_of-place.ensures ∙ ap (λ r. ring_place r c.args.region) c.region.ensures) q c.index_mut-receives.ensures.value) ok.2

pub returns-in_default-clause-stays : goal.returns-in_default-clause-stays
returns-in_default-clause-stays c = λ log st.
    let s = c.args.self.now in
    let k = c.place_of-place.result in
    let q = c.index_mut-receives.result.now in
    let ok = c.in_ok-receive.ensures.ok in
    drained s _ k c.args.region (c.place_of-place.ensures ∙ ap (λ r. ring_place r c.args.region) c.region.ensures)
    c.requires.region c.requires.other q c.receive.new.self
    (receives_there s k c.args.region c.requires.region c.requires.other
    (c.place_of-place.ensures ∙ ap (λ r. ring_place r c.args.region) c.region.ensures) q c.index_mut-receives.ensures.value)
    refl refl c.receive.ensures.ring ok.0 ok.1 ok.2 ok.3 log st

pub returns-clause-count : goal.returns-clause-count
returns-clause-count c =
    let s = c.args.self.now in
    let region = c.args.region in
    let k = c.place_of-place.result in
    let q = c.index_mut-receives.result.now in
    let few : region < 4 = omega (arith, c.agrees.ensures.few_regions, c.requires.region) in
    let held : c.of_region-held.result ≡ held_of s.column region =
    c.of_region-held.ensures ∙ ap (λ v. at v region) c.held.ensures ∙ at-vector (λ r. held_of s.column r) region few in
    let waits = waiting_now s.rings.receives.items k s.column.region region q c.receive.new.self
    (c.place_of-place.ensures ∙ ap (λ r. ring_place r region) c.region.ensures)
    (receives_there s k c.args.region c.requires.region c.requires.other
    (c.place_of-place.ensures ∙ ap (λ r. ring_place r c.args.region) c.region.ensures) q c.index_mut-receives.ensures.value) in
    let long = ap length waits in
    let sum = c.in-Some.ensures.1 in
    let l = c.len.ensures in
    omega (arith, held, long, sum, l)

pub returns-clause-all : goal.returns-clause-all
returns-clause-all c = λ ends at.
    let s = c.args.self.now in
    set_end (λ (r : Receives). BeginsOtherwise c.args.region (left r)) s.rings.receives.items c.place_of-place.result
    s.column.region c.args.region c.receive.new.self ends
    (c.place_of-place.ensures ∙ ap (λ r. ring_place r c.args.region) c.region.ensures) at c.in_ok-receive.ensures.all

pub returns-clause-waiting : goal.returns-clause-waiting
returns-clause-waiting c =
    let s = c.args.self.now in
    let k = c.place_of-place.result in
    let q = c.index_mut-receives.result.now in
    let ok = c.in_ok-receive.ensures.ok in
    waits_on s.rings.receives.items k s.column.region c.args.region q c.receive.new.self ok.0
    (c.place_of-place.ensures ∙ ap (λ r. ring_place r c.args.region) c.region.ensures)
    (receives_there s k c.args.region c.requires.region c.requires.other
    (c.place_of-place.ensures ∙ ap (λ r. ring_place r c.args.region) c.region.ensures) q c.index_mut-receives.ensures.value) ok.2

pub returns-clause-stays : goal.returns-clause-stays
returns-clause-stays c = λ log st.
    let s = c.args.self.now in
    let k = c.place_of-place.result in
    let q = c.index_mut-receives.result.now in
    let ok = c.in_ok-receive.ensures.ok in
    drained s _ k c.args.region (c.place_of-place.ensures ∙ ap (λ r. ring_place r c.args.region) c.region.ensures)
    c.requires.region c.requires.other q c.receive.new.self
    (receives_there s k c.args.region c.requires.region c.requires.other
    (c.place_of-place.ensures ∙ ap (λ r. ring_place r c.args.region) c.region.ensures) q c.index_mut-receives.ensures.value)
    refl refl c.receive.ensures.ring ok.0 ok.1 ok.2 ok.3 log st
