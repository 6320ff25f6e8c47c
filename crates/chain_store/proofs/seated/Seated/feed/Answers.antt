use Rattle.std.proofs.Common.{◌∙◌, ap, refl}
use Rattle.std.proofs.lemmas.Result.{on_ok_weaker}
use Rattle.stamp_board.specs.Seats.{column_seen}
use Rattle.std.specs.Vec.{with_item}
use Rattle.ring_ends.specs.declared.rings.Rings.{Rings}
use Rattle.ring_ends.specs.Places.{ring_place}
use Rattle.ring_ends.specs.Rings.{RingNames}
use Rattle.chain_store.specs.Tags.{tag}
use Rattle.chain_store.specs.Rings.{IsFedFrom}
use Rattle.chain_store.proofs.RingsGrow.{fed, names_fed}
use Rattle.chain_store.proofs.RingEnds.{sends_within, sends_there, set_end}
use Rattle.chain_store.proofs.seated.Seated.feed.Goals as goal

pub index_mut-requires : goal.index_mut-requires
index_mut-requires c =
    sends_within c.args.self.now c.place_of-place.result c.args.region c.requires.region c.requires.other
    (c.place_of-place.ensures ∙ ap (λ r. ring_place r c.args.region) c.region.ensures)

pub returns-clause-tag : goal.returns-clause-tag
returns-clause-tag c =
    let s = c.args.self.now in
    let k = c.place_of-place.result in
    let q = c.index_mut.result.now in
    let r = c.send_line.new.sends in
    let after : Rings = record { sends = with_item s.rings.sends k r; receives = s.rings.receives } in
    ap (λ (n : RingNames). tag s.column.region s.column.colour s.column.regions (column_seen s.seat).size
    s.seat.inner.table_id n)
    (names_fed s.rings after k q r
    (sends_there s k c.args.region c.requires.region c.requires.other
    (c.place_of-place.ensures ∙ ap (λ r. ring_place r c.args.region) c.region.ensures) q c.index_mut.ensures.value)
    refl refl c.send_line.ensures.ring)

pub returns-clause-fed : goal.returns-clause-fed
returns-clause-fed c =
    let s = c.args.self.now in
    on_ok_weaker c.send_line.result
    (λ f ends at. set_end (IsFedFrom s.column) s.rings.sends.items c.place_of-place.result s.column.region c.args.region
    c.send_line.new.sends ends (c.place_of-place.ensures ∙ ap (λ r. ring_place r c.args.region) c.region.ensures) at f)
    c.send_line.ensures.fed

pub returns-clause-stays : goal.returns-clause-stays
returns-clause-stays c = λ log st.
    let s = c.args.self.now in
    let k = c.place_of-place.result in
    let q = c.index_mut.result.now in
    let g = c.send_line.ensures.gone in
    fed s _ k q c.send_line.new.sends g.0
    (sends_there s k c.args.region c.requires.region c.requires.other
    (c.place_of-place.ensures ∙ ap (λ r. ring_place r c.args.region) c.region.ensures) q c.index_mut.ensures.value)
    refl refl c.send_line.ensures.ring g.1 g.2 log st
