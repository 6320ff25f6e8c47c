use Rattle.std.proofs.Common.{◌≡◌, ◌<◌, ◌≤◌, ◌+◌, ◌++◌, ◌∷◌, [], ◌∙◌, ℕ, List, ap, sym, subst, refl, length, Some, Ok, Err, Result, arith}
use Rattle.std.specs.Prelude.{OnErr, slice_get}
use Rattle.log_node.specs.Seen.{PlacedNode}
use Rattle.log_node.specs.Vectors.{at as at_region}
use Rattle.log_node.proofs.CallerLemmas.{at-vector}
use Rattle.col_core.specs.declared.Entry.{Entry}
use Rattle.column.specs.Columns.{ColumnState, held_of, with_items}
use Rattle.stamp_board.specs.Seats.{column_seen}
use Rattle.std.specs.Vec.{with_item}
use Rattle.ring_ends.specs.declared.rings.Rings.{Rings}
use Rattle.ring_ends.specs.declared.receives.Receives.{Receives}
use Rattle.ring_ends.specs.Places.{ring_place}
use Rattle.ring_ends.specs.Givens.{OfTheirHeads}
use Rattle.chain_store.specs.declared.seated.Seated.{Seated}
use Rattle.chain_store.specs.Tags.{tag}
use Rattle.chain_store.specs.Columns.{told_carry, waiting_of}
use Rattle.chain_store.specs.Rings.{RingsFit}
use Rattle.chain_store.proofs.Moving.{StandsIn, carry_gains, items_keep, items_held}
use Rattle.chain_store.proofs.RingsGrow.{emptied, undrained, names_received, waiting_at}
use Rattle.chain_store.proofs.RingEnds.{receives_within, receives_there}
use Rattle.chain_store.proofs.seated.Seated.carry.Goals as goal

empty : {A : Type 0} (xs : List A) → length xs ≡ 0 → xs ≡ []
empty [] e = refl
empty (x ∷ xs) e = absurd (let f : ⊥ = omega (arith, e) in f)

-- how many nodes wait
counts : (s : Seated) (k region count : ℕ) (q : Receives) → k ≡ ring_place s.column.region region
    → slice_get s.rings.receives.items k ≡ Some q → count ≡ length q.waiting.items → count ≡ length (waiting_of s region)
counts s k region count q place at long =
    let w = ap length (waiting_at s.rings.receives.items k s.column.region region q place at) in omega (arith, long, w)

on_err : {T E : Type 0} (r : Result T E) (P : Type 0) → P → OnErr r P
on_err (Ok x) P p = tt
on_err (Err e) P p = p

pub index-requires : goal.index-requires
index-requires c =
    receives_within c.args.self.now c.place_of-place.result c.args.region c.requires.region c.requires.other
    (c.place_of-place.ensures ∙ ap (λ r. ring_place r c.args.region) c.region.ensures)

pub index_mut-requires : goal.index_mut-requires
index_mut-requires c =
    receives_within c.args.self.now c.place_of-place.result c.args.region c.requires.region c.requires.other
    (c.place_of-place.ensures ∙ ap (λ r. ring_place r c.args.region) c.region.ensures)

pub returns-in_err-take_over-clause-err : goal.returns-in_err-take_over-clause-err
returns-in_err-take_over-clause-err c =
    let s = c.args.self.now in
    let q = c.index_mut.result.now in
    let place = c.place_of-place.ensures ∙ ap (λ r. ring_place r c.args.region) c.region.ensures in
    let at = receives_there s c.place_of-place.result c.args.region c.requires.region c.requires.other place q
    c.index_mut.ensures.value in
    let r : Receives = record { consumer = q.consumer; waiting = c.take_over.new.items } in
    let after : Rings = record { sends = s.rings.sends; receives = with_item s.rings.receives c.place_of-place.result r } in
    let e = c.in_err-take_over.ensures.err in
    on_err c.from_residual.result _ (λ log st.
    subst (λ (d : ColumnState). StandsIn d s.seat after log) (sym e.0)
    (undrained s after c.place_of-place.result c.args.region place c.requires.region c.requires.other q r at refl
    refl refl refl e.1 log st))

pub returns-clause-tag : goal.returns-clause-tag
returns-clause-tag c =
    let s = c.args.self.now in
    let q = c.index_mut.result.now in
    let place = c.place_of-place.ensures ∙ ap (λ r. ring_place r c.args.region) c.region.ensures in
    let at = receives_there s c.place_of-place.result c.args.region c.requires.region c.requires.other place q
    c.index_mut.ensures.value in
    let r : Receives = record { consumer = q.consumer; waiting = c.take_over.new.items } in
    let after : Rings = record { sends = s.rings.sends; receives = with_item s.rings.receives c.place_of-place.result r } in
    let k = items_keep s.column c.take_over.new.self c.args.by c.args.region q.waiting.items
    c.in_ok-take_over.ensures.column in
    let names = names_received s.rings after c.place_of-place.result q r at refl refl refl in
    (λ i. tag (k.0 i) (k.1 i) (k.2 i) (column_seen s.seat).size s.seat.inner.table_id (names i))

pub returns-clause-few : goal.returns-clause-few
returns-clause-few c =
    let s = c.args.self.now in
    let place = c.place_of-place.ensures ∙ ap (λ r. ring_place r c.args.region) c.region.ensures in
    let seen = c.index.result.now in
    let counted : c.len-count.result ≡ length (waiting_of s c.args.region) =
    counts s c.place_of-place.result c.args.region c.len-count.result seen place
    (receives_there s c.place_of-place.result c.args.region c.requires.region c.requires.other place seen c.index.ensures)
    (let l = c.len-count.ensures in omega (arith, l)) in
    let few : c.args.region < 4 = omega (arith, c.agrees.ensures.few_regions, c.requires.region) in
    let held : c.of_region-held.result ≡ held_of s.column c.args.region =
    c.of_region-held.ensures ∙ ap (λ v. at_region v c.args.region) c.held.ensures
    ∙ at-vector (λ r. held_of s.column r) c.args.region few in
    let enough : c.args.least ≤ held_of s.column c.args.region + length (waiting_of s c.args.region) =
    (let sum = c.saturating_add.ensures in
    let f = c.if-saturating_add-least.false in
    let small = c.ranges.least.fits in omega (arith, held, counted, sum, f, small)) in (
      (λ is. absurd (let f : ⊥ = cc (is) in f)),
      (λ less. absurd (let f : ⊥ = omega (arith, enough, less) in f)),
    )

pub returns-clause-count : goal.returns-clause-count
returns-clause-count c =
    let s = c.args.self.now in
    let place = c.place_of-place.ensures ∙ ap (λ r. ring_place r c.args.region) c.region.ensures in
    let seen = c.index.result.now in
    let counted : c.len-count.result ≡ length (waiting_of s c.args.region) =
    counts s c.place_of-place.result c.args.region c.len-count.result seen place
    (receives_there s c.place_of-place.result c.args.region c.requires.region c.requires.other place seen c.index.ensures)
    (let l = c.len-count.ensures in omega (arith, l)) in
    counted

pub returns-clause-carried : goal.returns-clause-carried
returns-clause-carried c = λ count is some.
    let s = c.args.self.now in
    let region = c.args.region in
    let k = c.place_of-place.result in
    let q = c.index_mut.result.now in
    let new = c.take_over.new.self in
    let place = c.place_of-place.ensures ∙ ap (λ r. ring_place r c.args.region) c.region.ensures in
    let at = receives_there s c.place_of-place.result c.args.region c.requires.region c.requires.other place q
    c.index_mut.ensures.value in
    let r : Receives = record { consumer = q.consumer; waiting = c.take_over.new.items } in
    let after : Rings = record { sends = s.rings.sends; receives = with_item s.rings.receives c.place_of-place.result r } in
    let waits : waiting_of s c.args.region ≡ q.waiting.items =
    waiting_at s.rings.receives.items c.place_of-place.result s.column.region c.args.region q place at in
    let seen = c.index.result.now in
    let counted : c.len-count.result ≡ length (waiting_of s c.args.region) =
    counts s c.place_of-place.result c.args.region c.len-count.result seen place
    (receives_there s c.place_of-place.result c.args.region c.requires.region c.requires.other place seen c.index.ensures)
    (let l = c.len-count.ensures in omega (arith, l)) in
    let held = held_of s.column region in
    let n : c.len-count.result ≡ count = cc (is) in
    carry_gains s.column new s.seat s.rings c.args.by
    (subst (λ (l : List Entry). length l < 18446744073709551616) c.journal-few.ensures c.journal-few.type_inv.0)
    c.requires.maker after region (waiting_of s region) (omega (arith, some, n, counted))
    (subst (λ (l : List PlacedNode). new ≡ with_items s.column c.args.by region l) (sym waits)
    c.in_ok-take_over.ensures.column)
    (omega (arith, c.agrees.ensures.copies.of_each, c.agrees.ensures.few_regions, c.requires.region))
    (names_received s.rings after k q r at refl refl refl)
    (λ t log own regions f.
    subst (λ (l : List PlacedNode). OfTheirHeads region l
    × RingsFit t after (log ++ told_carry c.args.by region held l ∷ [])) (sym waits)
    (emptied s after k region place c.requires.region c.requires.other q r at refl refl refl t log c.args.by held
    own regions refl c.in_ok-take_over.ensures.left f))

pub returns-clause-covers : goal.returns-clause-covers
returns-clause-covers c =
    let s = c.args.self.now in
    let q = c.index_mut.result.now in
    let place = c.place_of-place.ensures ∙ ap (λ r. ring_place r c.args.region) c.region.ensures in
    let at = receives_there s c.place_of-place.result c.args.region c.requires.region c.requires.other place q
    c.index_mut.ensures.value in
    let r : Receives = record { consumer = q.consumer; waiting = c.take_over.new.items } in
    let after : Rings = record { sends = s.rings.sends; receives = with_item s.rings.receives c.place_of-place.result r } in
    let waits : waiting_of s c.args.region ≡ q.waiting.items =
    waiting_at s.rings.receives.items c.place_of-place.result s.column.region c.args.region q place at in
    let seen = c.index.result.now in
    let counted : c.len-count.result ≡ length (waiting_of s c.args.region) =
    counts s c.place_of-place.result c.args.region c.len-count.result seen place
    (receives_there s c.place_of-place.result c.args.region c.requires.region c.requires.other place seen c.index.ensures)
    (let l = c.len-count.ensures in omega (arith, l)) in
    let few : c.args.region < 4 = omega (arith, c.agrees.ensures.few_regions, c.requires.region) in
    let held : c.of_region-held.result ≡ held_of s.column c.args.region =
    c.of_region-held.ensures ∙ ap (λ v. at_region v c.args.region) c.held.ensures
    ∙ at-vector (λ r. held_of s.column r) c.args.region few in
    let enough : c.args.least ≤ held_of s.column c.args.region + length (waiting_of s c.args.region) =
    (let sum = c.saturating_add.ensures in
    let f = c.if-saturating_add-least.false in
    let small = c.ranges.least.fits in omega (arith, held, counted, sum, f, small)) in
    let long = items_held s.column c.take_over.new.self c.args.by c.args.region q.waiting.items
    c.in_ok-take_over.ensures.column c.requires.other in
    let w = ap length waits in omega (arith, enough, long, w)

pub returns-clause-nothing : goal.returns-clause-nothing
returns-clause-nothing c = λ is log st.
    let s = c.args.self.now in
    let q = c.index_mut.result.now in
    let zero : c.len-count.result ≡ 0 = cc (is) in
    let place = c.place_of-place.ensures ∙ ap (λ r. ring_place r c.args.region) c.region.ensures in
    let at = receives_there s c.place_of-place.result c.args.region c.requires.region c.requires.other place q
    c.index_mut.ensures.value in
    let r : Receives = record { consumer = q.consumer; waiting = c.take_over.new.items } in
    let after : Rings = record { sends = s.rings.sends; receives = with_item s.rings.receives c.place_of-place.result r } in
    let waits : waiting_of s c.args.region ≡ q.waiting.items =
    waiting_at s.rings.receives.items c.place_of-place.result s.column.region c.args.region q place at in
    let seen = c.index.result.now in
    let counted : c.len-count.result ≡ length (waiting_of s c.args.region) =
    counts s c.place_of-place.result c.args.region c.len-count.result seen place
    (receives_there s c.place_of-place.result c.args.region c.requires.region c.requires.other place seen c.index.ensures)
    (let l = c.len-count.ensures in omega (arith, l)) in
    let w = ap length waits in
    let none = empty q.waiting.items (omega (arith, zero, counted, w)) in
    let same : c.take_over.new.self ≡ s.column =
    c.in_ok-take_over.ensures.column ∙ ap (with_items s.column c.args.by c.args.region) none in
    subst (λ (d : ColumnState). StandsIn d s.seat after log) (sym same)
    (undrained s after c.place_of-place.result c.args.region place c.requires.region c.requires.other q r at refl
    refl refl refl (c.in_ok-take_over.ensures.left ∙ sym none) log st)
