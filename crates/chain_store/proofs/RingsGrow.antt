-- What a column's rings stand for where its history is longer, or where nodes have gone through a ring.
use Rattle.std.proofs.Common.{◌≡◌, ◌≢◌, ℕ, zero, suc, ◌+◌, ◌-◌, ◌<◌, ◌≤◌, List, [], ◌∷◌, ◌++◌, length, map, Some, refl, ap, sym, subst, ◌∙◌, arith, inl, inr, ◌⊎◌, append_assoc, append-nil, eq-eqb}
use Rattle.std.specs.Prelude.{◌==◌, nat_lt, slice_get, slice_set}
use mathlib.Core.List.{IsPrefix}
use Rattle.std.proofs.lemmas.Bool.{cases_eq, eqb-true, ltb-true, ltb-false, ne_eqb}
use Rattle.std.proofs.lemmas.List.{map-append}
use Rattle.std.proofs.lemmas.Grind.{flat_map-append}
use Rattle.log_node.specs.declared.node.Head.{Head}
use Rattle.log_node.specs.declared.node.Node.{Node}
use Rattle.log_node.specs.Seen.{PlacedNode}
use Rattle.col_core.specs.declared.Entry.{Entry}
use Rattle.col_core.specs.Cuts.{Dated, carried, chain}
use Rattle.col_core.specs.Computed.{dated}
use Rattle.col_core.specs.Legal.{IsColumnHistory}
use Rattle.col_core.proofs.CallerLemmas.{by_test, if_true, if_false, chains_grow, dates_longer, later}
use Rattle.log_node.specs.declared.ids.Key.{Key}
use Rattle.column.specs.Entering.{EnteredNode}
use Rattle.column.specs.Columns.{ColumnState, chains_of, placed, HasStored}
use Rattle.atomic_table.specs.Seated.{TableId}
use Rattle.stamp_board.specs.declared.view.Size.{Size}
use Rattle.ring_ends.specs.declared.rings.Rings.{Rings}
use Rattle.ring_ends.specs.declared.sends.Sends.{Sends}
use Rattle.ring_ends.specs.declared.receives.Receives.{Receives}
use Rattle.ring_ends.specs.Rings.{RingName, RingNames, gone, got, ring_sent, ring_received, names_of}
use Rattle.ring_ends.specs.Places.{ring_place}
use Rattle.ring_ends.specs.Givens.{OfTheirHeads}
use Rattle.chain_store.specs.declared.told.Tag.{Tag}
use Rattle.chain_store.specs.declared.told.Told.{Told}
use Rattle.chain_store.specs.Tags.{tag}
use Rattle.chain_store.specs.Histories.{entries_in}
use Rattle.stamp_board.specs.Seats.{column_seen}
use Rattle.chain_store.specs.declared.seated.Seated.{Seated}
use Rattle.chain_store.specs.Marks.{IsBacked}
use Rattle.chain_store.specs.Columns.{IsOfHistory, Stands, tag_of, told_carry, waiting_in}
use Rattle.chain_store.specs.Rings.{under, carried_from, AreNextOwn, AreSent, AreReceived, RingsFit}
use Rattle.chain_store.proofs.Entering.{enters_more}

-- the entry carries nothing
abbrev pub CarriesNone : Told → Type 0
CarriesNone t = (region : ℕ) → under (carried region t.entry.event) t.nodes ≡ []

pub carried_with : (region : ℕ) (log : List Told) (t : Told)
    → carried_from region (log ++ t ∷ []) ≡ carried_from region log ++ under (carried region t.entry.event) t.nodes
carried_with region log t =
    flat_map-append (λ (u : Told). under (carried region u.entry.event) u.nodes) log (t ∷ [])
    ∙ ap (λ (l : List PlacedNode). carried_from region log ++ l) (append-nil (under (carried region t.entry.event) t.nodes))

-- the nodes under their heads
pub under_own : (items : List PlacedNode) → under (map (λ (i : PlacedNode). i.head) items) (map (λ (i : PlacedNode). i.node) items) ≡ items
under_own [] = refl
under_own (i ∷ is) = ap (λ (l : List PlacedNode). i ∷ l) (under_own is)

-- what was sent is so for a longer history
pub sent_more : (t : Tag) (log more : List Told) (items : List PlacedNode) → AreSent t log items → AreSent t (log ++ more) items
sent_more t log more items a = record {
  begins = λ whole grows lawful.
      a.begins whole (more ++ grows.0, sym (append_assoc log more grows.0) ∙ grows.1) lawful;
  entered = λ n i at. enters_more log more i.head.key.id i.node (a.entered n i at);
}

-- what was received is so for a history that carried nothing more of the region
pub received_more : (region : ℕ) (log : List Told) (t : Told) (r : Receives)
    → under (carried region t.entry.event) t.nodes ≡ [] → AreReceived region log r → AreReceived region (log ++ t ∷ []) r
received_more region log t r none a = record {
  carried = a.carried
      ∙ ap (λ (l : List PlacedNode). l ++ r.waiting.items)
      (sym (carried_with region log t
      ∙ ap (λ (l : List PlacedNode). carried_from region log ++ l) none
      ∙ append-nil (carried_from region log)));
  heads = a.heads;
}

-- rings fit a history with one entry more that carries nothing
pub fit_more : (t : Tag) (rings : Rings) (log : List Told) (u : Told) → CarriesNone u → RingsFit t rings log
    → RingsFit t rings (log ++ u ∷ [])
fit_more t rings log u none f = record {
  sent = λ n s at. sent_more t log (u ∷ []) (gone s) (f.sent n s at);
  received = λ region r few other at. received_more region log u r (none region) (f.received region r few other at);
}

-- the same beside what a column became that is of the same region, colour and regions
pub fit_entered : (column new : ColumnState) (size : Size) (board : TableId) (rings : Rings) (log : List Told) (u : Told)
    → new.region ≡ column.region → new.colour ≡ column.colour → new.regions ≡ column.regions → CarriesNone u
    → RingsFit (tag column.region column.colour column.regions size board (names_of rings)) rings log
    → RingsFit (tag new.region new.colour new.regions size board (names_of rings)) rings (log ++ u ∷ [])
fit_entered column new size board rings log u region colour regions none f =
    let names = names_of rings in
    let same : tag new.region new.colour new.regions size board names
    ≡ tag column.region column.colour column.regions size board names =
    λ i. tag (region i) (colour i) (regions i) size board names in
    subst (λ (t : Tag). RingsFit t rings (log ++ u ∷ [])) (sym same) (fit_more _ rings log u none f)

-- places of other regions differ
pub place_apart : (own a b : ℕ) → a ≢ own → b ≢ own → ring_place own a ≡ ring_place own b → a ≡ b
place_apart own a b na nb same =
    by_test (a ≡ b) (nat_lt a own)
    (λ la. by_test (a ≡ b) (nat_lt b own)
    (λ lb. sym (if_true (nat_lt a own) a (a - 1) la) ∙ same ∙ if_true (nat_lt b own) b (b - 1) lb)
    (λ gb. absurd (let lt = ltb-true a own la in let le = ltb-false b own gb in
    let e : a ≡ b - 1 = sym (if_true (nat_lt a own) a (a - 1) la) ∙ same ∙ if_false (nat_lt b own) b (b - 1) gb in
    nb (omega (arith, lt, le, e)))))
    (λ ga. by_test (a ≡ b) (nat_lt b own)
    (λ lb. absurd (let lt = ltb-true b own lb in let le = ltb-false a own ga in
    let e : a - 1 ≡ b = sym (if_false (nat_lt a own) a (a - 1) ga) ∙ same ∙ if_true (nat_lt b own) b (b - 1) lb in
    na (omega (arith, lt, le, e))))
    (λ gb.
    let lea = ltb-false a own ga in
    let leb = ltb-false b own gb in
    let e : a - 1 ≡ b - 1 = sym (if_false (nat_lt a own) a (a - 1) ga) ∙ same ∙ if_false (nat_lt b own) b (b - 1) gb in
    by_test (a ≡ b) (a == own)
    (λ is. absurd (na (eqb-true a own is)))
    (λ more. by_test (a ≡ b) (b == own)
    (λ is. absurd (nb (eqb-true b own is)))
    (λ over. above lea leb e (λ is. na is) (λ is. nb is))))) where
      above : own ≤ a → own ≤ b → a - 1 ≡ b - 1 → (a ≡ own → ⊥) → (b ≡ own → ⊥) → a ≡ b
      above lea leb e na nb = omega (arith, lea, leb, e, na, nb)

module _ {A : Type 0} where
  -- the set place of a list, and the others
  pub set_there : (xs : List A) (k : ℕ) (x y : A) → slice_get (slice_set xs k x) k ≡ Some y → x ≡ y
  set_there [] k x y e = absurd (let f : ⊥ = cc (e) in f)
  set_there (z ∷ xs) zero x y e = let f : x ≡ y = cc (e) in f
  set_there (z ∷ xs) (suc k) x y e = set_there xs k x y e

  pub set_apart : (xs : List A) (k n : ℕ) (x : A) → n ≢ k → slice_get (slice_set xs k x) n ≡ slice_get xs n
  set_apart [] k n x ne = refl
  set_apart (z ∷ xs) zero zero x ne = absurd (ne refl)
  set_apart (z ∷ xs) zero (suc n) x ne = refl
  set_apart (z ∷ xs) (suc k) zero x ne = refl
  set_apart (z ∷ xs) (suc k) (suc n) x ne = set_apart xs k n x (λ e. ne (ap suc e))

  -- a function's values are as they were where its value at the set place is
  pub map_set : {B : Type 0} (f : A → B) (xs : List A) (k : ℕ) (x y : A) → slice_get xs k ≡ Some x → f y ≡ f x
      → map f (slice_set xs k y) ≡ map f xs
  map_set {B} f [] k x y e same = refl
  map_set {B} f (z ∷ xs) zero x y e same =
      ap (λ (b : B). b ∷ map f xs) (same ∙ (let g : x ≡ z = cc (e) in ap f g))
  map_set {B} f (z ∷ xs) (suc k) x y e same = ap (λ (l : List B). f z ∷ l) (map_set f xs k x y e same)

-- rings of which one other end receives
pub fit_received : (t : Tag) (old new : Rings) (log grown : List Told) (region : ℕ) (r : Receives) → region ≢ t.region
    → new.sends.items ≡ old.sends.items
    → new.receives.items ≡ slice_set old.receives.items (ring_place t.region region) r
    → ((items : List PlacedNode) → AreSent t log items → AreSent t grown items)
    → ((other : ℕ) (q : Receives) → other ≢ region → AreReceived other log q → AreReceived other grown q)
    → AreReceived region grown r → RingsFit t old log → RingsFit t new grown
fit_received t old new log grown region r apart sends receives sent others here f = record {
  sent = λ n s at. sent (gone s) (f.sent n s (ap (λ (l : List Sends). slice_get l n) (sym sends) ∙ at));
  received = λ other q few ne at.
      let there = ap (λ (l : List Receives). slice_get l (ring_place t.region other)) (sym receives) ∙ at in
      elim (cases_eq other region) [
        | inl is ↦
            let one : r ≡ q = set_there old.receives.items (ring_place t.region region) r q
            (ap (λ (k : ℕ). slice_get (slice_set old.receives.items (ring_place t.region region) r) (ring_place t.region k))
            (sym is) ∙ there) in
            subst (λ (x : Receives). AreReceived other grown x) one
            (subst (λ (k : ℕ). AreReceived k grown r) (sym is) here)
        | inr differ ↦
            others other q differ
            (f.received other q few ne
            (sym (set_apart old.receives.items (ring_place t.region region) (ring_place t.region other) r
            (λ e. differ (place_apart t.region other region ne apart e))) ∙ there))
      ];
}

-- more was received
pub fit_drained : (t : Tag) (old new : Rings) (log : List Told) (region : ℕ) (q r : Receives) (more : List PlacedNode)
    → region < t.regions → region ≢ t.region → slice_get old.receives.items (ring_place t.region region) ≡ Some q
    → new.sends.items ≡ old.sends.items
    → new.receives.items ≡ slice_set old.receives.items (ring_place t.region region) r
    → got r ≡ got q ++ more → r.waiting.items ≡ q.waiting.items ++ more → OfTheirHeads region more
    → RingsFit t old log → RingsFit t new log
fit_drained t old new log region q r more few apart at sends receives out kept heads f =
    let a = f.received region q few apart at in
    fit_received t old new log log region r apart sends receives (λ items s. s) (λ other x differ s. s) (record {
      carried = out ∙ ap (λ (l : List PlacedNode). l ++ more) a.carried
          ∙ append_assoc (carried_from region log) q.waiting.items more
          ∙ ap (λ (l : List PlacedNode). carried_from region log ++ l) (sym kept);
      heads = subst (OfTheirHeads region) (sym kept) (joined q.waiting.items more a.heads heads);
    }) f where
      joined : (xs ys : List PlacedNode) → OfTheirHeads region xs → OfTheirHeads region ys → OfTheirHeads region (xs ++ ys)
      joined [] ys hx hy n i e = hy n i e
      joined (x ∷ xs) ys hx hy zero i e = hx zero i e
      joined (x ∷ xs) ys hx hy (suc n) i e = joined xs ys (λ m. hx (suc m)) hy n i e

-- all that waited was carried
pub fit_carried : (t : Tag) (old new : Rings) (log : List Told) (by region start : ℕ) (q r : Receives)
    → region < t.regions → region ≢ t.region → slice_get old.receives.items (ring_place t.region region) ≡ Some q
    → new.sends.items ≡ old.sends.items
    → new.receives.items ≡ slice_set old.receives.items (ring_place t.region region) r
    → got r ≡ got q → r.waiting.items ≡ []
    → RingsFit t old log → RingsFit t new (log ++ told_carry by region start q.waiting.items ∷ [])
fit_carried t old new log by region start q r few apart at sends receives out none f =
    let a = f.received region q few apart at in
    let u = told_carry by region start q.waiting.items in
    let heads : List Head = map (λ (i : PlacedNode). i.head) q.waiting.items in
    let nodes : List Node = map (λ (i : PlacedNode). i.node) q.waiting.items in
    fit_received t old new log (log ++ u ∷ []) region r apart sends receives (λ items s. sent_more t log (u ∷ []) items s)
    (λ other x differ s. received_more other log u x
    (ap (λ (l : List Head). under l nodes)
    (if_false (region == other) heads [] (ne_eqb region other (λ e. differ (sym e))))) s)
    (record {
      carried = out ∙ a.carried
          ∙ ap (λ (l : List PlacedNode). carried_from region log ++ l)
          (sym (ap (λ (l : List Head). under l nodes) (if_true (region == region) heads [] (eq-eqb region region refl))
          ∙ under_own q.waiting.items))
          ∙ sym (carried_with region log u)
          ∙ sym (append-nil (carried_from region (log ++ u ∷ [])))
          ∙ ap (λ (l : List PlacedNode). carried_from region (log ++ u ∷ []) ++ l) (sym none);
      heads = subst (OfTheirHeads region) (sym none) (λ n i e. absurd (let g : ⊥ = cc (e) in g));
    }) f

-- what is at its places in a list, behind a beginning of it, is a longer beginning
pub prefix_on : {A : Type 0} (xs ys zs : List A) → IsPrefix xs zs
    → ((n m : ℕ) (y : A) → m ≡ length xs + n → slice_get ys n ≡ Some y → slice_get zs m ≡ Some y) → IsPrefix (xs ++ ys) zs
prefix_on {A} [] [] zs p there = (zs, refl)
prefix_on {A} [] (y ∷ ys) [] p there = absurd (let e = there 0 0 y (omega arith) refl in let f : ⊥ = cc (e) in f)
prefix_on {A} [] (y ∷ ys) (z ∷ zs) p there =
    let same : z ≡ y = (let e = there 0 0 y (omega arith) refl in cc (e)) in
    let rest = prefix_on [] ys zs (zs, refl) (λ n m w is e. there (suc n) (suc m) w (omega (arith, is)) e) in
    (rest.0, ap (λ (l : List A). y ∷ l) rest.1 ∙ ap (λ (w : A). w ∷ zs) (sym same))
prefix_on {A} (x ∷ xs) ys [] p there = absurd (let e = p.1 in let f : ⊥ = cc (e) in f)
prefix_on {A} (x ∷ xs) ys (z ∷ zs) p there =
    let same : x ≡ z = (let e = p.1 in cc (e)) in
    let more : xs ++ p.0 ≡ zs = (let e = p.1 in cc (e)) in
    let rest = prefix_on xs ys zs (p.0, more) (λ n m w is e. there n (suc m) w (omega (arith, is)) e) in
    (rest.0, ap (λ (l : List A). x ∷ l) rest.1 ∙ ap (λ (w : A). w ∷ zs) same)

-- the own chain of a history is a beginning of that of a lawful longer one
pub own_grows : (t : Tag) (log whole : List Told) → IsPrefix log whole
    → IsColumnHistory t.region t.regions (dated t.region (entries_in whole))
    → IsPrefix (chain t.region (dated t.region (entries_in log)) t.region)
    (chain t.region (dated t.region (entries_in whole)) t.region)
own_grows t log whole p lawful =
    let own = t.region in
    let old : List Entry = entries_in log in
    let more : List Entry = entries_in p.0 in
    let split : entries_in whole ≡ old ++ more = ap entries_in (sym p.1) ∙ map-append (λ (u : Told). u.entry) log p.0 in
    let dates : dated own (entries_in whole) ≡ dated own old ++ later own (dated own old) more =
    ap (dated own) split ∙ dates_longer own old more in
    subst (λ (l : List Dated). IsPrefix (chain own (dated own old) own) (chain own l own)) (sym dates)
    (chains_grow own t.regions (dated own old) (later own (dated own old) more)
    (subst (IsColumnHistory own t.regions) dates lawful) own)

-- a place of a column's own chain is so in the history for which it stands
own_place : (column : ColumnState) (t : Tag) (clients : ℕ) (log : List Told) (n : ℕ) (h : Head) → column.region ≡ t.region
    → IsOfHistory column clients log → slice_get (chains_of column column.region) n ≡ Some h
    → slice_get (chain t.region (dated t.region (entries_in log)) t.region) n ≡ Some h
own_place column t clients log n h region of at =
    subst (λ (k : ℕ). slice_get (chain k (dated k (entries_in log)) k) n ≡ Some h) region
    (subst (λ (l : List Entry). slice_get (chain column.region (dated column.region l) column.region) n ≡ Some h) of.same at)

-- more own nodes were sent, the next ones
pub sent_on : (column : ColumnState) (t : Tag) (clients : ℕ) (log : List Told) (items more : List PlacedNode)
    → column.region ≡ t.region → IsOfHistory column clients log → AreNextOwn column (length items) more
    → AreSent t log items → AreSent t log (items ++ more)
sent_on column t clients log items more region of next a = record {
  begins = λ whole grows lawful.
      longer (chain t.region (dated t.region (entries_in whole)) t.region) (own_grows t log whole grows lawful)
      (a.begins whole grows lawful);
  entered = λ n i at. elim (split_at items more n i at) [
    | inl old ↦ a.entered n i old
    | inr new ↦ of.stored i.head.key i.node (next new.0 i new.1).1
  ];
} where
  length_map : (l : List PlacedNode) → length (map (λ (i : PlacedNode). i.head) l) ≡ length l
  length_map [] = refl
  length_map (x ∷ xs) = ap (λ (n : ℕ). suc n) (length_map xs)

  mapped : (l : List PlacedNode) (n : ℕ) (h : Head) → slice_get (map (λ (i : PlacedNode). i.head) l) n ≡ Some h
      → (i : PlacedNode) × (slice_get l n ≡ Some i) × (i.head ≡ h)
  mapped [] n h e = absurd (let f : ⊥ = cc (e) in f)
  mapped (x ∷ xs) zero h e = (x, refl, (let f : x.head ≡ h = cc (e) in f))
  mapped (x ∷ xs) (suc n) h e = mapped xs n h e

  get_front : (xs ys : List Head) (n : ℕ) (h : Head) → slice_get xs n ≡ Some h → slice_get (xs ++ ys) n ≡ Some h
  get_front [] ys n h e = absurd (let f : ⊥ = cc (e) in f)
  get_front (x ∷ xs) ys zero h e = e
  get_front (x ∷ xs) ys (suc n) h e = get_front xs ys n h e

  split_at : (xs ys : List PlacedNode) (n : ℕ) (y : PlacedNode) → slice_get (xs ++ ys) n ≡ Some y
      → (slice_get xs n ≡ Some y) ⊎ ((m : ℕ) × (slice_get ys m ≡ Some y))
  split_at [] ys n y e = inr (n, e)
  split_at (z ∷ xs) ys zero y e = inl e
  split_at (z ∷ xs) ys (suc n) y e = split_at xs ys n y e

  head_at : (i : PlacedNode) (n : ℕ) (h : Head) → slice_get more n ≡ Some i → i.head ≡ h
      → slice_get (chain t.region (dated t.region (entries_in log)) t.region) (length items + n) ≡ Some h
  head_at i n h at is =
      subst (λ (x : Head). slice_get (chain t.region (dated t.region (entries_in log)) t.region) (length items + n) ≡ Some x)
      is (own_place column t clients log (length items + n) i.head region of (next n i at).0)

  longer : (long : List Head) → IsPrefix (chain t.region (dated t.region (entries_in log)) t.region) long
      → IsPrefix (map (λ (i : PlacedNode). i.head) items) long
      → IsPrefix (map (λ (i : PlacedNode). i.head) (items ++ more)) long
  longer long g front =
      subst (λ (l : List Head). IsPrefix l long) (sym (map-append (λ (i : PlacedNode). i.head) items more))
      (prefix_on (map (λ (i : PlacedNode). i.head) items) (map (λ (i : PlacedNode). i.head) more) long front
      (λ n m h is at.
      let w = mapped more n h at in
      let place : m ≡ length items + n = (let e = length_map items in omega (arith, is, e)) in
      subst (λ (k : ℕ). slice_get long k ≡ Some h) (sym place)
      (subst (λ (l : List Head). slice_get l (length items + n) ≡ Some h) g.1
      (get_front (chain t.region (dated t.region (entries_in log)) t.region) g.0 (length items + n) h
      (head_at w.0 n h w.1 w.2)))))

-- one more that comes next
pub next_more : (column : ColumnState) (start place : ℕ) (more : List PlacedNode) (key : Key) (e : EnteredNode) (i : PlacedNode)
    → place ≡ start + length more
    → slice_get (chains_of column column.region) place ≡ Some (record { key = key; needs = e.needs })
    → HasStored column key e.node → i ≡ placed key e → AreNextOwn column start more
    → AreNextOwn column start (more ++ i ∷ [])
next_more column start place more key e i is there stored of next n x at = elim (last_or more i n x at) [
  | inl old ↦ next n x old
  | inr new ↦
      subst (λ (y : PlacedNode). (slice_get (chains_of column column.region) (start + n) ≡ Some y.head)
      × HasStored column y.head.key y.node) (sym of ∙ new.0)
      (ap (slice_get (chains_of column column.region)) (let m = new.1 in omega (arith, is, m)) ∙ there, stored)
] where
  last_or : (xs : List PlacedNode) (x : PlacedNode) (n : ℕ) (y : PlacedNode) → slice_get (xs ++ x ∷ []) n ≡ Some y
      → (slice_get xs n ≡ Some y) ⊎ ((x ≡ y) × (n ≡ length xs))
  last_or [] x zero y e = inr ((let f : x ≡ y = cc (e) in f), refl)
  last_or [] x (suc n) y e = absurd (let f : ⊥ = cc (e) in f)
  last_or (z ∷ xs) x zero y e = inl e
  last_or (z ∷ xs) x (suc n) y e = elim (last_or xs x n y e) [
    | inl old ↦ inl old
    | inr new ↦ inr (new.0, ap suc new.1)
  ]

-- rings of which one end has sent more
pub fit_fed : (t : Tag) (old new : Rings) (log : List Told) (k : ℕ) (s : Sends)
    → new.sends.items ≡ slice_set old.sends.items k s → new.receives.items ≡ old.receives.items
    → AreSent t log (gone s) → RingsFit t old log → RingsFit t new log
fit_fed t old new log k s sends receives here f = record {
  sent = λ n x at.
      let there = ap (λ (l : List Sends). slice_get l n) (sym sends) ∙ at in
      elim (cases_eq n k) [
        | inl is ↦
            let one : s ≡ x = set_there old.sends.items k s x
            (ap (λ (m : ℕ). slice_get (slice_set old.sends.items k s) m) (sym is) ∙ there) in
            subst (λ (y : Sends). AreSent t log (gone y)) one here
        | inr differ ↦ f.sent n x (sym (set_apart old.sends.items k n s differ) ∙ there)
      ];
  received = λ region r few other at.
      f.received region r few other (ap (λ (l : List Receives). slice_get l (ring_place t.region region)) (sym receives) ∙ at);
}

-- the names of rings of which an end has changed that is of the same ring

pub names_fed : (old new : Rings) (k : ℕ) (q s : Sends) → slice_get old.sends.items k ≡ Some q
    → new.sends.items ≡ slice_set old.sends.items k s → new.receives.items ≡ old.receives.items
    → ring_sent s ≡ ring_sent q → names_of new ≡ names_of old
names_fed old new k q s at sends receives same =
    ap (λ (l : List RingName). names l (map ring_received new.receives.items))
    (ap (map ring_sent) sends ∙ map_set ring_sent old.sends.items k q s at same)
    ∙ ap (λ (l : List Receives). names (map ring_sent old.sends.items) (map ring_received l)) receives where
      names : List RingName → List RingName → RingNames
      names xs ys = record { sends = xs; receives = ys }

pub names_received : (old new : Rings) (k : ℕ) (q r : Receives) → slice_get old.receives.items k ≡ Some q
    → new.sends.items ≡ old.sends.items → new.receives.items ≡ slice_set old.receives.items k r
    → ring_received r ≡ ring_received q → names_of new ≡ names_of old
names_received old new k q r at sends receives same =
    ap (λ (l : List RingName). names (map ring_sent new.sends.items) l)
    (ap (map ring_received) receives ∙ map_set ring_received old.receives.items k q r at same)
    ∙ ap (λ (l : List Sends). names (map ring_sent l) (map ring_received old.receives.items)) sends where
      names : List RingName → List RingName → RingNames
      names xs ys = record { sends = xs; receives = ys }

-- what waits of a region at its end
pub waiting_at : (xs : List Receives) (k own region : ℕ) (q : Receives) → k ≡ ring_place own region → slice_get xs k ≡ Some q
    → waiting_in (slice_get xs (ring_place own region)) ≡ q.waiting.items
waiting_at xs k own region q place at =
    ap (λ (n : ℕ). waiting_in (slice_get xs n)) (sym place) ∙ ap waiting_in at

-- what waits of a region at the end that was set
pub waiting_now : (xs : List Receives) (k own region : ℕ) (q r : Receives) → k ≡ ring_place own region → slice_get xs k ≡ Some q
    → waiting_in (slice_get (slice_set xs k r) (ring_place own region)) ≡ r.waiting.items
waiting_now xs k own region q r place at =
    ap (λ (n : ℕ). waiting_in (slice_get (slice_set xs k r) n)) (sym place) ∙ ap waiting_in (set_got xs k r q at) where
      set_got : (ys : List Receives) (n : ℕ) (x y : Receives) → slice_get ys n ≡ Some y → slice_get (slice_set ys n x) n ≡ Some x
      set_got [] n x y e = absurd (let f : ⊥ = cc (e) in f)
      set_got (z ∷ ys) zero x y e = refl
      set_got (z ∷ ys) (suc n) x y e = set_got ys n x y e

-- What a column beside its seat and its rings stands for, where nodes have gone through one of the rings.

abbrev pub RingNow : Seated → Rings → List Told → Type 0
RingNow s after log =
    IsOfHistory s.column (column_seen s.seat).size.clients log
    × (IsBacked s.seat log
    × RingsFit
    (tag s.column.region s.column.colour s.column.regions (column_seen s.seat).size s.seat.inner.table_id (names_of after))
    after log)

module _ (s : Seated) (after : Rings) (k : ℕ) where
  abbrev named : RingNames → Tag
  named names = tag s.column.region s.column.colour s.column.regions (column_seen s.seat).size s.seat.inner.table_id names

  -- own nodes were sent
  pub fed : (q r : Sends) (more : List PlacedNode) → slice_get s.rings.sends.items k ≡ Some q
      → after.sends.items ≡ slice_set s.rings.sends.items k r → after.receives.items ≡ s.rings.receives.items
      → ring_sent r ≡ ring_sent q → gone r ≡ gone q ++ more → AreNextOwn s.column (length (gone q)) more
      → (log : List Told) → Stands s log → RingNow s after log
  fed q r more at sends receives same goes next log st = (
    st.0,
    (
      st.1.0,
      subst (λ (n : RingNames). RingsFit (named n) after log)
          (sym (names_fed s.rings after k q r at sends receives same))
          (fit_fed (tag_of s) s.rings after log k r sends receives
          (subst (AreSent (tag_of s) log) (sym goes)
          (sent_on s.column (tag_of s) (column_seen s.seat).size.clients log (gone q) more refl st.0 next
          (st.1.1.sent k q at)))
          st.1.1),
    ),
  )

  module _ (region : ℕ) (place : k ≡ ring_place s.column.region region) (few : region < s.column.regions)
      (apart : region ≢ s.column.region) (q r : Receives) (at : slice_get s.rings.receives.items k ≡ Some q)
      (sends : after.sends.items ≡ s.rings.sends.items)
      (receives : after.receives.items ≡ slice_set s.rings.receives.items k r) (same : ring_received r ≡ ring_received q) where
    there : slice_get s.rings.receives.items (ring_place s.column.region region) ≡ Some q
    there = ap (slice_get s.rings.receives.items) (sym place) ∙ at

    set : after.receives.items ≡ slice_set s.rings.receives.items (ring_place s.column.region region) r
    set = receives ∙ ap (λ (n : ℕ). slice_set s.rings.receives.items n r) place

    -- nodes were received
    pub drained : (more : List PlacedNode) → got r ≡ got q ++ more → r.waiting.items ≡ q.waiting.items ++ more
        → OfTheirHeads region more → (log : List Told) → Stands s log → RingNow s after log
    drained more out kept heads log st = (
      st.0,
      (
        st.1.0,
        subst (λ (n : RingNames). RingsFit (named n) after log)
            (sym (names_received s.rings after k q r at sends receives same))
            (fit_drained (tag_of s) s.rings after log region q r more few apart there sends set out kept heads st.1.1),
      ),
    )

    -- none was received
    pub undrained : got r ≡ got q → r.waiting.items ≡ q.waiting.items → (log : List Told) → Stands s log → RingNow s after log
    undrained out kept log st =
        drained [] (out ∙ sym (append-nil (got q))) (kept ∙ sym (append-nil q.waiting.items))
        (λ n i e. absurd (let f : ⊥ = cc (e) in f)) log st

    -- all that waited was carried
    pub emptied : (t : Tag) (log : List Told) (by start : ℕ) → t.region ≡ s.column.region → t.regions ≡ s.column.regions
        → got r ≡ got q → r.waiting.items ≡ [] → RingsFit t s.rings log
        → OfTheirHeads region q.waiting.items
        × RingsFit t after (log ++ told_carry by region start q.waiting.items ∷ [])
    emptied t log by start own all out none f =
        let few_t : region < t.regions = subst (λ (n : ℕ). region < n) (sym all) few in
        let apart_t : region ≢ t.region = (λ e. apart (e ∙ own)) in
        let there_t = ap (λ (n : ℕ). slice_get s.rings.receives.items (ring_place n region)) own ∙ there in
        let set_t = set ∙ ap (λ (n : ℕ). slice_set s.rings.receives.items (ring_place n region) r) (sym own) in (
          (f.received region q few_t apart_t there_t).heads,
          fit_carried t s.rings after log by region start q r few_t apart_t there_t sends set_t out none f,
        )
