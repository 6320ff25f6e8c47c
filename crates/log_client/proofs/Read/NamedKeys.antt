-- The keys of the lines that a client has seen are such as a version can name.
use Rattle.std.proofs.Common.{◌≡◌, ℕ, suc, ◌-◌, ◌^◌, ◌<◌, Bool, true, false, List, [], ◌∷◌, length, map, reverse, Some, refl, ap, sym, subst, ◌∙◌, inl, inr, arith}
use Rattle.std.specs.Prelude.{◌&&◌, ◌||◌, nat_le, slice_get}
use Rattle.std.specs.List.{filter}
use Rattle.std.proofs.lemmas.Bool.{and_from, cases_lt, le-leb}
use Rattle.std.proofs.lemmas.List.{reverse-reverse}
use Rattle.log_node.specs.declared.ids.Id.{Id}
use Rattle.log_node.specs.declared.ids.Key.{Key}
use Rattle.log_node.specs.declared.marks.Outcome.{Outcome}
use Rattle.log_node.specs.declared.marks.Outcome.TheVariants.{Open, Gone, Final}
use Rattle.log_node.specs.Order.{same_id}
use Rattle.log_node.specs.Seen.{PlacedNode}
use Rattle.log_node.specs.Standings.{Standing}
use Rattle.object_form.specs.Forms.{is_writer}
use Rattle.col_core.specs.declared.Event.{Event}
use Rattle.col_core.specs.declared.Event.TheVariants as events
use Rattle.col_core.specs.declared.Entry.{Entry}
use Rattle.col_core.specs.Computed.{dated}
use Rattle.col_core.specs.History.{line, enters, has_entered, entry_key}
use Rattle.col_core.specs.History as History
use Rattle.col_core.specs.Legal.{IsColumnHistory}
use Rattle.col_core.proofs.CallerLemmas.{by_test, choice, In, contains_in, in_contains, in_filter, in_line, entries-of, entry_within, past_clock_within, past_is_lawful, shown, shown_entered}
use Rattle.col_core.proofs.CallerLemmas.{Status, Absent, Alone, Waits, Settled, status, after_event, standing_of, IsSettling, IsLawfulNext, IsLawfulPast}
use Rattle.chain_store.specs.declared.told.Told.{Told}
use Rattle.chain_store.specs.declared.hold.Hold.{Hold}
use Rattle.chain_store.specs.declared.region.Region.{Region}
use Rattle.chain_store.specs.Histories.{entries_in, HasIds}
use Rattle.chain_store.specs.Holds.{IsHold, seen_in}
use Rattle.chain_store.proofs.CallerLemmas.{ids_seen}
use Rattle.log_client.specs.declared.store.Store.{Store}
use Rattle.log_client.specs.declared.client.Client.{Client}
use Rattle.log_client.specs.Clients.{holds_of, IsClient}
use Rattle.log_client.specs.Reading.{home_seen, keys_of}
use Rattle.log_client.specs.StampedReads.{CanBeNamed, HasRead}
use Rattle.log_client.proofs.Lists.{got}
use Rattle.log_client.proofs.Known.Seeing.{nothing_beyond, seen_there}
use Rattle.log_client.proofs.Going.Explaining.{rests_same}
use Rattle.log_client.proofs.Read.HiddenReads.{all_from}
use Rattle.log_client.proofs.Read.ReadStamps.{home_lawful}
use Rattle.log_client.proofs.Read.ItemsRead.{made_from, made_of}

-- STAMPS

-- the stamp of an id's entry, if it has one, is above zero
abbrev IsAboveZero : Status → Type 0
IsAboveZero Absent = Unit {0}
IsAboveZero (Alone stamp) = 0 < stamp
IsAboveZero (Waits stamp) = 0 < stamp
IsAboveZero (Settled Open) = Unit {0}
IsAboveZero (Settled (Gone why)) = Unit {0}
IsAboveZero (Settled (Final f)) = 0 < f

settled_above : (stamp : ℕ) (outcome : Outcome) → IsSettling outcome stamp → 0 < stamp → IsAboveZero (Settled outcome)
settled_above stamp Open s lt = tt
settled_above stamp (Gone why) s lt = tt
settled_above stamp (Final f) s lt = let a = s.0 in omega (arith, a, lt)

-- a lawful event leaves it so
above_next : (past : List Entry) (id : Id) (ev : Event) (stamp : ℕ) → IsLawfulNext past ev stamp
    → ((other : Id) → IsAboveZero (status other past)) → IsAboveZero (after_event id ev stamp (status id past))
above_next past id (events.Single other floor wants) stamp l old =
    choice IsAboveZero (same_id id other) (Alone stamp) (status id past)
    (λ _. let s = l.stamped in omega (arith, s)) (λ _. old id)
above_next past id (events.Propose other floor wants) stamp l old =
    choice IsAboveZero (same_id id other) (Waits stamp) (status id past)
    (λ _. let s = l.stamped in omega (arith, s)) (λ _. old id)
above_next past id (events.Settle other outcome) stamp l old =
    choice IsAboveZero (same_id id other) (Settled outcome) (status id past)
    (λ _. settled_above l.stamp outcome l.settling (subst IsAboveZero l.waits (old other))) (λ _. old id)
above_next past id (events.Raise _) stamp l old = old id
above_next past id (events.Give _ _) stamp l old = old id
above_next past id (events.Carry _ _ _) stamp l old = old id
above_next past id (events.Trim _) stamp l old = old id

above_zero : (past : List Entry) → IsLawfulPast past → (id : Id) → IsAboveZero (status id past)
above_zero [] l id = tt
above_zero (e ∷ past) l id = above_next past id e.event e.stamp l.0 (above_zero past l.1)

entry_above : (id : Id) (st : Status) (x : Standing) → IsAboveZero st → standing_of id st ≡ Some x → 0 < x.key.stamp
entry_above id Absent x a h = absurd (let f : ⊥ = cc in f)
entry_above id (Alone stamp) x a h =
    let y : record { key = entry_key stamp id; settled = true } ≡ x = cc in
    let z = ap (λ (w : Standing). w.key.stamp) y in omega (arith, a, z)
entry_above id (Waits stamp) x a h =
    let y : record { key = entry_key stamp id; settled = false } ≡ x = cc in
    let z = ap (λ (w : Standing). w.key.stamp) y in omega (arith, a, z)
entry_above id (Settled Open) x a h = absurd (let f : ⊥ = cc in f)
entry_above id (Settled (Gone why)) x a h = absurd (let f : ⊥ = cc in f)
entry_above id (Settled (Final f)) x a h =
    let y : record { key = entry_key f id; settled = true } ≡ x = cc in
    let z = ap (λ (w : Standing). w.key.stamp) y in omega (arith, a, z)

-- KEYS OF LINES

-- the entry by which an id entered
entered_at : (id : Id) (log : List Told) → has_entered id (entries_in log) ≡ true
    → (n : ℕ) × (t : Told) × (slice_get log n ≡ Some t) × (enters id t.entry.event ≡ true)
entered_at id [] e = absurd (let f : ⊥ = cc in f)
entered_at id (t ∷ log) e =
    by_test ((n : ℕ) × (u : Told) × (slice_get (t ∷ log) n ≡ Some u) × (enters id u.entry.event ≡ true))
    (enters id t.entry.event)
    (λ here. (0, t, refl, here))
    (λ later.
    let r = entered_at id log (sym (ap (λ (b : Bool). b || has_entered id (entries_in log)) later) ∙ e) in
    (suc r.0, r.1, r.2, r.3))

-- a key of the line of a lawful history whose ids are such as there may be
key_named : (own regions : ℕ) (log : List Told) → IsColumnHistory own regions (dated own (entries_in log)) → HasIds log
    → (k : Key) → In k (line (entries_in log)) → is_writer (Some k) ≡ true
key_named own regions log lawful ids k i =
    let h = entries_in log in
    let past = past_is_lawful own regions h lawful in
    let e = in_line (History.entries h) k i in
    let there = subst (λ (es : List Standing). In e.0 es) (entries-of h) e.1 in
    let low = entry_above e.0.key.id (status e.0.key.id (reverse h)) e.0 (above_zero (reverse h) past e.0.key.id)
    (shown (reverse h) past e.0 there) in
    let high = entry_within (reverse h) past e.0 there in
    let most = past_clock_within (reverse h) past in
    let stamp = ap (λ (q : Key). q.stamp) e.2 in
    let entered = entered_at k.id log
    (subst (λ (j : Id). has_entered j h ≡ true) (ap (λ (q : Key). q.id) e.2)
    (subst (λ (l : List Entry). has_entered e.0.key.id l ≡ true) (reverse-reverse h)
    (shown_entered (reverse h) past e.0 there))) in
    let id = ids entered.0 entered.1 k.id entered.2 entered.3 in
    let client = id.0 in
    let count = id.1 in
    and_from (nat_le 1 k.stamp && nat_le k.stamp (2 ^ 62 - 1) && nat_le k.id.client 255) _
    (and_from (nat_le 1 k.stamp && nat_le k.stamp (2 ^ 62 - 1)) _
    (and_from (nat_le 1 k.stamp) _ (le-leb 1 k.stamp (omega (arith, low, stamp)))
    (le-leb k.stamp (2 ^ 62 - 1) (omega (arith, high, most, stamp))))
    (le-leb k.id.client 255 (omega (arith, client))))
    (le-leb k.id.count (2 ^ 63 - 1) (omega (arith, count)))

-- a hold at rest has seen such ids alone, of any colour
ids_there : (r : Region) (h : Hold) (colour : ℕ) → IsHold r h → HasIds (seen_in h colour)
ids_there r h colour is = elim (cases_lt colour r.board.size.colours) [
  | inl lt ↦ ids_seen r h colour is lt
  | inr le ↦ subst HasIds (sym (nothing_beyond r h colour is le)) (λ n t id at e. absurd (let f : ⊥ = cc (at) in f))
]

-- a key of a line that a client at rest has seen in its region
pub seen_named : (s : Store) (d : Client) → IsClient s d → (colour : ℕ) (k : Key) → In k (line (home_seen d colour))
    → is_writer (Some k) ≡ true
seen_named s d is colour k i =
    let many = is.holds.0 in
    let within = is.region in
    let r = got s.regions d.region within in
    let h = got (holds_of d) d.region (omega (arith, many, within)) in
    let same = seen_there (holds_of d) d.region h.0 h.1 colour in
    key_named d.region (length s.regions) (seen_in h.0 colour)
    (subst (λ (l : List Entry). IsColumnHistory d.region (length s.regions) (dated d.region l)) same
    (home_lawful s d d (rests_same s d is) colour))
    (ids_there r.0 h.0 colour (is.holds.1 d.region r.0 h.0 r.1 h.1)) k
    (subst (λ (l : List Entry). In k (line l)) same i)

-- THE ITEMS OF A READ

-- items whose keys are among those that a client at rest has read
pub items_named : (s : Store) (d : Client) → IsClient s d → (colours : List ℕ) (stamp : ℕ) (keys : List Key)
    → HasRead d colours stamp keys → (test : Key → Bool) (items : List PlacedNode) → keys_of items ≡ filter test keys
    → CanBeNamed items
items_named s d is colours stamp keys read test items are =
    all_from (λ (item : PlacedNode). is_writer (Some item.head.key) ≡ true) items
    (λ item i.
    let k = item.head.key in
    let among = in_filter test k keys
    (subst (In k) are (made_from (λ (j : PlacedNode). j.head.key) items item i)) in
    let from = read.order.no_other k (contains_in keys k among.0) in
    let of = made_of (λ colour. line (home_seen d colour)) colours from.1
    (in_contains (map (λ colour. line (home_seen d colour)) colours) from.1 from.2) in
    seen_named s d is of.0 k (subst (In k) (sym of.2) (in_contains from.1 k from.3)))
