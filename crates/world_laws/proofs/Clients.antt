-- Begin, Single, Play and Seen keep what holds.
use Rattle.std.proofs.Common.{◌≡◌, ℕ, zero, suc, ◌+◌, ◌<◌, ◌≤◌, max, List, [], ◌∷◌, ◌++◌, Bool, true, false, refl, subst, ap, sym, ◌∙◌, inl, inr, ◌⊎◌, arith, drop, take}
use Rattle.std.specs.Prelude.{◌==◌, ◌&&◌, ◌||◌, ◌≢◌, nat_lt, nat_le, map, reverse}
use Rattle.std.specs.List.{list_any, flat_map, range_with_len}
use Rattle.std.proofs.lemmas.Bool.{eq-eqb, true≢false, ltb-true, leb-true}
use Rattle.log_node.specs.declared.ids.Id.{Id}
use Rattle.log_node.specs.declared.ids.Colours.{Colours}
use Rattle.log_node.specs.declared.node.Head.{Head}
use Rattle.log_node.specs.Order.{same_id}
use Rattle.log_node.specs.Vectors.{at, all_regions}
use Rattle.log_node.specs.Outcomes.{greatest}
use Rattle.log_node.specs.Standings.{Standing}
use Rattle.log_node.specs.declared.marks.Mark.{Mark}
use Rattle.log_node.specs.declared.marks.Mark.TheVariants as marks
use Rattle.log_node.specs.declared.marks.Outcome.TheVariants.{Open}
use Rattle.col_core.specs.declared.Event.TheVariants as events
use Rattle.col_core.specs.declared.Entry.{Entry}
use Rattle.col_core.specs.History.{clock, entries, line, last_stamp}
use Rattle.col_core.specs.Cuts.{Dated, carried, entries_of, needs_of}
use Rattle.col_core.specs.Computed.{dated}
use Rattle.col_core.specs.Legal.{IsLawfulEvent}
use Rattle.col_core.specs.Keeping.{updated, updated_at}
use Rattle.col_core.proofs.CallerLemmas.{choice, by_test, if_true, if_false, both, apart, not_true, same_id-refl}
use Rattle.col_core.proofs.CallerLemmas.{entry_within, entries-of, clock-of, In, in_line, Status, Absent, Alone}
use Rattle.col_core.proofs.CallerLemmas.{IsLawfulPast}
use Rattle.log_node.specs.declared.ids.Key.{Key}
use Rattle.col_core.specs.PlayOrder.{nodes_between}
use Rattle.world_laws.specs.Worlds.{World, RowState, ClientState, home_of, home_history, is_client, is_column, with_client, next_id, begun_node, after_begin, single_entry, single_stamp, after_single, after_play, after_seen, played_cut, played_stamp, chains_after, may_single, may_see}
use Rattle.world_laws.proofs.Basics.{at_updated, at_updated_at, updated_at-here, updated_at-not, not_place, in_append}
use Rattle.world_laws.proofs.Held.{status_in, Kind, OfSingle, OfRow, Agrees, column_mark, Fits, IsSound, heads_of, Held, put_kind, single_status}
use Rattle.world_laws.proofs.Copies.{plain_copies_last}
pub use Rattle.col_core.proofs.CallerLemmas.{head_with, in_heads}
use Rattle.world_laws.proofs.Histories.{entries_dated, lawful_past_in, status-last, clock_within, stamp_within}
use Rattle.world_laws.proofs.Keeps.{at_last, lawful_last, may_enter, heads_last, status_stays, fits_one, fits_all, kind-other, kind-own, next_unborn, next_absent, sound_kind, fresh_after}
pub use Rattle.col_core.proofs.CallerLemmas.{in_take}
pub use Rattle.col_core.proofs.CallerLemmas.{in_flat_map}

-- Begin

pub begun_row : World → ℕ → Colours → List ℕ → RowState
begun_row w client colours text =
    record { node = begun_node w client colours text; marks = λ _. marks.None; last = Open }

abbrev pub begun_client : World → ℕ → ClientState
begun_client w client =
    record (w.clients client) { count = (w.clients client).count + 1; used = (w.clients client).used + 1 }

-- the rows that a client has begun are those before, and the new one
pub used_before : (w : World) (client a n : ℕ) → n < (updated w.clients client (begun_client w client) a).used
    → ((a == client) && (n == (w.clients client).used)) ≡ false → n < (w.clients a).used
used_before w client a n lt other =
    at_updated (λ (s : ClientState). n < s.used → n < (w.clients a).used) w.clients client (begun_client w client) a
    (λ is less.
    let u : (w.clients a).used ≡ (w.clients client).used = ap (λ (x : ℕ). (w.clients x).used) is in
    less_of n (w.clients client).used (w.clients a).used less (not_place client (w.clients client).used a n other is) u)
    (λ _ less. less) lt where
      less_of : (n u v : ℕ) → n < u + 1 → n ≢ u → v ≡ u → n < v
      less_of n u v lt ne e = omega (arith, lt, ne, e)

module _ (w : World) (h : Held w) (client : ℕ) (colours : Colours) (text : List ℕ) where
  abbrev new_number : ℕ
  new_number = (w.clients client).used

  used_more : (a n : ℕ) → n < (w.clients a).used → n < (updated w.clients client (begun_client w client) a).used
  used_more a n lt = at_updated (λ (s : ClientState). n < s.used) w.clients client (begun_client w client) a
      (λ is. let e : (w.clients a).used ≡ (w.clients client).used = ap (λ (x : ℕ). (w.clients x).used) is in omega
      (arith, lt, e))
      (λ _. lt)

  rows_stay : (a n : ℕ) → n < (w.clients a).used
      → updated_at w.rows client new_number (begun_row w client colours text) a n ≡ w.rows a n
  rows_stay a n lt = updated_at-not w.rows client new_number (begun_row w client colours text) a n
      (λ e f. let u : (w.clients a).used ≡ (w.clients client).used = ap
      (λ (x : ℕ). (w.clients x).used) e in let z : ⊥ = omega (arith, lt, u, f) in z)

  fresh_agrees : (home r c : ℕ) (st : Status) → st ≡ Absent
      → Agrees (column_mark home (begun_row w client colours text) r c) Open st
  unfolding begun_row
  fresh_agrees home r c st e =
      choice (λ (m : Mark). Agrees m Open st) (r == home) marks.None marks.None (λ _. e) (λ _. e)

  begin_own : (r c : ℕ)
      → Fits (after_begin w client colours text) (next_id w client) (OfRow new_number) r c
      (status_in (w.histories r c) (next_id w client))
  unfolding begun_row
  begin_own r c =
      let er = updated_at-here w.rows client new_number (begun_row w client colours text) in
      record {
        begun = at_updated (λ (s : ClientState). new_number < s.used) w.clients client (begun_client w client) client
            (λ _. omega arith) (λ other. absurd (apart (client == client) (eq-eqb client client refl) other));
        is = ap (λ (x : RowState). x.node.id) er;
        agrees = subst
            (λ (x : RowState). Agrees (column_mark (home_of w client) x r c) x.last
            (status_in (w.histories r c) (next_id w client))) (sym er)
            (fresh_agrees (home_of w client) r c _ (next_absent w h client r c));
      }

  abbrev begin_kind : Id → Kind
  begin_kind = put_kind h.kind (next_id w client) (OfRow new_number)

  begin_sound : (a n : ℕ) → n < (updated w.clients client (begun_client w client) a).used
      → IsSound begin_kind a n (updated_at w.rows client new_number (begun_row w client colours text) a n)
  unfolding begun_row
  begin_sound a n lt =
      at_updated_at (λ (x : RowState). IsSound begin_kind a n x) w.rows client new_number
      (begun_row w client colours text) a n
      (λ ea en. record {
        of_client = sym ea;
        of_id = kind-own h.kind (next_id w client) (OfRow new_number) ∙ ap OfRow (sym en);
        kept = inl refl;
        in_set = λ c other. refl;
        numbers = λ c s e. absurd (let x : ⊥ = cc in x);
        floor = h.floors client;
      })
      (λ other. sound_kind h.kind (next_id w client) (OfRow new_number) a n (w.rows a n) (next_unborn w h client)
      (h.rows a n (used_before w client a n lt other)))

  pub keeps_begin : Held (after_begin w client colours text)
  unfolding begun_row
  keeps_begin = record {
    kind = begin_kind;
    fresh = fresh_after w h client (begun_client w client) (OfRow new_number) refl;
    fits = fits_one w (after_begin w client colours text) h.kind begin_kind (next_id w client) refl
        (kind-other h.kind (next_id w client) (OfRow new_number)) (λ id r c f. refl)
        (λ id n ne lt is. (used_more id.client n lt, rows_stay id.client n lt)) h.fits
        (λ r c. subst
        (λ (k : Kind). Fits (after_begin w client colours text) (next_id w client) k r c
        (status_in (w.histories r c) (next_id w client)))
        (sym (kind-own h.kind (next_id w client) (OfRow new_number))) (begin_own r c));
    rows = begin_sound;
    lawful = h.lawful;
    heads = h.heads;
    floors = λ a. at_updated (λ (s : ClientState). s.floor ≤ last_stamp) w.clients client (begun_client w client) a
        (λ _. h.floors client) (λ _. h.floors a);
    copies = h.copies;
  }

-- Single

abbrev pub single_client : World → ℕ → ℕ → ClientState
single_client w client colour =
    record (w.clients client) { count = (w.clients client).count + 1; floor = single_stamp w client colour }

-- where a client changes and its rows stay
pub same_used : (w : World) (client : ℕ) (cs : ClientState) → cs.used ≡ (w.clients client).used → (a n : ℕ)
    → n < (updated w.clients client cs a).used → n < (w.clients a).used
same_used w client cs e a n =
    at_updated (λ (s : ClientState). n < s.used → n < (w.clients a).used) w.clients client cs a
    (λ is lt. let u : (w.clients a).used ≡ (w.clients client).used = ap (λ (x : ℕ). (w.clients x).used) is in omega
    (arith, e, lt, u)) (λ _ lt. lt)

pub still_used : (w : World) (client : ℕ) (cs : ClientState) → (w.clients client).used ≤ cs.used → (a n : ℕ)
    → n < (w.clients a).used → n < (updated w.clients client cs a).used
still_used w client cs le a n lt =
    at_updated (λ (s : ClientState). n < s.used) w.clients client cs a
    (λ is. let e : (w.clients a).used ≡ (w.clients client).used = ap (λ (x : ℕ). (w.clients x).used) is in omega
    (arith, le, lt, e)) (λ _. lt)

module _ (w : World) (h : Held w) (client colour : ℕ) (text : List ℕ) (ok : may_single w client colour ≡ true) where
  abbrev home : ℕ
  home = home_of w client

  abbrev single_kind : Id → Kind
  single_kind = put_kind h.kind (next_id w client) (OfSingle home colour (single_stamp w client colour))

  single_in_range : single_stamp w client colour ≤ last_stamp
  single_in_range =
      let p = both (is_client w client) _ ok in
      let q = both (is_column w home colour) _ p.1 in
      stamp_within (w.histories home colour) (w.clients client).floor (lawful_past_in w h home colour) (h.floors client)
      (not_true _ q.1)

  single_lawful : IsLawfulEvent home w.shape.regions (dated home (w.histories home colour))
      (single_entry w client colour).event (single_entry w client colour).stamp
  single_lawful =
      may_enter w h home colour (next_id w client) (w.clients client).floor (next_absent w h client home colour)
      single_in_range

  abbrev single_world : World
  single_world = after_single w client colour text

  single_own : (r c : ℕ)
      → status_in (single_world.histories r c) (next_id w client) ≡ single_status home colour
      (single_stamp w client colour) r c
  single_own r c =
      at_last (λ (x : List Entry). status_in x (next_id w client) ≡ single_status home colour
      (single_stamp w client colour) r c) w home colour (single_entry w client colour) r c
      (λ er ec. status-last (w.histories home colour) (single_entry w client colour) (next_id w client)
      ∙ (if_true (same_id (next_id w client) (next_id w client)) _ _ (same_id-refl (next_id w client)) ∙ sym
      (if_true ((r == home) && (c == colour)) _ _ (rw (eq-eqb r home er, eq-eqb c colour ec) refl))))
      (λ other. next_absent w h client r c ∙ sym (if_false ((r == home) && (c == colour)) _ _ other))

  pub keeps_single : Held single_world
  keeps_single = record {
    kind = single_kind;
    fresh = fresh_after w h client (single_client w client colour)
        (OfSingle home colour (single_stamp w client colour)) refl;
    fits = fits_one w single_world h.kind single_kind (next_id w client) refl
        (kind-other h.kind (next_id w client) (OfSingle home colour (single_stamp w client colour)))
        (λ id r c f. status_stays w home colour (single_entry w client colour) id r c
        (λ st. if_false (same_id id (next_id w client)) (Alone (single_stamp w client colour)) st f))
        (λ id n ne lt is.
        (still_used w client (single_client w client colour) (omega arith) id.client n lt, refl)) h.fits
        (λ r c. subst
        (λ (k : Kind). Fits single_world (next_id w client) k r c
        (status_in (single_world.histories r c) (next_id w client)))
        (sym (kind-own h.kind (next_id w client) (OfSingle home colour (single_stamp w client colour))))
        (single_own r c));
    rows = λ a n lt. sound_kind h.kind (next_id w client) (OfSingle home colour (single_stamp w client colour)) a n
        (w.rows a n) (next_unborn w h client)
        (h.rows a n (same_used w client (single_client w client colour) refl a n lt));
    lawful = lawful_last w h home colour (single_entry w client colour) single_lawful;
    heads = heads_last w h home colour (single_entry w client colour) (λ other. refl);
    floors = λ a. at_updated (λ (s : ClientState). s.floor ≤ last_stamp) w.clients client
        (single_client w client colour) a (λ _. single_in_range) (λ _. h.floors a);
    copies = plain_copies_last w h home colour (single_entry w client colour) single_lawful (λ other. refl)
        (λ other. refl);
  }

-- the entry of a Raise
abbrev pub raise_entry : ℕ → ℕ → Entry
raise_entry by to = record { by = by; event = events.Raise to; stamp = 0 }

-- a client whose floor and played counts change
pub keeps_client : (w : World) (h : Held w) (client : ℕ) (cs : ClientState) → cs.count ≡ (w.clients client).count
    → cs.used ≡ (w.clients client).used → cs.floor ≤ last_stamp → Held (with_client w client cs)
keeps_client w h client cs ec eu le =
    record {
      kind = h.kind;
      fresh = λ id le. h.fresh id
          (at_updated (λ (s : ClientState). s.count ≤ id.count
          → (w.clients id.client).count ≤ id.count) w.clients client cs id.client
          (λ is x. let e : (w.clients id.client).count ≡ (w.clients client).count = ap
          (λ (y : ℕ). (w.clients y).count) is in omega (arith, x, ec, e)) (λ _ x. x) le);
      fits = fits_all w (with_client w client cs) h.kind refl (λ id r c. refl)
          (λ a n lt. (still_used w client cs (omega (arith, eu)) a n lt, refl)) h.fits;
      rows = λ a n lt. h.rows a n (same_used w client cs eu a n lt);
      lawful = h.lawful;
      heads = h.heads;
      floors = λ a. at_updated (λ (s : ClientState). s.floor ≤ last_stamp) w.clients client cs a (λ _. le)
          (λ _. h.floors a);
      copies = h.copies;
    }

-- Seen

seen_within : (test : ℕ → ℕ) (to bound : ℕ) (cs : List ℕ) → ((c : ℕ) → test c ≤ bound)
    → list_any (λ c. nat_le to (test c)) cs ≡ true → to ≤ bound
seen_within test to bound [] h e = absurd (true≢false (sym e))
seen_within test to bound (c ∷ cs) h e =
    by_test (to ≤ bound) (nat_le to (test c))
    (λ t. let a = leb-true to (test c) t in let b = h c in omega (arith, a, b))
    (λ f. seen_within test to bound cs h (sym (if_or (nat_le to (test c)) _ f) ∙ e)) where
      if_or : (a b : Bool) → a ≡ false → (a || b) ≡ b
      if_or a b e = ap (λ x. x || b) e

-- what the guard of Seen says of the floor
pub above_floor : (w : World) (client to : ℕ) → may_see w client to ≡ true → (w.clients client).floor < to
above_floor w client to ok =
    let p = both (is_client w client) _ ok in
    let q = both (nat_lt (w.clients client).floor to) _ p.1 in
    ltb-true _ _ q.0

pub keeps_seen : (w : World) (h : Held w) (client to : ℕ) → may_see w client to ≡ true → Held (after_seen w client to)
keeps_seen w h client to ok =
    let p = both (is_client w client) _ ok in
    let q = both (nat_lt (w.clients client).floor to)
    (list_any (λ colour. nat_le to (clock (home_history w client colour)))
    (range_with_len 0 w.shape.colours)) p.1 in
    keeps_client w h client (record (w.clients client) { floor = to }) refl refl
    (seen_within (λ colour. clock (home_history w client colour)) to last_stamp (range_with_len 0 w.shape.colours)
    (λ c. clock_within (home_history w client c) (lawful_past_in w h (home_of w client) c)) q.1)

-- Play

heads_within : (heads : List Head) (bound : ℕ) → ((head : Head) → In head heads → head.key.stamp ≤ bound)
    → greatest (map (λ (head : Head). head.key.stamp) heads) ≤ bound
heads_within [] bound h = omega arith
heads_within (d ∷ ds) bound h =
    let a = h d (inl refl) in let b = heads_within ds bound (λ e i. h e (inr i)) in omega (arith, a, b)

pub in_drop : {A : Type 0} (n : ℕ) (xs : List A) (x : A) → In x (drop n xs) → In x xs
in_drop zero xs x i = i
in_drop (suc n) [] x i = i
in_drop (suc n) (y ∷ xs) x i = inr (in_drop n xs x i)

-- the heads that a dated history brings are those that its entries bring
dated_heads : (region : ℕ) (ds : List Dated)
    → flat_map (λ (d : Dated). carried region d.entry.event) ds ≡ heads_of region (entries_of ds)
dated_heads region [] = refl
dated_heads region (d ∷ ds) = ap (λ (l : List Head). carried region d.entry.event ++ l) (dated_heads region ds)

pub line_within : (history : List Entry) → IsLawfulPast (reverse history) → (k : Key) → In k (line history)
    → k.stamp ≤ clock history
line_within history l k i =
    let x = in_line (entries history) k i in
    let within = entry_within (reverse history) l x.0
    (subst (λ (es : List Standing). In x.0 es) (entries-of history) x.1) in
    subst (λ (key : Key). key.stamp ≤ clock history) x.2
    (subst (λ (n : ℕ). x.0.key.stamp ≤ n) (sym (clock-of history)) within)

-- the stamps of all chains are within the last stamp
pub chain_within : (w : World) (h : Held w) (r c region : ℕ) (head : Head)
    → In head (chains_after r (w.histories r c) region) → head.key.stamp ≤ last_stamp
chain_within w h r c region head =
    let ds = dated r (w.histories r c) in
    choice (λ (l : List Head). In head l → head.key.stamp ≤ last_stamp) (region == r)
    (map (head_with ds) (line (entries_of ds))) (flat_map (λ (d : Dated). carried region d.entry.event) ds)
    (λ _ i.
    let x = in_heads ds (line (entries_of ds)) head i in
    let l = lawful_past_in w h r c in
    let a = line_within (w.histories r c) l x.0
    (subst (λ (e : List Entry). In x.0 (line e)) (entries_dated r (w.histories r c)) x.1) in
    let b = clock_within (w.histories r c) l in
    let same : x.0.stamp ≡ head.key.stamp = ap (λ (y : Head). y.key.stamp) x.2 in
    omega (arith, a, b, same))
    (λ _ i. h.heads r c region head
    (subst (λ (l : List Head). In head l)
    (dated_heads region ds ∙ ap (heads_of region) (entries_dated r (w.histories r c))) i))

pub played_within : (w : World) (h : Held w) (client colour : ℕ) → played_stamp w client colour ≤ last_stamp
played_within w h client colour =
    let chains = chains_after (home_of w client) (home_history w client colour) in
    let from = (w.clients client).played colour in
    let to = played_cut w client colour in
    heads_within (flat_map (nodes_between chains from to) all_regions) last_stamp
    (λ head i.
    let x = in_flat_map (nodes_between chains from to) all_regions head i in
    let j = in_take (at to x.0) (chains x.0) head (in_drop (at from x.0) (take (at to x.0) (chains x.0)) head x.2) in
    chain_within w h (home_of w client) colour x.0 head j)

pub keeps_play : (w : World) (h : Held w) (client colour : ℕ) → Held (after_play w client colour)
keeps_play w h client colour =
    let f = h.floors client in
    let s = played_within w h client colour in
    keeps_client w h client
    (record (w.clients client) {
      floor = max (w.clients client).floor
          (played_stamp w client colour);
      played = updated (w.clients client).played colour
          (played_cut w client colour);
    }) refl refl (omega (arith, f, s))
