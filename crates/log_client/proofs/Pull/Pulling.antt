-- Pulls: from what a pull says of two holds to what a client knows.
use Rattle.std.proofs.Common.{◌≡◌, ◌≢◌, ℕ, suc, ◌+◌, ◌<◌, ◌≤◌, min, List, [], ◌∷◌, ◌++◌, length, map, take, Some, true, slice_get, refl, ap, sym, subst, ◌∙◌, inl, inr, ◌⊎◌, arith, length-append, take_all}
use Rattle.std.specs.List.{All}
use mathlib.Core.List.{IsPrefix}
use Rattle.std.proofs.lemmas.List.{length-map, take-map}
use Rattle.std.proofs.lemmas.List.Elements.{All-nil, All-cons}
use Rattle.log_node.specs.declared.node.At.{At}
use Rattle.log_node.specs.Seen.{PlacedNode}
use Rattle.col_core.specs.declared.Event.TheVariants as events
use Rattle.col_core.specs.declared.Entry.{Entry}
use Rattle.col_core.specs.History.{line}
use Rattle.col_core.specs.Cuts.{chain}
use Rattle.col_core.specs.Computed.{dated}
use Rattle.col_core.specs.Log.{is_own}
use Rattle.col_core.specs.Keeping.{seen_after}
use Rattle.chain_store.specs.declared.told.Told.{Told}
use Rattle.chain_store.specs.declared.hold.Hold.{Hold}
use Rattle.chain_store.specs.declared.region.Region.{Region}
use Rattle.chain_store.specs.Histories.{entries_in, maker}
use Rattle.chain_store.specs.Moves.{held_in}
use Rattle.chain_store.specs.Regions.{tag_at}
use Rattle.chain_store.specs.Holds.{entries_seen, seen_in}
use Rattle.region_pull.specs.declared.pulled.Pulled.{Pulled}
use Rattle.region_pull.specs.Pulls.{GiveOfPull, AsksByGives, before_gave, told_gave, CarriesOn}
use Rattle.region_pull.specs.Pulls.{PullsByHolds as HoldPulls}
use Rattle.region_pull.proofs.CallerLemmas.{carries_more, looks_carries}
use Rattle.lawful_run.specs.Callers.{Caller}
use Rattle.lawful_run.specs.Reads.{events_until}
use Rattle.lawful_run.specs.Moves.{GivesFrom, AsksFor, GivesHeld, GivesTooLow}
use Rattle.lawful_run.proofs.CallerLemmas.{prefix_length, prefix_take}
use Rattle.client_law.specs.Knowing.{Rest, log_seen}
use Rattle.client_law.specs.Making.{own_steps, RiseFrom}
use Rattle.client_law.specs.Moves.{CarriesThere, PullsThere, MakesPull, carry_count}
use Rattle.log_client.specs.Fits.{seen_by}
use Rattle.log_client.proofs.Known.Seeing.{seen_there}
use Rattle.log_client.proofs.Known.Steps.{all_made, none_made, made_last, stands_last, unseen_last, long_last}
use Rattle.log_client.proofs.Append.Alone.{seen_at, seen_long}

abbrev pub place_of : GiveOfPull → ℕ
place_of x = x.place

-- the places of gives rise
places_rise : (from : ℕ) (gives : List GiveOfPull)
    → ((i : ℕ) (x : GiveOfPull) → slice_get gives i ≡ Some x → from ≤ x.place)
    → ((i j : ℕ) (x y : GiveOfPull) → i < j → slice_get gives i ≡ Some x → slice_get gives j ≡ Some y → x.place < y.place)
    → RiseFrom from (map place_of gives)
places_rise from [] low rising = tt
places_rise from (x ∷ gives) low rising = (
  low 0 x refl,
  places_rise (x.place + 1) gives
      (λ i y at. let lt = rising 0 (suc i) x y (omega arith) refl at in omega (arith, lt))
      (λ i j y z lt a b. rising (suc i) (suc j) y z (omega (arith, lt)) a b),
)

all_gives : (P : Told → Type 0) (n region : ℕ) (gives : List GiveOfPull) → ((x : GiveOfPull) → P (told_gave n region x))
    → All P (map (told_gave n region) gives)
all_gives P n region [] each = All-nil P
all_gives P n region (x ∷ gives) each =
    All-cons P (told_gave n region x) (map (told_gave n region) gives) (each x) (all_gives P n region gives each)

module _ (gs hs : List Hold) (caller : Caller) (region colour : ℕ) (from to : Region) (g g' h h' : Hold)
    (g_old : slice_get gs region ≡ Some g) (g_new : slice_get hs region ≡ Some g')
    (h_old : slice_get gs caller.own ≡ Some h) (h_new : slice_get hs caller.own ≡ Some h')
    (g_is : g.passes.number ≡ caller.client) (h_is : h.passes.number ≡ caller.client)
    (from_is : from.number ≡ region) (to_is : to.number ≡ caller.own) (regions_are : from.regions ≡ caller.regions)
    (apart : region ≢ caller.own) (rest : Rest) where
  -- the gives, among what is now seen of the other region
  module _ (gives : List GiveOfPull) (looked : List Told) (more : IsPrefix looked (seen_in h' colour))
      (asks : AsksByGives (tag_at from colour) (tag_at to colour) g.passes.number (seen_in g colour) (seen_in g' colour)
      (seen_in h colour) looked gives) where
    gave_entry : (x : GiveOfPull) → (told_gave g.passes.number to.number x).entry
        ≡ record { by = caller.client; event = events.Give caller.own x.from; stamp = 0 }
    gave_entry x i = record { by = g_is i; event = events.Give (to_is i) x.from; stamp = 0 }

    pub gives_at : (i : ℕ) (x : GiveOfPull) → slice_get gives i ≡ Some x
        → GivesFrom (log_seen (seen_by hs) rest) caller region colour x.place x.from
    gives_at i x at =
        seen_at hs region g' g_new colour x.place (told_gave g.passes.number to.number x) (asks.makes.there i x at).1
        ∙ ap (λ (e : Entry). Some e) (gave_entry x)

    -- what the other column had before a give
    before_there : (x : GiveOfPull) → entries_in (before_gave (seen_in g' colour) x) ≡ take x.place (seen_by hs region colour)
    before_there x = sym (take-map (λ (t : Told). t.entry) x.place (seen_in g' colour))
        ∙ ap (take x.place) (sym (seen_there hs region g' g_new colour))

    -- what the own column had at a look
    looked_there : (n : ℕ) → n ≤ length looked → held_in (tag_at to colour) (take n looked) from.number
        ≡ length (chain caller.own (dated caller.own (take n (seen_by hs caller.own colour))) region)
    looked_there n le =
        ap (λ (m : ℕ). length (chain m (dated m (entries_in (take n looked))) from.number)) to_is
        ∙ (ap (λ (m : ℕ). length (chain caller.own (dated caller.own (entries_in (take n looked))) m)) from_is
        ∙ ap (λ (l : List Entry). length (chain caller.own (dated caller.own l) region))
        (ap entries_in (sym (prefix_take looked (seen_in h' colour) n more le))
        ∙ (sym (take-map (λ (t : Told). t.entry) n (seen_in h' colour))
        ∙ ap (take n) (sym (seen_there hs caller.own h' h_new colour)))))

    -- what a give asks for, between any two numbers of events that leave room for its look
    pub asks_there : (seen until : ℕ) → seen ≤ length (seen_by gs caller.own colour) → length looked ≤ until
        → (i : ℕ) (x : GiveOfPull) → slice_get gives i ≡ Some x
        → AsksFor (log_seen (seen_by hs) rest) caller region colour seen until x.place x.from
    asks_there seen until since before i x at =
        let on = asks.on i x at in
        let long = seen_long gs caller.own h h_old colour in
        let unseen = on.unseen in
        let there = on.there in (
          on.looked,
          omega (arith, since, long, unseen),
          omega (arith, there, before),
          on.number
              ∙ (ap (λ (l : List Entry). min (length (line l))
              (held_in (tag_at to colour) (take on.looked looked) from.number)) (before_there x)
              ∙ ap (min (length (line (take x.place (seen_by hs region colour))))) (looked_there on.looked on.there)),
        )

    pub held_there : (seen until : ℕ) → seen ≤ length (seen_by gs caller.own colour) → length looked ≤ until
        → (i : ℕ) (x : GiveOfPull) → slice_get gives i ≡ Some x
        → GivesHeld (log_seen (seen_by hs) rest) caller region colour seen until x.place
    held_there seen until since before i x at =
        (x.from, gives_at i x at, asks_there seen until since before i x at)

    pub rise_there : RiseFrom (length (seen_by gs region colour)) (map place_of gives)
    rise_there =
        let long = seen_long gs region g g_old colour in
        places_rise (length (seen_by gs region colour)) gives
        (λ i x at. let le = (asks.makes.there i x at).0 in omega (arith, long, le)) asks.makes.rising

    -- they are so many own steps
    pub given_steps : length (own_steps caller.client (seen_by hs region colour))
        ≡ length (own_steps caller.client (seen_by gs region colour)) + length gives
    given_steps =
        let counted = all_made g.passes.number (seen_in g colour) (seen_in g' colour)
        (map (told_gave g.passes.number to.number) gives) asks.makes.made
        (all_gives (λ (t : Told). is_own g.passes.number t.entry.event ≡ true) g.passes.number to.number gives (λ x. refl)) in
        let many = length-map gives (told_gave g.passes.number to.number) in
        let new = ap (λ (l : List Entry). length (own_steps caller.client l)) (seen_there hs region g' g_new colour)
        ∙ subst (λ (n : ℕ). length (own_steps caller.client (entries_seen g' colour))
        ≡ length (own_steps n (entries_seen g' colour))) (sym g_is) refl in
        let old = ap (λ (l : List Entry). length (own_steps caller.client l)) (seen_there gs region g g_old colour)
        ∙ subst (λ (n : ℕ). length (own_steps caller.client (entries_seen g colour))
        ≡ length (own_steps n (entries_seen g colour))) (sym g_is) refl in
        omega (arith, counted, many, new, old)

  -- what is held of the other region's chain
  chain_there : (k : Hold) (ks : List Hold) → slice_get ks caller.own ≡ Some k
      → held_in (tag_at to colour) (seen_in k colour) from.number
      ≡ length (chain caller.own (dated caller.own (seen_by ks caller.own colour)) region)
  chain_there k ks at =
      ap (λ (n : ℕ). length (chain n (dated n (entries_seen k colour)) from.number)) to_is
      ∙ (ap (λ (n : ℕ). length (chain caller.own (dated caller.own (entries_seen k colour)) n)) from_is
      ∙ ap (λ (l : List Entry). length (chain caller.own (dated caller.own l) region))
      (sym (seen_there ks caller.own k at colour)))

  -- what it had seen before a carry, or a look that found none
  looked_until : (looked : List Told) (carry : At) (nodes : ℕ)
      → CarriesOn from.number (tag_at to colour) h.passes.number looked
      (seen_in h' colour) carry nodes
      → length looked ≤ events_until carry
  looked_until looked carry nodes (inl (looks, none)) =
      let le = prefix_length looked (seen_in h' colour) looks.0.more in
      let is = ap events_until looks.1 in
      omega (arith, le, is)
  looked_until looked carry nodes (inr (told, items, m, is, many, some)) =
      let le = prefix_length looked m.before m.more in
      let at = ap events_until m.place in
      omega (arith, le, at)

  -- after the carry, or the look that found none, no more was seen
  seen_whole : (carry : At) (nodes : ℕ)
      → CarriesOn from.number (tag_at to colour) h.passes.number (seen_in h colour)
      (seen_in h' colour) carry nodes
      → take (seen_after carry) (seen_by hs caller.own colour) ≡ seen_by hs caller.own colour
  seen_whole carry nodes (inl (looks, none)) =
      let long = seen_long hs caller.own h' h_new colour in
      let is = ap seen_after looks.1 in
      take_all (seen_after carry) (seen_by hs caller.own colour) (omega (arith, long, is))
  seen_whole carry nodes (inr (told, items, m, is, many, some)) =
      let long = seen_long hs caller.own h' h_new colour in
      let at = ap seen_after m.place in
      let last = long_last h.passes.number told (seen_in h colour) (seen_in h' colour) carry m (ap maker is) in
      take_all (seen_after carry) (seen_by hs caller.own colour) (omega (arith, long, at, last))

  carries_there : (carry : At) (nodes : ℕ)
      → CarriesOn from.number (tag_at to colour) h.passes.number (seen_in h colour)
      (seen_in h' colour) carry nodes
      → CarriesThere (seen_by gs) (seen_by hs) caller region colour nodes carry
  carries_there carry nodes (inl (looks, none)) =
      let old = seen_long gs caller.own h h_old colour in
      let new = seen_long hs caller.own h' h_new colour in
      let more = looks.0.more in
      let parts = ap length more.1 in
      let sum = length-append (seen_in h colour) more.0 in
      subst (CarriesThere (seen_by gs) (seen_by hs) caller region colour nodes) (sym looks.1)
      (omega (arith, old, parts, sum), omega (arith, new), none)
  carries_there carry nodes (inr (told, items, m, is, many, some)) =
      let old = seen_long gs caller.own h h_old colour in
      let unseen = unseen_last h.passes.number told (seen_in h colour) (seen_in h' colour) carry m (ap maker is) in
      let there = stands_last h.passes.number told (seen_in h colour) (seen_in h' colour) carry m (ap maker is) in
      subst (CarriesThere (seen_by gs) (seen_by hs) caller region colour nodes) (sym m.place) (
        omega (arith, old, unseen),
        held_in (tag_at to colour) m.before from.number,
        map (λ (i : PlacedNode). i.head) items,
        seen_at hs caller.own h' h_new colour (length m.before) told there
            ∙ (ap (λ (t : Told). Some t.entry) is
            ∙ (λ i. Some (record {
              by = h_is i;
              event = events.Carry (from_is i) (held_in (tag_at to colour) m.before from.number) (map (λ (x : PlacedNode). x.head) items);
              stamp = 0;
            }))),
        many ∙ sym (length-map items (λ (i : PlacedNode). i.head)),
      )

  carried_steps : (carry : At) (nodes : ℕ)
      → CarriesOn from.number (tag_at to colour) h.passes.number (seen_in h colour)
      (seen_in h' colour) carry nodes
      → length (own_steps h.passes.number (entries_seen h' colour))
      ≡ length (own_steps h.passes.number (entries_seen h colour)) + carry_count carry
  carried_steps carry nodes (inl (looks, none)) =
      let same = ap length (none_made h.passes.number (seen_in h colour) (seen_in h' colour) looks.0.none) in
      let is = ap carry_count looks.1 in
      omega (arith, same, is)
  carried_steps carry nodes (inr (told, items, m, is, many, some)) =
      let counted = all_made h.passes.number (seen_in h colour) (seen_in h' colour) (told ∷ [])
      (made_last h.passes.number told (seen_in h colour) (seen_in h' colour) carry m (ap maker is))
      (All-cons (λ (t : Told). is_own h.passes.number t.entry.event ≡ true) told []
      (ap (λ (t : Told). is_own h.passes.number t.entry.event) is)
      (All-nil (λ (t : Told). is_own h.passes.number t.entry.event ≡ true))) in
      let at = ap carry_count m.place in
      omega (arith, counted, at)

  module _ (p : Pulled) (pulls : HoldPulls from to colour g g' h h' p) where
    -- the carry, from what was seen before the pull
    carried_since : CarriesOn from.number (tag_at to colour) h.passes.number
        (seen_in h colour) (seen_in h' colour) p.carry p.nodes
    carried_since = looks_carries from.number (tag_at to colour) h.passes.number
        (seen_in h colour) pulls.looked (seen_in h' colour) p.carry p.nodes pulls.looks pulls.carries

    looked_more : IsPrefix pulls.looked (seen_in h' colour)
    looked_more = carries_more from.number (tag_at to colour) h.passes.number
        pulls.looked (seen_in h' colour) p.carry p.nodes pulls.carries

    pub pulls_there : PullsThere (seen_by gs) (seen_by hs) rest caller region colour p.nodes pulls.gave.place p.carry []
    pulls_there =
        let one = pulls.gave ∷ [] in
        let seen = length (seen_by gs caller.own colour) in
        let until = events_until p.carry in
        let before = looked_until pulls.looked p.carry p.nodes pulls.carries in
        record {
          another = apart;
          rising = rise_there one pulls.looked looked_more pulls.asks;
          made_again = All-nil (GivesTooLow (log_seen (seen_by hs) rest) caller region colour seen until);
          from = pulls.gave.from;
          gives = gives_at one pulls.looked looked_more pulls.asks 0 pulls.gave refl;
          asks = asks_there one pulls.looked looked_more pulls.asks seen until (omega arith) before 0 pulls.gave refl;
          carries = carries_there p.carry p.nodes carried_since;
          holds = held_at_end;
        } where
          line_before : length (line (entries_in (before_gave (seen_in g' colour) pulls.gave)))
              ≡ length (line (take pulls.gave.place (seen_by hs region colour)))
          line_before = ap (λ (l : List Entry). length (line l))
              (before_there (pulls.gave ∷ []) pulls.looked looked_more pulls.asks pulls.gave)

          held_at_end : length (line (take pulls.gave.place (seen_by hs region colour)))
              ≤ length (chain caller.own (dated caller.own (take (seen_after p.carry) (seen_by hs caller.own colour))) region)
          held_at_end =
              subst (λ (l : List Entry). length (line (take pulls.gave.place (seen_by hs region colour)))
              ≤ length (chain caller.own (dated caller.own l) region)) (sym (seen_whole p.carry p.nodes carried_since))
              (subst (λ (n : ℕ). n ≤ length (chain caller.own (dated caller.own (seen_by hs caller.own colour)) region))
              line_before
              (subst (λ (n : ℕ). length (line (entries_in (before_gave (seen_in g' colour) pulls.gave))) ≤ n)
              (chain_there h' hs h_new) pulls.holds))

    -- its steps are the gives and the carry, where all else was only seen
    pub makes_pull : ((r c : ℕ) → (c ≢ colour) ⊎ ((r ≢ region) × (r ≢ caller.own))
        → seen_by hs r c ≡ seen_by gs r c)
        → MakesPull caller region colour 1 (carry_count p.carry) (seen_by gs) (seen_by hs)
    makes_pull others =
        let given = given_steps (pulls.gave ∷ []) pulls.looked looked_more pulls.asks in
        let carried = carried_steps p.carry p.nodes carried_since in
        let new = ap (λ (l : List Entry). length (own_steps caller.client l)) (seen_there hs caller.own h' h_new colour)
        ∙ subst (λ (n : ℕ). length (own_steps caller.client (entries_seen h' colour))
        ≡ length (own_steps n (entries_seen h' colour))) (sym h_is) refl in
        let old = ap (λ (l : List Entry). length (own_steps caller.client l)) (seen_there gs caller.own h h_old colour)
        ∙ subst (λ (n : ℕ). length (own_steps caller.client (entries_seen h colour))
        ≡ length (own_steps n (entries_seen h colour))) (sym h_is) refl in
        record {
          given = given;
          carried = omega (arith, carried, new, old);
          others = λ r c ne. ap (own_steps caller.client) (others r c ne);
        }
