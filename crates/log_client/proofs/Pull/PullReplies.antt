-- What a pull of a client leaves, and what explains its answer.
use Rattle.std.proofs.Common.{◌≡◌, ◌≢◌, ◌⊎◌, inl, inr, ℕ, zero, suc, ◌+◌, ◌<◌, ◌≤◌, List, [], ◌∷◌, ◌++◌, length, map, Some, refl, ap, sym, subst, ◌∙◌, arith, append-nil, length-append}
use Rattle.std.specs.Prelude.{slice_get, slice_set}
use Rattle.std.specs.List.{All}
use mathlib.Core.List.{IsPrefix}
use Rattle.std.proofs.lemmas.Bool.{cases_eq}
use Rattle.std.proofs.lemmas.List.{length-map}
use Rattle.std.proofs.lemmas.List.Elements.{All-nil, All-cons}
use Rattle.std.proofs.lemmas.Option.{same_Some, slice_get_within}
use Rattle.log_node.specs.declared.ids.Id.{Id}
use Rattle.log_node.specs.declared.node.Node.{Node}
use Rattle.log_node.specs.declared.node.Head.{Head}
use Rattle.log_node.specs.declared.node.At.{At}
use Rattle.log_node.specs.declared.node.At.TheVariants.{Event, Look}
use Rattle.col_core.specs.declared.Event as event_types
use Rattle.col_core.specs.declared.Event.TheVariants as events
use Rattle.col_core.specs.declared.Entry.{Entry}
use Rattle.col_core.specs.Computed.{dated}
use Rattle.col_core.specs.Legal.{IsColumnHistory}
use Rattle.col_core.specs.Keeping.{Kept}
use Rattle.script_text.specs.declared.script.Object.{Object}
use Rattle.turn_cell.specs.Histories.{made_by}
use Rattle.stamp_board.specs.declared.seats.Seat.{Seat}
use Rattle.chain_store.specs.declared.told.Tag.{Tag}
use Rattle.chain_store.specs.declared.told.Told.{Told}
use Rattle.chain_store.specs.declared.hold.Hold.{Hold}
use Rattle.chain_store.specs.declared.region.Region.{Region}
use Rattle.chain_store.specs.Going.{GoesOnIn}
use Rattle.chain_store.specs.Histories.{entries_in, maker}
use Rattle.chain_store.specs.Regions.{rings_at, tag_at}
use Rattle.chain_store.specs.Holds.{IsHold, SameBut, SeesMoreIn, seen_in, made_in, turned_in, entries_seen}
use Rattle.append_core.specs.Standing.{IsSingleOf}
use Rattle.region_pull.specs.declared.pulled.Pulled.{Pulled}
use Rattle.region_pull.specs.Origins.{AsksForHeld}
use Rattle.region_pull.specs.Pulls.{GiveOfPull, PullsByHolds, GivesAlone}
use Rattle.lawful_run.specs.Callers.{Caller}
use Rattle.lawful_run.specs.Lawful.{IsHelp}
use Rattle.lawful_run.proofs.CallerLemmas.{prefix_length}
use Rattle.lawful_run.specs.Moves.{GivesHeld, GivesTooLow, OnlyGives, kept_after_pull, kept_after_giving}
use Rattle.client_law.specs.Knowing.{Rest, log_seen, SeesOn}
use Rattle.client_law.specs.Making.{own_steps, MakesOnly}
use Rattle.client_law.specs.Kept.{IsKeptBy}
use Rattle.client_law.proofs.CallerLemmas.{kept_after_gives, kept_after_pulling, pulls_stand}
use Rattle.log_client.specs.declared.store.Store.{Store}
use Rattle.log_client.specs.declared.client.Client.{Client}
use Rattle.log_client.specs.Fits.{entries_by, HasGoneOn, HaveGoneOn}
use Rattle.log_client.specs.Ending.{AreHoldsIn, HasOwnNodes}
use Rattle.log_client.specs.Between.{ChangesTwo}
use Rattle.log_client.specs.Clients.{holds_of, seen_of, nodes_of_rows, tracks_of, counts_in, caller_of, IsClient, IsHome, IsTrack, AreBegunRows, Keeps, Finished, Helps, AllClosed}
use Rattle.log_client.specs.Calls.{IsExplained, PullsAs, GaveAlone}
use Rattle.log_client.proofs.Lists.{got}
use Rattle.log_client.proofs.Known.Seeing.{are_lawful, seen_there, sees_on}
use Rattle.log_client.proofs.Known.Steps.{none_made}
use Rattle.log_client.proofs.Known.Truly.{WasMade}
use Rattle.log_client.proofs.Pull.TrulyPulled.{truly_pulled}
use Rattle.log_client.proofs.Append.Alone.{seen_long}
use Rattle.log_client.proofs.Pull.Pulling.{place_of, held_there, rise_there, given_steps, pulls_there, makes_pull}
use Rattle.log_client.proofs.Known.OwnNodes.{Brings, own_nodes_on}
use Rattle.log_client.proofs.Going.AtHome.{set_there, set_elsewhere, set_long, gone_same, gone_looked, are_regions}
use Rattle.log_client.proofs.Going.Staying.{track_longer, rows_longer, all_closed_longer}
use Rattle.log_client.proofs.Going.Helping.{GoesIdle, helped_before, idle_client, idle_same}

no_rest : Rest
no_rest = record { nodes = λ _. []; rows = λ _. [] }

give_no_single : (id : Id) (ev : event_types.Event) (region asked : ℕ) → ev ≡ events.Give region asked → IsSingleOf id ev → ⊥
give_no_single id ev region asked is single = subst (IsSingleOf id) is single

carry_no_single : (id : Id) (ev : event_types.Event) (region start : ℕ) (heads : List Head)
    → ev ≡ events.Carry region start heads → IsSingleOf id ev → ⊥
carry_no_single id ev region start heads is single = subst (IsSingleOf id) is single

made_same : (g h : Hold) (k c : ℕ) → SameBut k g h → c ≢ k → made_in h c ≡ made_in g c
made_same g h k c but ne =
    ap (λ (n : ℕ). made_by maker n (turned_in h c)) but.number ∙ ap (made_by maker g.passes.number) (but.others c ne)

each_gave : (P : ℕ → Type 0) (gives : List GiveOfPull) → ((i : ℕ) (x : GiveOfPull) → slice_get gives i ≡ Some x → P x.place)
    → All P (map place_of gives)
each_gave P [] each = All-nil P
each_gave P (x ∷ gives) each =
    All-cons P x.place (map place_of gives) (each 0 x refl) (each_gave P gives (λ i y at. each (suc i) y at))

-- what a pull leaves of what is kept
module _ (kept : Kept) (own region k place : ℕ) where
  pub pull_floor : (carry : At) (low : List ℕ) → (kept_after_pull kept own region k place carry low).floor ≡ kept.floor
  pull_floor (Event at) low = refl
  pull_floor (Look seen) low = refl

  pub pull_ids : (carry : At) (low : List ℕ) → (kept_after_pull kept own region k place carry low).ids ≡ kept.ids
  pull_ids (Event at) low = refl
  pull_ids (Look seen) low = refl

  pub pull_rows : (carry : At) (low : List ℕ) → (kept_after_pull kept own region k place carry low).rows ≡ kept.rows
  pull_rows (Event at) low = refl
  pull_rows (Look seen) low = refl

  pub pull_starts : (carry : At) (low : List ℕ)
      → (kept_after_pull kept own region k place carry low).starts ≡ kept.starts
  pull_starts (Event at) low = refl
  pull_starts (Look seen) low = refl

-- TWO HOLDS CHANGE

module _ (s : Store) (c d : Client) (is : IsClient s c) (number : d.number ≡ c.number) (region : d.region ≡ c.region)
    (floor : d.floor ≡ c.floor) (count : d.count ≡ c.count) (rows : nodes_of_rows d ≡ nodes_of_rows c)
    (tracks : tracks_of d ≡ tracks_of c) (n k : ℕ) (from to : Region) (g g' h h' : Hold)
    (from_there : slice_get s.regions n ≡ Some from) (to_there : slice_get s.regions c.region ≡ Some to)
    (ch : ChangesTwo n c.region (holds_of c) (holds_of d) g g' h h')
    (a : GoesOnIn from k g g') (b : GoesOnIn to k h h') (lt : k < s.size.colours)
    (held : AsksForHeld from to k g h → AsksForHeld from to k g' h')
    (g_made : (i : ℕ) (t : Told) → slice_get (made_in g' k) i ≡ Some t
    → WasMade g k t ⊎ ((asked : ℕ) × (t.entry.event ≡ events.Give to.number asked)))
    (h_made : (i : ℕ) (t : Told) → slice_get (made_in h' k) i ≡ Some t
    → WasMade h k t ⊎ ((start : ℕ) × (heads : List Head) × (t.entry.event ≡ events.Carry from.number start heads))) where
  abbrev m : ℕ
  m = c.region

  back : m ≢ n
  back e = ch.apart (sym e)

  g_new : slice_get (holds_of d) n ≡ Some g'
  g_new = ap (λ l. slice_get l n) ch.changed
      ∙ (set_elsewhere (slice_set (holds_of c) n g') m h' n ch.apart ∙ set_there (holds_of c) n g' g ch.first)

  h_new : slice_get (holds_of d) m ≡ Some h'
  h_new = ap (λ l. slice_get l m) ch.changed
      ∙ set_there (slice_set (holds_of c) n g') m h' h (set_elsewhere (holds_of c) n g' m back ∙ ch.second)

  others : (i : ℕ) → i ≢ n → i ≢ m → slice_get (holds_of d) i ≡ slice_get (holds_of c) i
  others i ne1 ne2 = ap (λ l. slice_get l i) ch.changed
      ∙ (set_elsewhere (slice_set (holds_of c) n g') m h' i ne2 ∙ set_elsewhere (holds_of c) n g' i ne1)

  many : length (holds_of d) ≡ length (holds_of c)
  many = ap length ch.changed ∙ (set_long (slice_set (holds_of c) n g') m h' ∙ set_long (holds_of c) n g')

  g_on : HasGoneOn g g'
  g_on = gone_looked k g g' a.others a.more a.seat

  h_on : HasGoneOn h h'
  h_on = gone_looked k h h' b.others b.more b.seat

  -- of each hold
  by_two : (P : ℕ → Hold → Hold → Type 0) → P n g g' → P m h h' → ((i : ℕ) (x : Hold) → i ≢ m → P i x x)
      → (i : ℕ) (x y : Hold) → slice_get (holds_of c) i ≡ Some x → slice_get (holds_of d) i ≡ Some y → P i x y
  by_two P pg ph po i x y at_x at_y = elim (cases_eq i n) [
    | inl same ↦
        (let is_x : g ≡ x = same_Some g x (sym ch.first ∙ (ap (slice_get (holds_of c)) (sym same) ∙ at_x)) in
        let is_y : g' ≡ y = same_Some g' y (sym g_new ∙ (ap (slice_get (holds_of d)) (sym same) ∙ at_y)) in
        subst (λ z. P z x y) (sym same) (subst (λ z. P n z y) is_x (subst (λ z. P n g z) is_y pg)))
    | inr ne ↦ elim (cases_eq i m) [
      | inl same ↦
          (let is_x : h ≡ x = same_Some h x (sym ch.second ∙ (ap (slice_get (holds_of c)) (sym same) ∙ at_x)) in
          let is_y : h' ≡ y = same_Some h' y (sym h_new ∙ (ap (slice_get (holds_of d)) (sym same) ∙ at_y)) in
          subst (λ z. P z x y) (sym same) (subst (λ z. P m z y) is_x (subst (λ z. P m h z) is_y ph)))
      | inr far ↦
          (let is_y : x ≡ y = same_Some x y (sym at_x ∙ (sym (others i ne far) ∙ at_y)) in
          subst (λ z. P i x z) is_y (po i x far))
    ]
  ]

  pub pull_goes : HaveGoneOn (holds_of c) (holds_of d)
  pull_goes = (many, by_two (λ i x y. HasGoneOn x y) g_on h_on (λ i x ne. gone_same x))

  pull_holds : AreHoldsIn s.regions (holds_of d)
  pull_holds = (
    many ∙ is.holds.0,
    λ i r y at_r at_y. elim (cases_eq i n) [
      | inl same ↦
          (let is_y : g' ≡ y = same_Some g' y (sym g_new ∙ (ap (slice_get (holds_of d)) (sym same) ∙ at_y)) in
          let is_r : from ≡ r = same_Some from r (sym from_there ∙ (ap (slice_get s.regions) (sym same) ∙ at_r)) in
          subst (IsHold r) is_y (subst (λ z. IsHold z g') is_r a.rests))
      | inr ne ↦ elim (cases_eq i m) [
        | inl same ↦
            (let is_y : h' ≡ y = same_Some h' y (sym h_new ∙ (ap (slice_get (holds_of d)) (sym same) ∙ at_y)) in
            let is_r : to ≡ r = same_Some to r (sym to_there ∙ (ap (slice_get s.regions) (sym same) ∙ at_r)) in
            subst (IsHold r) is_y (subst (λ z. IsHold z h') is_r b.rests))
        | inr far ↦ is.holds.1 i r y at_r (sym (others i ne far) ∙ at_y)
      ]
    ],
  )

  -- the hold that it was
  was : (i : ℕ) (y : Hold) → slice_get (holds_of d) i ≡ Some y → (x : Hold) × (slice_get (holds_of c) i ≡ Some x)
  was i y at =
      let within = slice_get_within (holds_of d) i y at in
      got (holds_of c) i (omega (arith, within, many))

  lawful : (i : ℕ) → IsColumnHistory m (length s.regions) (dated m (entries_seen h' i))
  lawful i = subst (λ (l : List Entry). IsColumnHistory m (length s.regions) (dated m l))
      (seen_there (holds_of d) m h' h_new i)
      (are_lawful (length s.regions) s.regions (holds_of d) (are_regions s) pull_holds m i)

  abbrev tag_home : Tag
  tag_home = record {
    region = m;
    colour = 0;
    regions = length s.regions;
    size = to.board.size;
    board = to.board.table.shared.table_id;
    rings = rings_at to 0;
  }

  pull_home : IsHome d h'
  pull_home =
      let before = is.home h ch.second in
      let low = before.next in
      let counted = before.counted in
      let next = b.next in
      let used : h'.seat.used ≡ h.seat.used = ap (λ (q : Seat). q.used) b.seat in
      record {
        next = omega (arith, low, next, count);
        counted = omega (arith, counted, floor, used, count);
        rows = subst (λ (z : ℕ). AreBegunRows z h' (nodes_of_rows d)) (sym number)
            (subst (AreBegunRows c.number h') (sym rows) (rows_longer c.number h h' (nodes_of_rows c) h_on used before.rows));
        tracks = λ i track at. subst (λ (z : ℕ). IsTrack z i (seen_in h' i) track) (sym region)
            (track_longer tag_home i (seen_in h i) (seen_in h' i) track (h_on.more i) (lawful i)
            (before.tracks i track (ap (λ l. slice_get l i) (sym tracks) ∙ at)));
      }

  -- neither hold brought a node
  brings : (i : ℕ) (x y : Hold) → slice_get (holds_of c) i ≡ Some x → slice_get (holds_of d) i ≡ Some y
      → Brings c.number (is.nodes ++ []) x y
  brings = by_two (λ i x y. Brings c.number (is.nodes ++ []) x y)
      (record {
        on = g_on;
        singles = λ i j t x at nodes single. elim (cases_eq i k) [
          | inl same ↦ elim (g_made j t (ap (λ z. slice_get (made_in g' z) j) (sym same) ∙ at)) [
            | inl old ↦ inl (subst (λ z. WasMade g z t) (sym same) old)
            | inr gave ↦ absurd (give_no_single x.id t.entry.event to.number gave.0 gave.1 single)
          ]
          | inr ne ↦ inl (j, ap (λ l. slice_get l j) (sym (made_same g g' k i a.others ne)) ∙ at)
        ];
        rows = λ j less. inl (let used : g'.seat.used ≡ g.seat.used = ap (λ (q : Seat). q.used) a.seat in omega (arith, less, used));
      })
      (record {
        on = h_on;
        singles = λ i j t x at nodes single. elim (cases_eq i k) [
          | inl same ↦ elim (h_made j t (ap (λ z. slice_get (made_in h' z) j) (sym same) ∙ at)) [
            | inl old ↦ inl (subst (λ z. WasMade h z t) (sym same) old)
            | inr carried ↦ absurd (carry_no_single x.id t.entry.event from.number carried.0 carried.1 carried.2 single)
          ]
          | inr ne ↦ inl (j, ap (λ l. slice_get l j) (sym (made_same h h' k i b.others ne)) ∙ at)
        ];
        rows = λ j less. inl (let used : h'.seat.used ≡ h.seat.used = ap (λ (q : Seat). q.used) b.seat in omega (arith, less, used));
      })
      (λ i x far. record {
        on = gone_same x;
        singles = λ j u t y at nodes single. inl (u, at);
        rows = λ j less. inl less;
      })

  -- neither hold helped anybody
  idle : (i : ℕ) (x y : Hold) → slice_get (holds_of c) i ≡ Some x → slice_get (holds_of d) i ≡ Some y
      → GoesIdle c.number x y
  idle = by_two (λ i x y. GoesIdle c.number x y)
      (record {
        on = g_on;
        since = λ i j t at helps. elim (cases_eq i k) [
          | inl same ↦ elim (g_made j t (ap (λ z. slice_get (made_in g' z) j) (sym same) ∙ at)) [
            | inl old ↦ subst (λ z. WasMade g z t) (sym same) old
            | inr gave ↦ absurd (subst (IsHelp c.number) gave.1 helps)
          ]
          | inr ne ↦ (j, ap (λ l. slice_get l j) (sym (made_same g g' k i a.others ne)) ∙ at)
        ];
      })
      (record {
        on = h_on;
        since = λ i j t at helps. elim (cases_eq i k) [
          | inl same ↦ elim (h_made j t (ap (λ z. slice_get (made_in h' z) j) (sym same) ∙ at)) [
            | inl old ↦ subst (λ z. WasMade h z t) (sym same) old
            | inr carried ↦ absurd (subst (IsHelp c.number) carried.2 helps)
          ]
          | inr ne ↦ (j, ap (λ l. slice_get l j) (sym (made_same h h' k i b.others ne)) ∙ at)
        ];
      })
      (λ i x far. idle_same c.number x)

  each_idle : (i : ℕ) (y : Hold) → slice_get (holds_of d) i ≡ Some y
      → (x : Hold) × (slice_get (holds_of c) i ≡ Some x) × GoesIdle c.number x y
  each_idle i y at = let x = was i y at in (x.0, x.1, idle i x.0 y x.1 at)

  pub pull_idle : Helps d → Helps c
  pull_idle = helped_before s c d is number region each_idle

  in_colours : (i : ℕ) (r : Region) → slice_get s.regions i ≡ Some r → k < r.board.size.colours
  in_colours i r at = subst (λ z. k < z.colours) (sym (s.fit.each i r at).size) lt

  pub pull_client : IsClient s d
  pull_client = record {
    holds = pull_holds;
    numbers = λ i y at.
        let x = was i y at in
        (by_two (λ i x y. y.passes.number ≡ x.passes.number) a.others.number b.others.number (λ i x ne. refl) i x.0 y x.1 at)
        ∙ (is.numbers i x.0 x.1 ∙ sym number);
    away = λ i y at ne.
        let x = was i y at in
        (by_two (λ i x y. y.seat.used ≡ x.seat.used) (ap (λ (q : Seat). q.used) a.seat) (ap (λ (q : Seat). q.used) b.seat)
        (λ i x ne. refl) i x.0 y x.1 at)
        ∙ is.away i x.0 x.1 (λ e. ne (e ∙ sym region));
    region = let within = is.region in omega (arith, within, region);
    home = λ y at. subst (IsHome d) (same_Some h' y (sym h_new ∙ (ap (slice_get (holds_of d)) (sym region) ∙ at))) pull_home;
    floored = let low = is.floored in omega (arith, low, floor);
    colours = ap length tracks ∙ is.colours;
    nodes = is.nodes;
    nodes_count = is.nodes_count ∙ sym count;
    own_nodes =
        subst (λ z. HasOwnNodes z (holds_of d) is.nodes) (sym number)
        (subst (HasOwnNodes c.number (holds_of d)) (append-nil is.nodes)
        (own_nodes_on c.number (holds_of c) (holds_of d) is.nodes [] is.own_nodes
        (λ i x at. is.own_nodes.ids i x (ap (λ (l : List Node). slice_get l i) (sym (append-nil is.nodes)) ∙ at))
        (λ i y at. let x = was i y at in (x.0, x.1, brings i x.0 y x.1 at))));
    pulls = truly_pulled s.regions (length s.regions) (holds_of c) (holds_of d) (are_regions s) pull_holds many n m from to
        g g' h h' k ch.apart from_there to_there ch.first g_new ch.second h_new others a.others b.others a.more b.more g_made
        h_made is.pulls (in_colours m to to_there) held;
    helps = idle_client s c d is number region each_idle;
  }

  pub pull_finished : Finished c → Finished d
  pull_finished finished y at =
      subst (λ z. AllClosed z (nodes_of_rows d)) (same_Some h' y (sym h_new ∙ (ap (slice_get (holds_of d)) (sym region) ∙ at)))
      (subst (AllClosed h') (sym rows)
      (all_closed_longer m (length s.regions) h h' (nodes_of_rows c) h_on lawful (finished h ch.second)))

  -- WHAT EXPLAINS THE ANSWER

  module _ (objects : List Object) where
    abbrev caller : Caller
    caller = caller_of s d objects

    on : SeesOn caller (seen_of c) (seen_of d)
    on =
        let few = s.fit.few in
        let within = is.region in
        sees_on caller s.regions (holds_of c) (holds_of d) (omega (arith, few, within, region)) (are_regions s) pull_holds
        pull_goes

    caller_is : caller_of s c objects ≡ caller
    caller_is = λ i. record {
      client = sym number i;
      own = sym region i;
      regions = length s.regions;
      rows = s.size.rows;
      objects = objects;
    }

    kept_by : (kept : Kept) → Keeps s c objects kept → IsKeptBy (seen_of c) caller kept
    kept_by kept keeps = subst (λ z. IsKeptBy (seen_of c) z kept) caller_is keeps.by

    h_was : slice_get (holds_of c) d.region ≡ Some h
    h_was = ap (slice_get (holds_of c)) region ∙ ch.second

    h_is : slice_get (holds_of d) d.region ≡ Some h'
    h_is = ap (slice_get (holds_of d)) region ∙ h_new

    g_client : g.passes.number ≡ d.number
    g_client = is.numbers n g ch.first ∙ sym number

    h_client : h.passes.number ≡ d.number
    h_client = is.numbers m h ch.second ∙ sym number

    from_is : from.number ≡ n
    from_is = (are_regions s n from from_there).0

    to_is : to.number ≡ d.region
    to_is = (are_regions s m to to_there).0 ∙ sym region

    regions_are : from.regions ≡ length s.regions
    regions_are = (are_regions s n from from_there).1

    far : n ≢ d.region
    far e = ch.apart (e ∙ region)

    seen_same : (r i : ℕ) → (i ≢ k) ⊎ ((r ≢ n) × (r ≢ d.region)) → seen_of d r i ≡ seen_of c r i
    seen_same r i (inr two) = ap (λ o. entries_by o i) (others r two.0 (λ e. two.1 (e ∙ sym region)))
    seen_same r i (inl ne) = elim (cases_eq r n) [
      | inl same ↦
          subst (λ z. seen_of d z i ≡ seen_of c z i) (sym same)
          (seen_there (holds_of d) n g' g_new i
          ∙ (ap entries_in (a.others.others i ne) ∙ sym (seen_there (holds_of c) n g ch.first i)))
      | inr ne1 ↦ elim (cases_eq r m) [
        | inl same ↦
            subst (λ z. seen_of d z i ≡ seen_of c z i) (sym same)
            (seen_there (holds_of d) m h' h_new i
            ∙ (ap entries_in (b.others.others i ne) ∙ sym (seen_there (holds_of c) m h ch.second i)))
        | inr ne2 ↦ ap (λ o. entries_by o i) (others r ne1 ne2)
      ]
    ]

  -- a pull
  module _ (p : Pulled) (pulls : PullsByHolds from to k g g' h h' p) where
    pub pull_explained : IsExplained s c d (PullsAs n k p)
    pull_explained objects kept finished keeps =
        let who = caller objects in
        let there = λ (rest : Rest). pulls_there (holds_of c) (holds_of d) who n k from to g g' h h' ch.first g_new
        (h_was objects) (h_is objects) (g_client objects) (h_client objects) (from_is objects) (to_is objects)
        (regions_are objects) (far objects) rest p pulls in
        let makes = makes_pull (holds_of c) (holds_of d) who n k from to g g' h h' ch.first g_new
        (h_was objects) (h_is objects) (g_client objects) (h_client objects) (from_is objects) (to_is objects)
        (regions_are objects) (far objects) no_rest p pulls (seen_same objects) in
        let place = pulls.gave.place in
        let low : List ℕ = [] in (
          kept_after_pull kept d.region n k place p.carry low,
          record {
            by = kept_after_pulling (seen_of c) (seen_of d) no_rest who kept n k p.nodes place p.carry low (on objects) makes
                (kept_by objects kept keeps) (there no_rest);
            floor = pull_floor kept d.region n k place p.carry low ∙ (keeps.floor ∙ sym floor);
            ids = pull_ids kept d.region n k place p.carry low ∙ (keeps.ids ∙ sym count);
            rows = pull_rows kept d.region n k place p.carry low ∙ (keeps.rows ∙ ap length (sym rows));
            starts = λ i. ap (λ f. f i) (pull_starts kept d.region n k place p.carry low)
                ∙ (keeps.starts i ∙ ap (λ l. counts_in (slice_get l i)) (sym tracks));
          },
          λ rest fits. (
            place,
            low,
            pulls.give,
            pulls_stand (seen_of c) (seen_of d) rest who kept n k p.nodes place p.carry low (on objects)
                (kept_by objects kept keeps) (there rest),
            refl,
          ),
        )

  -- gives alone
  module _ (alone : GivesAlone from to k g g' h h') (sees : SeesMoreIn k h h') where
    none_at_home : own_steps d.number (seen_of d m k) ≡ own_steps d.number (seen_of c m k)
    none_at_home =
        ap (own_steps d.number) (seen_there (holds_of d) m h' h_new k)
        ∙ (none_made d.number (seen_in h k) (seen_in h' k)
        (subst (λ z. made_by maker z (seen_in h' k) ≡ made_by maker z (seen_in h k)) (h_client []) sees.none)
        ∙ ap (own_steps d.number) (sym (seen_there (holds_of c) m h ch.second k)))

    pub gives_explained : IsExplained s c d (GaveAlone n k)
    gives_explained objects kept finished keeps =
        let who = caller objects in
        let gives = alone.0 in
        let whole = seen_in h' k in
        let self : IsPrefix whole whole = ([], append-nil whole) in
        let seen = kept.seen d.region k in
        let looked = length (seen_of d d.region k) in
        let since = (kept_by objects kept keeps).seen_within d.region k in
        let long = seen_long (holds_of d) d.region h' (h_is objects) k in
        let grown = prefix_length (seen_of c d.region k) (seen_of d d.region k) ((on objects).more d.region k) in
        let all_of = λ (rest : Rest). each_gave (GivesHeld (log_seen (seen_of d) rest) who n k seen looked) gives
        (λ i x at. held_there (holds_of c) (holds_of d) who n k from to g g' h h' ch.first g_new (h_was objects)
        (h_is objects) (g_client objects) (h_client objects) (from_is objects) (to_is objects) (regions_are objects)
        (far objects) rest gives whole self alone.2 seen looked since (omega (arith, long)) i x at) in
        let rise = rise_there (holds_of c) (holds_of d) who n k from to g g' h h' ch.first g_new (h_was objects)
        (h_is objects) (g_client objects) (h_client objects) (from_is objects) (to_is objects) (regions_are objects)
        (far objects) no_rest gives whole self alone.2 in
        let steps = given_steps (holds_of c) (holds_of d) who n k from to g g' h h' ch.first g_new (h_was objects)
        (h_is objects) (g_client objects) (h_client objects) (from_is objects) (to_is objects) (regions_are objects)
        (far objects) no_rest gives whole self alone.2 in
        let places = length-map gives place_of in
        let only : MakesOnly d.number n k (length (map place_of gives)) (seen_of c) (seen_of d) = record {
          here = omega (arith, steps, places);
          others = λ r i ne. elsewhere objects r i ne;
        } in
        let few = alone.1 in
        let few_places : length (map place_of gives) ≤ 1 = omega (arith, places, few) in
        let low : List ℕ = [] in
        let only_gives : (rest : Rest) → OnlyGives (log_seen (seen_of d) rest) who kept n k looked low (map place_of gives) =
        λ rest. record {
          another = far objects;
          unseen = omega (arith, since, grown);
          there = omega arith;
          made_again = All-nil (GivesTooLow (log_seen (seen_of d) rest) who n k seen looked);
          once = few_places;
          given = all_of rest;
        } in (
          kept_after_giving kept d.region n k looked low (map place_of gives),
          record {
            by = kept_after_gives (seen_of c) (seen_of d) no_rest who kept n k looked low
                (map place_of gives) (on objects) only (kept_by objects kept keeps) rise (only_gives no_rest);
            floor = keeps.floor ∙ sym floor;
            ids = keeps.ids ∙ sym count;
            rows = keeps.rows ∙ ap length (sym rows);
            starts = λ i. keeps.starts i ∙ ap (λ l. counts_in (slice_get l i)) (sym tracks);
          },
          λ rest fits. (looked, low, map place_of gives, only_gives rest, refl),
        ) where
          elsewhere : (objects : List Object) (r i : ℕ) → (r ≢ n) ⊎ (i ≢ k)
              → own_steps d.number (seen_of d r i) ≡ own_steps d.number (seen_of c r i)
          elsewhere objects r i (inr ne) = ap (own_steps d.number) (seen_same objects r i (inl ne))
          elsewhere objects r i (inl ne) = elim (cases_eq r m) [
            | inl same ↦ elim (cases_eq i k) [
              | inl here ↦
                  subst (λ z. own_steps d.number (seen_of d z i) ≡ own_steps d.number (seen_of c z i)) (sym same)
                  (subst (λ z. own_steps d.number (seen_of d m z) ≡ own_steps d.number (seen_of c m z)) (sym here)
                  none_at_home)
              | inr other ↦ ap (own_steps d.number) (seen_same objects r i (inl other))
            ]
            | inr ne2 ↦ ap (own_steps d.number) (seen_same objects r i (inr (ne, λ e. ne2 (e ∙ region))))
          ]
