-- Calls at home by which nothing is made: what the client keeps stays.
use Rattle.std.proofs.Common.{◌≡◌, ◌⊎◌, inl, inr, ℕ, ◌≤◌, List, [], length, Some, refl, ap, sym, subst, ◌∙◌, arith, append-nil}
use Rattle.std.proofs.lemmas.List.Elements.{All-contains}
use Rattle.std.specs.Prelude.{slice_get}
use Rattle.std.proofs.lemmas.Bool.{cases_eq}
use Rattle.std.proofs.lemmas.Option.{same_Some}
use Rattle.log_node.specs.declared.limits.TheConstants.{MAX_STAMP}
use Rattle.log_node.specs.declared.node.Node.{Node}
use Rattle.log_node.specs.declared.ids.Id.{Id}
use Rattle.col_core.specs.declared.Event.{Event}
use Rattle.col_core.specs.declared.Event.TheVariants.{Single, Propose, Settle, Raise, Give, Carry, Trim}
use Rattle.col_core.specs.declared.Entry.{Entry}
use Rattle.col_core.specs.Computed.{dated}
use Rattle.col_core.specs.Legal.{IsColumnHistory}
use Rattle.col_core.specs.Keeping.{Kept}
use Rattle.script_text.specs.declared.script.Object.{Object}
use Rattle.turn_cell.specs.Histories.{made_by}
use Rattle.chain_store.specs.declared.told.Tag.{Tag}
use Rattle.chain_store.specs.declared.told.Told.{Told}
use Rattle.chain_store.specs.declared.hold.Hold.{Hold}
use Rattle.chain_store.specs.declared.region.Region.{Region}
use Rattle.chain_store.specs.Histories.{maker}
use Rattle.chain_store.specs.Regions.{rings_at}
use Rattle.chain_store.specs.Holds.{SameBut, SeesMoreIn, seen_in, made_in, turned_in, entries_seen}
use Rattle.chain_store.specs.Going.{GoesOn}
use Rattle.append_core.specs.Standing.{IsSingleOf}
use Rattle.chain_store.proofs.CallerLemmas.{goes_same, goes_weaken}
use Rattle.lawful_run.specs.Callers.{Caller}
use Rattle.client_law.specs.Making.{MakesNone}
use Rattle.client_law.specs.Kept.{IsKeptBy}
use Rattle.client_law.proofs.CallerLemmas.{kept_stays}
use Rattle.log_client.specs.declared.store.Store.{Store}
use Rattle.log_client.specs.declared.client.Client.{Client}
use Rattle.log_client.specs.declared.track.Track.{Track}
use Rattle.log_client.specs.Ending.{IsNoMove, HasOwnNodes, HelpsWhole, PullsTruly}
use Rattle.log_client.specs.Clients.{holds_of, seen_of, nodes_of_rows, tracks_of, starts_of, caller_of, IsClient, IsTrack, AreBegunRows, Keeps, Finished, AllClosed}
use Rattle.log_client.specs.Calls.{DidNothing}
use Rattle.col_core.proofs.CallerLemmas.{contains_in, slice_in}
use Rattle.log_client.proofs.Lists.{got_split}
use Rattle.log_client.proofs.Known.Seeing.{are_lawful, seen_there}
use Rattle.log_client.proofs.Known.Steps.{made_nothing}
use Rattle.log_client.proofs.Known.Truly.{WasMade, pulls_truly_stays}
use Rattle.log_client.proofs.Going.AtHome.{ChangesHome, home_after, as_many, by_hold, holds_after, sees_after, client_after, own_after, are_regions}
use Rattle.log_client.proofs.Going.Staying.{track_longer, rows_longer, all_closed_longer}

-- a hold that looked at one colour's column made nothing
pub made_looked : (k : ℕ) (g h : Hold) → SameBut k g h → SeesMoreIn k g h → (c : ℕ) → made_in h c ≡ made_in g c
made_looked k g h but sees c = elim (cases_eq c k) [
  | inl is ↦
      subst (λ (d : ℕ). made_in h d ≡ made_in g d) (sym is)
      (ap (λ (n : ℕ). made_by maker n (turned_in h k)) but.number ∙ sees.none)
  | inr ne ↦
      ap (λ (n : ℕ). made_by maker n (turned_in h c)) but.number
      ∙ ap (made_by maker g.passes.number) (but.others c ne)
]

-- an event that enters no node as final, and moves none between regions
abbrev pub IsPlain : Event → Type 0
IsPlain (Single id floor wants) = ⊥
IsPlain (Propose id floor wants) = Unit {0}
IsPlain (Settle id outcome) = Unit {0}
IsPlain (Raise to) = Unit {0}
IsPlain (Give region from) = ⊥
IsPlain (Carry region start heads) = ⊥
IsPlain (Trim counts) = Unit {0}

plain_moves : (e : Event) → IsPlain e → IsNoMove e
plain_moves (Single id floor wants) p = absurd p
plain_moves (Propose id floor wants) p = tt
plain_moves (Settle id outcome) p = tt
plain_moves (Raise to) p = tt
plain_moves (Give region from) p = absurd p
plain_moves (Carry region start heads) p = absurd p
plain_moves (Trim counts) p = tt

plain_single : (id : Id) (e : Event) → IsPlain e → IsSingleOf id e → ⊥
plain_single id (Single other floor wants) p q = p
plain_single id (Propose other floor wants) p q = q
plain_single id (Settle other outcome) p q = q
plain_single id (Raise to) p q = q
plain_single id (Give region from) p q = q
plain_single id (Carry region start heads) p q = q
plain_single id (Trim counts) p q = q

-- an entry that a hold made which goes on, it had made, or is one of those made since
pub made_since : (Made : ℕ → Event → Type 0) (g h : Hold) (k n : ℕ) (t : Told) → GoesOn Made g h
    → slice_get (made_in h k) n ≡ Some t → WasMade g k t ⊎ Made k t.entry.event
made_since Made g h k n t goes at = elim (got_split (made_in g k) (goes.made k).0 n t
    (ap (λ (l : List Told). slice_get l n) (sym (goes.made k).1) ∙ at)) [
      | inl old ↦ inl (n, old)
      | inr new ↦ inr (All-contains (λ (u : Told). Made k u.entry.event) (goes.made k).0 t (goes.made k).2
          (contains_in (goes.made k).0 t (slice_in (goes.made k).0 new.0 t new.1)))
    ]

-- AT HOME

module _ (s : Store) (c d : Client) (r : Region) (g h : Hold) (is : IsClient s c) (ch : ChangesHome s c d r g h) where
  -- what is seen of the region's columns is lawful
  pub lawful_after : (k : ℕ) → IsColumnHistory c.region (length s.regions) (dated c.region (entries_seen h k))
  lawful_after k = subst (λ (l : List Entry). IsColumnHistory c.region (length s.regions) (dated c.region l))
      (seen_there (holds_of d) c.region h (home_after s c d r g h is ch) k)
      (are_lawful (length s.regions) s.regions (holds_of d) (are_regions s) (holds_after s c d r g h is ch) c.region k)

  -- the tag of the region's columns
  abbrev pub tag_home : Tag
  tag_home = record {
    region = c.region;
    colour = 0;
    regions = length s.regions;
    size = r.board.size;
    board = r.board.table.shared.table_id;
    rings = rings_at r 0;
  }

  pub track_stays : (k : ℕ) (track : Track) → IsTrack c.region k (seen_in g k) track
      → IsTrack c.region k (seen_in h k) track
  track_stays k track = track_longer tag_home k (seen_in g k) (seen_in h k) track (ch.on.more k) (lawful_after k)

  pub rows_stay : nodes_of_rows d ≡ nodes_of_rows c → h.seat.used ≡ g.seat.used → AreBegunRows d.number h (nodes_of_rows d)
  rows_stay rows used =
      subst (λ (n : ℕ). AreBegunRows n h (nodes_of_rows d)) (sym ch.number)
      (subst (AreBegunRows c.number h) (sym rows)
      (rows_longer c.number g h (nodes_of_rows c) ch.on used (is.home g ch.before).rows))

  pub finished_stays : nodes_of_rows d ≡ nodes_of_rows c → Finished c → Finished d
  finished_stays rows finished l at =
      let is_h : h ≡ l = same_Some h l (sym (home_after s c d r g h is ch)
      ∙ (ap (slice_get (holds_of d)) (sym ch.region) ∙ at)) in
      subst (λ (z : Hold). AllClosed z (nodes_of_rows d)) is_h
      (subst (AllClosed h) (sym rows)
      (all_closed_longer c.region (length s.regions) g h (nodes_of_rows c) ch.on lawful_after (finished g ch.before)))

  -- pulls are true where nothing is moved
  pub pulls_stay : GoesOn (λ c e. IsNoMove e) g h → PullsTruly s.regions (holds_of d)
  pulls_stay goes =
      pulls_truly_stays s.regions (holds_of c) (holds_of d) (holds_after s c d r g h is ch) (as_many s c d r g h is ch)
      (by_hold s c d r g h is ch (λ n k l. GoesOn (λ c e. IsNoMove e) k l) goes
      (λ n k ne. goes_same (λ c e. IsNoMove e) k k refl)) is.pulls

  -- the caller is the same
  pub caller_is : (objects : List Object) → caller_of s c objects ≡ caller_of s d objects
  caller_is objects = λ i. record {
    client = sym ch.number i;
    own = sym ch.region i;
    regions = length s.regions;
    rows = s.size.rows;
    objects = objects;
  }

  pub kept_before : (objects : List Object) (kept : Kept) → Keeps s c objects kept
      → IsKeptBy (seen_of c) (caller_of s d objects) kept
  kept_before objects kept keeps = subst (λ (z : Caller). IsKeptBy (seen_of c) z kept) (caller_is objects) keeps.by

  -- where nothing was made
  module _ (made : (k : ℕ) → made_in h k ≡ made_in g k) where
    pub makes_none : MakesNone d.number (seen_of c) (seen_of d)
    makes_none = made_nothing (holds_of c) (holds_of d) d.number (as_many s c d r g h is ch) each where
      each : (n : ℕ) (k l : Hold) → slice_get (holds_of c) n ≡ Some k → slice_get (holds_of d) n ≡ Some l
          → (k.passes.number ≡ d.number) × (l.passes.number ≡ d.number) × ((m : ℕ) → made_in l m ≡ made_in k m)
      each n k l at_k at_l =
          let number = is.numbers n k at_k ∙ sym ch.number in
          let same = by_hold s c d r g h is ch (λ n k l. (l.passes.number ≡ k.passes.number)
          × ((m : ℕ) → made_in l m ≡ made_in k m)) (ch.on.number, made) (λ n k ne. (refl, λ m. refl)) n k l at_k at_l in
          (number, same.0 ∙ number, same.1)

    pub kept_after : (objects : List Object) (kept : Kept) → Keeps s c objects kept
        → IsKeptBy (seen_of d) (caller_of s d objects) kept
    kept_after objects kept keeps =
        kept_stays (caller_of s d objects) (seen_of c) (seen_of d) kept (sees_after s c d r g h is ch objects) makes_none
        (kept_before objects kept keeps)

    -- what the client keeps stays, where its fields do
    module _ (floor : d.floor ≡ c.floor) (count : d.count ≡ c.count) (rows : nodes_of_rows d ≡ nodes_of_rows c)
        (starts : (k : ℕ) → starts_of d k ≡ starts_of c k) where
      pub keeps_stay : (objects : List Object) (kept : Kept) → Keeps s c objects kept → Keeps s d objects kept
      keeps_stay objects kept keeps = record {
        by = kept_after objects kept keeps;
        floor = keeps.floor ∙ sym floor;
        ids = keeps.ids ∙ sym count;
        rows = keeps.rows ∙ ap length (sym rows);
        starts = λ k. keeps.starts k ∙ sym (starts k);
      }

      pub did_nothing : DidNothing s c d
      did_nothing objects kept finished keeps = (kept, keeps_stay objects kept keeps, λ rest fits. refl)

  -- the nodes that it appended are those that it had
  pub own_plain : GoesOn (λ c e. IsPlain e) g h → h.seat.used ≡ g.seat.used → HasOwnNodes d.number (holds_of d) is.nodes
  own_plain goes used =
      subst (HasOwnNodes d.number (holds_of d)) (append-nil is.nodes)
      (own_after s c d r g h is ch [] (λ n x at. is.own_nodes.ids n x
      (ap (λ (l : List Node). slice_get l n) (sym (append-nil is.nodes)) ∙ at))
      (record {
        on = ch.on;
        singles = λ k n t x at nodes single. elim (made_since (λ c e. IsPlain e) g h k n t goes at) [
          | inl old ↦ inl old
          | inr new ↦ absurd (plain_single x.id t.entry.event new single)
        ];
        rows = λ j lt. inl (omega (arith, lt, used));
      }))

  -- a client whose hold went on by plain events, and keeps what it had
  pub client_looked : GoesOn (λ c e. IsPlain e) g h → h.seat.used ≡ g.seat.used
      → h.next ≡ g.next → c.floor ≤ d.floor → d.floor ≤ MAX_STAMP → d.count ≡ c.count → nodes_of_rows d ≡ nodes_of_rows c
      → length (tracks_of d) ≡ length (tracks_of c)
      → ((k : ℕ) (track : Track) → slice_get (tracks_of d) k ≡ Some track → IsTrack d.region k (seen_in h k) track)
      → HelpsWhole d.number d.region (holds_of d) → IsClient s d
  client_looked goes used next floor floored count rows long tracks helps =
      let before = is.home g ch.before in
      let low = before.next in
      let counted = before.counted in
      client_after s c d r g h is ch
      (record {
        next = omega (arith, low, next, count);
        counted = omega (arith, counted, floor, used, count);
        rows = rows_stay rows used;
        tracks = tracks;
      })
      floored (long ∙ is.colours) is.nodes (is.nodes_count ∙ sym count) (own_plain goes used)
      (pulls_stay (goes_weaken (λ c e. IsPlain e) g h (λ c e. IsNoMove e) (λ c e p. plain_moves e p) goes))
      helps

  -- its tracks stay
  pub tracks_stay : tracks_of d ≡ tracks_of c
      → (k : ℕ) (track : Track) → slice_get (tracks_of d) k ≡ Some track → IsTrack d.region k (seen_in h k) track
  tracks_stay same k track at =
      subst (λ (n : ℕ). IsTrack n k (seen_in h k) track) (sym ch.region)
      (track_stays k track ((is.home g ch.before).tracks k track (ap (λ (l : List Track). slice_get l k) (sym same) ∙ at)))
