-- What a call leaves by which all of a client's holds go on and nothing is made.
use Rattle.std.proofs.Common.{◌≡◌, inl, ℕ, List, [], length, map, Some, refl, ap, sym, subst, ◌∙◌, arith, append-nil}
use Rattle.std.specs.Prelude.{slice_get}
use Rattle.std.proofs.lemmas.Option.{slice_get_within}
use Rattle.std.proofs.lemmas.List.Elements.{All-nil}
use Rattle.log_node.specs.declared.node.Node.{Node}
use Rattle.col_core.specs.declared.Entry.{Entry}
use Rattle.col_core.specs.Computed.{dated}
use Rattle.col_core.specs.Legal.{IsColumnHistory}
use Rattle.chain_store.specs.declared.told.Tag.{Tag}
use Rattle.chain_store.specs.declared.told.Told.{Told}
use Rattle.chain_store.specs.declared.hold.Hold.{Hold}
use Rattle.chain_store.specs.declared.region.Region.{Region}
use Rattle.chain_store.specs.Regions.{rings_at}
use Rattle.chain_store.specs.Holds.{seen_in, made_in, entries_seen}
use Rattle.chain_store.specs.Going.{GoesOn}
use Rattle.client_law.specs.Knowing.{SeesOn}
use Rattle.client_law.specs.Making.{MakesNone}
use Rattle.client_law.specs.Kept.{IsKeptBy}
use Rattle.client_law.proofs.CallerLemmas.{kept_stays}
use Rattle.log_client.specs.declared.store.Store.{Store}
use Rattle.log_client.specs.declared.client.Client.{Client}
use Rattle.log_client.specs.Fits.{HasGoneOn, HaveGoneOn}
use Rattle.log_client.specs.Ending.{IsNoMove, AreHoldsIn, HasOwnNodes}
use Rattle.log_client.specs.Clients.{holds_of, seen_of, nodes_of_rows, caller_of, counts_in, IsClient, IsHome, IsTrack, AreBegunRows, Finished, Helps, AllClosed}
use Rattle.log_client.specs.Calls.{DidNothing}
use Rattle.log_client.proofs.Lists.{got}
use Rattle.log_client.proofs.Known.Seeing.{are_lawful, seen_there, sees_on}
use Rattle.log_client.proofs.Known.Steps.{made_nothing}
use Rattle.log_client.proofs.Known.Truly.{pulls_truly_stays}
use Rattle.log_client.proofs.Known.OwnNodes.{own_nodes_on}
use Rattle.log_client.proofs.Going.AtHome.{are_regions}
use Rattle.log_client.proofs.Going.Staying.{track_longer, rows_longer, all_closed_longer}
use Rattle.log_client.proofs.Going.Helping.{GoesIdle, helped_before, idle_client, idle_looked}

-- the hold has gone on, and has made and begun nothing
pub record GoesAlong (g h : Hold) : Type 0 where
  pub on : HasGoneOn g h
  pub made : (k : ℕ) → made_in h k ≡ made_in g k
  pub used : h.seat.used ≡ g.seat.used
  pub next : h.next ≡ g.next

no_move : (g h : Hold) → GoesAlong g h → GoesOn (λ c e. IsNoMove e) g h
no_move g h a = record {
  number = a.on.number;
  more = a.on.more;
  made = λ c. ([], a.made c ∙ sym (append-nil (made_in g c)), All-nil (λ (t : Told). IsNoMove t.entry.event));
}

module _ (s : Store) (c d : Client) (is : IsClient s c) (number : d.number ≡ c.number) (region : d.region ≡ c.region)
    (floor : d.floor ≡ c.floor) (count : d.count ≡ c.count) (rows : d.rows ≡ c.rows) (tracks : d.tracks ≡ c.tracks)
    (holds : AreHoldsIn s.regions (holds_of d))
    (each : (n : ℕ) (g h : Hold) → slice_get (holds_of c) n ≡ Some g → slice_get (holds_of d) n ≡ Some h
    → GoesAlong g h) where
  many : length (holds_of d) ≡ length (holds_of c)
  many = holds.0 ∙ sym is.holds.0

  pub all_gone_on : HaveGoneOn (holds_of c) (holds_of d)
  all_gone_on = (many, λ n g h a b. (each n g h a b).on)

  -- the hold that it was
  was : (n : ℕ) (h : Hold) → slice_get (holds_of d) n ≡ Some h
      → (g : Hold) × (slice_get (holds_of c) n ≡ Some g) × GoesAlong g h
  was n h at =
      let lt = slice_get_within (holds_of d) n h at in
      let g = got (holds_of c) n (omega (arith, lt, many)) in
      (g.0, g.1, each n g.0 h g.1 at)

  lawful : (h : Hold) → slice_get (holds_of d) d.region ≡ Some h → (k : ℕ)
      → IsColumnHistory d.region (length s.regions) (dated d.region (entries_seen h k))
  lawful h at k = subst (λ (l : List Entry). IsColumnHistory d.region (length s.regions) (dated d.region l))
      (seen_there (holds_of d) d.region h at k)
      (are_lawful (length s.regions) s.regions (holds_of d) (are_regions s) holds d.region k)

  home_at : (g : Hold) → slice_get (holds_of c) d.region ≡ Some g → slice_get (holds_of c) c.region ≡ Some g
  home_at g at = ap (slice_get (holds_of c)) (sym region) ∙ at

  abbrev tag_of_region : Region → Tag
  tag_of_region r = record {
    region = d.region;
    colour = 0;
    regions = length s.regions;
    size = r.board.size;
    board = r.board.table.shared.table_id;
    rings = rings_at r 0;
  }

  a_region : (r : Region) × (slice_get s.regions c.region ≡ Some r)
  a_region = got s.regions c.region is.region

  home_along : (h : Hold) → slice_get (holds_of d) d.region ≡ Some h → IsHome d h
  home_along h at =
      let g = was d.region h at in
      let before = is.home g.0 (home_at g.0 g.1) in
      let next = g.2.next in
      let used = g.2.used in
      let low = before.next in
      let counted = before.counted in
      record {
        next = omega (arith, next, low, count);
        counted = omega (arith, counted, floor, used, count);
        rows = subst (λ (n : ℕ). AreBegunRows n h (nodes_of_rows d)) (sym number)
            (subst (λ l. AreBegunRows c.number h (map (λ z. z.value) l.items)) (sym rows)
            (rows_longer c.number g.0 h (nodes_of_rows c) g.2.on used before.rows));
        tracks = λ k track there.
            track_longer (tag_of_region a_region.0) k (seen_in g.0 k) (seen_in h k) track (g.2.on.more k) (lawful h at k)
            (subst (λ (n : ℕ). IsTrack n k (seen_in g.0 k) track) (sym region)
            (before.tracks k track (ap (λ l. slice_get l.items k) (sym tracks) ∙ there)));
      }

  -- they have helped nobody
  idle : (n : ℕ) (h : Hold) → slice_get (holds_of d) n ≡ Some h
      → (g : Hold) × (slice_get (holds_of c) n ≡ Some g) × GoesIdle c.number g h
  idle n h at = let g = was n h at in (g.0, g.1, idle_looked c.number g.0 h g.2.on g.2.made)

  pub idle_along : Helps d → Helps c
  idle_along = helped_before s c d is number region idle

  pub client_along : IsClient s d
  client_along = record {
    holds = holds;
    numbers = λ n h at. let g = was n h at in g.2.on.number ∙ (is.numbers n g.0 g.1 ∙ sym number);
    away = λ n h at ne. let g = was n h at in g.2.used ∙ is.away n g.0 g.1 (λ e. ne (e ∙ sym region));
    region = let lt = is.region in omega (arith, lt, region);
    home = home_along;
    floored = let low = is.floored in omega (arith, low, floor);
    colours = ap (λ l. length l.items) tracks ∙ is.colours;
    nodes = is.nodes;
    nodes_count = is.nodes_count ∙ sym count;
    own_nodes =
        subst (λ (n : ℕ). HasOwnNodes n (holds_of d) is.nodes) (sym number)
        (subst (HasOwnNodes c.number (holds_of d)) (append-nil is.nodes)
        (own_nodes_on c.number (holds_of c) (holds_of d) is.nodes [] is.own_nodes
        (λ n x at. is.own_nodes.ids n x (ap (λ (l : List Node). slice_get l n) (sym (append-nil is.nodes)) ∙ at))
        (λ n h at. let g = was n h at in let used = g.2.used in (
          g.0,
          g.1,
          record {
            on = g.2.on;
            singles = λ k m t x there nodes single. inl (m, ap (λ (l : List Told). slice_get l m) (sym (g.2.made k)) ∙ there);
            rows = λ j lt. inl (omega (arith, lt, used));
          },
        ))));
    pulls = pulls_truly_stays s.regions (holds_of c) (holds_of d) holds many
        (λ n g h a b. no_move g h (each n g h a b)) is.pulls;
    helps = idle_client s c d is number region idle;
  }

  pub finished_along : Finished c → Finished d
  finished_along finished h at =
      let g = was d.region h at in
      subst (λ l. AllClosed h (map (λ z. z.value) l.items)) (sym rows)
      (all_closed_longer d.region (length s.regions) g.0 h (nodes_of_rows c) g.2.on (lawful h at) (finished g.0 (home_at g.0 g.1)))

  pub nothing_along : DidNothing s c d
  nothing_along objects kept finished keeps = (
    kept,
    record {
      by = kept_stays (caller_of s d objects) (seen_of c) (seen_of d) kept on none
          (subst (λ z. IsKeptBy (seen_of c) z kept) caller_is keeps.by);
      floor = keeps.floor ∙ sym floor;
      ids = keeps.ids ∙ sym count;
      rows = keeps.rows ∙ ap (λ l. length (map (λ z. z.value) l.items)) (sym rows);
      starts = λ k. keeps.starts k ∙ ap (λ l. counts_in (slice_get l.items k)) (sym tracks);
    },
    λ rest fits. refl,
  ) where
    caller_is : caller_of s c objects ≡ caller_of s d objects
    caller_is = λ i. record {
      client = sym number i;
      own = sym region i;
      regions = length s.regions;
      rows = s.size.rows;
      objects = objects;
    }

    on : SeesOn (caller_of s d objects) (seen_of c) (seen_of d)
    on =
        let few = s.fit.few in
        let lt = is.region in
        sees_on (caller_of s d objects) s.regions (holds_of c) (holds_of d) (omega (arith, few, lt, region)) (are_regions s)
        holds all_gone_on

    none : MakesNone d.number (seen_of c) (seen_of d)
    none = made_nothing (holds_of c) (holds_of d) d.number many by_each where
      by_each : (n : ℕ) (g h : Hold) → slice_get (holds_of c) n ≡ Some g → slice_get (holds_of d) n ≡ Some h
          → (g.passes.number ≡ d.number) × (h.passes.number ≡ d.number) × ((k : ℕ) → made_in h k ≡ made_in g k)
      by_each n g h a b =
          let along = each n g h a b in
          let was_number = is.numbers n g a ∙ sym number in
          (was_number, along.on.number ∙ was_number, along.made)
