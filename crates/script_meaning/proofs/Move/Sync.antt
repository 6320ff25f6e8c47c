-- A sync: what it plays, and where it is refused.
use Rattle.std.proofs.Common.{◌≡◌, ℕ, ◌<◌, ◌≤◌, max, List, [], ◌∷◌, length, map, Option, Bool, true, false, refl, subst, ap, sym, ◌∙◌, inl, arith}
use Rattle.std.specs.Prelude.{◌==◌, ◌&&◌, nat_lt, unwrap_or, if◌then◌else◌}
use mathlib.Core.Path.{fun_ext}
use Rattle.std.specs.List.{flat_map, range_with_len}
use Rattle.std.proofs.lemmas.Bool.{ltb-true}
use Rattle.std.proofs.lemmas.List.{take_all}
use Rattle.log_node.specs.declared.ids.Counts.{Counts}
use Rattle.log_node.specs.declared.node.Head.{Head}
use Rattle.log_node.specs.declared.node.Node.{Node}
use Rattle.log_node.specs.Seen.{PlacedNode}
use Rattle.log_node.specs.Vectors.{at, IsWithin, is_within}
use Rattle.col_core.specs.declared.Entry.{Entry}
use Rattle.col_core.specs.History.{line}
use Rattle.log_node.specs.Reach.{Chains, Reachable, IsGreatestReachable}
use Rattle.col_core.specs.Cuts.{Dated, chain, base}
use Rattle.col_core.specs.Computed.{dated}
use Rattle.col_core.specs.Copies.{AreTrueCopies}
use Rattle.col_core.specs.Log.{Log, first}
use Rattle.col_core.specs.Keeping.{Kept, updated, kept_after_sync}
use Rattle.col_core.specs.Rows.{BegunRow}
use Rattle.col_core.specs.PlayOrder.{Place, Stands, IsPlayOrder, greatest_between}
use Rattle.col_core.proofs.CallerLemmas.{both, if_true, cut-is_greatest, In}
use Rattle.world_laws.specs.declared.steps.Step.TheVariants.{Play}
use Rattle.world_laws.specs.Worlds.{World, ClientState, home_of, after, base_after, may_play, played_cut, played_stamp, after_play, with_client, no_row, is_client, is_column}
use Rattle.world_laws.specs.Laws.{IsReached, begun_row, log_of, StaysWithinCuts}
use Rattle.world_laws.proofs.CallerLemmas.{at_updated, updated-here, at_updated_at, slice_in, played_client}
use Rattle.playback.specs.Orders.{play_order}
use Rattle.script_text.specs.declared.script.Object.{Object}
use Rattle.script_text.specs.declared.commands.What.TheVariants as whats
use Rattle.report_text.specs.declared.report.Answer.TheVariants as answers
use Rattle.lawful_run.specs.Reads as reads
use Rattle.lawful_run.specs.Reads.{Syncs, ShowsNode, ShowsPlayed, greatest_stamp, IsTrimmed}
use Rattle.lawful_run.specs.Explains.{Explains}
use Rattle.script_meaning.specs.Moves.{node_placed, placed_at, no_head, home_chains, nodes_unplayed}
use Rattle.script_meaning.proofs.World.Additions.{adds_none}
use Rattle.script_meaning.proofs.World.Reached.{listed_of}
use Rattle.script_meaning.proofs.Client.Kept.{caller_in, IsKeptBy, MadeBy, Does}
use Rattle.script_meaning.proofs.Append.AppendOne.{updated-not}
use Rattle.script_meaning.proofs.World.Playing.{at_or, beside, stands_of, stamp_of}
use Rattle.script_meaning.proofs.World.ChainNodes.{chain_node}

-- the computed order is the play order
abbrev pub PlayOrders : Type 0
PlayOrders = (chains : Chains) (from to : Counts) → Reachable chains to → IsWithin from to
    → IsPlayOrder chains from to (play_order chains from to)

and_second : (a b : Bool) → a ≡ true → (a && b) ≡ b
and_second a b t = ap (λ (x : Bool). x && b) t

-- a change of a client that begins no row leaves the log
pub log_same : (w : World) (u : ℕ) (s : ClientState) → s.used ≡ (w.clients u).used
    → log_of (with_client w u s) ≡ log_of w
log_same w u s e =
    ap (λ (rows : ℕ → List BegunRow). record { histories = w.histories; nodes = w.nodes; rows = rows })
    (fun_ext (λ region.
    ap (λ (used : ℕ → ℕ). flat_map (λ client. if home_of w client == region
    then map (λ number. begun_row w (record { client = client; number = number }))
    (range_with_len 0 (used client)) else [])
    (range_with_len 0 (length w.shape.homes))) same)) where
      same : ◌≡◌ {A = ℕ → ℕ} (λ client. (updated w.clients u s client).used) (λ client. (w.clients client).used)
      same = fun_ext (λ n. at_updated (λ (x : ClientState). x.used ≡ (w.clients n).used) w.clients u s n
          (λ is. e ∙ ap (λ (k : ℕ). (w.clients k).used) (sym is)) (λ _. refl))

module _ (objects : List Object) (w : World) (reached : IsReached w) (u c : ℕ) (in_range : home_of w u < 4)
    (client_ok : is_client w u ≡ true) (column_ok : is_column w (home_of w u) c ≡ true) where
  abbrev pub own : ℕ
  own = home_of w u

  abbrev pub h : List Entry
  h = w.histories own c

  abbrev pub ds : List Dated
  ds = dated own h

  abbrev pub log : Log
  log = log_of w

  abbrev pub from : Counts
  from = (w.clients u).played c

  abbrev pub snapshot : Counts
  snapshot = played_cut w u c

  abbrev pub trimmed : Counts
  trimmed = base_after w.shape.regions own h

  -- the client may play just where no node that it has not played is trimmed
  pub guard_is : may_play w u c ≡ is_within trimmed from
  guard_is =
      and_second (is_client w u) (is_column w own c && is_within trimmed from) client_ok
      ∙ and_second (is_column w own c) (is_within trimmed from) column_ok

  pub all : first log own c (length h) ≡ ds
  all = ap (dated own) (take_all (length h) h (omega arith))

  -- the sync is refused
  pub did_refuse : may_play w u c ≡ false → Does objects u (whats.Sync c) w w (answers.Trimmed c trimmed) []
  did_refuse refused = record {
    steps = [];
    run = refl;
    shape = refl;
    others = λ n ne. refl;
    adds = λ r d. adds_none (MadeBy u (whats.Sync c) w own r) (w.histories r d);
    keeps = λ kept k. record {
      after = kept;
      keeps = k;
      explains = (refl, inl refl, ((0, omega arith, refl), is_trimmed kept k, refl));
    };
  } where
    is_trimmed : (kept : Kept) → IsKeptBy w u kept → IsTrimmed log (caller_in w objects u) kept c trimmed
    is_trimmed kept k = record {
      events = length h;
      unseen = k.seen own c;
      there = omega arith;
      is_base = ap (base own w.shape.regions) (sym all);
      below = subst (λ (f : ℕ → Counts). is_within trimmed (f c) ≡ false) (sym k.starts) (sym guard_is ∙ refused);
    }

  module _ (cuts : StaysWithinCuts w)
      (copies : AreTrueCopies w.shape.regions (λ region. dated region (w.histories region c)))
      (orders : PlayOrders) (ok : may_play w u c ≡ true) where
    abbrev pub chains : Chains
    chains = home_chains w u c

    abbrev pub order : List Place
    order = play_order chains from snapshot

    abbrev pub nodes : List PlacedNode
    nodes = map (placed_at w chains) order

    -- they are what the sync shows
    nodes_are : nodes_unplayed w u c ≡ nodes
    nodes_are = refl

    abbrev pub w' : World
    w' = after_play w u c

    pub up_to : at snapshot own ≡ length (line h)
    up_to = cuts.own_line own c in_range

    pub is_order : IsPlayOrder chains from snapshot order
    is_order = orders chains from snapshot (cut-is_greatest own ds).reached (cuts.played u c)

    home : own < w.shape.regions
    home = ltb-true own w.shape.regions (both (nat_lt own w.shape.regions) _ column_ok).0

    shown_head : (place : Place) (head : Head) → Stands chains place head → (placed_at w chains place).head ≡ head
    shown_head place head stands = at_or (chains place.region) place.position head no_head stands

    shows : (place : Place) → In place order
        → ShowsNode log (caller_in w objects u) c (length h) place (placed_at w chains place)
    shows place i =
        let s = stands_of chains from snapshot order is_order (cut-is_greatest own ds).reached place i in
        let head = s.1 in
        let there = s.2 in
        let node = chain_node w reached own c home copies place.region head
        (slice_in (chains place.region) place.position head there) in
        subst (λ (x : Head). ShowsNode log (caller_in w objects u) c (length h) place (node_placed w x))
        (sym (shown_head place head there)) (record {
          head = head;
          stands = subst (λ (x : List Dated). Stands (chain own x) place head) (sym all) there;
          key = refl;
          text = (
            node.0,
            node.1,
            (listed_of w reached).ids head.key.id.client head.key.id.count node.0 node.1,
            ap (λ (x : Option Node). (unwrap_or x no_row.node).text) (sym node.1),
          );
        })

    -- the greatest stamp that is played is that of the node lines
    pub stamp_is : greatest_stamp nodes ≡ played_stamp w u c
    stamp_is = stamp_of chains from snapshot order is_order (cut-is_greatest own ds).reached (placed_at w chains)
        shown_head

    pub mine : w'.clients u ≡ played_client w u c
    mine = updated-here w.clients u (played_client w u c)

    module _ (kept : Kept) (k : IsKeptBy w u kept) where
      abbrev pub kept' : Kept
      kept' = kept_after_sync kept own c (length h) snapshot (greatest_stamp nodes)

      pub start : kept.starts c ≡ from
      start = ap (λ (f : ℕ → Counts). f c) k.starts

      -- the greatest stamp that is played, as the log has it
      pub piece_stamp : greatest_stamp nodes
          ≡ reads.greatest_played log (caller_in w objects u) kept c (length h) snapshot
      piece_stamp =
          stamp_is
          ∙ ap (λ (v : Counts). greatest_between chains v snapshot) (sym start)
          ∙ ap (λ (x : List Dated). greatest_between (chain own x) (kept.starts c) snapshot) (sym all)

      pub syncs : Syncs log (caller_in w objects u) kept c (length h) snapshot
      syncs = record {
        unseen = k.seen own c;
        there = omega arith;
        cut = subst (λ (x : List Dated). IsGreatestReachable (chain own x) snapshot) (sym all) (cut-is_greatest own ds);
        not_trimmed = subst (λ (x : List Dated). IsWithin (base own w.shape.regions x) (kept.starts c)) (sym all)
            (subst (λ (v : Counts). IsWithin trimmed v) (sym start) (sym guard_is ∙ ok));
        within = let a = k.known c in let b = up_to in omega (arith, a, b);
      }

      shows_played : ShowsPlayed log (caller_in w objects u) kept c (length h) snapshot nodes
      shows_played = record {
        order = order;
        played = subst (λ (x : List Dated). IsPlayOrder (chain own x) (kept.starts c) snapshot order) (sym all)
            (subst (λ (v : Counts). IsPlayOrder chains v snapshot order) (sym start) is_order);
        lines = beside (ShowsNode log (caller_in w objects u) c (length h)) (placed_at w chains) order shows;
      }

      pub keeps : IsKeptBy w' u kept'
      keeps = record {
        floor = ap (λ (m : ℕ). max m (greatest_stamp nodes)) k.floor
            ∙ (ap (λ (m : ℕ). max (w.clients u).floor m) stamp_is ∙ ap (λ (x : ClientState). x.floor) (sym mine));
        starts = ap (λ (f : ℕ → Counts). updated f c snapshot) k.starts ∙ ap (λ (x : ClientState). x.played) (sym mine);
        seen = λ r d. at_updated_at (λ (m : ℕ). m ≤ length (w.histories r d)) kept.seen own c (length h) r d
            (λ er ed. subst (λ (m : ℕ). length h ≤ length (w.histories m d)) (sym er)
            (subst (λ (m : ℕ). length h ≤ length (w.histories own m)) (sym ed) (omega arith)))
            (λ _. k.seen r d);
        known = λ d. at_updated (λ (m : ℕ). m ≤ length (line (w.histories own d))) kept.known c (at snapshot own) d
            (λ ed. subst (λ (m : ℕ). at snapshot own ≤ length (line (w.histories own m))) (sym ed)
            (let b = up_to in omega (arith, b)))
            (λ _. k.known d);
        made = k.made;
        ids = k.ids ∙ ap (λ (x : ClientState). x.count) (sym mine);
        rows = k.rows ∙ ap (λ (x : ClientState). x.used) (sym mine);
      }

    did_so : Does objects u (whats.Sync c) w (after w (Play u c))
        (answers.Synced (record { colour = c; events = length h; counts = snapshot }) (length nodes)) nodes
    did_so =
        subst (λ (x : World). Does objects u (whats.Sync c) w x
        (answers.Synced (record { colour = c; events = length h; counts = snapshot }) (length nodes)) nodes)
        (sym (if_true (may_play w u c) w' w ok)) (record {
          steps = Play u c ∷ [];
          run = if_true (may_play w u c) w' w ok;
          shape = refl;
          others = λ m ne. updated-not w.clients u (played_client w u c) m ne;
          adds = λ r d. adds_none (MadeBy u (whats.Sync c) w' own r) (w.histories r d);
          keeps = λ kept k. record {
            after = kept' kept k;
            keeps = keeps kept k;
            explains = subst (λ (l : Log). Explains l (caller_in w objects u) kept (whats.Sync c)
                (answers.Synced (record { colour = c; events = length h; counts = snapshot }) (length nodes)) nodes
                (kept' kept k)) (sym (log_same w u (played_client w u c) refl))
                (refl, refl, syncs kept k, shows_played kept k, refl);
          };
        })

    pub did_play : Does objects u (whats.Sync c) w (after w (Play u c))
        (answers.Synced (record { colour = c; events = length h; counts = snapshot }) (length (nodes_unplayed w u c)))
        (nodes_unplayed w u c)
    did_play =
        subst (λ (shown : List PlacedNode). Does objects u (whats.Sync c) w (after w (Play u c))
        (answers.Synced (record { colour = c; events = length h; counts = snapshot }) (length shown)) shown)
        (sym nodes_are) did_so
