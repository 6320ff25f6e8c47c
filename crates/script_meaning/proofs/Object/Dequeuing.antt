-- A dequeue: after its append, a sync and what the queue answers, or that it may not be read.
use Rattle.std.proofs.Common.{◌≡◌, inr, ℕ, ◌+◌, ◌<◌, ◌≤◌, max, true, false, List, [], ◌∷◌, ◌++◌, length, map, take, None, Some, Option, refl, ap, sym, subst, ◌∙◌, arith, append-nil}
use Rattle.std.specs.Prelude.{IsTrue, ◌==◌, unwrap_or, slice_index, if◌then◌else◌}
use Rattle.std.specs.List.{Contains}
use mathlib.Core.Path.{fun_ext}
use Rattle.std.proofs.lemmas.Bool.{eqb-true}
use Rattle.log_node.specs.declared.ids.Colours.{Colours}
use Rattle.log_node.specs.declared.ids.Counts.{Counts}
use Rattle.log_node.specs.declared.ids.Key.{Key}
use Rattle.log_node.specs.declared.node.Node.{Node}
use Rattle.log_node.specs.declared.node.Shape.{Shape}
use Rattle.log_node.specs.Vectors.{at, is_within}
use Rattle.object_fold.specs.Maps.{Value}
use Rattle.col_core.specs.declared.Entry.{Entry}
use Rattle.col_core.specs.History.{line}
use Rattle.col_core.specs.Cuts.{Dated, chain, base}
use Rattle.col_core.specs.Copies.{AreTrueCopies}
use Rattle.col_core.specs.Computed.{dated}
use Rattle.col_core.specs.Log.{Log, IsLater, first}
use Rattle.col_core.specs.Keeping.{Kept, updated, updated_at, kept_after_single, seen_past, with_made, with_node, with_floor}
use Rattle.col_core.specs.PlayOrder.{greatest_between}
use Rattle.col_core.proofs.CallerLemmas.{by_test, choice, if_true, if_false, In}
use Rattle.world_laws.specs.declared.steps.Step.TheVariants.{Play}
use Rattle.world_laws.specs.Worlds.{World, ClientState, no_row, home_of, home_history, after, after_play, run_steps, may_play, is_client, is_column, played_cut, played_stamp as world_stamp}
use Rattle.world_laws.specs.Laws.{IsReached, log_of, StaysWithinCuts}
use Rattle.world_laws.proofs.CallerLemmas.{at_updated, at_updated_at, updated-here, played_client, run_reached, run_steps-append}
use Rattle.script_text.specs.declared.script.Object.{Object}
use Rattle.script_text.specs.declared.commands.What.{What}
use Rattle.script_text.specs.declared.commands.What.TheVariants as whats
use Rattle.report_text.specs.declared.report.Answer.{Answer}
use Rattle.report_text.specs.declared.report.Answer.TheVariants as answers
use Rattle.report_text.specs.declared.report.PointPiece.{PointPiece}
use Rattle.lawful_run.specs.Callers.{Caller, node_of}
use Rattle.lawful_run.specs.Asks.{Manner, Dequeuing, may_help, tells_stamp_end}
use Rattle.lawful_run.specs.Deeds.{manner_of, colours_synced}
use Rattle.lawful_run.specs.Appends.{Appends, AppendsOne, AppendsUnshown, one_unshown, HasNoStamp}
use Rattle.lawful_run.specs.Objects.{IsObjectNode, AreObjectNodes, TakesFront}
use Rattle.lawful_run.specs.Reads.{Syncs, IsTrimmed, kept_after_piece, greatest_played, HidesSyncs, not_played, played}
use Rattle.lawful_run.specs.Refusals.{Hides}
use Rattle.lawful_run.proofs.CallerLemmas.{explains_unread, get_within, prefix_length}
use Rattle.lawful_run.specs.Explains.{Explains}
use Rattle.script_meaning.specs.Helping.{node_by_id}
use Rattle.script_meaning.specs.Dequeues.{object_node_at, sync_now, base_now}
use Rattle.script_meaning.proofs.World.Additions.{adds_map}
use Rattle.script_meaning.proofs.Append.AppendOne.{updated-not}
use Rattle.script_meaning.proofs.World.ChainNodes.{line_node}
use Rattle.script_meaning.proofs.Client.Kept.{caller_in, IsKeptBy, MadeBy, KeptAfter, Does, later_log}
use Rattle.script_meaning.proofs.Object.ObjectAppends.{AsksIn}
use Rattle.script_meaning.proofs.World.Playing.{beside}
use Rattle.script_meaning.proofs.World.Reached.{held_of, listed_of, cuts_of}
use Rattle.script_meaning.proofs.World.StaysComplete.{of_done_stays}
use Rattle.script_meaning.proofs.Move.Sync as sync
use Rattle.playback.proofs.CallerLemmas.{order_is_played}
use Rattle.col_core.proofs.CallerLemmas.{in_take as in_first}

-- Nodes of a line as objects read them

module _ (w : World) (reached : IsReached w) where
  is_object : (key : Key) (node : Node) → node_by_id w key.id ≡ Some node → IsObjectNode (log_of w) key (object_node_at w key)
  is_object key node there = record {
    appended = node;
    there = there;
    same = (listed_of w reached).ids key.id.client key.id.count node there;
    key_is = refl;
    colours = ap (λ (x : Option Node). (unwrap_or x no_row.node).colours) there;
    text = ap (λ (x : Option Node). (unwrap_or x no_row.node).text) there;
  }

  -- keys whose nodes are listed
  pub listed_objects : (keys : List Key) → ((key : Key) → In key keys → (node : Node) × (node_by_id w key.id ≡ Some node))
      → AreObjectNodes (log_of w) keys (map (object_node_at w) keys)
  listed_objects keys listed =
      beside (IsObjectNode (log_of w)) (object_node_at w) keys
      (λ key i. let n = listed key i in is_object key n.0 n.1)

  pub are_objects : (r c count : ℕ) → AreObjectNodes (log_of w) (take count (line (w.histories r c)))
      (map (object_node_at w) (take count (line (w.histories r c))))
  are_objects r c count =
      listed_objects (take count (line (w.histories r c)))
      (λ key i. line_node w reached r c key (in_first count (line (w.histories r c)) key i))

-- A play of a column by a client, as a part of another command

module _ (objects : List Object) (w : World) (reached : IsReached w) (u c : ℕ) (few : home_of w u < 4)
    (client_ok : is_client w u ≡ true) (column_ok : is_column w (home_of w u) c ≡ true) where
  abbrev own : ℕ
  own = home_of w u

  abbrev h : List Entry
  h = w.histories own c

  abbrev log : Log
  log = log_of w

  abbrev caller : Caller
  caller = caller_in w objects u

  abbrev snapshot : Counts
  snapshot = played_cut w u c

  abbrev cuts : StaysWithinCuts w
  cuts = cuts_of w reached

  abbrev copies : AreTrueCopies w.shape.regions (λ region. dated region (w.histories region c))
  copies = (held_of w reached).copies c

  abbrev w' : World
  w' = after_play w u c

  -- the log is as before
  pub same_log : log_of w' ≡ log
  same_log = sync.log_same w u (played_client w u c) refl

  all : first log own c (length h) ≡ dated own h
  all = sync.all objects w reached u c few client_ok column_ok

  guard : may_play w u c ≡ is_within (base_now w u c) ((w.clients u).played c)
  guard = sync.guard_is objects w reached u c few client_ok column_ok

  module _ (kept : Kept) (k : IsKeptBy w u kept) where
    pub is_trimmed : may_play w u c ≡ false → IsTrimmed log caller kept c (base_now w u c)
    is_trimmed refused = record {
      events = length h;
      unseen = k.seen own c;
      there = omega arith;
      is_base = ap (base own w.shape.regions) (sym all);
      below = subst (λ (f : ℕ → Counts). is_within (base_now w u c) (f c) ≡ false) (sym k.starts) (sym guard ∙ refused);
    }

    -- a sync that plays nothing leaves what is kept
    abbrev pub unplayed : Kept
    unplayed = record kept { floor = max kept.floor 0; starts = updated kept.starts c (kept.starts c) }

    pub unplayed_keeps : IsKeptBy w u unplayed
    unplayed_keeps = record {
      floor = let m : max kept.floor 0 ≡ kept.floor = omega arith in m ∙ k.floor;
      starts = same_starts ∙ k.starts;
      seen = k.seen;
      known = k.known;
      made = k.made;
      ids = k.ids;
      rows = k.rows;
    } where
      same_starts : updated kept.starts c (kept.starts c) ≡ kept.starts
      same_starts = fun_ext (λ n. at_updated (λ (v : Counts). v ≡ kept.starts n) kept.starts c (kept.starts c) n
          (λ e. ap kept.starts (sym e)) (λ _. refl))

    -- it plays up to the cut
    module _ (ok : may_play w u c ≡ true) where
      pub can_sync : Syncs log caller kept c (length h) snapshot
      can_sync = sync.syncs objects w reached u c few client_ok column_ok cuts copies order_is_played ok kept k

      abbrev stamp : ℕ
      stamp = greatest_played log caller kept c (length h) snapshot

      start : kept.starts c ≡ (w.clients u).played c
      start = ap (λ (f : ℕ → Counts). f c) k.starts

      stamp_is : stamp ≡ world_stamp w u c
      stamp_is = ap (λ (ds : List Dated). greatest_between (chain own ds) (kept.starts c) snapshot) all
          ∙ ap (λ (v : Counts). greatest_between (chain own (dated own h)) v snapshot) start

      mine : w'.clients u ≡ played_client w u c
      mine = updated-here w.clients u (played_client w u c)

      up_to : at snapshot own ≡ length (line h)
      up_to = cuts.own_line own c few

      -- what a sync leaves that no answer shows
      abbrev pub hidden : Kept
      hidden = record kept { floor = max kept.floor stamp; starts = updated kept.starts c snapshot }

      floor_is : max kept.floor stamp ≡ (w'.clients u).floor
      floor_is = ap (λ (m : ℕ). max m stamp) k.floor
          ∙ (ap (λ (m : ℕ). max (w.clients u).floor m) stamp_is ∙ ap (λ (x : ClientState). x.floor) (sym mine))

      starts_are : updated kept.starts c snapshot ≡ (w'.clients u).played
      starts_are = ap (λ (f : ℕ → Counts). updated f c snapshot) k.starts
          ∙ ap (λ (x : ClientState). x.played) (sym mine)

      pub hidden_keeps : IsKeptBy w' u hidden
      hidden_keeps = record {
        floor = floor_is;
        starts = starts_are;
        seen = k.seen;
        known = k.known;
        made = k.made;
        ids = k.ids ∙ ap (λ (x : ClientState). x.count) (sym mine);
        rows = k.rows ∙ ap (λ (x : ClientState). x.used) (sym mine);
      }

      abbrev pub shown : Kept
      shown = kept_after_piece log caller kept (sync_now w u c)

      pub shown_keeps : IsKeptBy w' u shown
      shown_keeps = record {
        floor = floor_is;
        starts = starts_are;
        seen = λ r d. at_updated_at (λ (m : ℕ). m ≤ length (w.histories r d)) kept.seen own c (length h) r d
            (λ er ed. subst (λ (m : ℕ). length h ≤ length (w.histories m d)) (sym er)
            (subst (λ (m : ℕ). length h ≤ length (w.histories own m)) (sym ed) (omega arith)))
            (λ _. k.seen r d);
        known = λ d. at_updated (λ (m : ℕ). m ≤ length (line (w.histories own d))) kept.known c (at snapshot own) d
            (λ ed. subst (λ (m : ℕ). at snapshot own ≤ length (line (w.histories own m))) (sym ed)
            (let b = up_to in omega (arith, b)))
            (λ _. k.known d);
        made = k.made;
        ids = k.ids ∙ ap (λ (x : ClientState). x.count) (sym mine);
        rows = k.rows ∙ ap (λ (x : ClientState). x.used) (sym mine);
      }

-- What a client keeps after an append that its answer does not show

module _ (objects : List Object) (w w2 : World) (u : ℕ) (kept : Kept) (node : Node) (c stamp place position : ℕ)
    (k : IsKeptBy w2 u (kept_after_single kept (home_of w2 u) c place stamp position))
    (one : AppendsOne (log_of w2) (caller_in w2 objects u) kept node c stamp place position)
    (before : (d : ℕ) → kept.known d ≤ length (line (w2.histories (home_of w2 u) d)))
    (seen : (r d : ℕ) → kept.seen r d ≤ length (w2.histories r d)) where
  abbrev pub stood_unshown : Kept
  stood_unshown =
      with_made (with_node (with_floor kept stamp)) (home_of w2 u) (λ d. if d == c then place ∷ [] else [])

  entered_within : place + 1 ≤ length (w2.histories (home_of w2 u) c)
  entered_within =
      let lt = get_within (w2.histories (home_of w2 u) c) place _ one.entered in omega (arith, lt)

  pub unshown_keeps : IsKeptBy w2 u stood_unshown
  unshown_keeps = record {
    floor = k.floor;
    starts = k.starts;
    seen = λ r d. at_updated (λ (f : ℕ → ℕ). f d ≤ length (w2.histories r d)) kept.seen (home_of w2 u)
        (λ x. seen_past (kept.seen (home_of w2 u) x) (if x == c then place ∷ [] else [])) r
        (λ er. own_seen r d er) (λ _. seen r d);
    known = before;
    made = λ r d. k.made r d ∙ sym (same_made r d);
    ids = k.ids;
    rows = k.rows;
  } where
    own_seen : (r d : ℕ) → r ≡ home_of w2 u
        → seen_past (kept.seen (home_of w2 u) d) (if d == c then place ∷ [] else []) ≤ length (w2.histories r d)
    own_seen r d er =
        choice (λ (l : List ℕ). seen_past (kept.seen (home_of w2 u) d) l ≤ length (w2.histories r d)) (d == c)
        (place ∷ []) []
        (λ t. let ed = eqb-true d c t in
        let a = seen (home_of w2 u) d in
        subst (λ (m : ℕ). max (kept.seen (home_of w2 u) d) (place + 1) ≤ length (w2.histories m d)) (sym er)
        (subst (λ (m : ℕ). max (kept.seen (home_of w2 u) d) (place + 1) ≤ m) refl
        (let b = subst (λ (m : ℕ). place + 1 ≤ length (w2.histories (home_of w2 u) m)) (sym ed) entered_within in
        omega (arith, a, b))))
        (λ f. subst (λ (m : ℕ). kept.seen (home_of w2 u) d ≤ length (w2.histories m d)) (sym er)
        (seen (home_of w2 u) d))

    same_made : (r d : ℕ) → stood_unshown.made r d
        ≡ updated_at kept.made (home_of w2 u) c (kept.made (home_of w2 u) c ++ place ∷ []) r d
    same_made r d =
        ap (λ (g : ℕ → List ℕ). (if r == home_of w2 u then g else kept.made r) d) (fun_ext each) where
          each : (x : ℕ) → kept.made (home_of w2 u) x ++ (if x == c then place ∷ [] else [])
              ≡ updated (kept.made (home_of w2 u)) c (kept.made (home_of w2 u) c ++ place ∷ []) x
          each x =
              by_test _ (x == c)
              (λ t. ap (λ (l : List ℕ). kept.made (home_of w2 u) x ++ l) (if_true (x == c) (place ∷ []) [] t)
              ∙ (ap (λ (m : ℕ). kept.made (home_of w2 u) m ++ place ∷ []) (eqb-true x c t)
              ∙ sym (if_true (x == c) (kept.made (home_of w2 u) c ++ place ∷ []) (kept.made (home_of w2 u) x) t)))
              (λ f. ap (λ (l : List ℕ). kept.made (home_of w2 u) x ++ l) (if_false (x == c) (place ∷ []) [] f)
              ∙ (append-nil (kept.made (home_of w2 u) x)
              ∙ sym (if_false (x == c) (kept.made (home_of w2 u) c ++ place ∷ []) (kept.made (home_of w2 u) x) f)))

-- The dequeue, after its append

module _ (objects : List Object) (u : ℕ) (what : What) (colours : Colours) (text : List ℕ)
    (dequeuing : manner_of what ≡ Dequeuing) (asks : AsksIn objects u what colours text) (w w2 : World)
    (reached : IsReached w) (stamp : ℕ) (point : PointPiece)
    (synced : colours_synced (caller_in w2 objects u) what ≡ point.colour ∷ [])
    (d : Does objects u (whats.Append colours text) w w2 (answers.Stood stamp None (point ∷ [])) [])
    (few : home_of w2 u < 4) (client_ok : is_client w2 u ≡ true)
    (column_ok : is_column w2 (home_of w2 u) point.colour ≡ true) where
  reached2 : IsReached w2
  reached2 = subst IsReached d.run (run_reached w d.steps reached)

  later : IsLater (log_of w) (log_of w2)
  later = later_log w w2 d.steps reached d.run

  abbrev caller2 : Caller
  caller2 = caller_in w2 objects u

  abbrev w3 : World
  w3 = after_play w2 u point.colour

  may : IsTrue (may_help (manner_of what))
  may = subst (λ (m : Manner). IsTrue (may_help m)) (sym dequeuing) refl

  -- what the append made, the dequeue made
  made_as : (r : ℕ) (e : Entry) → MadeBy u (whats.Append colours text) w2 (home_of w u) r e
      → MadeBy u what w2 (home_of w u) r e
  made_as r e m = record {
    made = m.made;
    help = λ h. let x = m.help h in record { may = may; home = x.home; complete = x.complete };
  }

  -- and it is still complete after the sync
  made_on : may_play w2 u point.colour ≡ true → (r : ℕ) (e : Entry)
      → MadeBy u (whats.Append colours text) w2 (home_of w u) r e → MadeBy u what w3 (home_of w u) r e
  made_on ok r e m = record {
    made = m.made;
    help = λ h. let x = m.help h in record {
      may = may;
      home = x.home;
      complete = of_done_stays w2 w3 (held_of w2 reached2) (Play u point.colour ∷ [])
          (if_true (may_play w2 u point.colour) w3 w2 ok) e.event x.complete;
    };
  }

  module _ (kept : Kept) (k : IsKeptBy w u kept) where
    abbrev a : KeptAfter w2 objects u kept (whats.Append colours text) (answers.Stood stamp None (point ∷ [])) []
    a = d.keeps kept k

    abbrev node : Node
    node = node_of caller2 kept colours text

    appends : Appends (log_of w2) caller2 kept node stamp None (point ∷ []) a.after
    appends =
        let e = a.explains.2 in
        subst (λ (c : Colours). Appends (log_of w2) caller2 kept (node_of caller2 kept c text) stamp None (point ∷ [])
        a.after) e.2.0
        (subst (λ (t : List ℕ). Appends (log_of w2) caller2 kept (node_of caller2 kept e.0 t) stamp None (point ∷ [])
        a.after) e.2.1 e.3)

    -- what it keeps then, where its answer shows where the node stands
    took_explains : (ok : may_play w2 u point.colour ≡ true) (value : Value) → TakesFront (log_of w2) caller2 point value
        → Explains (log_of w2) caller2 kept what (answers.Took value point (sync_now w2 u point.colour)) []
        (shown objects w2 reached2 u point.colour few client_ok column_ok a.after a.keeps ok)
    took_explains ok value takes = (
      refl,
      dequeuing,
      refl,
      (
        colours,
        text,
        asks w2 kept,
        (
          stamp,
          a.after,
          appends,
          can_sync objects w2 reached2 u point.colour few client_ok column_ok a.after a.keeps ok,
          takes,
          refl,
        ),
      ),
    )

    single : AppendsOne (log_of w2) caller2 kept node point.colour stamp appends.1 point.position
    single = appends.3

    stands : IsKeptBy w2 u (kept_after_single kept (home_of w2 u) point.colour appends.1 stamp point.position)
    stands = subst (IsKeptBy w2 u) appends.4 a.keeps

    home_same : home_of w2 u ≡ home_of w u
    home_same = ap (λ (x : Shape). slice_index x.homes u) d.shape

    known_still : (c : ℕ) → kept.known c ≤ length (line (w2.histories (home_of w2 u) c))
    known_still c =
        let x = k.known c in
        let y = prefix_length (line (w.histories (home_of w u) c)) (line (w2.histories (home_of w u) c))
        (later.lines (home_of w u) c) in
        subst (λ (n : ℕ). kept.known c ≤ length (line (w2.histories n c))) (sym home_same) (omega (arith, x, y))

    seen_still : (r c : ℕ) → kept.seen r c ≤ length (w2.histories r c)
    seen_still r c =
        let x = k.seen r c in
        let y = prefix_length (w.histories r c) (w2.histories r c) (later.histories r c) in omega (arith, x, y)

    -- what it keeps where its answer does not show where the node stands
    abbrev unshown : Kept
    unshown = stood_unshown objects w w2 u kept node point.colour stamp appends.1 point.position stands single
        known_still seen_still

    keeps_unshown : IsKeptBy w2 u unshown
    keeps_unshown = unshown_keeps objects w w2 u kept node point.colour stamp appends.1 point.position stands single
        known_still seen_still

    unshown_is : AppendsUnshown (log_of w2) caller2 kept node stamp unshown
    unshown_is = one_unshown point.colour appends.1 point.position appends.0 single

    has_colour : Contains (colours_synced caller2 what) point.colour
    has_colour = subst (λ (l : List ℕ). Contains l point.colour) (sym synced) (0, omega arith, refl)

    hides : (after : Kept) → HidesSyncs (log_of w2) caller2 unshown (point.colour ∷ []) after
        → Hides (log_of w2) caller2 unshown (colours_synced caller2 what) (manner_of what) after
    hides after h =
        subst (λ (m : Manner). Hides (log_of w2) caller2 unshown (colours_synced caller2 what) m after) (sym dequeuing)
        (subst (λ (l : List ℕ). HidesSyncs (log_of w2) caller2 unshown l after) (sym synced) h)

    trimmed_explains : may_play w2 u point.colour ≡ false
        → Explains (log_of w2) caller2 kept what
        (answers.UnreadTrimmed stamp point.colour (base_now w2 u point.colour)) []
        (unplayed objects w2 reached2 u point.colour few client_ok column_ok unshown keeps_unshown)
    trimmed_explains refused =
        let after = unplayed objects w2 reached2 u point.colour few client_ok column_ok unshown keeps_unshown in
        explains_unread (log_of w2) caller2 kept what colours text stamp point.colour (base_now w2 u point.colour) unshown after
        dequeuing has_colour (asks w2 kept) unshown_is
        (is_trimmed objects w2 reached2 u point.colour few client_ok column_ok unshown keeps_unshown refused)
        (subst (λ (l : List ℕ). HidesSyncs (log_of w2) caller2 unshown l after) (sym synced)
        (unshown.starts point.colour, 0, not_played, refl))

    memory_explains : (ok : may_play w2 u point.colour ≡ true)
        → Explains (log_of w2) caller2 kept what (answers.UnreadNoMemory stamp) []
        (hidden objects w2 reached2 u point.colour few client_ok column_ok unshown keeps_unshown ok)
    memory_explains ok = (
      refl,
      inr dequeuing,
      (
        colours,
        text,
        asks w2 kept,
        (
          unshown,
          unshown_is,
          hides _ (
            played_cut w2 u point.colour,
            _,
            played (length (home_history w2 u point.colour)) (played_cut w2 u point.colour)
                (can_sync objects w2 reached2 u point.colour few client_ok column_ok unshown keeps_unshown ok),
            refl,
          ),
        ),
      ),
    )

  -- after the sync
  did_after : (answer : Answer) (ok : may_play w2 u point.colour ≡ true)
      → ((kept : Kept) → IsKeptBy w u kept
      → (after : Kept) × IsKeptBy w3 u after × Explains (log_of w2) caller2 kept what answer [] after)
      → Does objects u what w (after w2 (Play u point.colour)) answer []
  did_after answer ok says =
      subst (λ (x : World). Does objects u what w x answer []) (sym (if_true (may_play w2 u point.colour) w3 w2 ok))
      (record {
        steps = d.steps ++ Play u point.colour ∷ [];
        run = run_steps-append w d.steps (Play u point.colour ∷ [])
            ∙ (ap (λ (x : World). run_steps x (Play u point.colour ∷ [])) d.run
            ∙ if_true (may_play w2 u point.colour) w3 w2 ok);
        shape = d.shape;
        others = λ n ne. updated-not w2.clients u (played_client w2 u point.colour) n ne ∙ d.others n ne;
        adds = λ r c. adds_map (MadeBy u (whats.Append colours text) w2 (home_of w u) r)
            (MadeBy u what w3 (home_of w u) r) (w.histories r c) (w2.histories r c) (made_on ok r) (d.adds r c);
        keeps = λ kept k. let x = says kept k in record {
          after = x.0;
          keeps = x.1;
          explains = subst (λ (l : Log). Explains l caller2 kept what answer [] x.0)
              (sym (same_log objects w2 reached2 u point.colour few client_ok column_ok)) x.2;
        };
      })

  pub did_take : (value : Value) → may_play w2 u point.colour ≡ true → TakesFront (log_of w2) caller2 point value
      → Does objects u what w (after w2 (Play u point.colour))
      (answers.Took value point (sync_now w2 u point.colour)) []
  did_take value ok takes = did_after (answers.Took value point (sync_now w2 u point.colour)) ok (λ kept k. (
    shown objects w2 reached2 u point.colour few client_ok column_ok (a kept k).after (a kept k).keeps ok,
    shown_keeps objects w2 reached2 u point.colour few client_ok column_ok (a kept k).after (a kept k).keeps ok,
    took_explains kept k ok value takes,
  ))

  pub did_find_none : may_play w2 u point.colour ≡ true
      → Does objects u what w (after w2 (Play u point.colour)) (answers.UnreadNoMemory stamp) []
  did_find_none ok = did_after (answers.UnreadNoMemory stamp) ok (λ kept k. (
    hidden objects w2 reached2 u point.colour few client_ok column_ok (unshown kept k) (keeps_unshown kept k) ok,
    hidden_keeps objects w2 reached2 u point.colour few client_ok column_ok (unshown kept k) (keeps_unshown kept k) ok,
    memory_explains kept k ok,
  ))

  pub did_refuse_read : may_play w2 u point.colour ≡ false
      → Does objects u what w w2 (answers.UnreadTrimmed stamp point.colour (base_now w2 u point.colour)) []
  did_refuse_read refused = record {
    steps = d.steps;
    run = d.run;
    shape = d.shape;
    others = d.others;
    adds = λ r c. adds_map (MadeBy u (whats.Append colours text) w2 (home_of w u) r)
        (MadeBy u what w2 (home_of w u) r) (w.histories r c) (w2.histories r c) (made_as r) (d.adds r c);
    keeps = λ kept k. record {
      after = unplayed objects w2 reached2 u point.colour few client_ok column_ok (unshown kept k)
          (keeps_unshown kept k);
      keeps = unplayed_keeps objects w2 reached2 u point.colour few client_ok column_ok (unshown kept k)
          (keeps_unshown kept k);
      explains = trimmed_explains kept k refused;
    };
  }

-- no stamp is left for the dequeue
pub did_end_dequeue : (objects : List Object) (u c : ℕ) (what : What) (colours : Colours) (text : List ℕ) (w : World)
    → manner_of what ≡ Dequeuing → AsksIn objects u what colours text
    → Does objects u (whats.Append colours text) w w (answers.StampEnd c) []
    → Does objects u what w w (answers.StampEnd c) []
did_end_dequeue objects u c what colours text w dequeuing asks d = record {
  steps = d.steps;
  run = d.run;
  shape = d.shape;
  others = d.others;
  adds = λ r x. adds_map (MadeBy u (whats.Append colours text) w (home_of w u) r) (MadeBy u what w (home_of w u) r)
      (w.histories r x) (w.histories r x) (made r) (d.adds r x);
  keeps = λ kept k.
      let a = d.keeps kept k in
      let e = a.explains.2 in record {
        after = a.after;
        keeps = a.keeps;
        explains = (
          refl,
          ap tells_stamp_end dequeuing,
          (
            colours,
            text,
            asks w kept,
            subst (λ (x : Colours). HasNoStamp (log_of w) (caller_in w objects u) kept
                (node_of (caller_in w objects u) kept x text) c a.after) e.2.0
                (subst (λ (t : List ℕ). HasNoStamp (log_of w) (caller_in w objects u) kept
                (node_of (caller_in w objects u) kept e.0 t) c a.after) e.2.1 e.3),
          ),
        );
      };
} where
  made : (r : ℕ) (e : Entry) → MadeBy u (whats.Append colours text) w (home_of w u) r e
      → MadeBy u what w (home_of w u) r e
  made r e m = record {
    made = m.made;
    help = λ h. let x = m.help h in record {
      may = subst (λ (m : Manner). IsTrue (may_help m)) (sym dequeuing) refl;
      home = x.home;
      complete = x.complete;
    };
  }
