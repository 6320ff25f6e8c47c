-- How a stamped read ends, and how the log then explains it.
use Rattle.std.proofs.Common.{◌≡◌, ◌≢◌, ℕ, zero, suc, ◌<◌, ◌≤◌, List, [], ◌∷◌, ◌++◌, length, map, take, Option, Some, None, Bool, true, false, refl, subst, ap, sym, ◌∙◌, inl, inr, ◌⊎◌, arith, append-nil}
use Rattle.std.specs.Prelude.{nat_lt, ◌&&◌, slice_get, slice_index, slice_index_or}
use Rattle.std.specs.List.{All, Contains}
use Rattle.std.proofs.lemmas.Bool.{ltb-true}
use Rattle.std.proofs.lemmas.List.{take_all}
use Rattle.std.proofs.lemmas.List.Elements.{All-cons, All-nil}
use Rattle.log_node.specs.declared.ids.Counts.{Counts}
use Rattle.log_node.specs.declared.ids.Key.{Key}
use Rattle.log_node.specs.declared.node.Node.{Node}
use Rattle.log_node.specs.declared.node.Shape.{Shape}
use Rattle.log_node.specs.Vectors.{is_within}
use Rattle.col_core.specs.declared.Entry.{Entry}
use Rattle.col_core.specs.Cuts.{base, entries_of}
use Rattle.col_core.specs.Computed.{dated}
use Rattle.col_core.specs.History.{clock, line, last_stamp}
use Rattle.col_core.specs.Keeping.{Kept, with_made, with_floor}
use Rattle.col_core.specs.Log.{Log, IsLater}
use Rattle.col_core.specs.RegionOrder.{IsRegionOrder, IsClearUpTo}
use Rattle.col_core.proofs.CallerLemmas.{both, contains_in, in_contains, in_right, entries_dated, line_rises, In}
use Rattle.world_laws.specs.declared.steps.Step.{Step}
use Rattle.world_laws.specs.declared.steps.Step.TheVariants.{Seen}
use Rattle.world_laws.specs.Worlds.{World, home_of, home_history, run_steps, after, base_after, is_client, is_column, may_play}
use Rattle.world_laws.specs.Laws.{IsReached, log_of}
use Rattle.world_laws.proofs.CallerLemmas.{in_left, in_map, run_reached, run_steps-append}
use Rattle.playback.specs.Merging.{AreRising, region_order}
use Rattle.playback.proofs.CallerLemmas.{order_is_merged}
use Rattle.script_text.specs.declared.commands.What.{What}
use Rattle.script_text.specs.declared.script.Object.{Object}
use Rattle.report_text.specs.declared.report.RaisePiece.{RaisePiece}
use Rattle.report_text.specs.declared.report.SyncPiece.{SyncPiece}
use Rattle.lawful_run.specs.Asks.{may_help}
use Rattle.lawful_run.specs.Deeds.{manner_of}
use Rattle.lawful_run.specs.Callers.{Caller}
use Rattle.lawful_run.specs.Reads.{IsTrimmed, IsReadStamp, events_until, ReadsAt, lines_read, AreKeysRead, HidesRead, HidesSyncs, ClearSyncs, Raises, RefusesRead}
use Rattle.lawful_run.proofs.CallerLemmas.{hides_none, hides_without, prefix_length, prefix_take, raises_later}
use Rattle.script_meaning.specs.States.{Grants}
use Rattle.script_meaning.specs.Helping.{node_by_id, all_cleared}
use Rattle.script_meaning.specs.Moves.{next_at}
use Rattle.script_meaning.specs.Stamped as stamped
use Rattle.script_meaning.specs.Stamped.{read_stamp, raise_in, sync_in, key_above, keys_read, Progress, ReadEnd, Whole, Refused, Unraised, StampedRead, read_after_plays, read_after_raises, stamped_read}
use Rattle.script_meaning.proofs.World.Additions.{Adds, adds_trans, adds_map, HelpIn}
use Rattle.script_meaning.proofs.Append.AppendOne.{caller_same}
use Rattle.script_meaning.proofs.World.ChainNodes.{line_node}
use Rattle.script_meaning.proofs.World.Clearing.{Finished, Helped, helped_none, helped_reached, helped_finished, ClearsAll, clear_all}
use Rattle.script_meaning.proofs.Client.Kept.{caller_in, IsKeptBy, MadeBy, later_log}
use Rattle.script_meaning.proofs.Lists.{in_map_back}
use Rattle.script_meaning.proofs.World.Reached.{held_of}
use Rattle.script_meaning.proofs.World.StaysComplete.{of_done_stays}
use Rattle.script_meaning.proofs.Read.StampedRaises as raising
use Rattle.script_meaning.proofs.Read.StampedRaises.{AreDistinct, Raised, RaisesKept}
use Rattle.script_meaning.proofs.Read.StampedPlays as playing
use Rattle.script_meaning.proofs.Read.StampedPlays.{Played, MayLook}
use Rattle.script_meaning.proofs.Read.StampedReads as reading
use Rattle.script_meaning.proofs.Read.StampedReads.{SeesStamp, raise_places}

-- LISTS

same_colours : {A : Type 0} (colour_of : A → ℕ) (piece : ℕ → A) → ((c : ℕ) → colour_of (piece c) ≡ c)
    → (colours : List ℕ) → map colour_of (map piece colours) ≡ colours
same_colours colour_of piece each [] = refl
same_colours colour_of piece each (c ∷ colours) =
    ap (λ (n : ℕ). n ∷ map colour_of (map piece colours)) (each c)
    ∙ ap (λ (l : List ℕ). c ∷ l) (same_colours colour_of piece each colours)

-- the lines that syncs looked at are the lines of their columns
lines_are : (log : Log) (caller : Caller) (w : World) (u : ℕ) → caller.own ≡ home_of w u
    → log.histories ≡ w.histories → (colours : List ℕ)
    → lines_read log caller (map (sync_in w u) colours) ≡ map (λ c. line (home_history w u c)) colours
lines_are log caller w u at same [] = refl
lines_are log caller w u at same (c ∷ colours) =
    let h = home_history w u c in
    let is : take (length h) (log.histories caller.own c) ≡ h =
    ap (λ (f : ℕ → ℕ → List Entry). take (length h) (f caller.own c)) same
    ∙ (ap (λ (r : ℕ). take (length h) (w.histories r c)) at ∙ take_all (length h) h (omega arith)) in
    ap (λ (l : List Entry). line l ∷ lines_read log caller (map (sync_in w u) colours)) is
    ∙ ap (λ (ls : List (List Key)). line h ∷ ls) (lines_are log caller w u at same colours)

-- what is read of the same columns is the same
keys_same : (w v : World) (u stamp : ℕ) → v.shape ≡ w.shape → v.histories ≡ w.histories → (colours : List ℕ)
    → keys_read v u stamp colours ≡ keys_read w u stamp colours
keys_same w v u stamp shape histories colours =
    ap (λ (s : Shape). region_order stamp (map (λ c. line (v.histories (slice_index s.homes u) c)) colours)) shape
    ∙ ap (λ (f : ℕ → ℕ → List Entry). region_order stamp (map (λ c. line (f (home_of w u) c)) colours)) histories

-- a line rises
pub rising_line : (w : World) → IsReached w → (r c : ℕ) → AreRising (line (w.histories r c))
rising_line w reached r c i j d lt there =
    let l = line (w.histories r c) in
    line_rises r w.shape.regions (dated r (w.histories r c)) ((held_of w reached).lawful r c) i j
    (slice_index_or l i d) (slice_index_or l j d) lt (at_index i (omega (arith, lt, there))) (at_index j there) where
      found : (xs : List Key) (n : ℕ) → n < length xs → slice_get xs n ≡ Some (slice_index_or xs n d)
      found [] n low = absurd (let f : ⊥ = omega (arith, low) in f)
      found (x ∷ xs) zero low = refl
      found (x ∷ xs) (suc n) low = found xs n (omega (arith, low))

      at_index : (n : ℕ) → n < length (line (w.histories r c))
          → slice_get (line (entries_of (dated r (w.histories r c)))) n
          ≡ Some (slice_index_or (line (w.histories r c)) n d)
      at_index n low = ap (λ (h : List Entry). slice_get (line h) n) (entries_dated r (w.histories r c))
          ∙ found (line (w.histories r c)) n low

-- the keys that are read are in the order of the region
pub keys_ordered : (w : World) → IsReached w → (u stamp : ℕ) (colours : List ℕ)
    → IsRegionOrder (map (λ c. line (home_history w u c)) colours) stamp (keys_read w u stamp colours)
keys_ordered w reached u stamp colours =
    order_is_merged stamp (map (λ c. line (home_history w u c)) colours) rise where
      rise : (l : List Key) → Contains (map (λ c. line (home_history w u c)) colours) l → AreRising l
      rise l c =
          let m = in_map (λ c. line (home_history w u c)) colours l
          (in_contains (map (λ c. line (home_history w u c)) colours) l c) in
          subst AreRising m.2 (rising_line w reached (home_of w u) m.0)

-- each stands in the line of a colour
pub keys_stand : (w : World) → IsReached w → (u stamp : ℕ) (colours : List ℕ) (key : Key)
    → In key (keys_read w u stamp colours) → (c : ℕ) × In c colours × In key (line (home_history w u c))
keys_stand w reached u stamp colours key i =
    let o = (keys_ordered w reached u stamp colours).no_other key
    (contains_in (keys_read w u stamp colours) key i) in
    let m = in_map (λ c. line (home_history w u c)) colours o.1
    (in_contains (map (λ c. line (home_history w u c)) colours) o.1 o.2) in
    (m.0, m.1, subst (λ (l : List Key). In key l) (sym m.2) (in_contains o.1 key o.3))

-- and each has its node
pub keys_listed : (w : World) → IsReached w → (u stamp : ℕ) (colours : List ℕ) (key : Key)
    → In key (keys_read w u stamp colours) → (node : Node) × (node_by_id w key.id ≡ Some node)
keys_listed w reached u stamp colours key i =
    let s = keys_stand w reached u stamp colours key i in line_node w reached (home_of w u) s.0 key s.2

module _ (objects : List Object) (S : ℕ → Type 0) (what : What) (may : may_help (manner_of what) ≡ true) (w : World)
    (reached : IsReached w) (fin : Finished S w) (u : ℕ) (free : S u → ⊥) (colours : List ℕ)
    (distinct : AreDistinct colours) (look : MayLook objects S u (read_stamp w u colours) w colours)
    (first : ℕ) (is_first : In first colours) where
  abbrev own : ℕ
  own = home_of w u

  abbrev stamp : ℕ
  stamp = read_stamp w u colours

  abbrev low : stamp ≤ last_stamp
  low = reading.stamp_low w reached u colours

  -- the steps of the read, and what they add
  pub record ReadTo (w' : World) : Type 0 where
    pub steps : List Step
    pub run : run_steps w steps ≡ w'
    pub shape : w'.shape ≡ w.shape
    pub others : (n : ℕ) → n ≢ u → w'.clients n ≡ w.clients n
    pub adds : (r c : ℕ) → Adds (MadeBy u what w' own r) (w.histories r c) (w'.histories r c)
    pub finished : Finished S w'

  -- what the client keeps of a read of which no answer tells
  pub record KeepsHidden (w' : World) (kept : Kept) : Type 0 where
    pub after : Kept
    pub keeps : IsKeptBy w' u after
    pub hides : HidesRead (log_of w') (caller_in w' objects u) kept colours after

  -- what it keeps of one that is answered
  pub record KeepsRead (w' : World) (raises : List RaisePiece) (syncs : List SyncPiece) (kept : Kept) : Type 0 where
    pub after : Kept
    pub keeps : IsKeptBy w' u after
    pub reads : ReadsAt (log_of w') (caller_in w' objects u) kept colours stamp raises syncs after

  -- a read that is done, of which an answer tells or none
  pub record EndsWhole (w' : World) (at : ℕ) (raises : List RaisePiece) (syncs : List SyncPiece)
      (keys : List Key) : Type 0 where
    pub is : at ≡ stamp
    pub read : AreKeysRead (log_of w') (caller_in w' objects u) stamp syncs keys
    pub nodes : (key : Key) → In key keys → (node : Node) × (node_by_id w' key.id ≡ Some node)
    pub stand : (key : Key) → In key keys → (c : ℕ) × In key (line (home_history w' u c))
    pub has : (c : ℕ) → In c colours → (key : Key) → In key (line (home_history w u c)) → key.stamp ≤ stamp
        → In key keys
    pub clear : (c : ℕ) → In c colours → IsClearUpTo stamp (home_history w' u c)
    pub keys_are : keys ≡ keys_read w' u stamp colours
    pub kept : (kept : Kept) → IsKeptBy w u kept → KeepsRead w' raises syncs kept
    pub hidden : (kept : Kept) → IsKeptBy w u kept → KeepsHidden w' kept

  -- what it keeps of one of which a play was refused
  pub record KeepsRefused (w' : World) (colour : ℕ) (shown : Counts) (kept : Kept) : Type 0 where
    pub after : Kept
    pub keeps : IsKeptBy w' u after
    pub refuses : RefusesRead (log_of w') (caller_in w' objects u) kept colours colour shown after

  abbrev pub Ends : World → ReadEnd → Type 0
  Ends w' (Whole at raises syncs keys) = EndsWhole w' at raises syncs keys
  Ends w' (Refused colour shown) = (kept : Kept) → IsKeptBy w u kept → KeepsRefused w' colour shown kept
  Ends w' Unraised = (kept : Kept) → IsKeptBy w u kept → KeepsHidden w' kept

  pub record DidRead (read : StampedRead) : Type 0 where
    pub to : ReadTo read.world
    pub ends : Ends read.world read.ends

  -- FROM THE RAISES ON

  module _ (w1 : World) (raised : Raised objects S u own stamp low w w1 colours) (w2 : World)
      (helped : Helped u own w1 w2) where
    reached1 : IsReached w1
    reached1 = subst IsReached raised.run (run_reached w raised.steps reached)

    reached2 : IsReached w2
    reached2 = helped_reached u own w1 w2 helped reached1

    finished2 : Finished S w2
    finished2 = helped_finished S u own w1 w2 helped (raised.finished fin)

    shape2 : w2.shape ≡ w.shape
    shape2 = helped.shape ∙ raised.shape

    -- the raise of a column
    adds1 : (x : World) (r c : ℕ) → Adds (MadeBy u what x own r) (w.histories r c) (w1.histories r c)
    adds1 x r c = turn (raised.columns r c) where
      one : raising.e objects S u own stamp low ≡ raising.e objects S u own stamp low
      one = refl

      turn : (w1.histories r c ≡ w.histories r c)
          ⊎ ((r ≡ own) × In c colours
          × (w1.histories r c ≡ w.histories r c ++ raising.e objects S u own stamp low ∷ []))
          → Adds (MadeBy u what x own r) (w.histories r c) (w1.histories r c)
      turn (inl same) =
          record { more = []; is = same ∙ sym (append-nil (w.histories r c)); each = λ f i. absurd i }
      turn (inr (er, i, is)) = record {
        more = raising.e objects S u own stamp low ∷ [];
        is = is;
        each = λ f j. of_raise f j;
      } where
        of_raise : (f : Entry) → (raising.e objects S u own stamp low ≡ f) ⊎ ⊥ → MadeBy u what x own r f
        of_raise f (inl same) = subst (MadeBy u what x own r) same (record { made = refl; help = λ none. absurd none })
        of_raise f (inr none) = absurd none

    -- whatever steps leave the columns as they are cleared
    read_to : (x : World) (steps : List Step) → run_steps w2 steps ≡ x → x.shape ≡ w2.shape
        → x.histories ≡ w2.histories → ((n : ℕ) → n ≢ u → x.clients n ≡ w2.clients n)
        → (Finished S w2 → Finished S x) → ReadTo x
    read_to x steps run shape same others finishes = record {
      steps = raised.steps ++ (helped.steps ++ steps);
      run = run_steps-append w raised.steps (helped.steps ++ steps)
          ∙ (ap (λ (y : World). run_steps y (helped.steps ++ steps)) raised.run
          ∙ (run_steps-append w1 helped.steps steps
          ∙ (ap (λ (y : World). run_steps y steps) helped.run ∙ run)));
      shape = shape ∙ shape2;
      others = λ n ne. others n ne ∙ (helped.clients n ∙ raised.clients n);
      adds = λ r c. adds_trans (MadeBy u what x own r) (w.histories r c) (w1.histories r c) (x.histories r c)
          (adds1 x r c) (subst (λ (f : ℕ → ℕ → List Entry). Adds (MadeBy u what x own r) (w1.histories r c) (f r c))
          (sym same) (adds_map (HelpIn w2 own u r) (MadeBy u what x own r) (w1.histories r c) (w2.histories r c)
          (λ e i. record {
            made = i.made;
            help = λ _. record {
              may = may;
              home = i.at_home;
              complete = of_done_stays w2 x (held_of w2 reached2) steps run e.event i.complete;
            };
          }) (helped.adds r c)));
      finished = finishes finished2;
    }

    -- what is kept of the raises alone
    made_kept : (kept : Kept) → IsKeptBy w u kept
        → IsKeptBy w2 u (with_made kept own (raise_places objects S u stamp low w w1 reached colours raised))
    made_kept kept k = reading.made_kept objects S u stamp low w w1 reached colours raised w2 helped kept k

    -- a read of which no answer tells, in the log of a world with the same columns
    hidden_in : (x : World) → log_of x ≡ log_of w2 → x.shape ≡ w2.shape → (kept : Kept) → IsKeptBy w u kept
        → (synced end : Kept) → HidesSyncs (log_of w2) (caller_in w objects u) kept colours synced
        → (end ≡ with_made synced own (raise_places objects S u stamp low w w1 reached colours raised))
        ⊎ (end ≡ with_made (with_floor synced stamp) own
        (raise_places objects S u stamp low w w1 reached colours raised))
        → IsKeptBy x u end → KeepsHidden x kept
    hidden_in x log shape kept k synced end hides is keeps = record {
      after = end;
      keeps = keeps;
      hides = subst (λ (l : Log). HidesRead l (caller_in x objects u) kept colours end) (sym log)
          (subst (λ (c : Caller). HidesRead (log_of w2) c kept colours end)
          (sym (caller_same w x objects u (shape ∙ shape2)))
          (reading.hidden_read objects S u stamp low w w1 reached colours raised w2 helped kept k refl synced end hides
          is));
    }

    -- where nothing was played
    hidden_raises : (kept : Kept) → IsKeptBy w u kept → KeepsHidden w2 kept
    hidden_raises kept k =
        hidden_in w2 refl refl kept k kept
        (with_made kept own (raise_places objects S u stamp low w w1 reached colours raised))
        (hides_none (log_of w2) (caller_in w objects u) kept colours) (inl refl) (made_kept kept k)

    -- what was played, of which no answer tells
    pub record Hidden (x : World) (kept : Kept) : Type 0 where
      pub synced : Kept
      pub hides : HidesSyncs (log_of w2) (caller_in w objects u) kept colours synced
      pub keeps : IsKeptBy x u
          (with_made synced own (raise_places objects S u stamp low w w1 reached colours raised))

    look2 : MayLook objects S u stamp w2 colours
    look2 = playing.looks_on objects S u stamp w w2 colours reached2 shape2 look

    abbrev w3 : World
    w3 = (stamped.played u w2 colours).world

    plays : Played objects S u stamp w2 w3 colours
    plays = playing.play_all objects S u stamp w2 colours look2

    hidden_plays : (kept : Kept) → IsKeptBy w u kept → Hidden w3 kept
    hidden_plays kept k =
        let places = raise_places objects S u stamp low w w1 reached colours raised in
        let h = playing.hide_all objects S u stamp w2 colours look2 (with_made kept own places) (made_kept kept k) in
        let s = hides_without (log_of w2) (caller_in w objects u) kept places colours h.after
        (subst (λ (c : Caller). HidesSyncs (log_of w2) c (with_made kept own places) colours h.after)
        (caller_same w w2 objects u shape2) h.hides) in
        record { synced = s.0; hides = s.1; keeps = subst (IsKeptBy w3 u) s.2 h.keeps }

    -- RAISED AND CLEARED

    module _ (clear : (c : ℕ) → In c colours → IsClearUpTo stamp (w2.histories own c))
        (kept1 : (kept : Kept) → IsKeptBy w u kept
        → RaisesKept objects S u own stamp low w w1 (map (raise_in w u stamp) colours) kept) where
      abbrev raises : List RaisePiece
      raises = map (raise_in w u stamp) colours

      later12 : IsLater (log_of w1) (log_of w2)
      later12 = later_log w1 w2 helped.steps reached1 helped.run

      later : IsLater (log_of w) (log_of w2)
      later = later_log w w2 (raised.steps ++ helped.steps) reached
          (run_steps-append w raised.steps helped.steps
          ∙ (ap (λ (y : World). run_steps y helped.steps) raised.run ∙ helped.run))

      clear2 : (c : ℕ) → In c colours → IsClearUpTo stamp (home_history w2 u c)
      clear2 c i = subst (λ (r : ℕ). IsClearUpTo stamp (w2.histories r c))
          (sym (ap (λ (s : Shape). slice_index s.homes u) shape2)) (clear c i)

      -- what the client keeps of the raises
      module _ (kept : Kept) (k : IsKeptBy w u kept) where
        keeps2 : IsKeptBy w2 u (kept1 kept k).after
        keeps2 = reading.helped_kept objects u w1 w2 reached1
            (subst (λ (r : ℕ). Helped u r w1 w2) (sym (ap (λ (s : Shape). slice_index s.homes u) raised.shape)) helped)
            (kept1 kept k).after (kept1 kept k).keeps

        raising2 : Raises (log_of w2) (caller_in w objects u) stamp kept raises (kept1 kept k).after
        raising2 = raises_later (log_of w1) (log_of w2) later12 (caller_in w objects u) stamp kept raises
            (kept1 kept k).after (subst (λ (c : Caller). Raises (log_of w1) c stamp kept raises (kept1 kept k).after)
            (caller_same w w1 objects u raised.shape) (kept1 kept k).raising)

        above_floor : kept.floor ≤ stamp
        above_floor = let a = k.floor in omega (arith, a)

        whole : (c : ℕ) → take (length (w.histories own c)) (w2.histories own c) ≡ w.histories own c
        whole c = prefix_take (w.histories own c) (w2.histories own c) (length (w.histories own c))
            (later.histories own c) (omega arith)
            ∙ take_all (length (w.histories own c)) (w.histories own c) (omega arith)

        chosen_so : (read_stamp w u colours ≡ (w.clients u).floor)
            ⊎ ((c : ℕ) × In c colours × (clock (home_history w u c) ≡ read_stamp w u colours))
            → IsReadStamp (log_of w2) (caller_in w objects u) kept raises stamp
        chosen_so (inl same) = inl (same ∙ sym k.floor)
        chosen_so (inr (c, i, same)) =
            let h = w.histories own c in
            inr (
              raise_in w u stamp c,
              contains_in raises (raise_in w u stamp c) (in_map_back (raise_in w u stamp) colours c i),
              length h,
              k.seen own c,
              until (nat_lt (clock h) stamp) (length h) refl,
              sym same ∙ ap clock (sym (whole c)),
            ) where
              until : (b : Bool) (n : ℕ) → n ≡ length (w.histories own c)
                  → n ≤ events_until (next_at (w.histories own c) b)
              until true n e = omega (arith, e)
              until false n e = omega (arith, e)

        chosen : IsReadStamp (log_of w2) (caller_in w objects u) kept raises stamp
        chosen = chosen_so (reading.stamp_is w u colours)

        -- the stamp is not below what was seen of the clock
        abbrev Above : ℕ → Type 0
        Above c = (kept.seen own c ≤ length (w2.histories own c))
            × (clock (take (kept.seen own c) (w2.histories own c)) ≤ stamp)

        one_above : (c : ℕ) → In c colours → Above c
        one_above c i =
            let seen = k.seen own c in
            let more = prefix_length (w.histories own c) (w2.histories own c) (later.histories own c) in (
              omega (arith, seen, more),
              subst (λ (l : List Entry). clock l ≤ stamp)
                  (sym (prefix_take (w.histories own c) (w2.histories own c) (kept.seen own c)
                  (later.histories own c) seen))
                  (reading.seen_clock w u colours c (kept.seen own c) i),
            )

        each_above : (cs : List ℕ) → ((c : ℕ) → In c cs → In c colours) → All Above cs
        each_above [] sub = All-nil Above
        each_above (c ∷ cs) sub =
            All-cons Above c cs (one_above c (sub c (inl refl))) (each_above cs (λ d i. sub d (inr i)))

        above : All Above colours
        above = each_above colours (λ c i. i)

      -- REFUSED

      and_last : (a b : Bool) → a ≡ true → (a && b) ≡ false → b ≡ false
      and_last true b t f = f
      and_last false b t f = absurd (let x : ⊥ = cc in x)

      not_within : (c : ℕ) → In c colours → may_play w3 u c ≡ false
          → is_within (base_after w3.shape.regions (home_of w3 u) (home_history w3 u c)) ((w3.clients u).played c)
          ≡ false
      not_within c i refuses =
          let caller_ok : is_client w3 u ≡ true =
          ap (λ (s : Shape). nat_lt u (length s.homes)) plays.shape ∙ look2.caller in
          let column_ok : is_column w3 (home_of w3 u) c ≡ true =
          ap (λ (s : Shape). nat_lt (slice_index s.homes u) s.regions && nat_lt c s.colours) plays.shape
          ∙ look2.columns c i in
          and_last (is_column w3 (home_of w3 u) c) _ column_ok (and_last (is_client w3 u) _ caller_ok refuses)

      module _ (c : ℕ) (stop : (stamped.played u w2 colours).stopped ≡ Some c) where
        abbrev told : Counts
        told = base_after w3.shape.regions (home_of w3 u) (home_history w3 u c)

        called3 : caller_in w3 objects u ≡ caller_in w objects u
        called3 = caller_same w w3 objects u (plays.shape ∙ shape2)

        module _ (kept : Kept) (k : IsKeptBy w u kept) where
          played : playing.PlaysBefore objects S u stamp w2 w2 w3 colours c (kept1 kept k).after
          played = playing.show_before objects S u stamp w2 w2 colours refl refl look2 clear2 c stop (kept1 kept k).after
              (keeps2 kept k)

          trimmed : IsTrimmed (log_of w3) (caller_in w3 objects u) played.shown.after c told
          trimmed =
              let h = home_history w3 u c in
              let i = subst (In c) played.apart (in_right c played.before (c ∷ played.behind) (inl refl)) in record {
                events = length h;
                unseen = played.shown.keeps.seen (home_of w3 u) c;
                there = omega arith;
                is_base = ap (λ (l : List Entry). base (home_of w3 u) w3.shape.regions (dated (home_of w3 u) l))
                    (sym (take_all (length h) h (omega arith)));
                below = subst (λ (v : Counts). is_within told v ≡ false)
                    (ap (λ (f : ℕ → Counts). f c) (sym played.shown.keeps.starts)) (not_within c i played.refused);
              }

          refuses : RefusesRead (log_of w2) (caller_in w objects u) kept colours c told played.shown.after
          refuses = record {
            stamp = stamp;
            raises = raises;
            syncs = map (sync_in w2 u) played.before;
            behind = played.behind;
            raised_colours = same_colours (λ (r : RaisePiece). r.colour) (raise_in w u stamp) (λ d. refl) colours;
            synced_before = ap (λ (l : List ℕ). l ++ c ∷ played.behind)
                (same_colours (λ (s : SyncPiece). s.colour) (sync_in w2 u) (λ d. refl) played.before) ∙ played.apart;
            above_floor = above_floor kept k;
            above_clocks = above kept k;
            chosen = chosen kept k;
            raised = (kept1 kept k).after;
            raising = raising2 kept k;
            syncing = subst (λ (d : Caller). ClearSyncs (log_of w2) d stamp (kept1 kept k).after
                (map (sync_in w2 u) played.before) played.shown.after)
                (caller_same w w2 objects u shape2) played.shown.syncing;
            trimmed = subst (λ (l : Log). IsTrimmed l (caller_in w objects u) played.shown.after c told) plays.log
                (subst (λ (d : Caller). IsTrimmed (log_of w3) d played.shown.after c told) called3 trimmed);
          }

        refused : DidRead (read_after_plays u colours w w2 w3 (Some c))
        refused = record {
          to = read_to w3 plays.steps plays.run plays.shape plays.histories plays.others plays.finished;
          ends = λ kept k. record {
            after = (played kept k).shown.after;
            keeps = (played kept k).shown.keeps;
            refuses = subst (λ (l : Log). RefusesRead l (caller_in w3 objects u) kept colours c told
                (played kept k).shown.after) (sym plays.log)
                (subst (λ (d : Caller). RefusesRead (log_of w2) d kept colours c told (played kept k).shown.after)
                (sym called3) (refuses kept k));
          };
        }

      -- WHOLE

      module _ (clocks : (c : ℕ) → In c colours → stamp ≤ clock (w1.histories own c))
          (all : (stamped.played u w2 colours).stopped ≡ None) where
        abbrev w4 : World
        w4 = after w3 (Seen u stamp)

        home3 : home_of w3 u ≡ own
        home3 = ap (λ (s : Shape). slice_index s.homes u) (plays.shape ∙ shape2)

        column_there : (c : ℕ) → In c colours → c < w3.shape.colours
        column_there c i =
            subst (λ (s : Shape). c < s.colours) (sym (plays.shape ∙ shape2))
            (ltb-true c w.shape.colours (both (nat_lt own w.shape.regions) _ (look.columns c i)).1)

        clock_there : (c : ℕ) → In c colours → stamp ≤ clock (home_history w3 u c)
        clock_there c i =
            subst (λ (r : ℕ). stamp ≤ clock (w3.histories r c)) (sym home3)
            (subst (λ (f : ℕ → ℕ → List Entry). stamp ≤ clock (f own c)) (sym plays.histories)
            (clock_stays c i)) where
              clock_stays : (c : ℕ) → In c colours → stamp ≤ clock (w2.histories own c)
              clock_stays c i =
                  let p = later12.histories own c in
                  let a = reading.front_clock (w2.histories own c) (length (w1.histories own c)) in
                  let b : clock (take (length (w1.histories own c)) (w2.histories own c))
                  ≡ clock (w1.histories own c) =
                  ap clock (prefix_take (w1.histories own c) (w2.histories own c) (length (w1.histories own c)) p
                  (omega arith)
                  ∙ take_all (length (w1.histories own c)) (w1.histories own c) (omega arith)) in
                  let d = clocks c i in
                  omega (arith, a, b, d)

        sees : SeesStamp objects u S stamp w3 w4
        sees = reading.see_stamp objects u S stamp w3
            (ap (λ (s : Shape). nat_lt u (length s.homes)) plays.shape ∙ look2.caller) first
            (column_there first is_first) (clock_there first is_first)

        log4 : log_of w4 ≡ log_of w2
        log4 = sees.log ∙ plays.log

        shape42 : w4.shape ≡ w2.shape
        shape42 = sees.shape ∙ plays.shape

        histories4 : w4.histories ≡ w2.histories
        histories4 = sees.histories ∙ plays.histories

        called : caller_in w4 objects u ≡ caller_in w objects u
        called = caller_same w w4 objects u (shape42 ∙ shape2)

        to : ReadTo w4
        to = read_to w4 (plays.steps ++ Seen u stamp ∷ [])
            (run_steps-append w2 plays.steps (Seen u stamp ∷ [])
            ∙ (ap (λ (y : World). run_steps y (Seen u stamp ∷ [])) plays.run ∙ sees.run))
            shape42 histories4 (λ n ne. sees.others n ne ∙ plays.others n ne) (λ f. sees.finished (plays.finished f))

        abbrev syncs : List SyncPiece
        syncs = map (sync_in w2 u) colours

        -- the keys
        ordered : IsRegionOrder (map (λ c. line (home_history w2 u c)) colours) stamp (keys_read w2 u stamp colours)
        ordered = keys_ordered w2 reached2 u stamp colours

        same_keys : keys_read w4 u stamp colours ≡ keys_read w2 u stamp colours
        same_keys = keys_same w2 w4 u stamp shape42 histories4 colours

        are_read : AreKeysRead (log_of w4) (caller_in w4 objects u) stamp syncs (keys_read w4 u stamp colours)
        are_read =
            subst (λ (ls : List (List Key)). IsRegionOrder ls stamp (keys_read w4 u stamp colours))
            (sym (lines_are (log_of w4) (caller_in w4 objects u) w2 u
            (ap (λ (s : Shape). slice_index s.homes u) shape42) histories4 colours))
            (subst (IsRegionOrder (map (λ c. line (home_history w2 u c)) colours) stamp) (sym same_keys) ordered)

        nodes : (key : Key) → In key (keys_read w4 u stamp colours) → (node : Node) × (node_by_id w4 key.id ≡ Some node)
        nodes key i =
            let n = keys_listed w2 reached2 u stamp colours key (subst (λ (l : List Key). In key l) same_keys i) in
            (n.0, ap (λ (l : Log). slice_get (l.nodes key.id.client) key.id.count) log4 ∙ n.1)

        stand : (key : Key) → In key (keys_read w4 u stamp colours) → (c : ℕ) × In key (line (home_history w4 u c))
        stand key i =
            let s = keys_stand w2 reached2 u stamp colours key (subst (λ (l : List Key). In key l) same_keys i) in (
              s.0,
              subst (λ (r : ℕ). In key (line (w4.histories r s.0)))
                  (sym (ap (λ (s : Shape). slice_index s.homes u) shape42))
                  (subst (λ (f : ℕ → ℕ → List Entry). In key (line (f (home_of w2 u) s.0))) (sym histories4) s.2),
            )

        -- what stood before is read
        has : (c : ℕ) → In c colours → (key : Key) → In key (line (home_history w u c)) → key.stamp ≤ stamp
            → In key (keys_read w4 u stamp colours)
        has c i key stood low =
            let lines = map (λ c. line (home_history w2 u c)) colours in
            let p = later.lines own c in
            let now : In key (line (home_history w2 u c)) =
            subst (λ (r : ℕ). In key (line (w2.histories r c))) (sym (ap (λ (s : Shape). slice_index s.homes u) shape2))
            (subst (λ (l : List Key). In key l) p.1 (in_left key (line (w.histories own c)) p.0 stood)) in
            subst (λ (l : List Key). In key l) (sym same_keys)
            (in_contains (keys_read w2 u stamp colours) key (ordered.all (line (home_history w2 u c)) key
            (contains_in lines (line (home_history w2 u c)) (in_map_back (λ c. line (home_history w2 u c)) colours c i))
            (contains_in (line (home_history w2 u c)) key now) low))

        -- no open entry up to the stamp is left
        clear_still : (c : ℕ) → In c colours → IsClearUpTo stamp (home_history w4 u c)
        clear_still c i =
            subst (λ (s : Shape). IsClearUpTo stamp (w4.histories (slice_index s.homes u) c)) (sym (shape42 ∙ shape2))
            (subst (λ (f : ℕ → ℕ → List Entry). IsClearUpTo stamp (f own c)) (sym histories4) (clear c i))

        -- the client keeps what the read tells
        module _ (kept : Kept) (k : IsKeptBy w u kept) where
          shown : playing.PlaysKept objects S u stamp w2 w3 syncs (kept1 kept k).after
          shown = playing.show_all objects S u stamp w2 w2 colours refl refl look2
              clear2 all (kept1 kept k).after (keeps2 kept k)

          reads : ReadsAt (log_of w2) (caller_in w objects u) kept colours stamp raises syncs
              (with_floor shown.after stamp)
          reads = record {
            raised_colours = same_colours (λ (r : RaisePiece). r.colour) (raise_in w u stamp) (λ c. refl) colours;
            synced_colours = same_colours (λ (s : SyncPiece). s.colour) (sync_in w2 u) (λ c. refl) colours;
            above_floor = above_floor kept k;
            above_clocks = above kept k;
            chosen = chosen kept k;
            raised = (kept1 kept k).after;
            raising = raising2 kept k;
            synced = shown.after;
            syncing = subst (λ (c : Caller). ClearSyncs (log_of w2) c stamp (kept1 kept k).after syncs shown.after)
                (caller_same w w2 objects u shape2) shown.syncing;
            after_is = refl;
          }

          keeps_read : KeepsRead w4 raises syncs kept
          keeps_read = record {
            after = with_floor shown.after stamp;
            keeps = reading.seen_kept objects u S stamp w3 w4 sees shown.after shown.keeps;
            reads = subst (λ (l : Log). ReadsAt l (caller_in w4 objects u) kept colours stamp raises syncs
                (with_floor shown.after stamp)) (sym log4)
                (subst (λ (c : Caller). ReadsAt (log_of w2) c kept colours stamp raises syncs
                (with_floor shown.after stamp)) (sym called) reads);
          }

          keeps_hidden : KeepsHidden w4 kept
          keeps_hidden =
              let places = raise_places objects S u stamp low w w1 reached colours raised in
              let p = hidden_plays kept k in
              hidden_in w4 log4 shape42 kept k p.synced (with_made (with_floor p.synced stamp) own places) p.hides
              (inr refl) (reading.seen_kept objects u S stamp w3 w4 sees (with_made p.synced own places) p.keeps)

        whole_read : DidRead (read_after_plays u colours w w2 w3 None)
        whole_read = record {
          to = to;
          ends = record {
            is = refl;
            read = are_read;
            nodes = nodes;
            stand = stand;
            has = has;
            clear = clear_still;
            keys_are = refl;
            kept = keeps_read;
            hidden = keeps_hidden;
          };
        }

  -- ALL OF IT

  module _ (grants : Grants) where
    abbrev p1 : Progress
    p1 = stamped.raised grants u stamp w colours

    raised1 : Raised objects S u own stamp low w p1.world colours
    raised1 = raising.raise_all objects S u own stamp low grants w reached refl colours distinct look.columns

    abbrev w2_of : World
    w2_of = all_cleared grants u (key_above stamp) colours p1.world

    reached_raised : IsReached p1.world
    reached_raised = subst IsReached raised1.run (run_reached w raised1.steps reached)

    clears : ClearsAll u own colours (key_above stamp) p1.world w2_of
    clears = clear_all S grants u own (key_above stamp) colours p1.world reached_raised (raised1.finished fin) free
        (ap (λ (s : Shape). slice_index s.homes u) raised1.shape)

    clear_now : (c : ℕ) → In c colours → IsClearUpTo stamp (w2_of.histories own c)
    clear_now c i = reading.clear_up_to stamp w2_of own c (clears.clear c i)

    raised_now : p1.stopped ≡ None → (kept : Kept) → IsKeptBy w u kept
        → RaisesKept objects S u own stamp low w p1.world (map (raise_in w u stamp) colours) kept
    raised_now all kept k =
        raising.raise_kept objects S u own stamp low grants w w reached refl refl colours distinct look.columns
        (λ c i. refl) all kept k

    after_plays : p1.stopped ≡ None → (o : Option ℕ) → (stamped.played u w2_of colours).stopped ≡ o
        → DidRead (read_after_plays u colours w w2_of (stamped.played u w2_of colours).world o)
    after_plays all None stop = whole_read p1.world raised1 w2_of clears.helped clear_now (raised_now all)
        (raising.clocks_there objects S u own stamp low grants w reached refl colours distinct look.columns all) stop
    after_plays all (Some c) stop = refused p1.world raised1 w2_of clears.helped clear_now (raised_now all) c stop

    after_raises : (o : Option ℕ) → p1.stopped ≡ o → DidRead (read_after_raises grants u colours w p1.world o)
    after_raises None all = after_plays all (stamped.played u w2_of colours).stopped refl
    after_raises (Some c) stop = record {
      to = read_to p1.world raised1 p1.world (helped_none u own p1.world) p1.world [] refl refl refl (λ n ne. refl)
          (λ f. f);
      ends = hidden_raises p1.world raised1 p1.world (helped_none u own p1.world);
    }

    pub did_read : DidRead (stamped_read grants w u colours)
    did_read = after_raises p1.stopped refl
