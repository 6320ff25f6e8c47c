-- The plays of a stamped read: what they leave, and what the client then keeps.
use Rattle.std.proofs.Common.{◌≡◌, ◌≢◌, ℕ, ◌<◌, List, [], ◌∷◌, ◌++◌, length, map, Some, None, true, false, refl, subst, ap, sym, ◌∙◌, inl, inr, ◌⊎◌, arith}
use Rattle.std.specs.Prelude.{nat_lt, ◌&&◌, slice_index}
use Rattle.std.proofs.lemmas.List.{take_all}
use Rattle.log_node.specs.declared.ids.Counts.{Counts}
use Rattle.log_node.specs.declared.node.Shape.{Shape}
use Rattle.col_core.specs.declared.Entry.{Entry}
use Rattle.col_core.specs.Computed.{dated}
use Rattle.col_core.specs.Copies.{AreTrueCopies}
use Rattle.col_core.specs.Log.{Log}
use Rattle.col_core.specs.Keeping.{Kept, kept_after_sync}
use Rattle.col_core.specs.RegionOrder.{IsClearUpTo}
use Rattle.col_core.proofs.CallerLemmas.{choice, if_true, In}
use Rattle.world_laws.specs.declared.steps.Step.{Step}
use Rattle.world_laws.specs.declared.steps.Step.TheVariants.{Play}
use Rattle.world_laws.specs.Worlds.{World, home_of, home_history, run_steps, after, after_play, cut_after, is_client, is_column, may_play, played_cut}
use Rattle.world_laws.specs.Laws.{IsReached, log_of}
use Rattle.world_laws.proofs.CallerLemmas.{played_client, run_reached, run_steps-append}
use Rattle.playback.proofs.CallerLemmas.{order_is_played}
use Rattle.script_text.specs.declared.script.Object.{Object}
use Rattle.report_text.specs.declared.report.SyncPiece.{SyncPiece}
use Rattle.lawful_run.specs.Callers.{Caller}
use Rattle.lawful_run.specs.Reads as reads
use Rattle.lawful_run.specs.Reads.{Syncs, kept_after_piece, ClearSyncs, played, HidesSyncs}
use Rattle.lawful_run.proofs.CallerLemmas.{kept_after_hidden, hides_more, hides_none}
use Rattle.script_meaning.specs.Stamped as stamped
use Rattle.script_meaning.specs.Stamped.{Progress, sync_in}
use Rattle.script_meaning.proofs.Append.AppendOne.{caller_same, updated-not}
use Rattle.script_meaning.proofs.World.Clearing.{Finished}
use Rattle.script_meaning.proofs.Client.Kept.{caller_in, IsKeptBy}
use Rattle.script_meaning.proofs.Client.OwnEvents.{finished_client}
use Rattle.script_meaning.proofs.World.Reached.{held_of, cuts_of}
use Rattle.script_meaning.proofs.Move.Sync as sync

module _ (objects : List Object) (S : ℕ → Type 0) (u stamp : ℕ) where
  -- what plays of some of these colours leave: of the client alone what it has played and its floor change
  pub record Played (w w' : World) (colours : List ℕ) : Type 0 where
    pub steps : List Step
    pub run : run_steps w steps ≡ w'
    pub shape : w'.shape ≡ w.shape
    pub histories : w'.histories ≡ w.histories
    pub log : log_of w' ≡ log_of w
    pub others : (n : ℕ) → n ≢ u → w'.clients n ≡ w.clients n
    pub finished : Finished S w → Finished S w'

  -- what the client keeps where no answer tells of the plays
  pub record PlaysHidden (w w' : World) (colours : List ℕ) (kept : Kept) : Type 0 where
    pub after : Kept
    pub keeps : IsKeptBy w' u after
    pub hides : HidesSyncs (log_of w) (caller_in w objects u) kept colours after

  -- what it keeps where the syncs are shown
  pub record PlaysKept (w w' : World) (syncs : List SyncPiece) (kept : Kept) : Type 0 where
    pub after : Kept
    pub keeps : IsKeptBy w' u after
    pub syncing : ClearSyncs (log_of w) (caller_in w objects u) stamp kept syncs after

  -- the client may play the colour, if no node is trimmed: there is the column
  pub record MayLook (w : World) (colours : List ℕ) : Type 0 where
    pub reached : IsReached w
    pub few : home_of w u < 4
    pub caller : is_client w u ≡ true
    pub columns : (c : ℕ) → In c colours → is_column w (home_of w u) c ≡ true

  none_played : (w : World) (colours : List ℕ) → Played w w colours
  none_played w colours = record {
    steps = [];
    run = refl;
    shape = refl;
    histories = refl;
    log = refl;
    others = λ n ne. refl;
    finished = λ f. f;
  }

  none_hidden : (w : World) (colours : List ℕ) (kept : Kept) → IsKeptBy w u kept → PlaysHidden w w colours kept
  none_hidden w colours kept k =
      record { after = kept; keeps = k; hides = hides_none (log_of w) (caller_in w objects u) kept colours }

  -- One play

  module _ (w : World) (c : ℕ) (look : MayLook w (c ∷ [])) (ok : may_play w u c ≡ true) where
    abbrev h : List Entry
    h = home_history w u c

    abbrev log : Log
    log = log_of w

    abbrev caller : Caller
    caller = caller_in w objects u

    abbrev snapshot : Counts
    snapshot = played_cut w u c

    abbrev one : World
    one = after_play w u c

    pub one_is : after w (Play u c) ≡ one
    one_is = if_true (may_play w u c) one w ok

    copies : AreTrueCopies w.shape.regions (λ region. dated region (w.histories region c))
    copies = (held_of w look.reached).copies c

    one_played : Played w one (c ∷ [])
    one_played = record {
      steps = Play u c ∷ [];
      run = one_is;
      shape = refl;
      histories = refl;
      log = sync.log_same w u (played_client w u c) refl;
      others = λ n ne. updated-not w.clients u (played_client w u c) n ne;
      finished = λ f. finished_client S w u (played_client w u c) refl f;
    }

    module _ (kept : Kept) (k : IsKeptBy w u kept) where
      stamp_played : ℕ
      stamp_played = reads.greatest_played log caller kept c (length h) snapshot

      syncs : Syncs log caller kept c (length h) snapshot
      syncs = sync.syncs objects w look.reached u c look.few look.caller (look.columns c (inl refl))
          (cuts_of w look.reached) copies order_is_played ok kept k

      keeps : IsKeptBy one u (kept_after_sync kept (home_of w u) c (length h) snapshot
          (reads.greatest_played log caller kept c (length h) snapshot))
      keeps = subst (λ (n : ℕ). IsKeptBy one u (kept_after_sync kept (home_of w u) c (length h) snapshot n))
          (sync.piece_stamp objects w look.reached u c look.few look.caller (look.columns c (inl refl))
          (cuts_of w look.reached) copies order_is_played ok kept k)
          (sync.keeps objects w look.reached u c look.few look.caller (look.columns c (inl refl))
          (cuts_of w look.reached) copies order_is_played ok kept k)

      one_hidden : PlaysHidden w one (c ∷ []) kept
      one_hidden =
          let n = reads.greatest_played log caller kept c (length h) snapshot in
          record {
            after = kept_after_hidden kept c snapshot n;
            keeps = record {
              floor = keeps.floor;
              starts = keeps.starts;
              seen = k.seen;
              known = k.known;
              made = k.made;
              ids = keeps.ids;
              rows = keeps.rows;
            };
            hides = (snapshot, n, played (length h) snapshot syncs, refl);
          }

      one_shown : IsClearUpTo stamp h → PlaysKept w one (sync_in w u c ∷ []) kept
      one_shown clear = record {
        after = kept_after_piece log caller kept (sync_in w u c);
        keeps = keeps;
        syncing = (
          syncs,
          subst (IsClearUpTo stamp) (sym (take_all (length h) h (omega arith))) clear,
          refl,
        );
      }

  -- One colour after another

  pub looks_on : (w v : World) (colours : List ℕ) → IsReached v → v.shape ≡ w.shape → MayLook w colours
      → MayLook v colours
  looks_on w v colours reached e look = record {
    reached = reached;
    few = subst (λ (s : Shape). slice_index s.homes u < 4) (sym e) look.few;
    caller = ap (λ (s : Shape). nat_lt u (length s.homes)) e ∙ look.caller;
    columns = λ c i. ap (λ (s : Shape). nat_lt (slice_index s.homes u) s.regions && nat_lt c s.colours) e
        ∙ look.columns c i;
  }

  first_look : (w : World) (c : ℕ) (colours : List ℕ) → MayLook w (c ∷ colours) → MayLook w (c ∷ [])
  first_look w c colours look = record {
    reached = look.reached;
    few = look.few;
    caller = look.caller;
    columns = λ d i. look.columns d (turn i);
  } where
    turn : {d : ℕ} → (c ≡ d) ⊎ ⊥ → (c ≡ d) ⊎ In d colours
    turn (inl e) = inl e
    turn (inr none) = absurd none

  rest_look : (w : World) (c : ℕ) (colours : List ℕ) → MayLook w (c ∷ colours) → MayLook w colours
  rest_look w c colours look = record {
    reached = look.reached;
    few = look.few;
    caller = look.caller;
    columns = λ d i. look.columns d (inr i);
  }

  played_then : (w v x : World) (c : ℕ) (colours : List ℕ) → Played w v (c ∷ []) → Played v x colours
      → Played w x (c ∷ colours)
  played_then w v x c colours a b = record {
    steps = a.steps ++ b.steps;
    run = run_steps-append w a.steps b.steps ∙ (ap (λ (y : World). run_steps y b.steps) a.run ∙ b.run);
    shape = b.shape ∙ a.shape;
    histories = b.histories ∙ a.histories;
    log = b.log ∙ a.log;
    others = λ n ne. b.others n ne ∙ a.others n ne;
    finished = λ f. b.finished (a.finished f);
  }

  hidden_then : (w v x : World) (c : ℕ) (colours : List ℕ) (kept : Kept) → Played w v (c ∷ [])
      → PlaysHidden w v (c ∷ []) kept
      → ((k : Kept) → IsKeptBy v u k → PlaysHidden v x colours k) → PlaysHidden w x (c ∷ colours) kept
  hidden_then w v x c colours kept a one on =
      let rest = on one.after one.keeps in
      record {
        after = rest.after;
        keeps = rest.keeps;
        hides = hides_more (log_of w) (caller_in w objects u) kept one.after rest.after (c ∷ []) colours one.hides
            (subst (λ (l : Log). HidesSyncs l (caller_in w objects u) one.after colours rest.after) a.log
            (subst (λ (k : Caller). HidesSyncs (log_of v) k one.after colours rest.after)
            (caller_same w v objects u a.shape) rest.hides));
      }

  shown_then : (w v x : World) (c : ℕ) (syncs : List SyncPiece) (kept : Kept) → Played w v (c ∷ [])
      → (one : PlaysKept w v (sync_in w u c ∷ []) kept)
      → PlaysKept v x syncs one.after → PlaysKept w x (sync_in w u c ∷ syncs) kept
  shown_then w v x c syncs kept a one rest = record {
    after = rest.after;
    keeps = rest.keeps;
    syncing = (
      one.syncing.0,
      one.syncing.1,
      subst (λ (k : Kept). ClearSyncs (log_of w) (caller_in w objects u) stamp k syncs rest.after) one.syncing.2
          (subst (λ (l : Log). ClearSyncs l (caller_in w objects u) stamp one.after syncs rest.after) a.log
          (subst (λ (k : Caller). ClearSyncs (log_of v) k stamp one.after syncs rest.after)
          (caller_same w v objects u a.shape) rest.syncing)),
    );
  }

  -- the first play, where it may be
  play_first : (w : World) (c : ℕ) (colours : List ℕ) → MayLook w (c ∷ colours) → may_play w u c ≡ true
      → Played w (after w (Play u c)) (c ∷ [])
  play_first w c colours look ok =
      subst (λ (x : World). Played w x (c ∷ [])) (sym (one_is w c (first_look w c colours look) ok))
      (one_played w c (first_look w c colours look) ok)

  hide_first : (w : World) (c : ℕ) (colours : List ℕ) → MayLook w (c ∷ colours) → may_play w u c ≡ true
      → (kept : Kept) → IsKeptBy w u kept → PlaysHidden w (after w (Play u c)) (c ∷ []) kept
  hide_first w c colours look ok kept k =
      subst (λ (x : World). PlaysHidden w x (c ∷ []) kept) (sym (one_is w c (first_look w c colours look) ok))
      (one_hidden w c (first_look w c colours look) ok kept k)

  show_first : (w : World) (c : ℕ) (colours : List ℕ) → MayLook w (c ∷ colours) → may_play w u c ≡ true
      → (kept : Kept) → IsKeptBy w u kept → IsClearUpTo stamp (home_history w u c)
      → PlaysKept w (after w (Play u c)) (sync_in w u c ∷ []) kept
  show_first w c colours look ok kept k clear =
      subst (λ (x : World). PlaysKept w x (sync_in w u c ∷ []) kept)
      (sym (one_is w c (first_look w c colours look) ok))
      (one_shown w c (first_look w c colours look) ok kept k clear)

  next_look : (w v : World) (c : ℕ) (colours : List ℕ) → Played w v (c ∷ []) → MayLook w (c ∷ colours)
      → MayLook v colours
  next_look w v c colours p look =
      looks_on w v colours (subst IsReached p.run (run_reached w p.steps look.reached)) p.shape
      (rest_look w c colours look)

  pub play_all : (w : World) (colours : List ℕ) → MayLook w colours
      → Played w (stamped.played u w colours).world colours
  play_all w [] look = none_played w []
  play_all w (c ∷ colours) look =
      choice (λ (p : Progress). Played w p.world (c ∷ colours)) (may_play w u c)
      (stamped.played u (after w (Play u c)) colours) (record { world = w; stopped = Some c })
      (λ ok. let first = play_first w c colours look ok in
      played_then w (after w (Play u c)) (stamped.played u (after w (Play u c)) colours).world c colours first
      (play_all (after w (Play u c)) colours (next_look w (after w (Play u c)) c colours first look)))
      (λ _. none_played w (c ∷ colours))

  pub hide_all : (w : World) (colours : List ℕ) → MayLook w colours → (kept : Kept) → IsKeptBy w u kept
      → PlaysHidden w (stamped.played u w colours).world colours kept
  hide_all w [] look kept k = none_hidden w [] kept k
  hide_all w (c ∷ colours) look kept k =
      choice (λ (p : Progress). PlaysHidden w p.world (c ∷ colours) kept) (may_play w u c)
      (stamped.played u (after w (Play u c)) colours) (record { world = w; stopped = Some c })
      (λ ok. let first = play_first w c colours look ok in
      hidden_then w (after w (Play u c)) (stamped.played u (after w (Play u c)) colours).world c colours kept first
      (hide_first w c colours look ok kept k)
      (λ x j. hide_all (after w (Play u c)) colours (next_look w (after w (Play u c)) c colours first look) x j))
      (λ _. none_hidden w (c ∷ colours) kept k)

  same_home : (w v : World) (d : ℕ) → v.shape ≡ w.shape → v.histories ≡ w.histories
      → home_history v u d ≡ home_history w u d
  same_home w v d e f =
      ap (λ (s : Shape). v.histories (slice_index s.homes u) d) e
      ∙ ap (λ (x : ℕ → ℕ → List Entry). x (home_of w u) d) f

  same_sync : (first w : World) (c : ℕ) → w.shape ≡ first.shape → w.histories ≡ first.histories
      → sync_in w u c ≡ sync_in first u c
  same_sync first w c e f =
      ap (λ (s : Shape). record {
        colour = c;
        events = length (w.histories (slice_index s.homes u) c);
        counts = cut_after (slice_index s.homes u) (w.histories (slice_index s.homes u) c);
      }) e
      ∙ ap (λ (x : ℕ → ℕ → List Entry). record {
        colour = c;
        events = length (x (home_of first u) c);
        counts = cut_after (home_of first u) (x (home_of first u) c);
      }) f

  -- where none was refused, the syncs are those that are shown
  pub show_all : (first w : World) (colours : List ℕ) → w.shape ≡ first.shape → w.histories ≡ first.histories
      → MayLook w colours → ((c : ℕ) → In c colours → IsClearUpTo stamp (home_history w u c))
      → (stamped.played u w colours).stopped ≡ None → (kept : Kept) → IsKeptBy w u kept
      → PlaysKept w (stamped.played u w colours).world (map (sync_in first u) colours) kept
  show_all first w [] shape same look clear all kept k = record { after = kept; keeps = k; syncing = refl }
  show_all first w (c ∷ colours) shape same look clear all kept k =
      choice (λ (p : Progress). p.stopped ≡ None
      → PlaysKept w p.world (map (sync_in first u) (c ∷ colours)) kept) (may_play w u c)
      (stamped.played u (after w (Play u c)) colours) (record { world = w; stopped = Some c })
      (λ ok more. let one = play_first w c colours look ok in
      let here = show_first w c colours look ok kept k (clear c (inl refl)) in
      subst (λ (s : SyncPiece). PlaysKept w (stamped.played u (after w (Play u c)) colours).world
      (s ∷ map (sync_in first u) colours) kept) (same_sync first w c shape same)
      (shown_then w (after w (Play u c)) (stamped.played u (after w (Play u c)) colours).world c
      (map (sync_in first u) colours) kept one here
      (show_all first (after w (Play u c)) colours (one.shape ∙ shape) (one.histories ∙ same)
      (next_look w (after w (Play u c)) c colours one look)
      (λ d i. subst (IsClearUpTo stamp) (sym (same_home w (after w (Play u c)) d one.shape one.histories))
      (clear d (inr i))) more here.after here.keeps)))
      (λ _ none. absurd (let f : ⊥ = cc in f)) all

  -- A play was refused, of this colour: the syncs of those before it are as they are shown, none behind it is played, and
  -- this one may not be played.
  pub record PlaysBefore (first w w' : World) (colours : List ℕ) (c : ℕ) (kept : Kept) : Type 0 where
    pub before : List ℕ
    pub behind : List ℕ
    pub apart : before ++ c ∷ behind ≡ colours
    pub shown : PlaysKept w w' (map (sync_in first u) before) kept
    pub refused : may_play w' u c ≡ false

  pub show_before : (first w : World) (colours : List ℕ) → w.shape ≡ first.shape → w.histories ≡ first.histories
      → MayLook w colours → ((c : ℕ) → In c colours → IsClearUpTo stamp (home_history w u c))
      → (c : ℕ) → (stamped.played u w colours).stopped ≡ Some c → (kept : Kept) → IsKeptBy w u kept
      → PlaysBefore first w (stamped.played u w colours).world colours c kept
  show_before first w [] shape same look clear c stop kept k = absurd (let f : ⊥ = cc in f)
  show_before first w (d ∷ colours) shape same look clear c stop kept k =
      choice (λ (p : Progress). p.stopped ≡ Some c → PlaysBefore first w p.world (d ∷ colours) c kept) (may_play w u d)
      (stamped.played u (after w (Play u d)) colours) (record { world = w; stopped = Some d })
      (λ ok more. let one = play_first w d colours look ok in
      let here = show_first w d colours look ok kept k (clear d (inl refl)) in
      let rest = show_before first (after w (Play u d)) colours (one.shape ∙ shape) (one.histories ∙ same)
      (next_look w (after w (Play u d)) d colours one look)
      (λ e i. subst (IsClearUpTo stamp) (sym (same_home w (after w (Play u d)) e one.shape one.histories))
      (clear e (inr i))) c more here.after here.keeps in record {
        before = d ∷ rest.before;
        behind = rest.behind;
        apart = ap (λ (l : List ℕ). d ∷ l) rest.apart;
        shown = subst (λ (s : SyncPiece). PlaysKept w (stamped.played u (after w (Play u d)) colours).world
            (s ∷ map (sync_in first u) rest.before) kept) (same_sync first w d shape same)
            (shown_then w (after w (Play u d)) (stamped.played u (after w (Play u d)) colours).world d
            (map (sync_in first u) rest.before) kept one here rest.shown);
        refused = rest.refused;
      })
      (λ no is. let is_it : d ≡ c = cc in record {
        before = [];
        behind = colours;
        apart = ap (λ (n : ℕ). n ∷ colours) (sym is_it);
        shown = record { after = kept; keeps = k; syncing = refl };
        refused = subst (λ (n : ℕ). may_play w u n ≡ false) is_it no;
      }) stop
