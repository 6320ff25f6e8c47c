-- The raises of a stamped read: what they add, and what the client then keeps.
use Rattle.std.proofs.Common.{◌≡◌, ℕ, ◌+◌, ◌<◌, ◌≤◌, List, [], ◌∷◌, ◌++◌, length, map, take, Some, None, Bool, true, false, refl, subst, ap, sym, ◌∙◌, inl, inr, ◌⊎◌, arith}
use Rattle.std.specs.Prelude.{◌&&◌, nat_lt, nat_le, slice_get, slice_index}
use Rattle.std.proofs.lemmas.Bool.{cases_lt, le-leb, lt-ltb, le-ltb}
use Rattle.std.proofs.lemmas.List.{take_all, take_at}
use Rattle.log_node.specs.declared.node.At.{At}
use Rattle.log_node.specs.declared.node.At.TheVariants.{Event, Look}
use Rattle.log_node.specs.declared.node.Shape.{Shape}
use Rattle.col_core.specs.declared.Entry.{Entry}
use Rattle.col_core.specs.declared.Event.TheVariants as events
use Rattle.col_core.specs.History.{clock, line, last_stamp}
use Rattle.col_core.specs.Keeping.{Kept, updated_at, kept_after_event, kept_after_look}
use Rattle.col_core.proofs.CallerLemmas.{apart, by_test, choice, if_true, if_false, clock-append, In}
use Rattle.world_laws.specs.declared.steps.Step.{Step}
use Rattle.world_laws.specs.declared.steps.Step.TheVariants.{Raise}
use Rattle.world_laws.specs.Worlds.{World, home_of, run_steps, after, after_raise, is_column, may_raise}
use Rattle.world_laws.specs.Laws.{IsReached, log_of}
use Rattle.world_laws.proofs.CallerLemmas.{at_updated_at, slice_last, run_reached, run_steps-append}
use Rattle.script_text.specs.declared.script.Object.{Object}
use Rattle.report_text.specs.declared.report.RaisePiece.{RaisePiece}
use Rattle.lawful_run.specs.Callers.{Caller}
use Rattle.lawful_run.specs.Reads.{RaisesClock, kept_after_place, Raises}
use Rattle.lawful_run.proofs.CallerLemmas.{raise_later}
use Rattle.script_meaning.specs.States.{Grants}
use Rattle.script_meaning.specs.Moves.{next_at}
use Rattle.script_meaning.specs.Stamped.{Progress, raised, raise_in}
use Rattle.script_meaning.proofs.Append.AppendOne.{caller_same}
use Rattle.script_meaning.proofs.World.Clearing.{Finished}
use Rattle.script_meaning.proofs.Client.Kept.{caller_in, IsKeptBy, later_log}
use Rattle.script_meaning.proofs.Client.OwnEvents.{history_is, own_kept, seen_here, finished_last}

-- no colour comes twice
abbrev pub AreDistinct : List ℕ → Type 0
AreDistinct [] = Unit {0}
AreDistinct (colour ∷ colours) = (In colour colours → ⊥) × AreDistinct colours

module _ (objects : List Object) (S : ℕ → Type 0) (u own stamp : ℕ) (low : stamp ≤ last_stamp) where
  abbrev pub e : Entry
  e = record { by = u; event = events.Raise stamp; stamp = 0 }

  -- the raises of some of these colours, each of which adds one event at most
  pub record Raised (w w' : World) (colours : List ℕ) : Type 0 where
    pub steps : List Step
    pub run : run_steps w steps ≡ w'
    pub shape : w'.shape ≡ w.shape
    pub clients : (n : ℕ) → w'.clients n ≡ w.clients n
    pub columns : (r c : ℕ) → (w'.histories r c ≡ w.histories r c)
        ⊎ ((r ≡ own) × In c colours × (w'.histories r c ≡ w.histories r c ++ e ∷ []))
    pub finished : Finished S w → Finished S w'

  -- the client keeps what its raises of these colours tell
  pub record RaisesKept (w w' : World) (raises : List RaisePiece) (kept : Kept) : Type 0 where
    pub after : Kept
    pub keeps : IsKeptBy w' u after
    pub raising : Raises (log_of w') (caller_in w' objects u) stamp kept raises after

  none_raised : (w : World) (colours : List ℕ) → Raised w w colours
  none_raised w colours = record {
    steps = [];
    run = refl;
    shape = refl;
    clients = λ n. refl;
    columns = λ r c. inl refl;
    finished = λ f. f;
  }

  -- One raise

  module _ (w : World) (reached : IsReached w) (at_home : home_of w u ≡ own) (c : ℕ)
      (column_ok : is_column w own c ≡ true) where
    abbrev h : List Entry
    h = w.histories own c

    abbrev w1 : World
    w1 = after w (Raise u own c stamp)

    guard : may_raise w own c stamp ≡ nat_lt (clock h) stamp
    guard =
        ap (λ (b : Bool). b && (nat_lt (clock h) stamp && nat_le stamp last_stamp)) column_ok
        ∙ (ap (λ (b : Bool). nat_lt (clock h) stamp && b) (le-leb stamp last_stamp low) ∙ both_true (nat_lt (clock h) stamp))
      where
        both_true : (b : Bool) → (b && true) ≡ b
        both_true true = refl
        both_true false = refl

    raised_is : nat_lt (clock h) stamp ≡ true → w1 ≡ after_raise w u own c stamp
    raised_is t = if_true (may_raise w own c stamp) (after_raise w u own c stamp) w (guard ∙ t)

    there_is : nat_lt (clock h) stamp ≡ false → w1 ≡ w
    there_is f = if_false (may_raise w own c stamp) (after_raise w u own c stamp) w (guard ∙ f)

    one_columns : nat_lt (clock h) stamp ≡ true → (r d : ℕ)
        → ((after_raise w u own c stamp).histories r d ≡ w.histories r d)
        ⊎ ((r ≡ own) × In d (c ∷ []) × ((after_raise w u own c stamp).histories r d ≡ w.histories r d ++ e ∷ []))
    one_columns t r d = at_updated_at
        (λ (x : List Entry). (x ≡ w.histories r d) ⊎ ((r ≡ own) × In d (c ∷ []) × (x ≡ w.histories r d ++ e ∷ [])))
        w.histories own c (h ++ e ∷ []) r d
        (λ er ed. inr (
          er,
          inl (sym ed),
          sym (ap (λ (n : ℕ). w.histories n d ++ e ∷ []) er
              ∙ ap (λ (n : ℕ). w.histories own n ++ e ∷ []) ed),
        ))
        (λ _. inl refl)

    one_raised : Raised w w1 (c ∷ [])
    one_raised = by_test _ (nat_lt (clock h) stamp)
        (λ t. subst (λ (x : World). Raised w x (c ∷ [])) (sym (raised_is t)) (record {
          steps = Raise u own c stamp ∷ [];
          run = raised_is t;
          shape = refl;
          clients = λ n. refl;
          columns = one_columns t;
          finished = λ f. finished_last S w own c e (λ id st. refl) f;
        }))
        (λ f. subst (λ (x : World). Raised w x (c ∷ [])) (sym (there_is f)) (none_raised w (c ∷ [])))

    -- after it the clock is at the stamp
    one_clock : stamp ≤ clock (w1.histories own c)
    one_clock = turn (cases_lt (clock h) stamp) where
      turn : (clock h < stamp) ⊎ (stamp ≤ clock h) → stamp ≤ clock (w1.histories own c)
      turn (inl lt) =
          subst (λ (x : World). stamp ≤ clock (x.histories own c)) (sym (raised_is (lt-ltb (clock h) stamp lt)))
          (subst (λ (l : List Entry). stamp ≤ clock l) (sym (history_is w u own c e refl refl))
          (let a = clock-append h e in omega (arith, a)))
      turn (inr le) =
          subst (λ (x : World). stamp ≤ clock (x.histories own c)) (sym (there_is (le-ltb (clock h) stamp le))) le

    -- where it stands
    abbrev at : At
    at = next_at h (nat_lt (clock h) stamp)

    module _ (kept : Kept) (k : IsKeptBy w u kept) where
      known : kept.known c ≤ length (line h)
      known = subst (λ (n : ℕ). kept.known c ≤ length (line (w.histories n c))) at_home (k.known c)

      -- by an event
      made : nat_lt (clock h) stamp ≡ true
          → RaisesKept w (after_raise w u own c stamp) (record { colour = c; at = Event (length h) } ∷ []) kept
      made t =
          let w' = after_raise w u own c stamp in
          let is = history_is w u own c e refl refl in
          let later = later_log w w' (Raise u own c stamp ∷ []) reached (raised_is t) in
          record {
            after = kept_after_event kept own c (length h);
            keeps = own_kept w u own c e refl refl later kept k (updated_at kept.seen own c (length h + 1))
                (seen_here w u own c e refl refl kept k);
            raising = subst (λ (n : ℕ). Raises (log_of w') (record (caller_in w' objects u) { own = n }) stamp kept
                (record { colour = c; at = Event (length h) } ∷ []) (kept_after_event kept own c (length h)))
                (sym at_home) (
                  (
                    k.seen own c,
                    subst (λ (l : List Entry). kept.known c ≤ length (line l))
                        (sym (ap (take (length h)) is ∙ take_at h (e ∷ []) (length h) refl)) known,
                    ap (λ (l : List Entry). slice_get l (length h)) is ∙ slice_last h e,
                  ),
                  refl,
                );
          }

      -- by a look
      looked : nat_lt (clock h) stamp ≡ false
          → RaisesKept w w (record { colour = c; at = Look (length h) } ∷ []) kept
      looked f =
          let whole = take_all (length h) h (omega arith) in
          let after = kept_after_look kept own c (length h) in
          record {
            after = after;
            keeps = record {
              floor = k.floor;
              starts = k.starts;
              seen = λ r d. at_updated_at (λ (m : ℕ). m ≤ length (w.histories r d)) kept.seen own c (length h) r d
                  (λ er ed. subst (λ (m : ℕ). length h ≤ length (w.histories m d)) (sym er)
                  (subst (λ (m : ℕ). length h ≤ length (w.histories own m)) (sym ed) (omega arith)))
                  (λ _. k.seen r d);
              known = k.known;
              made = k.made;
              ids = k.ids;
              rows = k.rows;
            };
            raising = subst (λ (n : ℕ). Raises (log_of w) (record (caller_in w objects u) { own = n }) stamp kept
                (record { colour = c; at = Look (length h) } ∷ []) (kept_after_look kept own c (length h)))
                (sym at_home) (
                  (
                    k.seen own c,
                    omega arith,
                    subst (λ (l : List Entry). kept.known c ≤ length (line l)) (sym whole) known,
                    subst (λ (l : List Entry). stamp ≤ clock l) (sym whole) (not_less (cases_lt (clock h) stamp)),
                  ),
                  refl,
                );
          } where
            not_less : (clock h < stamp) ⊎ (stamp ≤ clock h) → stamp ≤ clock h
            not_less (inl lt) = absurd (apart (nat_lt (clock h) stamp) (lt-ltb (clock h) stamp lt) f)
            not_less (inr le) = le

      one_kept : RaisesKept w w1 (record { colour = c; at = at } ∷ []) kept
      one_kept = by_test _ (nat_lt (clock h) stamp)
          (λ t. subst (λ (x : World). RaisesKept w x (record { colour = c; at = at } ∷ []) kept) (sym (raised_is t))
          (subst (λ (x : At). RaisesKept w (after_raise w u own c stamp) (record { colour = c; at = x } ∷ []) kept)
          (sym (if_true (nat_lt (clock h) stamp) (Event (length h)) (Look (length h)) t)) (made t)))
          (λ f. subst (λ (x : World). RaisesKept w x (record { colour = c; at = at } ∷ []) kept) (sym (there_is f))
          (subst (λ (x : At). RaisesKept w w (record { colour = c; at = x } ∷ []) kept)
          (sym (if_false (nat_lt (clock h) stamp) (Event (length h)) (Look (length h)) f)) (looked f)))

  -- One colour after another

  raised_then : (w v x : World) (c : ℕ) (colours : List ℕ) → (In c colours → ⊥) → Raised w v (c ∷ [])
      → Raised v x colours → Raised w x (c ∷ colours)
  raised_then w v x c colours apart_from a b = record {
    steps = a.steps ++ b.steps;
    run = run_steps-append w a.steps b.steps ∙ (ap (λ (y : World). run_steps y b.steps) a.run ∙ b.run);
    shape = b.shape ∙ a.shape;
    clients = λ n. b.clients n ∙ a.clients n;
    columns = λ r d. turn r d (a.columns r d) (b.columns r d);
    finished = λ f. b.finished (a.finished f);
  } where
    turn : (r d : ℕ)
        → (v.histories r d ≡ w.histories r d)
        ⊎ ((r ≡ own) × In d (c ∷ []) × (v.histories r d ≡ w.histories r d ++ e ∷ []))
        → (x.histories r d ≡ v.histories r d)
        ⊎ ((r ≡ own) × In d colours × (x.histories r d ≡ v.histories r d ++ e ∷ []))
        → (x.histories r d ≡ w.histories r d)
        ⊎ ((r ≡ own) × In d (c ∷ colours) × (x.histories r d ≡ w.histories r d ++ e ∷ []))
    turn r d (inl p) (inl q) = inl (q ∙ p)
    turn r d (inl p) (inr (er, i, q)) = inr (er, inr i, q ∙ ap (λ (l : List Entry). l ++ e ∷ []) p)
    turn r d (inr (er, i, p)) (inl q) = inr (er, first i, q ∙ p) where
      first : (c ≡ d) ⊎ ⊥ → (c ≡ d) ⊎ In d colours
      first (inl t) = inl t
      first (inr none) = absurd none
    turn r d (inr (er, i, p)) (inr (fr, j, q)) = absurd (twice i) where
      twice : (c ≡ d) ⊎ ⊥ → ⊥
      twice (inl t) = apart_from (subst (λ (n : ℕ). In n colours) (sym t) j)
      twice (inr none) = none

  -- columns of the region that none of these colours has are as they were
  pub others_same : (w w' : World) (colours : List ℕ) → Raised w w' colours → (d : ℕ) → (In d colours → ⊥)
      → w'.histories own d ≡ w.histories own d
  others_same w w' colours a d none = turn (a.columns own d) where
    turn : (w'.histories own d ≡ w.histories own d)
        ⊎ ((own ≡ own) × In d colours × (w'.histories own d ≡ w.histories own d ++ e ∷ []))
        → w'.histories own d ≡ w.histories own d
    turn (inl p) = p
    turn (inr x) = absurd (none x.1)

  home_same : (w w' : World) → w'.shape ≡ w.shape → home_of w' u ≡ home_of w u
  home_same w w' e = ap (λ (s : Shape). slice_index s.homes u) e

  column_same : (w w' : World) (c : ℕ) → w'.shape ≡ w.shape → is_column w' own c ≡ is_column w own c
  column_same w w' c e = ap (λ (s : Shape). nat_lt own s.regions && nat_lt c s.colours) e

  -- After the first of some colours is raised, the others may be.
  record Next (w v : World) (c : ℕ) (colours : List ℕ) : Type 0 where
    pub one : Raised w v (c ∷ [])
    pub reached : IsReached v
    pub at_home : home_of v u ≡ own
    pub columns : (d : ℕ) → In d colours → is_column v own d ≡ true
    pub clock : stamp ≤ clock (v.histories own c)

  -- the step by which a colour is raised
  abbrev raise : World → ℕ → World
  raise w c = after w (Raise u (home_of w u) c stamp)

  step_is : (w : World) → home_of w u ≡ own → (c : ℕ) → after w (Raise u own c stamp) ≡ raise w c
  step_is w at_home c = ap (λ (n : ℕ). after w (Raise u n c stamp)) (sym at_home)

  next_of : (w : World) → IsReached w → home_of w u ≡ own → (c : ℕ) (colours : List ℕ)
      → ((d : ℕ) → In d (c ∷ colours) → is_column w own d ≡ true) → Next w (raise w c) c colours
  next_of w reached at_home c colours columns =
      let one = subst (λ (x : World). Raised w x (c ∷ [])) (step_is w at_home c)
      (one_raised w reached at_home c (columns c (inl refl))) in
      record {
        one = one;
        reached = subst IsReached one.run (run_reached w one.steps reached);
        at_home = home_same w (raise w c) one.shape ∙ at_home;
        columns = λ d i. column_same w (raise w c) d one.shape ∙ columns d (inr i);
        clock = subst (λ (x : World). stamp ≤ clock (x.histories own c)) (step_is w at_home c)
            (one_clock w reached at_home c (columns c (inl refl)));
      }

  -- the clock of the first stays at the stamp when the others are raised
  clock_stays : (v last : World) (c : ℕ) (colours : List ℕ) → (In c colours → ⊥) → Raised v last colours
      → stamp ≤ clock (v.histories own c)
      → ((d : ℕ) → In d colours → stamp ≤ clock (last.histories own d))
      → (d : ℕ) → (c ≡ d) ⊎ In d colours → stamp ≤ clock (last.histories own d)
  clock_stays v last c colours none rest le others d (inl e) =
      subst (λ (n : ℕ). stamp ≤ clock (last.histories own n)) e
      (subst (λ (l : List Entry). stamp ≤ clock l) (sym (others_same v last colours rest c none)) le)
  clock_stays v last c colours none rest le others d (inr i) = others d i

  -- one raise more is told before the others
  kept_more : (first w v last : World) (c : ℕ) (colours : List ℕ) (raises : List RaisePiece) → IsReached w
      → home_of first u ≡ own → home_of w u ≡ own → w.histories own c ≡ first.histories own c
      → is_column w own c ≡ true → IsReached v → v ≡ raise w c → Raised v last colours
      → (kept : Kept) → IsKeptBy w u kept
      → ((k : Kept) → IsKeptBy v u k → RaisesKept v last raises k)
      → RaisesKept w last (raise_in first u stamp c ∷ raises) kept
  kept_more first w v last c colours raises reached at_first at_home same column_ok reached1 is more kept k on =
      let h = w.histories own c in
      let place = next_at h (nat_lt (clock h) stamp) in
      let piece : RaisePiece = record { colour = c; at = place } in
      let did = subst (λ (x : World). RaisesKept w x (piece ∷ []) kept) (step_is w at_home c ∙ sym is)
      (one_kept w reached at_home c column_ok kept k) in
      let piece_is : piece ≡ raise_in first u stamp c =
      ap (λ (l : List Entry). let p : RaisePiece = record { colour = c; at = next_at l (nat_lt (clock l) stamp) } in p)
      (same ∙ sym (ap (λ (n : ℕ). first.histories n c) at_first)) in
      let rest = on did.after did.keeps in
      let later = later_log v last more.steps reached1 more.run in
      let called = caller_same v last objects u more.shape in
      record {
        after = rest.after;
        keeps = rest.keeps;
        raising = subst (λ (p : RaisePiece). Raises (log_of last) (caller_in last objects u) stamp kept
            (p ∷ raises) rest.after) piece_is (
              raise_later (log_of v) (log_of last) later (caller_in last objects u) kept stamp c place
                  (subst (λ (x : Caller). RaisesClock (log_of v) x kept stamp c place) (sym called) did.raising.0),
              subst (λ (x : Kept). Raises (log_of last) (caller_in last objects u) stamp x raises rest.after)
                  (did.raising.1 ∙ ap (λ (x : Caller). kept_after_place kept x.own c place) (sym called)) rest.raising,
            );
      }

  not_first : (c d : ℕ) (colours : List ℕ) → (In c colours → ⊥) → In d colours → In d (c ∷ []) → ⊥
  not_first c d colours none i (inl t) = none (subst (λ (n : ℕ). In n colours) (sym t) i)
  not_first c d colours none i (inr x) = x

  module _ (grants : Grants) where
    pub raise_all : (w : World) → IsReached w → home_of w u ≡ own → (colours : List ℕ) → AreDistinct colours
        → ((c : ℕ) → In c colours → is_column w own c ≡ true) → Raised w (raised grants u stamp w colours).world colours
    raise_all w reached at_home [] distinct columns = none_raised w []
    raise_all w reached at_home (c ∷ colours) distinct columns =
        let n = next_of w reached at_home c colours columns in
        choice (λ (p : Progress). Raised w p.world (c ∷ colours)) (grants.raises c)
        (raised grants u stamp (raise w c) colours) (record { world = w; stopped = Some c })
        (λ _. raised_then w (raise w c) (raised grants u stamp (raise w c) colours).world c colours distinct.0 n.one
        (raise_all (raise w c) n.reached n.at_home colours distinct.1 n.columns))
        (λ _. none_raised w (c ∷ colours))

    -- where none was refused, all clocks are at the stamp
    pub clocks_there : (w : World) → IsReached w → home_of w u ≡ own → (colours : List ℕ) → AreDistinct colours
        → ((c : ℕ) → In c colours → is_column w own c ≡ true) → (raised grants u stamp w colours).stopped ≡ None
        → (c : ℕ) → In c colours → stamp ≤ clock ((raised grants u stamp w colours).world.histories own c)
    clocks_there w reached at_home [] distinct columns all c i = absurd i
    clocks_there w reached at_home (c ∷ colours) distinct columns all e i =
        let n = next_of w reached at_home c colours columns in
        choice (λ (p : Progress). p.stopped ≡ None → (d : ℕ) → In d (c ∷ colours)
        → stamp ≤ clock (p.world.histories own d)) (grants.raises c) (raised grants u stamp (raise w c) colours)
        (record { world = w; stopped = Some c })
        (λ _ more. clock_stays (raise w c) (raised grants u stamp (raise w c) colours).world c colours distinct.0
        (raise_all (raise w c) n.reached n.at_home colours distinct.1 n.columns) n.clock
        (clocks_there (raise w c) n.reached n.at_home colours distinct.1 n.columns more))
        (λ _ none. absurd (let f : ⊥ = cc in f)) all e i

    -- where none was refused, the client keeps what the raises tell
    pub raise_kept : (first w : World) → IsReached w → home_of first u ≡ own → home_of w u ≡ own
        → (colours : List ℕ) → AreDistinct colours → ((c : ℕ) → In c colours → is_column w own c ≡ true)
        → ((c : ℕ) → In c colours → w.histories own c ≡ first.histories own c)
        → (raised grants u stamp w colours).stopped ≡ None → (kept : Kept) → IsKeptBy w u kept
        → RaisesKept w (raised grants u stamp w colours).world (map (raise_in first u stamp) colours) kept
    raise_kept first w reached at_first at_home [] distinct columns same all kept k =
        record { after = kept; keeps = k; raising = refl }
    raise_kept first w reached at_first at_home (c ∷ colours) distinct columns same all kept k =
        let n = next_of w reached at_home c colours columns in
        choice (λ (p : Progress). p.stopped ≡ None → (kept : Kept) → IsKeptBy w u kept
        → RaisesKept w p.world (map (raise_in first u stamp) (c ∷ colours)) kept) (grants.raises c)
        (raised grants u stamp (raise w c) colours) (record { world = w; stopped = Some c })
        (λ _ more kept k. kept_more first w (raise w c) (raised grants u stamp (raise w c) colours).world c colours
        (map (raise_in first u stamp) colours) reached at_first at_home (same c (inl refl)) (columns c (inl refl))
        n.reached refl (raise_all (raise w c) n.reached n.at_home colours distinct.1 n.columns) kept k
        (λ x j. raise_kept first (raise w c) n.reached at_first n.at_home colours distinct.1 n.columns
        (λ d i. others_same w (raise w c) (c ∷ []) n.one d (not_first c d colours distinct.0 i) ∙ same d (inr i))
        more x j))
        (λ _ none. absurd (let f : ⊥ = cc in f)) all kept k
