-- A stamped read, from its raises to its end.
use Rattle.std.proofs.Common.{◌≡◌, ◌≢◌, ℕ, zero, suc, ◌+◌, ◌<◌, ◌≤◌, List, [], ◌∷◌, ◌++◌, length, map, take, Some, Bool, true, false, refl, subst, ap, sym, ◌∙◌, inl, inr, ◌⊎◌, arith, append-nil, cond, eq-eqb, reverse}
use Rattle.std.specs.Prelude.{max, nat_lt, nat_le, ◌==◌, ◌&&◌, slice_get, slice_index, slice_index_or}
use Rattle.std.specs.List.{All, Contains, list_any, range_with_len}
use Rattle.std.proofs.lemmas.Bool.{and_from, and_left, and_right, cases_lt, le-leb, lt-ltb, ltb-true, or_left}
use Rattle.std.proofs.lemmas.List.{take_all}
use Rattle.std.proofs.lemmas.List.Elements.{All-cons, All-nil}
use Rattle.log_node.specs.declared.node.At.TheVariants.{Event}
use Rattle.log_node.specs.declared.node.Shape.{Shape}
use Rattle.log_node.specs.Outcomes.{greatest}
use Rattle.log_node.specs.Standings.{Standing}
use Rattle.col_core.specs.declared.Entry.{Entry}
use Rattle.col_core.specs.History.{clock, entries, line, last_stamp}
use Rattle.col_core.specs.Log.{IsLater, places_of, places_from}
use Rattle.col_core.specs.Keeping.{Kept, updated, with_made, with_floor}
use Rattle.col_core.specs.RegionOrder.{IsClearUpTo}
use Rattle.col_core.proofs.CallerLemmas.{apart, by_test, if_true, if_false, contains_in, In, past_clock_within, clock-of}
use Rattle.world_laws.specs.declared.steps.Step.TheVariants.{Seen}
use Rattle.world_laws.specs.Worlds.{World, ClientState, home_of, home_history, run_steps, after, after_seen, is_client, may_see}
use Rattle.world_laws.specs.Laws.{IsReached, log_of}
use Rattle.world_laws.proofs.CallerLemmas.{in_map, at_updated, updated-here, slice_last, run_reached, run_steps-append, lawful_past_in}
use Rattle.script_text.specs.declared.script.Object.{Object}
use Rattle.lawful_run.specs.Callers.{Caller}
use Rattle.lawful_run.specs.Reads.{RaisesClock, HidesRead, HidesSyncs}
use Rattle.lawful_run.proofs.CallerLemmas.{prefix_length, prefix_get, prefix_take, get_within}
use Rattle.script_meaning.specs.Stamped.{read_stamp, key_above}
use Rattle.script_meaning.proofs.World.Additions.{places_more}
use Rattle.script_meaning.proofs.Append.AppendOne.{updated-not, helped_places}
use Rattle.script_meaning.proofs.World.Clearing.{Finished, Helped, IsClear, of_open}
use Rattle.script_meaning.proofs.Append.FirstProposal.{in_any}
use Rattle.script_meaning.proofs.Client.Kept.{caller_in, IsKeptBy, later_log}
use Rattle.script_meaning.proofs.Lists.{range_in, in_map_back}
use Rattle.script_meaning.proofs.Client.OwnEvents.{finished_client}
use Rattle.script_meaning.proofs.Append.Points.{made_seen}
use Rattle.script_meaning.proofs.World.Reached.{held_of}
use Rattle.script_meaning.proofs.Read.StampedRaises.{e, Raised}
use Rattle.script_meaning.proofs.Move.Sync as sync

-- THE STAMP

greatest_is : (xs : List ℕ) → 0 < greatest xs → In (greatest xs) xs
greatest_is [] lt = absurd (let f : ⊥ = omega (arith, lt) in f)
greatest_is (x ∷ xs) lt = turn (cases_lt (greatest xs) x) (greatest_is xs) where
  turn : (greatest xs < x) ⊎ (x ≤ greatest xs) → (0 < greatest xs → In (greatest xs) xs)
      → (x ≡ max x (greatest xs)) ⊎ In (max x (greatest xs)) xs
  turn (inl less) rest = inl (omega (arith, less))
  turn (inr le) rest =
      let same : greatest xs ≡ max x (greatest xs) = omega (arith, le) in
      inr (subst (λ (n : ℕ). In n xs) same (rest (omega (arith, lt, le))))

greatest_above : (xs : List ℕ) (x : ℕ) → In x xs → x ≤ greatest xs
greatest_above [] x i = absurd i
greatest_above (y ∷ xs) x (inl same) = omega (arith, same)
greatest_above (y ∷ xs) x (inr i) = let r = greatest_above xs x i in omega (arith, r)

-- it is the floor, or the clock of one of the colours
pub stamp_is : (w : World) (u : ℕ) (colours : List ℕ) → (read_stamp w u colours ≡ (w.clients u).floor)
    ⊎ ((c : ℕ) × In c colours × (clock (home_history w u c) ≡ read_stamp w u colours))
stamp_is w u colours = turn (cases_lt (w.clients u).floor (greatest clocks)) where
  clocks : List ℕ
  clocks = map (λ colour. clock (home_history w u colour)) colours

  turn : ((w.clients u).floor < greatest (map (λ colour. clock (home_history w u colour)) colours))
      ⊎ (greatest (map (λ colour. clock (home_history w u colour)) colours) ≤ (w.clients u).floor)
      → (read_stamp w u colours ≡ (w.clients u).floor)
      ⊎ ((c : ℕ) × In c colours × (clock (home_history w u c) ≡ read_stamp w u colours))
  turn (inl less) =
      let all = map (λ colour. clock (home_history w u colour)) colours in
      let m = in_map (λ colour. clock (home_history w u colour)) colours (greatest all)
      (greatest_is all (omega (arith, less))) in
      let same : greatest all ≡ max (w.clients u).floor (greatest all) = omega (arith, less) in
      inr (m.0, m.1, m.2 ∙ same)
  turn (inr le) = inl (omega (arith, le))

pub above_clock : (w : World) (u : ℕ) (colours : List ℕ) (c : ℕ) → In c colours
    → clock (home_history w u c) ≤ read_stamp w u colours
above_clock w u colours c i =
    let a = greatest_above (map (λ colour. clock (home_history w u colour)) colours) (clock (home_history w u c))
    (in_map_back (λ colour. clock (home_history w u colour)) colours c i) in
    omega (arith, a)

clock_low : (w : World) → IsReached w → (r c : ℕ) → clock (w.histories r c) ≤ last_stamp
clock_low w reached r c =
    let a = past_clock_within (reverse (w.histories r c)) (lawful_past_in w (held_of w reached) r c) in
    subst (λ (n : ℕ). n ≤ last_stamp) (sym (clock-of (w.histories r c))) a

greatest_low : (xs : List ℕ) (n : ℕ) → ((x : ℕ) → In x xs → x ≤ n) → greatest xs ≤ n
greatest_low [] n each = omega arith
greatest_low (x ∷ xs) n each =
    let a = each x (inl refl) in
    let b = greatest_low xs n (λ y i. each y (inr i)) in
    omega (arith, a, b)

-- it is a stamp
pub stamp_low : (w : World) → IsReached w → (u : ℕ) (colours : List ℕ) → read_stamp w u colours ≤ last_stamp
stamp_low w reached u colours =
    let a = (held_of w reached).floors u in
    let b = greatest_low (map (λ colour. clock (home_history w u colour)) colours) last_stamp (λ x i. each x i) in
    omega (arith, a, b) where
      each : (x : ℕ) → In x (map (λ colour. clock (home_history w u colour)) colours) → x ≤ last_stamp
      each x i =
          let m = in_map (λ colour. clock (home_history w u colour)) colours x i in
          subst (λ (n : ℕ). n ≤ last_stamp) m.2 (clock_low w reached (home_of w u) m.0)

-- a clock of the first events is no greater than that of all
pub front_clock : (h : List Entry) (n : ℕ) → clock (take n h) ≤ clock h
front_clock [] zero = omega arith
front_clock [] (suc n) = omega arith
front_clock (d ∷ h) zero = omega arith
front_clock (d ∷ h) (suc n) = let r = front_clock h n in omega (arith, r)

-- what was seen of the clocks is not above it
pub seen_clock : (w : World) (u : ℕ) (colours : List ℕ) (c n : ℕ) → In c colours
    → clock (take n (home_history w u c)) ≤ read_stamp w u colours
seen_clock w u colours c n i =
    let a = front_clock (home_history w u c) n in
    let b = above_clock w u colours c i in
    omega (arith, a, b)

-- CLEARED

-- a column that is cleared below the key above a stamp has no open entry up to it
pub clear_up_to : (stamp : ℕ) (w : World) (own c : ℕ) → IsClear (key_above stamp) w own c
    → IsClearUpTo stamp (w.histories own c)
clear_up_to stamp w own c clear k d lt unsettled =
    let s = slice_index_or (entries (w.histories own c)) k d in
    turn s (slice_in_at (entries (w.histories own c)) k d lt) unsettled (cases_lt stamp s.key.stamp) where
      slice_in_at : (xs : List Standing) (n : ℕ) (x : Standing) → n < length xs → In (slice_index_or xs n x) xs
      slice_in_at [] n x low = absurd (let f : ⊥ = omega (arith, low) in f)
      slice_in_at (y ∷ xs) zero x low = inl refl
      slice_in_at (y ∷ xs) (suc n) x low = inr (slice_in_at xs n x (omega (arith, low)))

      turn : (s : Standing) → In s (entries (w.histories own c)) → s.settled ≡ false
          → (stamp < s.key.stamp) ⊎ (s.key.stamp ≤ stamp) → stamp < s.key.stamp
      turn s i o (inl less) = less
      turn s i o (inr le) =
          absurd (subst (λ (l : List Standing). In s l) clear
          (of_open (key_above stamp) (w.histories own c) s i o
          (or_left (nat_lt s.key.stamp (stamp + 1)) _ (lt-ltb s.key.stamp (stamp + 1) (omega (arith, le))))))

-- WHAT IS KEPT

module _ (objects : List Object) (u : ℕ) where
  -- what is kept stays so over helps
  pub helped_kept : (w w' : World) → IsReached w → Helped u (home_of w u) w w' → (kept : Kept) → IsKeptBy w u kept
      → IsKeptBy w' u kept
  helped_kept w w' reached helped kept k =
      let later = later_log w w' helped.steps reached helped.run in
      record {
        floor = k.floor ∙ ap (λ (s : ClientState). s.floor) (sym (helped.clients u));
        starts = k.starts ∙ ap (λ (s : ClientState). s.played) (sym (helped.clients u));
        seen = λ r c. let a = k.seen r c in
            let b = prefix_length (w.histories r c) (w'.histories r c) (later.histories r c) in omega (arith, a, b);
        known = λ c. let a = k.known c in
            let b = prefix_length (line (home_history w u c)) (line (w'.histories (home_of w u) c))
            (later.lines (home_of w u) c) in
            subst (λ (s : Shape). kept.known c ≤ length (line (w'.histories (slice_index s.homes u) c)))
            (sym helped.shape) (omega (arith, a, b));
        made = λ r c. helped_places u (home_of w u) w w' helped r c ∙ k.made r c;
        ids = k.ids ∙ ap (λ (s : ClientState). s.count) (sym (helped.clients u));
        rows = k.rows ∙ ap (λ (s : ClientState). s.used) (sym (helped.clients u));
      }

  -- The client sees a stamp that a clock of its region has reached.

  pub record SeesStamp (S : ℕ → Type 0) (stamp : ℕ) (w w' : World) : Type 0 where
    pub run : run_steps w (Seen u stamp ∷ []) ≡ w'
    pub shape : w'.shape ≡ w.shape
    pub histories : w'.histories ≡ w.histories
    pub log : log_of w' ≡ log_of w
    pub others : (n : ℕ) → n ≢ u → w'.clients n ≡ w.clients n
    pub mine : w'.clients u ≡ record (w.clients u) { floor = max (w.clients u).floor stamp }
    pub finished : Finished S w → Finished S w'

  pub see_stamp : (S : ℕ → Type 0) (stamp : ℕ) (w : World) → is_client w u ≡ true → (c : ℕ) → c < w.shape.colours
      → stamp ≤ clock (home_history w u c) → SeesStamp S stamp w (after w (Seen u stamp))
  see_stamp S stamp w caller c there reaches =
      by_test _ (nat_lt (w.clients u).floor stamp)
      (λ t. let ok = and_from (is_client w u) _ caller (and_from (nat_lt (w.clients u).floor stamp) _ t reached) in
      let is = if_true (may_see w u stamp) (after_seen w u stamp) w ok in
      subst (SeesStamp S stamp w) (sym is) (record {
        run = is;
        shape = refl;
        histories = refl;
        log = sync.log_same w u (record (w.clients u) { floor = stamp }) refl;
        others = λ n ne. updated-not w.clients u (record (w.clients u) { floor = stamp }) n ne;
        mine = updated-here w.clients u (record (w.clients u) { floor = stamp })
            ∙ ap (λ (n : ℕ). record (w.clients u) { floor = n }) (greater (ltb-true (w.clients u).floor stamp t));
        finished = finished_client S w u (record (w.clients u) { floor = stamp }) refl;
      }))
      (λ f. let is = if_false (may_see w u stamp) (after_seen w u stamp) w (low f) in
      subst (SeesStamp S stamp w) (sym is) (record {
        run = is;
        shape = refl;
        histories = refl;
        log = refl;
        others = λ n ne. refl;
        mine = ap (λ (n : ℕ). record (w.clients u) { floor = n }) (not_less f (cases_lt (w.clients u).floor stamp));
        finished = λ d. d;
      })) where
        reached : list_any (λ colour. nat_le stamp (clock (home_history w u colour)))
            (range_with_len 0 w.shape.colours) ≡ true
        reached = in_any (λ colour. nat_le stamp (clock (home_history w u colour))) (range_with_len 0 w.shape.colours) c
            (range_in 0 w.shape.colours c (omega arith) (omega (arith, there)))
            (le-leb stamp (clock (home_history w u c)) reaches)

        greater : (w.clients u).floor < stamp → stamp ≡ max (w.clients u).floor stamp
        greater less = omega (arith, less)

        low : nat_lt (w.clients u).floor stamp ≡ false → may_see w u stamp ≡ false
        low f = and_right (is_client w u) _ (and_left (nat_lt (w.clients u).floor stamp) _ f)

        not_less : nat_lt (w.clients u).floor stamp ≡ false
            → ((w.clients u).floor < stamp) ⊎ (stamp ≤ (w.clients u).floor)
            → (w.clients u).floor ≡ max (w.clients u).floor stamp
        not_less f (inl less) = absurd (apart _ (lt-ltb (w.clients u).floor stamp less) f)
        not_less f (inr le) = omega (arith, le)

  -- what it then keeps
  pub seen_kept : (S : ℕ → Type 0) (stamp : ℕ) (w w' : World) → SeesStamp S stamp w w' → (kept : Kept)
      → IsKeptBy w u kept → IsKeptBy w' u (with_floor kept stamp)
  seen_kept S stamp w w' sees kept k = record {
    floor = ap (λ (n : ℕ). max n stamp) k.floor ∙ ap (λ (s : ClientState). s.floor) (sym sees.mine);
    starts = k.starts ∙ ap (λ (s : ClientState). s.played) (sym sees.mine);
    seen = λ r c. subst (λ (f : ℕ → ℕ → List Entry). kept.seen r c ≤ length (f r c)) (sym sees.histories) (k.seen r c);
    known = λ c. subst (λ (s : Shape). kept.known c ≤ length (line (w'.histories (slice_index s.homes u) c)))
        (sym sees.shape)
        (subst (λ (f : ℕ → ℕ → List Entry). kept.known c ≤ length (line (f (home_of w u) c))) (sym sees.histories)
        (k.known c));
    made = λ r c. ap (λ (f : ℕ → ℕ → List Entry). places_of u (f r c)) sees.histories ∙ k.made r c;
    ids = k.ids ∙ ap (λ (s : ClientState). s.count) (sym sees.mine);
    rows = k.rows ∙ ap (λ (s : ClientState). s.used) (sym sees.mine);
  }

-- RAISES OF WHICH NO ANSWER TELLS

-- the place of the event, if one was added
abbrev pub place_of : {A B : Type 0} → A ⊎ B → ℕ → List ℕ
place_of (inl none) n = []
place_of (inr one) n = n ∷ []

module _ (objects : List Object) (S : ℕ → Type 0) (u stamp : ℕ) (low : stamp ≤ last_stamp) (w w1 : World)
    (reached : IsReached w) (colours : List ℕ) (raised : Raised objects S u (home_of w u) stamp low w w1 colours) where
  abbrev own : ℕ
  own = home_of w u

  -- where the raises stand
  abbrev pub raise_places : ℕ → List ℕ
  raise_places c = place_of (raised.columns own c) (length (w.histories own c))

  pub reached1 : IsReached w1
  reached1 = subst IsReached raised.run (run_reached w raised.steps reached)

  one_place : (n : ℕ) → places_from n u (e objects S u own stamp low ∷ []) ≡ n ∷ []
  one_place n = ap (λ (b : Bool). cond (b && true) (n ∷ []) []) (eq-eqb u u refl)

  -- the places after the raises
  places_now : (r c : ℕ) → (d : (w1.histories r c ≡ w.histories r c)
      ⊎ ((r ≡ own) × In c colours × (w1.histories r c ≡ w.histories r c ++ e objects S u own stamp low ∷ [])))
      → places_of u (w1.histories r c) ≡ places_of u (w.histories r c) ++ place_of d (length (w.histories r c))
  places_now r c (inl same) = ap (places_of u) same ∙ sym (append-nil (places_of u (w.histories r c)))
  places_now r c (inr (er, i, is)) =
      ap (places_of u) is
      ∙ (places_more u (w.histories r c) (e objects S u own stamp low ∷ [])
      ∙ ap (λ (l : List ℕ). places_of u (w.histories r c) ++ l) (one_place (length (w.histories r c))))

  -- in other regions there are none
  none_there : (r c : ℕ) → (r ≡ own → ⊥) → (d : (w1.histories r c ≡ w.histories r c)
      ⊎ ((r ≡ own) × In c colours × (w1.histories r c ≡ w.histories r c ++ e objects S u own stamp low ∷ [])))
      → place_of d (length (w.histories r c)) ≡ []
  none_there r c ne (inl same) = refl
  none_there r c ne (inr (er, i, is)) = absurd (ne er)

  module _ (x : World) (helped : Helped u own w1 x) where
    later1 : IsLater (log_of w1) (log_of x)
    later1 = later_log w1 x helped.steps reached1 helped.run

    run_all : run_steps w (raised.steps ++ helped.steps) ≡ x
    run_all = run_steps-append w raised.steps helped.steps
        ∙ (ap (λ (y : World). run_steps y helped.steps) raised.run ∙ helped.run)

    later : IsLater (log_of w) (log_of x)
    later = later_log w x (raised.steps ++ helped.steps) reached run_all

    shape_all : x.shape ≡ w.shape
    shape_all = helped.shape ∙ raised.shape

    mine_all : x.clients u ≡ w.clients u
    mine_all = helped.clients u ∙ raised.clients u

    longer : (r c : ℕ) → length (w.histories r c) ≤ length (x.histories r c)
    longer r c = prefix_length (w.histories r c) (x.histories r c) (later.histories r c)

    -- the raise stands at the end of what the column had
    abbrev Stands : ℕ → ℕ → Type 0
    Stands c place = (place ≡ length (w.histories own c)) × In c colours
        × (slice_get (x.histories own c) place ≡ Some (e objects S u own stamp low))

    stands : (c : ℕ) → (d : (w1.histories own c ≡ w.histories own c)
        ⊎ ((own ≡ own) × In c colours × (w1.histories own c ≡ w.histories own c ++ e objects S u own stamp low ∷ [])))
        → All (Stands c) (place_of d (length (w.histories own c)))
    stands c (inl same) = All-nil (Stands c)
    stands c (inr (er, i, is)) =
        let there : slice_get (x.histories own c) (length (w.histories own c)) ≡ Some (e objects S u own stamp low) =
        prefix_get (w1.histories own c) (x.histories own c) (length (w.histories own c)) (e objects S u own stamp low)
        (later1.histories own c)
        (ap (λ (l : List Entry). slice_get l (length (w.histories own c))) is
        ∙ slice_last (w.histories own c) (e objects S u own stamp low)) in
        let one : Stands c (length (w.histories own c)) = (refl, i, there) in
        All-cons (Stands c) (length (w.histories own c)) [] one (All-nil (Stands c))

    module _ (kept : Kept) (k : IsKeptBy w u kept) where
      -- what is kept with them
      pub made_kept : IsKeptBy x u (with_made kept own raise_places)
      made_kept = record {
        floor = k.floor ∙ ap (λ (s : ClientState). s.floor) (sym mine_all);
        starts = k.starts ∙ ap (λ (s : ClientState). s.played) (sym mine_all);
        seen = made_seen own (λ r c. length (x.histories r c)) kept raise_places
            (λ r c. let a = k.seen r c in let b = longer r c in omega (arith, a, b))
            (λ c n d lt. let s = stands c (raised.columns own c) n d lt in
            get_within (x.histories own c) (slice_index_or (raise_places c) n d) (e objects S u own stamp low) s.2);
        known = λ c. let a = k.known c in
            let b = prefix_length (line (w.histories own c)) (line (x.histories own c)) (later.lines own c) in
            subst (λ (s : Shape). kept.known c ≤ length (line (x.histories (slice_index s.homes u) c)))
            (sym shape_all) (omega (arith, a, b));
        made = λ r c. helped_places u own w1 x helped r c ∙ (places_now r c (raised.columns r c) ∙ of_region r c);
        ids = k.ids ∙ ap (λ (s : ClientState). s.count) (sym mine_all);
        rows = k.rows ∙ ap (λ (s : ClientState). s.used) (sym mine_all);
      } where
        of_region : (r c : ℕ) → places_of u (w.histories r c) ++ place_of (raised.columns r c) (length (w.histories r c))
            ≡ updated kept.made own (λ colour. kept.made own colour ++ raise_places colour) r c
        of_region r c =
            at_updated (λ (f : ℕ → List ℕ). places_of u (w.histories r c)
            ++ place_of (raised.columns r c) (length (w.histories r c)) ≡ f c) kept.made own
            (λ colour. kept.made own colour ++ raise_places colour) r
            (λ er. subst (λ (n : ℕ). places_of u (w.histories n c)
            ++ place_of (raised.columns n c) (length (w.histories n c)) ≡ kept.made own c ++ raise_places c) (sym er)
            (ap (λ (l : List ℕ). l ++ raise_places c) (k.made own c)))
            (λ f. ap (λ (l : List ℕ). places_of u (w.histories r c) ++ l)
            (none_there r c (λ er. apart (r == own) (eq-eqb r own er) f) (raised.columns r c))
            ∙ (append-nil (places_of u (w.histories r c)) ∙ k.made r c))

      abbrev caller : Caller
      caller = caller_in w objects u

      -- the beginning of a history that there was
      begun : (c n : ℕ) → n ≤ length (w.histories own c) → take n (x.histories own c) ≡ take n (w.histories own c)
      begun c n le = prefix_take (w.histories own c) (x.histories own c) n (later.histories own c) le

      whole : (c : ℕ) → take (length (w.histories own c)) (x.histories own c) ≡ w.histories own c
      whole c = begun c (length (w.histories own c)) (omega arith)
          ∙ take_all (length (w.histories own c)) (w.histories own c) (omega arith)

      hidden_raises : (c : ℕ) → All (λ place. Contains colours c × RaisesClock (log_of x) caller kept stamp c (Event place))
          (raise_places c)
      hidden_raises c n d lt =
          let s = stands c (raised.columns own c) n d lt in
          let place = slice_index_or (raise_places c) n d in (
            contains_in colours c s.1,
            subst (λ (m : ℕ). RaisesClock (log_of x) caller kept stamp c (Event m)) (sym s.0) (
              k.seen own c,
              subst (λ (l : List Entry). kept.known c ≤ length (line l)) (sym (whole c)) (k.known c),
              subst (λ (m : ℕ). slice_get (x.histories own c) m ≡ Some (e objects S u own stamp low)) s.0 s.2,
            ),
          )

      -- the stamp is not below what was seen of the clock
      abbrev Above : ℕ → Type 0
      Above c = (kept.seen own c ≤ length (x.histories own c))
          × (clock (take (kept.seen own c) (x.histories own c)) ≤ stamp)

      -- the read, of which no answer tells, where its syncs hide in the log
      pub hidden_read : stamp ≡ read_stamp w u colours → (synced end : Kept)
          → HidesSyncs (log_of x) caller kept colours synced
          → (end ≡ with_made synced own raise_places) ⊎ (end ≡ with_made (with_floor synced stamp) own raise_places)
          → HidesRead (log_of x) caller kept colours end
      hidden_read is synced end syncing end_is = record {
        stamp = stamp;
        places = raise_places;
        raises = hidden_raises;
        above_floor = let a = k.floor in omega (arith, a, is);
        above_clocks = above colours (λ c i. i);
        chosen = chosen (stamp_is w u colours);
        synced = synced;
        syncing = syncing;
        after_is = end_is;
      } where
        one_above : (c : ℕ) → In c colours → Above c
        one_above c i =
            let seen = k.seen own c in
            let more = longer own c in (
              omega (arith, seen, more),
              subst (λ (l : List Entry). clock l ≤ stamp) (sym (begun c (kept.seen own c) seen))
                  (subst (λ (n : ℕ). clock (take (kept.seen own c) (w.histories own c)) ≤ n) (sym is)
                  (seen_clock w u colours c (kept.seen own c) i)),
            )

        above : (cs : List ℕ) → ((c : ℕ) → In c cs → In c colours) → All Above cs
        above [] sub = All-nil Above
        above (c ∷ cs) sub =
            All-cons Above c cs (one_above c (sub c (inl refl))) (above cs (λ d i. sub d (inr i)))

        chosen : (read_stamp w u colours ≡ (w.clients u).floor)
            ⊎ ((c : ℕ) × In c colours × (clock (home_history w u c) ≡ read_stamp w u colours))
            → (stamp ≡ kept.floor)
            ⊎ ((colour : ℕ) × Contains colours colour
            × (events : ℕ) × (kept.seen own colour ≤ events) × (events ≤ length (x.histories own colour))
            × All (λ place. events ≤ place) (raise_places colour)
            × (stamp ≡ clock (take events (x.histories own colour))))
        chosen (inl same) = inl (is ∙ (same ∙ sym k.floor))
        chosen (inr (c, i, same)) = inr (
          c,
          contains_in colours c i,
          length (w.histories own c),
          k.seen own c,
          longer own c,
          λ n d lt. let s = (stands c (raised.columns own c) n d lt).0 in omega (arith, s),
          is ∙ (sym same ∙ ap clock (sym (whole c))),
        )
