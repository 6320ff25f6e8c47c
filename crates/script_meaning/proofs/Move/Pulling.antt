-- A pull.
use Rattle.std.proofs.Common.{◌≡◌, ◌≢◌, ℕ, zero, suc, ◌+◌, ◌<◌, ◌≤◌, min, List, [], ◌∷◌, ◌++◌, length, take, drop, Some, Bool, true, false, refl, subst, ap, sym, ◌∙◌, arith, append-nil, length-append}
use Rattle.std.specs.Prelude.{◌==◌, ◌&&◌, max, nat_lt, nat_le, slice_get}
use Rattle.std.proofs.lemmas.Bool.{and_from, and_right, le-leb, lt-ltb, le-ltb, ltb-true, eqb-true}
use Rattle.std.proofs.lemmas.List.{take_all, take_at}
use Rattle.std.proofs.lemmas.List.Elements.{All-cons, All-nil}
use Rattle.log_node.specs.declared.node.At.{At}
use Rattle.log_node.specs.declared.node.At.TheVariants.{Event, Look}
use Rattle.log_node.specs.Vectors.{at}
use Rattle.col_core.specs.declared.Entry.{Entry}
use Rattle.col_core.specs.declared.Event.TheVariants as events
use Rattle.col_core.specs.History.{line}
use Rattle.col_core.specs.Cuts.{chain}
use Rattle.col_core.specs.Computed.{dated}
use Rattle.col_core.specs.Log.{IsLater, places_of, first}
use Rattle.col_core.specs.Keeping.{Kept, updated_at, kept_after_event, kept_after_look}
use Rattle.col_core.proofs.CallerLemmas.{by_test, both, apart, if_true, if_false}
use Rattle.world_laws.specs.declared.steps.Step.TheVariants.{Give, Carry}
use Rattle.world_laws.specs.Worlds.{World, home_of, after, after_give, after_carry, carried_entry, heads_lacking, held_of, are_two_columns, is_column, may_give, may_carry, base_after, chains_after}
use Rattle.world_laws.specs.Laws.{IsReached, log_of}
use Rattle.world_laws.proofs.CallerLemmas.{at_updated_at, slice_last, after_reached, copy_within, entries_dated}
use Rattle.script_text.specs.declared.script.Object.{Object}
use Rattle.script_text.specs.declared.commands.What.TheVariants as whats
use Rattle.report_text.specs.declared.report.Answer.TheVariants as answers
use Rattle.lawful_run.specs.Moves.{GivesHeld, GivesTooLow, Pulls, OnlyGives, with_places, kept_after_pull, kept_after_giving}
use Rattle.lawful_run.specs.Refusals.{gave}
use Rattle.lawful_run.proofs.CallerLemmas.{prefix_take, prefix_length}
use Rattle.script_meaning.specs.Moves.{lacking, with_give, with_carry, next_at}
use Rattle.script_meaning.proofs.Move.Carried.{stretch_length, carried_chain}
use Rattle.script_meaning.proofs.World.Clearing.{Finished}
use Rattle.script_meaning.proofs.Client.Kept.{caller_in, IsKeptBy, MadeBy, Does, later_log}
use Rattle.script_meaning.proofs.World.Additions.{Adds, adds_last, adds_trans}
use Rattle.script_meaning.proofs.Client.OwnEvents.{history_is, other_history, own_kept, seen_here, finished_last}
use Rattle.script_meaning.proofs.World.Reached as reached_worlds

module _ (objects : List Object) (w : World) (reached : IsReached w) (u region c : ℕ) (ne : region ≢ home_of w u)
    (two : are_two_columns w region (home_of w u) c ≡ true) where
  abbrev own : ℕ
  own = home_of w u

  -- the history of the other region's column, and that of the own one
  abbrev theirs : List Entry
  theirs = w.histories region c

  abbrev ours : List Entry
  ours = w.histories own c

  abbrev have : ℕ
  have = held_of w region own c

  abbrev count : ℕ
  count = lacking w u region c

  abbrev give : Entry
  give = record { by = u; event = events.Give own have; stamp = 0 }

  abbrev w1 : World
  w1 = after_give w u region own c have

  pub give_is : with_give w u region c ≡ w1
  give_is = if_true (may_give w region own c have) w1 w
      (and_from (are_two_columns w region own c) (nat_le have have) two (le-leb have have (omega arith)))

  pub reached1 : IsReached w1
  reached1 = subst IsReached give_is (after_reached w (Give u region own c have) reached)

  later1 : IsLater (log_of w) (log_of w1)
  later1 = later_log w w1 (Give u region own c have ∷ []) reached give_is

  theirs1 : w1.histories region c ≡ theirs ++ give ∷ []
  theirs1 = history_is w u region c give refl refl

  ours1 : w1.histories own c ≡ ours
  ours1 = other_history w u region c give refl refl own c (λ e _. ne (sym e))

  held1 : held_of w1 region own c ≡ have
  held1 = ap (λ (l : List Entry). length (chains_after own l region)) ours1

  region_there : region < w.shape.regions
  region_there =
      ltb-true region w.shape.regions (both (nat_lt region w.shape.regions) _ (both (is_column w region c) _ two).0).0

  own_there : own < w.shape.regions
  own_there =
      let p = both (is_column w own c) _ (both (is_column w region c) _ two).1 in
      ltb-true own w.shape.regions (both (nat_lt own w.shape.regions) _ p.0).0

  -- no more is held than stands in the line, so it lacks the rest
  have_within : have ≤ length (line theirs)
  have_within =
      subst (λ (l : List Entry). have ≤ length (line l)) (entries_dated region theirs)
      (copy_within region own (dated region theirs) (dated own ours)
      ((reached_worlds.held_of w reached).copies c region own region_there own_there ne))

  gave_there : (x : World) → x.histories region c ≡ theirs ++ give ∷ []
      → slice_get (x.histories region c) (length theirs) ≡ Some give
  gave_there x is = ap (λ (l : List Entry). slice_get l (length theirs)) is ∙ slice_last theirs give

  line_there : (x : World) → x.histories region c ≡ theirs ++ give ∷ []
      → length (line (take (length theirs) (x.histories region c))) ≡ length (line theirs)
  line_there x is = ap (λ (l : List Entry). length (line (take (length theirs) l))) is
      ∙ ap (λ (l : List Entry). length (line l)) (take_at theirs (give ∷ []) (length theirs) refl)

  -- what is asked for is what its own column held, which was looked at whole
  asked : (x : World) → IsLater (log_of w) (log_of x) → x.histories region c ≡ theirs ++ give ∷ []
      → have ≡ min (length (line (take (length theirs) (x.histories region c))))
      (length (chain own (first (log_of x) own c (length ours)) region))
  asked x later is =
      let a = ap (λ (l : List Entry). length (chain own (dated own l) region))
      (prefix_take ours (x.histories own c) (length ours) (later.histories own c) (omega arith)
      ∙ take_all (length ours) ours (omega arith)) in
      let b = line_there x is in
      let d = have_within in
      omega (arith, a, b, d)

  -- the client looked at the whole of its own column
  looked_home : (kept : Kept) → IsKeptBy w1 u kept → IsKeptBy w1 u (kept_after_look kept own c (length ours))
  looked_home kept j = record {
    floor = j.floor;
    starts = j.starts;
    seen = λ r d. at_updated_at (λ (n : ℕ). n ≤ length (w1.histories r d)) kept.seen own c (length ours) r d
        (λ er ed. subst (λ (n : ℕ). length ours ≤ length (w1.histories n d)) (sym er)
        (subst (λ (n : ℕ). length ours ≤ length (w1.histories own n)) (sym ed)
        (let a = ap length ours1 in omega (arith, a))))
        (λ _. j.seen r d);
    known = j.known;
    made = j.made;
    ids = j.ids;
    rows = j.rows;
  }

  adds1 : (end : World) (r d : ℕ) → Adds (MadeBy u (whats.Pull region c) end own r) (w.histories r d) (w1.histories r d)
  adds1 end = adds_last (λ r d. MadeBy u (whats.Pull region c) end own r) w region c give
      (record { made = refl; help = λ none. absurd none })

  module _ (kept : Kept) (k : IsKeptBy w u kept) where
    abbrev kept0 : Kept
    kept0 = with_places kept region c []

    k0 : IsKeptBy w u kept0
    k0 = record {
      floor = k.floor;
      starts = k.starts;
      seen = λ r d. at_updated_at (λ (n : ℕ). n ≤ length (w.histories r d)) kept.seen region c (kept.seen region c) r d
          (λ er ed. subst (λ (n : ℕ). kept.seen region c ≤ length (w.histories n d)) (sym er)
          (subst (λ (n : ℕ). kept.seen region c ≤ length (w.histories region n)) (sym ed) (k.seen region c)))
          (λ _. k.seen r d);
      known = k.known;
      made = λ r d. at_updated_at (λ (l : List ℕ). places_of u (w.histories r d) ≡ l) kept.made region c
          (kept.made region c ++ []) r d
          (λ er ed. k.made r d ∙ (ap (λ (n : ℕ). kept.made n d) er ∙ (ap (λ (n : ℕ). kept.made region n) ed
          ∙ sym (append-nil (kept.made region c))))) (λ _. k.made r d);
      ids = k.ids;
      rows = k.rows;
    }

    abbrev kept1 : Kept
    kept1 = kept_after_event kept0 region c (length theirs)

    k1 : IsKeptBy w1 u kept1
    k1 = own_kept w u region c give refl refl later1 kept0 k0
        (updated_at kept0.seen region c (length theirs + 1)) (seen_here w u region c give refl refl kept0 k0)

    -- where nothing is carried for want of memory
    k_gave : IsKeptBy w1 u (with_places kept0 region c (length theirs ∷ []))
    k_gave = own_kept w u region c give refl refl later1 kept0 k0
        (updated_at kept0.seen region c (max (kept0.seen region c) (length theirs + 1)))
        (subst (λ (n : ℕ). (r d : ℕ) → updated_at kept0.seen region c n r d ≤ length (w1.histories r d)) past
        (seen_here w u region c give refl refl kept0 k0)) where
          past : length theirs + 1 ≡ max (kept0.seen region c) (length theirs + 1)
          past = let a = k0.seen region c in omega (arith, a)

    only_gives : OnlyGives (log_of w1) (caller_in w1 objects u) kept region c (length ours) [] (length theirs ∷ [])
    only_gives = record {
      another = ne;
      unseen = k.seen own c;
      there = (let a = ap length ours1 in omega (arith, a));
      made_again = All-nil
          (GivesTooLow (log_of w1) (caller_in w1 objects u) region c (kept.seen own c) (length ours));
      once = omega arith;
      given = All-cons held (length theirs) []
          (have, gave_there w1 theirs1, (length ours, k.seen own c, omega arith, asked w1 later1 theirs1))
          (All-nil held);
    } where
      held : ℕ → Type 0
      held = GivesHeld (log_of w1) (caller_in w1 objects u) region c (kept.seen own c) (length ours)

  -- it gave, and is granted no memory to carry
  pub did_give : Does objects u (whats.Pull region c) w (with_give w u region c) answers.NoMemory []
  did_give =
      subst (λ (x : World). Does objects u (whats.Pull region c) w x answers.NoMemory []) (sym give_is) (record {
        steps = Give u region own c have ∷ [];
        run = give_is;
        shape = refl;
        others = λ n _. refl;
        adds = adds1 w1;
        keeps = λ kept k. record {
          after = kept_after_giving kept own region c (length ours) [] (length theirs ∷ []);
          keeps = looked_home (with_places (kept0 kept k) region c (length theirs ∷ [])) (k_gave kept k);
          explains = (refl, gave region c (length ours) [] (length theirs ∷ []) refl (only_gives kept k));
        };
      })

  abbrev wanted : At → ℕ → World → Type 0
  wanted carry nodes x =
      Does objects u (whats.Pull region c) w x (answers.Pulled nodes (Event (length theirs)) carry) []

  pub give_finished : (S : ℕ → Type 0) → Finished S w → Finished S (with_give w u region c)
  give_finished S fin =
      subst (Finished S) (sym give_is) (finished_last S w region c give (λ id st. refl) fin)

  -- nothing is lacking, and the client looked at its own column
  module _ (none : nat_lt 0 count ≡ false) where
    all_held : count ≡ 0
    all_held = zero_of count none where
      zero_of : (n : ℕ) → nat_lt 0 n ≡ false → n ≡ 0
      zero_of n f = by_test _ (n == 0) (λ t. eqb-true n 0 t)
          (λ g. absurd (apart (nat_lt 0 n) (lt-ltb 0 n (above n g)) f)) where
            above : (n : ℕ) → (n == 0) ≡ false → 0 < n
            above zero g = absurd (let x : ⊥ = cc in x)
            above (suc n) g = omega arith

    look_is : with_carry w u region c ≡ w1
    look_is =
        ap (λ (x : World). after x (Carry u region own c have count)) give_is
        ∙ if_false (may_carry w1 region own c have count) (after_carry w1 u region own c have count) w1
        (no_carry (are_two_columns w region own c)
        (nat_le (at (base_after w.shape.regions region (w1.histories region c)) region) have)
        (nat_le (have + count) (length (line (w1.histories region c)))) (nat_le have (held_of w1 region own c))
        (nat_lt (held_of w1 region own c) (have + count))
        (le-ltb (held_of w1 region own c) (have + count)
        (let a = all_held in let b = held1 in omega (arith, a, b)))) where
          no_carry : (a b d e f : Bool) → f ≡ false → (a && (b && (d && (e && f)))) ≡ false
          no_carry a b d e f is =
              ap (λ (x : Bool). a && (b && (d && (e && x)))) is
              ∙ and_right a _ (and_right b _ (and_right d _ (and_right e false refl)))

    module _ (kept : Kept) (k : IsKeptBy w u kept) where
      looked : IsKeptBy w1 u (kept_after_look (kept1 kept k) own c (length ours))
      looked = looked_home (kept1 kept k) (k1 kept k)

      pulls_none : Pulls (log_of w1) (caller_in w1 objects u) kept region c count (length theirs)
          (Look (length ours)) []
      pulls_none = record {
        another = ne;
        made_again = All-nil
            (GivesTooLow (log_of w1) (caller_in w1 objects u) region c (kept.seen own c) (length ours));
        unseen = k.seen region c;
        from = have;
        gives = gave_there w1 theirs1;
        asks = (length ours, k.seen own c, omega arith, asked w1 later1 theirs1);
        carries = (k.seen own c, let a = ap length ours1 in omega (arith, a), all_held);
        holds =
            let a = line_there w1 theirs1 in
            let b = ap (λ (l : List Entry). length (chain own (dated own l) region))
            (take_all (length ours) (w1.histories own c) (let x = ap length ours1 in omega (arith, x)) ∙ ours1) in
            let d = all_held in
            omega (arith, a, b, d);
      }

    did_look : wanted (Look (length ours)) count (with_carry w u region c)
    did_look =
        subst (wanted (Look (length ours)) count) (sym look_is) (record {
          steps = Give u region own c have ∷ [];
          run = give_is;
          shape = refl;
          others = λ n _. refl;
          adds = adds1 w1;
          keeps = λ kept k. record {
            after = kept_after_pull kept own region c (length theirs) (Look (length ours)) [];
            keeps = looked kept k;
            explains = (refl, region, c, refl, length theirs, refl, [], pulls_none kept k, refl);
          };
        })

  -- what is lacking is carried
  module _ (some : nat_lt 0 count ≡ true) where
    abbrev carry : Entry
    carry = carried_entry w1 u region own c (have + count)

    abbrev w2 : World
    w2 = after_carry w1 u region own c have count

    long1 : have + count ≤ length (line (w1.histories region c))
    long1 =
        let a = prefix_length (line theirs) (line (w1.histories region c)) (later1.lines region c) in
        let b = have_within in
        omega (arith, a, b)

    carry_is : after w1 (Carry u region own c have count) ≡ w2
    carry_is =
        let trimmed = reached_worlds.trimmed_of w1 reached1 region own c region_there own_there ne in
        let h = held1 in
        let less = ltb-true 0 count some in
        if_true (may_carry w1 region own c have count) w2 w1
        (and_from (are_two_columns w region own c) _ two
        (and_from (nat_le (at (base_after w.shape.regions region (w1.histories region c)) region) have) _
        (le-leb _ have (omega (arith, trimmed, h)))
        (and_from (nat_le (have + count) (length (line (w1.histories region c)))) _ (le-leb _ _ long1)
        (and_from (nat_le have (held_of w1 region own c)) _ (le-leb _ _ (omega (arith, h)))
        (lt-ltb (held_of w1 region own c) (have + count) (omega (arith, h, less)))))))

    with_is : with_carry w u region c ≡ w2
    with_is = ap (λ (x : World). after x (Carry u region own c have count)) give_is ∙ carry_is

    later2 : IsLater (log_of w1) (log_of w2)
    later2 = later_log w1 w2 (Carry u region own c have count ∷ []) reached1 carry_is

    theirs2 : w2.histories region c ≡ theirs ++ give ∷ []
    theirs2 = other_history w1 u own c carry refl refl region c (λ e _. ne e) ∙ theirs1

    ours2 : w2.histories own c ≡ ours ++ carry ∷ []
    ours2 = history_is w1 u own c carry refl refl ∙ ap (λ (l : List Entry). l ++ carry ∷ []) ours1

    heads_count : length (heads_lacking w1 region own c (have + count)) ≡ count
    heads_count =
        ap (λ (n : ℕ). length (drop n (take (have + count) (chains_after region (w1.histories region c) region)))) held1
        ∙ stretch_length region (w1.histories region c) have count long1

    held2 : length (chain own (first (log_of w2) own c (length ours + 1)) region) ≡ have + count
    held2 =
        ap (λ (l : List Entry). length (chain own (dated own l) region))
        (take_all (length ours + 1) (w2.histories own c)
        (let a = ap length ours2 in let b = length-append ours (carry ∷ []) in omega (arith, a, b)) ∙ ours2)
        ∙ (carried_chain own region u (held_of w1 region own c) (heads_lacking w1 region own c (have + count)) ours ne
        ∙ ap (λ (n : ℕ). have + n) heads_count)

    later12 : IsLater (log_of w) (log_of w2)
    later12 = later_log w w2 (Give u region own c have ∷ Carry u region own c have count ∷ []) reached
        (ap (λ (x : World). after x (Carry u region own c have count)) give_is ∙ carry_is)

    module _ (kept : Kept) (k : IsKeptBy w u kept) where
      k2 : IsKeptBy w2 u (kept_after_event (kept1 kept k) own c (length ours))
      k2 =
          subst (λ (n : ℕ). IsKeptBy w2 u (kept_after_event (kept1 kept k) own c n)) (ap length ours1)
          (own_kept w1 u own c carry refl refl later2 (kept1 kept k) (k1 kept k)
          (updated_at (kept1 kept k).seen own c (length (w1.histories own c) + 1))
          (seen_here w1 u own c carry refl refl (kept1 kept k) (k1 kept k)))

      pulls : Pulls (log_of w2) (caller_in w2 objects u) kept region c count (length theirs) (Event (length ours)) []
      pulls = record {
        another = ne;
        made_again = All-nil
            (GivesTooLow (log_of w2) (caller_in w2 objects u) region c (kept.seen own c) (length ours));
        unseen = k.seen region c;
        from = have;
        gives = gave_there w2 theirs2;
        asks = (length ours, k.seen own c, omega arith, asked w2 later12 theirs2);
        carries = (
          k.seen own c,
          held_of w1 region own c,
          heads_lacking w1 region own c (have + count),
          ap (λ (l : List Entry). slice_get l (length ours)) ours2 ∙ slice_last ours carry,
          sym heads_count,
        );
        holds = let a = line_there w2 theirs2 in let b = held2 in let d = have_within in omega (arith, a, b, d);
      }

    did_carry : wanted (Event (length ours)) count (with_carry w u region c)
    did_carry =
        subst (wanted (Event (length ours)) count) (sym with_is) (record {
          steps = Give u region own c have ∷ Carry u region own c have count ∷ [];
          run = ap (λ (x : World). after x (Carry u region own c have count)) give_is ∙ carry_is;
          shape = refl;
          others = λ n _. refl;
          adds = λ r d. adds_trans (MadeBy u (whats.Pull region c) w2 own r) (w.histories r d) (w1.histories r d)
              (w2.histories r d)
              (adds1 w2 r d) (adds_last (λ r d. MadeBy u (whats.Pull region c) w2 own r) w1 own c carry
              (record { made = refl; help = λ none. absurd none }) r d);
          keeps = λ kept k. record {
            after = kept_after_pull kept own region c (length theirs) (Event (length ours)) [];
            keeps = k2 kept k;
            explains = (refl, region, c, refl, length theirs, refl, [], pulls kept k, refl);
          };
        })

  pub carry_finished : (S : ℕ → Type 0) → Finished S w → Finished S (with_carry w u region c)
  carry_finished S fin =
      let fin1 = finished_last S w region c give (λ id st. refl) fin in
      by_test _ (nat_lt 0 count)
      (λ t. subst (Finished S) (sym (with_is t)) (finished_last S w1 own c (carry t) (λ id st. refl) fin1))
      (λ f. subst (Finished S) (sym (look_is f)) fin1)

  pub did_pull : Does objects u (whats.Pull region c) w (with_carry w u region c)
      (answers.Pulled count (Event (length theirs)) (next_at ours (nat_lt 0 count))) []
  did_pull =
      by_test _ (nat_lt 0 count)
      (λ t. subst (λ (x : At). wanted x count (with_carry w u region c))
      (sym (if_true (nat_lt 0 count) (Event (length ours)) (Look (length ours)) t)) (did_carry t))
      (λ f. subst (λ (x : At). wanted x count (with_carry w u region c))
      (sym (if_false (nat_lt 0 count) (Event (length ours)) (Look (length ours)) f)) (did_look f))
