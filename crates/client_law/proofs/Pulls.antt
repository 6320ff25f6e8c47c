-- Pulls and trims.
use Rattle.std.proofs.Common.{◌≡◌, ◌≢◌, ℕ, suc, ◌+◌, ◌<◌, ◌≤◌, List, [], ◌∷◌, ◌++◌, length, Bool, true, false, refl, ap, sym, subst, ◌∙◌, inl, inr, ◌⊎◌, arith, length-append, append_assoc, append-nil, eqb-true, eq-eqb}
use Rattle.std.specs.Prelude.{◌==◌}
use Rattle.std.specs.List.{All}
use Rattle.std.proofs.lemmas.List.Elements.{All-nil, All-cons, All-append, All-weaker}
use Rattle.log_node.specs.declared.node.At.{At}
use Rattle.log_node.specs.declared.node.At.TheVariants.{Event, Look}
use Rattle.col_core.specs.declared.Event.TheVariants as events
use Rattle.col_core.specs.Log.{places_of}
use Rattle.col_core.specs.Keeping.{Kept, updated_at, kept_after_event, seen_past}
use Rattle.col_core.proofs.CallerLemmas.{by_test}
use Rattle.lawful_run.specs.Callers.{Caller}
use Rattle.lawful_run.specs.Reads.{events_until}
use Rattle.lawful_run.specs.Moves.{GivesFrom, AsksFor, GivesTooLow, CarriesNodes, with_places, kept_after_giving}
use Rattle.lawful_run.proofs.CallerLemmas.{past_within}
use Rattle.client_law.specs.Knowing.{Seen, Rest, log_seen, SeesOn}
use Rattle.client_law.specs.Making.{own_steps, IsOwnStepAt, RiseFrom}
use Rattle.client_law.specs.Kept.{IsKeptBy}
use Rattle.client_law.specs.Moves.{CarriesThere, PullsThere, PullsStand, KeptAfterPull, KeptAfterGives, TrimsStand}
use Rattle.client_law.proofs.Lists.{at_new_at}
use Rattle.client_law.proofs.Keeping.{keeps_on, seen_on, known_on, under_on, made_on}
use Rattle.client_law.proofs.Events.{own_step, at_column, made_here, made_one, place_seen}

-- RISING PLACES

rise_last : (from place : ℕ) (places : List ℕ) → RiseFrom from (places ++ place ∷ []) → from ≤ place
rise_last from place [] r = r.0
rise_last from place (p ∷ ps) r =
    let a = r.0 in let b = rise_last (p + 1) place ps r.1 in omega (arith, a, b)

lower : (from least : ℕ) (places : List ℕ) → least ≤ from → RiseFrom from places → RiseFrom least places
lower from least [] le r = tt
lower from least (p ∷ ps) le r = (let a = r.0 in omega (arith, le, a), r.1)

rise_all : (from : ℕ) (places : List ℕ) → RiseFrom from places → All (λ place. from ≤ place) places
rise_all from [] r = All-nil (λ place. from ≤ place)
rise_all from (p ∷ ps) r =
    All-cons (λ place. from ≤ place) p ps r.0
    (rise_all from ps (lower (p + 1) from ps (let a = r.0 in omega (arith, a)) r.1))

-- COLUMNS

updated_here : (made : ℕ → ℕ → List ℕ) (region colour : ℕ) (places : List ℕ)
    → updated_at made region colour places region colour ≡ places
updated_here made region colour places =
    at_new_at (λ (l : List ℕ). l ≡ places) made region colour places region colour (λ _ _. refl)
    (λ ne. absurd (not_itself ne)) where
      not_itself : (region ≢ region) ⊎ (colour ≢ colour) → ⊥
      not_itself (inl n) = n refl
      not_itself (inr n) = n refl

not_both : (r c region colour : ℕ) → (r ≢ region) ⊎ (c ≢ colour) → r ≡ region → c ≡ colour → ⊥
not_both r c region colour (inl n) er ec = n er
not_both r c region colour (inr n) er ec = n ec

-- a value that was changed twice in one column
twice : {A : Type 0} (P : A → Type 0) (f : ℕ → ℕ → A) (region colour : ℕ) (x y : A) (r c : ℕ)
    → (r ≡ region → c ≡ colour → P y) → ((r ≢ region) ⊎ (c ≢ colour) → P (f r c))
    → P (updated_at (updated_at f region colour x) region colour y r c)
twice P f region colour x y r c here there =
    at_new_at P (updated_at f region colour x) region colour y r c here
    (λ ne. at_new_at P f region colour x r c (λ er ec. absurd (not_both r c region colour ne er ec)) there)

-- places that were added twice to one column
added : (P : List ℕ → Type 0) (made : ℕ → ℕ → List ℕ) (region colour : ℕ) (one two : List ℕ) (r c : ℕ)
    → (r ≡ region → c ≡ colour → P (made region colour ++ (one ++ two)))
    → ((r ≢ region) ⊎ (c ≢ colour) → P (made r c))
    → P (updated_at (updated_at made region colour (made region colour ++ one)) region colour
    (updated_at made region colour (made region colour ++ one) region colour ++ two) r c)
added P made region colour one two r c here there =
    let is : updated_at made region colour (made region colour ++ one) region colour ++ two
    ≡ made region colour ++ (one ++ two) =
    ap (λ (l : List ℕ). l ++ two) (updated_here made region colour (made region colour ++ one))
    ∙ append_assoc (made region colour) one two in
    twice P made region colour (made region colour ++ one)
    (updated_at made region colour (made region colour ++ one) region colour ++ two) r c
    (λ er ec. subst P (sym is) (here er ec)) there

-- a column is another one, or by other names the same
column_cases : (r c region colour : ℕ) → ((r ≡ region) × (c ≡ colour)) ⊎ ((r ≢ region) ⊎ (c ≢ colour))
column_cases r c region colour =
    by_test _ (r == region)
    (λ t. by_test _ (c == colour) (λ u. inl (eqb-true r region t, eqb-true c colour u))
    (λ n. inr (inr (λ e. clash (c == colour) (eq-eqb c colour e) n))))
    (λ n. inr (inl (λ e. clash (r == region) (eq-eqb r region e) n))) where
      clash : (b : Bool) → b ≡ true → b ≡ false → ⊥
      clash true t f = cc
      clash false t f = cc

-- GIVES

module _ (old new : Seen) (rest : Rest) (caller : Caller) (region colour : ℕ) where
  give_step : (place from : ℕ) → length (old region colour) ≤ place
      → GivesFrom (log_seen new rest) caller region colour place from
      → IsOwnStepAt caller.client (old region colour) (new region colour) place
  give_step place from unseen g = (
    unseen,
    record { by = caller.client; event = events.Give caller.own from; stamp = 0 },
    g,
    own_step caller.client (events.Give caller.own from) 0 refl,
  )

  gives_stand : (too_low gives : List ℕ) → RiseFrom (length (old region colour)) (too_low ++ gives)
      → (seen until : ℕ) → All (GivesTooLow (log_seen new rest) caller region colour seen until) too_low
      → All (λ place. (from : ℕ) × GivesFrom (log_seen new rest) caller region colour place from) gives
      → All (IsOwnStepAt caller.client (old region colour) (new region colour)) (too_low ++ gives)
  gives_stand too_low gives rising seen until low all =
      let each = All-append (λ place. (from : ℕ) × GivesFrom (log_seen new rest) caller region colour place from) too_low
      gives
      (All-weaker (GivesTooLow (log_seen new rest) caller region colour seen until)
      (λ place. (from : ℕ) × GivesFrom (log_seen new rest) caller region colour place from) (λ place g. (g.0, g.1)) too_low
      low) all in
      let rise = rise_all (length (old region colour)) (too_low ++ gives) rising in
      λ k d lt. let g = each k d lt in give_step _ g.0 (rise k d lt) g.1

-- PULLS

module _ (old new : Seen) (rest : Rest) (caller : Caller) (kept : Kept) (region colour nodes place : ℕ)
    (carry : At) (too_low : List ℕ) (on : SeesOn caller old new) (k : IsKeptBy old caller kept)
    (p : PullsThere old new rest caller region colour nodes place carry too_low) where
  -- a look of late is behind all that the client had seen
  asks_since : (give from : ℕ)
      → AsksFor (log_seen new rest) caller region colour (length (old caller.own colour)) (events_until carry) give from
      → AsksFor (log_seen new rest) caller region colour (kept.seen caller.own colour) (events_until carry) give from
  asks_since give from a =
      let b = k.seen_within caller.own colour in let c = a.1 in (a.0, omega (arith, b, c), a.2, a.3)

  carries_at : (at : At) → CarriesThere old new caller region colour nodes at
      → CarriesNodes (log_seen new rest) caller kept region colour nodes at
  carries_at (Event there) c =
      let a = k.seen_within caller.own colour in let b = c.0 in (omega (arith, a, b), c.1, c.2, c.3, c.4)
  carries_at (Look seen) c =
      let a = k.seen_within caller.own colour in let b = c.0 in (omega (arith, a, b), c.1, c.2)

pub pulls_stand : PullsStand
pulls_stand old new rest caller kept region colour nodes place carry too_low on k p = record {
  another = p.another;
  made_again = All-weaker
      (GivesTooLow (log_seen new rest) caller region colour (length (old caller.own colour)) (events_until carry))
      (GivesTooLow (log_seen new rest) caller region colour (kept.seen caller.own colour) (events_until carry))
      (λ give g. (
        g.0,
        g.1,
        asks_since old new rest caller kept region colour nodes place carry too_low on k p give g.0 g.2,
        g.3,
      ))
      too_low p.made_again;
  unseen =
      let a = k.seen_within region colour in
      let b = rise_last (length (old region colour)) place too_low p.rising in
      omega (arith, a, b);
  from = p.from;
  gives = p.gives;
  asks = asks_since old new rest caller kept region colour nodes place carry too_low on k p place p.from p.asks;
  carries = carries_at old new rest caller kept region colour nodes place carry too_low on k p carry p.carries;
  holds = p.holds;
}

-- What is seen of gives of late is within what is seen.
gives_within : (old new : Seen) (caller : Caller) (region colour : ℕ) (places : List ℕ)
    → All (IsOwnStepAt caller.client (old region colour) (new region colour)) places
    → All (λ place. place < length (new region colour)) places
gives_within old new caller region colour places all =
    All-weaker (IsOwnStepAt caller.client (old region colour) (new region colour))
    (λ place. place < length (new region colour))
    (λ place s. let a = place_seen (new region colour) place s.1 s.2 in omega (arith, a)) places all

all_front : {A : Type 0} (P : A → Type 0) (xs ys : List A) → All P (xs ++ ys) → All P xs
all_front P [] ys all = All-nil P
all_front P (x ∷ xs) ys all =
    All-cons P x xs (all 0 x (omega arith)) (all_front P xs ys (λ k d lt. all (suc k) d (omega (arith, lt))))

module _ (old new : Seen) (rest : Rest) (caller : Caller) (kept : Kept) (region colour nodes place : ℕ)
    (too_low : List ℕ) (on : SeesOn caller old new) (k : IsKeptBy old caller kept) (another : region ≢ caller.own)
    (gives : All (IsOwnStepAt caller.client (old region colour) (new region colour)) (too_low ++ place ∷ []))
    (rising : RiseFrom (length (old region colour)) (too_low ++ place ∷ []))
    (many : length (own_steps caller.client (new region colour))
    ≡ length (own_steps caller.client (old region colour)) + (length too_low + 1)) where
  abbrev gave : Kept
  gave = kept_after_event (with_places kept region colour too_low) region colour place

  gave_seen : (r c : ℕ) → gave.seen r c ≤ length (new r c)
  gave_seen r c =
      twice (λ (n : ℕ). n ≤ length (new r c)) kept.seen region colour (seen_past (kept.seen region colour) too_low)
      (place + 1) r c
      (λ er ec. at_column (λ a b. place + 1 ≤ length (new a b)) r c region colour er ec last)
      (λ _. seen_on caller old new kept on k r c) where
        last : place + 1 ≤ length (new region colour)
        last =
            let l = length-append too_low (place ∷ []) in
            let s = at_end too_low gives in
            place_seen (new region colour) place s.1 s.2 where
              at_end : (xs : List ℕ)
                  → All (IsOwnStepAt caller.client (old region colour) (new region colour)) (xs ++ place ∷ [])
                  → IsOwnStepAt caller.client (old region colour) (new region colour) place
              at_end [] all = all 0 place (omega arith)
              at_end (x ∷ xs) all = at_end xs (λ n d lt. all (suc n) d (omega (arith, lt)))

  gave_made : (P : List ℕ → Type 0) (r c : ℕ)
      → (r ≡ region → c ≡ colour → P (kept.made region colour ++ (too_low ++ place ∷ [])))
      → ((r ≢ region) ⊎ (c ≢ colour) → P (kept.made r c)) → P (gave.made r c)
  gave_made P r c here there = added P kept.made region colour too_low (place ∷ []) r c here there

  given_made : places_of caller.client (new region colour) ≡ kept.made region colour ++ (too_low ++ place ∷ [])
  given_made =
      let l = length-append too_low (place ∷ []) in
      made_here caller old new kept on k region colour (too_low ++ place ∷ []) (omega (arith, many, l)) rising gives

  -- where its own column has a carry at this place
  module _ (there : ℕ)
      (step : IsOwnStepAt caller.client (old caller.own colour) (new caller.own colour) there)
      (one : length (own_steps caller.client (new caller.own colour))
      ≡ length (own_steps caller.client (old caller.own colour)) + 1)
      (others : (r c : ℕ) → (c ≢ colour) ⊎ ((r ≢ region) × (r ≢ caller.own))
      → own_steps caller.client (new r c) ≡ own_steps caller.client (old r c)) where
    elsewhere : (r c : ℕ) → (r ≢ caller.own) ⊎ (c ≢ colour) → (r ≢ region) ⊎ (c ≢ colour)
        → (c ≢ colour) ⊎ ((r ≢ region) × (r ≢ caller.own))
    elsewhere r c (inl n) (inl m) = inr (m, n)
    elsewhere r c (inl n) (inr m) = inl m
    elsewhere r c (inr n) m = inl n

    pub carried_kept : IsKeptBy new caller (kept_after_event gave caller.own colour there)
    carried_kept =
        let own = caller.own in
        keeps_on caller old new kept (kept_after_event gave own colour there) on k refl (omega arith)
        (λ r c. at_new_at (λ (n : ℕ). n ≤ length (new r c)) gave.seen own colour (there + 1) r c
        (λ er ec. at_column (λ a b. there + 1 ≤ length (new a b)) r c own colour er ec
        (place_seen (new own colour) there step.1 step.2)) (λ _. gave_seen r c))
        (known_on caller old new kept on k) (λ c. under_on caller old new kept on k kept.floor c (omega arith))
        (λ r c. at_new_at (λ (l : List ℕ). places_of caller.client (new r c) ≡ l) gave.made own colour
        (gave.made own colour ++ there ∷ []) r c
        (λ er ec. at_column (λ a b. places_of caller.client (new a b) ≡ gave.made own colour ++ there ∷ []) r c
        own colour er ec
        (gave_made (λ (l : List ℕ). places_of caller.client (new own colour) ≡ l ++ there ∷ []) own colour
        (λ e _. absurd (another (sym e))) (λ _. made_one caller old new kept on k own colour there one step)))
        (λ ne. gave_made (λ (l : List ℕ). places_of caller.client (new r c) ≡ l) r c
        (λ er ec. at_column (λ a b. places_of caller.client (new a b)
        ≡ kept.made region colour ++ (too_low ++ place ∷ [])) r c region colour er ec given_made)
        (λ other. made_on caller old new kept on k r c (others r c (elsewhere r c ne other)))))

  -- where it looked at its own column
  module _ (seen : ℕ) (within : seen ≤ length (new caller.own colour))
      (none : length (own_steps caller.client (new caller.own colour))
      ≡ length (own_steps caller.client (old caller.own colour)) + 0)
      (others : (r c : ℕ) → (c ≢ colour) ⊎ ((r ≢ region) × (r ≢ caller.own))
      → own_steps caller.client (new r c) ≡ own_steps caller.client (old r c)) where
    home_made : places_of caller.client (new caller.own colour) ≡ kept.made caller.own colour
    home_made =
        made_here caller old new kept on k caller.own colour [] none tt
        (All-nil (IsOwnStepAt caller.client (old caller.own colour) (new caller.own colour)))
        ∙ append-nil (kept.made caller.own colour)

    not_given : (r c : ℕ) → (r ≢ region) ⊎ (c ≢ colour)
        → ((r ≡ caller.own) × (c ≡ colour)) ⊎ ((r ≢ caller.own) ⊎ (c ≢ colour))
        → places_of caller.client (new r c) ≡ kept.made r c
    not_given r c other (inl e) =
        at_column (λ a b. places_of caller.client (new a b) ≡ kept.made a b) r c caller.own colour e.0 e.1 home_made
    not_given r c (inl m) (inr (inl n)) = made_on caller old new kept on k r c (others r c (inr (m, n)))
    not_given r c (inr m) (inr (inl n)) = made_on caller old new kept on k r c (others r c (inl m))
    not_given r c other (inr (inr n)) = made_on caller old new kept on k r c (others r c (inl n))

    pub looked_kept : IsKeptBy new caller (record gave { seen = updated_at gave.seen caller.own colour seen })
    looked_kept =
        let own = caller.own in
        keeps_on caller old new kept (record gave { seen = updated_at gave.seen own colour seen }) on k refl (omega arith)
        (λ r c. at_new_at (λ (n : ℕ). n ≤ length (new r c)) gave.seen own colour seen r c
        (λ er ec. at_column (λ a b. seen ≤ length (new a b)) r c own colour er ec within) (λ _. gave_seen r c))
        (known_on caller old new kept on k) (λ c. under_on caller old new kept on k kept.floor c (omega arith))
        (λ r c. gave_made (λ (l : List ℕ). places_of caller.client (new r c) ≡ l) r c
        (λ er ec. at_column (λ a b. places_of caller.client (new a b)
        ≡ kept.made region colour ++ (too_low ++ place ∷ [])) r c region colour er ec given_made)
        (λ other. not_given r c other (column_cases r c own colour)))

pub kept_after_pulling : KeptAfterPull
kept_after_pulling old new rest caller kept region colour nodes place (Event there) too_low on m k p =
    let gives = gives_stand old new rest caller region colour too_low (place ∷ []) p.rising
    (length (old caller.own colour)) there p.made_again
    (All-cons (λ place. (from : ℕ) × GivesFrom (log_seen new rest) caller region colour place from) place []
    (p.from, p.gives) (All-nil (λ place. (from : ℕ) × GivesFrom (log_seen new rest) caller region colour place from))) in
    let c = p.carries in
    carried_kept old new rest caller kept region colour nodes place too_low on k p.another gives p.rising m.given there (
      c.0,
      record { by = caller.client; event = events.Carry region c.1 c.2; stamp = 0 },
      c.3,
      own_step caller.client (events.Carry region c.1 c.2) 0 refl,
    ) m.carried m.others
kept_after_pulling old new rest caller kept region colour nodes place (Look seen) too_low on m k p =
    let gives = gives_stand old new rest caller region colour too_low (place ∷ []) p.rising
    (length (old caller.own colour)) seen p.made_again
    (All-cons (λ place. (from : ℕ) × GivesFrom (log_seen new rest) caller region colour place from) place []
    (p.from, p.gives) (All-nil (λ place. (from : ℕ) × GivesFrom (log_seen new rest) caller region colour place from))) in
    looked_kept old new rest caller kept region colour nodes place too_low on k p.another gives p.rising m.given seen
    p.carries.1 m.carried m.others

pub kept_after_gives : KeptAfterGives
kept_after_gives old new rest caller kept region colour looked too_low gives on m k rising g =
    let own = caller.own in
    let stand = gives_stand old new rest caller region colour too_low gives rising (kept.seen own colour) looked
    g.made_again (λ n d lt. let x = g.given n d lt in (x.0, x.1)) in
    let within = gives_within old new caller region colour (too_low ++ gives) stand in
    let len = length (new region colour) in
    let first_seen : seen_past (kept.seen region colour) too_low ≤ len =
    past_within len (kept.seen region colour) too_low (seen_on caller old new kept on k region colour)
    (all_front (λ place. place < len) too_low gives within) in
    let seen_low = updated_at kept.seen region colour (seen_past (kept.seen region colour) too_low) region colour in
    keeps_on caller old new kept (kept_after_giving kept own region colour looked too_low gives) on k refl
    (omega arith)
    (λ r c. at_new_at (λ (n : ℕ). n ≤ length (new r c))
    (with_places (with_places kept region colour too_low) region colour gives).seen own colour looked r c
    (λ er ec. at_column (λ a b. looked ≤ length (new a b)) r c own colour er ec g.there)
    (λ _. twice (λ (n : ℕ). n ≤ length (new r c)) kept.seen region colour
    (seen_past (kept.seen region colour) too_low) (seen_past seen_low gives) r c
    (λ er ec. at_column (λ a b. seen_past seen_low gives ≤ length (new a b)) r c region colour er ec
    (past_within len seen_low gives
    (at_new_at (λ (n : ℕ). n ≤ len) kept.seen region colour (seen_past (kept.seen region colour) too_low) region colour
    (λ _ _. first_seen) (λ _. seen_on caller old new kept on k region colour))
    (all_back (λ place. place < len) too_low gives within)))
    (λ _. seen_on caller old new kept on k r c)))
    (known_on caller old new kept on k) (λ c. under_on caller old new kept on k kept.floor c (omega arith))
    (λ r c. added (λ (l : List ℕ). places_of caller.client (new r c) ≡ l) kept.made region colour too_low gives r c
    (λ er ec. at_column (λ a b. places_of caller.client (new a b)
    ≡ kept.made region colour ++ (too_low ++ gives)) r c region colour er ec
    (made_here caller old new kept on k region colour (too_low ++ gives) m.here rising stand))
    (λ ne. made_on caller old new kept on k r c (m.others r c ne))) where
      all_back : (P : ℕ → Type 0) (xs ys : List ℕ) → All P (xs ++ ys) → All P ys
      all_back P [] ys all = all
      all_back P (x ∷ xs) ys all = all_back P xs ys (λ n d lt. all (suc n) d (omega (arith, lt)))

-- TRIMS

pub trims_stand : TrimsStand
trims_stand old new rest caller kept colour place counts shown on k unseen there is = record {
  unseen = (let a = k.seen_within caller.own colour in omega (arith, a, unseen));
  trimmed = there;
  is_base = is;
}
