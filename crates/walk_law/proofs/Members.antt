-- Which colours a set has, the shards of keys, and all colours of an object.
use Rattle.std.proofs.Common.{◌≡◌, ℕ, zero, suc, ◌+◌, ◌<◌, ◌≤◌, Bool, true, false, List, [], ◌∷◌, ◌⊎◌, inl, inr, refl, sym, subst, ap, ◌∙◌, arith, eq-eqb}
use Rattle.std.specs.Prelude.{◌==◌, ◌||◌, nat_eq, nat_lt, Result, Ok, Err, IfOk}
use Rattle.std.specs.List.{Contains, list_any, range_with_len}
use Rattle.std.proofs.lemmas.Bool.{cases_lt, ltb-true, true≢false, or_cases, or_left, or_right, eqb-true}
use Rattle.std.proofs.lemmas.List.Elements.{All-contains}
use Rattle.log_node.specs.declared.ids.Colours.{Colours}
use Rattle.log_node.specs.declared.limits.TheConstants.{MAX_COLOURS}
use Rattle.log_node.specs.Sets.{has, members}
use Rattle.log_node.proofs.CallerLemmas.{members_low}
use Rattle.object_fold.specs.Nodes.{shard_of}
use Rattle.col_core.proofs.CallerLemmas.{In, contains_in, in_contains, in_filter, in_filter-back}
use Rattle.column_track.specs.Tracks.{Tells}
use Rattle.lawful_run.specs.Asks.{colours_where, rising}
use Rattle.walk_law.specs.Asking.{AreLow, all_of, colours_in, shards_of}
use Rattle.walk_law.proofs.Shards.{shard_low}

-- what is told of one fact is told of another that is as true
pub told_as : (b : Bool) (P Q : Type 0) → (P → Q) → (Q → P) → Tells b P → Tells b Q
told_as true P Q to from told = to told
told_as false P Q to from told = λ q. told (from q)

pub ok_as : {E : Type 0} (r : Result Bool E) (P Q : Type 0) → ((b : Bool) → Tells b P → Tells b Q)
    → IfOk r (λ ok. Tells ok P) → IfOk r (λ ok. Tells ok Q)
ok_as (Ok b) P Q more told = more b told
ok_as (Err e) P Q more told = told

-- a number between two is in the range
range_in : (a k n : ℕ) → a ≤ n → n < a + k → In n (range_with_len a k)
range_in a zero n le lt = absurd (let f : ⊥ = omega (arith, le, lt) in f)
range_in a (suc k) n le lt = elim (cases_lt a n) [
  | inl less ↦ inr (range_in (a + 1) k n (omega (arith, less)) (omega (arith, lt)))
  | inr most ↦ inl (omega (arith, le, most))
]

where_told : (test : ℕ → Bool) (colour : ℕ) → (test colour ≡ true → colour < MAX_COLOURS) → (b : Bool) → b ≡ test colour
    → Tells b (Contains (colours_where test) colour)
where_told test colour low true is =
    let lt = low (sym is) in
    contains_in (colours_where test) colour
    (in_filter-back test colour (range_with_len 0 MAX_COLOURS)
    (range_in 0 MAX_COLOURS colour (omega arith) (omega (arith, lt))) (sym is))
where_told test colour low false is = λ there.
    true≢false (sym (in_filter test colour (range_with_len 0 MAX_COLOURS)
    (in_contains (colours_where test) colour there)).1 ∙ sym is)

-- a set has a colour
pub low_told : (set : Colours) (colour : ℕ) (b : Bool) → colour < MAX_COLOURS → b ≡ has set colour
    → Tells b (Contains (colours_in set) colour)
unfolding colours_in
low_told set colour b low is = where_told (has set) colour (λ _. low) b is

pub high_told : (set : Colours) (colour : ℕ) → MAX_COLOURS ≤ colour
    → Tells (nat_lt colour MAX_COLOURS) (Contains (colours_in set) colour)
unfolding colours_in
high_told set colour high = at (nat_lt colour MAX_COLOURS) refl where
  at : (b : Bool) → nat_lt colour MAX_COLOURS ≡ b → Tells b (Contains (members set) colour)
  at true t = let low = ltb-true colour MAX_COLOURS t in absurd (let f : ⊥ = omega (arith, low, high) in f)
  at false t = λ there.
      let low = All-contains (λ c. c < MAX_COLOURS) (members set) colour (members_low set) there in
      let f : ⊥ = omega (arith, low, high) in f

-- the colour is the shard of one of the keys
any_low : (own : List ℕ) (keys : List (List ℕ)) (colour : ℕ) → AreLow own
    → list_any (λ key. shard_of own key == colour) keys ≡ true → colour < MAX_COLOURS
any_low own [] colour low t = absurd (true≢false (sym t))
any_low own (key ∷ keys) colour low t =
    turn (any_low own keys colour low) (or_cases (shard_of own key == colour) (list_any (λ k. shard_of own k == colour) keys) t) where
      turn : (list_any (λ k. shard_of own k == colour) keys ≡ true → colour < MAX_COLOURS)
          → ((shard_of own key == colour) ≡ true) ⊎ (list_any (λ k. shard_of own k == colour) keys ≡ true)
          → colour < MAX_COLOURS
      turn later (inl e) = subst (λ (c : ℕ). c < MAX_COLOURS) (eqb-true (shard_of own key) colour e) (shard_low own key low)
      turn later (inr more) = later more

pub shards_told : (own : List ℕ) (keys : List (List ℕ)) (colour : ℕ) → AreLow own → (b : Bool)
    → b ≡ list_any (λ key. shard_of own key == colour) keys → Tells b (Contains (shards_of own keys) colour)
unfolding shards_of
shards_told own keys colour low b is =
    where_told (λ c. list_any (λ key. shard_of own key == c) keys) colour (any_low own keys colour low) b is

-- the shard of one key is this one
pub shard_told : (own key : List ℕ) (colour shard : ℕ) → AreLow own → shard ≡ shard_of own key
    → Tells (nat_eq shard colour) (Contains (shards_of own (key ∷ [])) colour)
shard_told own key colour shard low is =
    shards_told own (key ∷ []) colour low (nat_eq shard colour) (ap (λ (s : ℕ). s == colour) is ∙ alone (shard_of own key == colour)) where
      alone : (b : Bool) → b ≡ (b || false)
      alone true = refl
      alone false = refl

-- the colour is one of an object's
any_in : (own : List ℕ) (colour : ℕ) → In colour own → list_any (λ d. d == colour) own ≡ true
any_in [] colour i = absurd i
any_in (c ∷ cs) colour (inl e) = or_left (c == colour) _ (eq-eqb c colour e)
any_in (c ∷ cs) colour (inr i) = or_right (c == colour) _ (any_in cs colour i)

in_any : (own : List ℕ) (colour : ℕ) → list_any (λ d. d == colour) own ≡ true → In colour own
in_any [] colour t = absurd (true≢false (sym t))
in_any (c ∷ cs) colour t = turn (in_any cs colour) (or_cases (c == colour) (list_any (λ d. d == colour) cs) t) where
  turn : (list_any (λ d. d == colour) cs ≡ true → In colour cs)
      → ((c == colour) ≡ true) ⊎ (list_any (λ d. d == colour) cs ≡ true) → (c ≡ colour) ⊎ In colour cs
  turn later (inl e) = inl (eqb-true c colour e)
  turn later (inr more) = inr (later more)

pub all_told : (own : List ℕ) (colour : ℕ) → AreLow own → (b : Bool) → Tells b (Contains own colour)
    → Tells b (Contains (all_of own) colour)
unfolding all_of
all_told own colour low b told = told_as b (Contains own colour) (Contains (rising own) colour) to from told where
  test : ℕ → Bool
  test c = list_any (λ d. d == c) own

  to : Contains own colour → Contains (rising own) colour
  to there =
      let lt = All-contains (λ c. c < MAX_COLOURS) own colour low there in
      contains_in (rising own) colour
      (in_filter-back (λ c. list_any (λ d. d == c) own) colour (range_with_len 0 MAX_COLOURS)
      (range_in 0 MAX_COLOURS colour (omega arith) (omega (arith, lt)))
      (any_in own colour (in_contains own colour there)))

  from : Contains (rising own) colour → Contains own colour
  from there =
      contains_in own colour (in_any own colour
      (in_filter (λ c. list_any (λ d. d == c) own) colour (range_with_len 0 MAX_COLOURS)
      (in_contains (rising own) colour there)).1)
