-- What a load of a multiple of eight rounds comes to: in eight rounds each client has each choice once.
use Rattle.std.proofs.Common.{◌≡◌, ℕ, zero, suc, ◌+◌, ◌*◌, ◌%◌, ◌<◌, Bool, true, false, cond, List, [], ◌∷◌, length, map, Option, Some, None, slice_get, refl, ap, sym, subst, ◌∙◌, ◌⊎◌, inl, inr, arith, length-append}
use Rattle.std.specs.Prelude.{◌==◌, ◌&&◌}
use Rattle.std.specs.List.{filter, flat_map, range_with_len}
use Rattle.log_node.specs.declared.ids.Colours.{Colours}
use Rattle.col_core.proofs.CallerLemmas.{choice}
use Rattle.script_text.specs.declared.commands.What.{What}
use Rattle.script_text.specs.declared.commands.What.TheVariants as whats
use Rattle.script_text.specs.declared.script.Command.{Command}
use Rattle.load_script.specs.declared.script.TheConstants.{CLIENTS}
use Rattle.load_script.specs.declared.summary.Summary.{Summary}
use Rattle.load_script.specs.Generated.{home_by_turns, sets, asked_by, choice_of, command_of, round_of, rounds_of}
use Rattle.load_script.specs.Summing.{appended, is_node, is_of_colour, is_of_row}
use Rattle.load_script.specs.Laws.{LoadsOfEights}
use Rattle.load_script.proofs.Sums.{filter-append, filter_same}

appended_by : (o : Option Colours) (choice client round : ℕ) → appended (asked_by o choice client round) ≡ o
appended_by (Some set) choice' client round = refl
appended_by None choice' client round =
    choice (λ (w : What). appended w ≡ None) (choice' == 6) (whats.Sync (round % 4))
    (whats.Pull (home_by_turns (client + 1)) (round % 4))
    (λ _. refl) (λ _. refl)

module _ (t : ℕ → Option Colours → Bool) where
  abbrev of_command : Command → Bool
  of_command command = t command.client (appended command.what)

  -- how many commands pass in a round with this remainder
  in_round : ℕ → ℕ
  in_round s = length (filter (λ client. t client (slice_get sets ((7 * client + s) % 8)))
      (range_with_len 0 8))

  mapped : (count round : ℕ) (xs : List ℕ)
      → length (filter of_command (map (command_of count round) xs))
      ≡ length (filter (λ client. of_command (command_of count round client)) xs)
  mapped count round [] = refl
  mapped count round (x ∷ xs) = at (of_command (command_of count round x)) (mapped count round xs) where
    at : (b : Bool) → length (filter of_command (map (command_of count round) xs))
        ≡ length (filter (λ client. of_command (command_of count round client)) xs)
        → length (cond b (command_of count round x ∷ filter of_command (map (command_of count round) xs))
        (filter of_command (map (command_of count round) xs)))
        ≡ length (cond b (x ∷ filter (λ client. of_command (command_of count round client)) xs)
        (filter (λ client. of_command (command_of count round client)) xs))
    at true e = ap suc e
    at false e = e

  same_choice : (client round count : ℕ) → choice_of count client round ≡ (7 * client + (3 * round + count) % 8) % 8
  same_choice client round count = omega arith

  one_round : (count round : ℕ) → length (filter of_command (round_of count round)) ≡ in_round ((3 * round + count) % 8)
  unfolding in_round
  one_round count round =
      mapped count round (range_with_len 0 CLIENTS)
      ∙ ap length (filter_same (λ client. of_command (command_of count round client))
      (λ client. t client (slice_get sets ((7 * client + (3 * round + count) % 8) % 8)))
      (range_with_len 0 CLIENTS)
      (λ client i. ap (t client) (appended_by (slice_get sets (choice_of count client round))
      (choice_of count client round) client round
      ∙ ap (slice_get sets) (same_choice client round count))))

  -- the sum over rounds
  rounds_sum : ℕ → ℕ → ℕ → ℕ
  rounds_sum count a zero = 0
  rounds_sum count a (suc m) = in_round ((3 * a + count) % 8) + rounds_sum count (a + 1) m

  over_rounds : (count a m : ℕ) → length (filter of_command (flat_map (round_of count) (range_with_len a m))) ≡
      rounds_sum count a m
  unfolding rounds_sum
  over_rounds count a zero = refl
  over_rounds count a (suc m) =
      let rest = flat_map (round_of count) (range_with_len (a + 1) m) in
      let split = ap length (filter-append of_command (round_of count a) rest)
      ∙ length-append (filter of_command (round_of count a)) (filter of_command rest) in
      let one = one_round count a in
      let more = over_rounds count (a + 1) m in
      omega (arith, split, one, more)

  -- the number of each remainder in turn, where three are gone on each time
  abbrev in_eight : ℕ
  in_eight = in_round 0 + (in_round 1 + (in_round 2 + (in_round 3 +
      (in_round 4 + (in_round 5 + (in_round 6 + in_round 7))))))

  abbrev Turns : ℕ → Type 0
  Turns x = in_round (x % 8) + (in_round ((x + 3) % 8) + (in_round ((x + 6) % 8) + (in_round ((x + 9) % 8)
      + (in_round ((x + 12) % 8) + (in_round ((x + 15) % 8) +
      (in_round ((x + 18) % 8) + in_round ((x + 21) % 8))))))) ≡ in_eight

  turns : (x : ℕ) → x < 8 → Turns x
  turns zero lt = omega arith
  turns (suc zero) lt = omega arith
  turns (suc (suc zero)) lt = omega arith
  turns (suc (suc (suc zero))) lt = omega arith
  turns (suc (suc (suc (suc zero)))) lt = omega arith
  turns (suc (suc (suc (suc (suc zero))))) lt = omega arith
  turns (suc (suc (suc (suc (suc (suc zero)))))) lt = omega arith
  turns (suc (suc (suc (suc (suc (suc (suc zero))))))) lt = omega arith
  turns (suc (suc (suc (suc (suc (suc (suc (suc x)))))))) lt = absurd (let f : ⊥ = omega (arith, lt) in f)

  eight_more : (count a m : ℕ) → rounds_sum count a (suc (suc (suc (suc (suc (suc (suc (suc m)))))))) ≡ in_eight +
      rounds_sum count (a + 8) m
  unfolding rounds_sum
  eight_more count a m =
      let r0 = ap in_round (let e : (3 * a + count) % 8 ≡ ((3 * a + count) % 8) % 8 = omega arith in e) in
      let r1 = ap in_round (let e : (3 * (a + 1) + count) % 8 ≡ ((3 * a + count) % 8 + 3) % 8 = omega arith in e) in
      let r2 = ap in_round (let e : (3 * (a + 1 + 1) + count) % 8 ≡ ((3 * a + count) % 8 + 6) % 8 = omega arith in e) in
      let r3 = ap in_round (let e : (3 * (a + 1 + 1 + 1) + count) % 8 ≡ ((3 * a + count) % 8 + 9) % 8 = omega arith
      in e) in
      let r4 = ap in_round (let e : (3 * (a + 1 + 1 + 1 + 1) + count) % 8 ≡ ((3 * a + count) % 8 + 12) % 8 = omega
      arith in e) in
      let r5 = ap in_round (let e : (3 * (a + 1 + 1 + 1 + 1 + 1) + count) % 8 ≡ ((3 * a + count) % 8 + 15) % 8 =
      omega arith in e) in
      let r6 = ap in_round (let e : (3 * (a + 1 + 1 + 1 + 1 + 1 + 1) + count) % 8 ≡ ((3 * a + count) % 8 + 18) % 8 =
      omega arith in e) in
      let r7 = ap in_round (let e : (3 * (a + 1 + 1 + 1 + 1 + 1 + 1 + 1) + count) % 8 ≡ ((3 * a + count) % 8 + 21) %
      8 = omega arith in e) in
      let last = ap (λ b. rounds_sum count b m) (let e : a + 1 + 1 + 1 + 1 + 1 + 1 + 1 + 1 ≡ a + 8 = omega arith in
      e) in
      let all = turns ((3 * a + count) % 8) (omega arith) in
      omega (arith, r0, r1, r2, r3, r4, r5, r6, r7, last, all)

  -- what passes in so many times eight rounds
  eights : (g : ℕ → ℕ) → g 0 ≡ 0 → ((k : ℕ) → g (suc k) ≡ in_eight + g k) → (k count a : ℕ) → rounds_sum count a
      (8 * k) ≡ g k
  unfolding rounds_sum
  eights g none more zero count a = sym none
  eights g none more (suc k) count a =
      let e : 8 * suc k ≡ suc (suc (suc (suc (suc (suc (suc (suc (8 * k)))))))) = omega arith in
      let s = ap (rounds_sum count a) e in
      let m = eight_more count a (8 * k) in
      let r = eights g none more k count (a + 8) in
      let n = more k in
      omega (arith, s, m, r, n)

  of_eights : (g : ℕ → ℕ) → g 0 ≡ 0 → ((k : ℕ) → g (suc k) ≡ in_eight + g k) → (k : ℕ)
      → length (filter of_command (rounds_of (8 * k) (8 * k))) ≡ g k
  of_eights g none more k = over_rounds (8 * k) 0 (8 * k) ∙ eights g none more k (8 * k) 0

-- the tests that the summary counts
abbrev to_column : ℕ → ℕ → ℕ → Option Colours → Bool
to_column region colour client o = (home_by_turns client == region) && is_of_colour colour o

abbrev a_node : ℕ → Option Colours → Bool
a_node client o = is_node o

abbrev a_row : ℕ → Option Colours → Bool
a_row client o = is_of_row o

together : (count a b c d e f g h n r a' b' c' d' e' f' g' h' n' r' : ℕ) → a ≡ a' → b ≡ b' → c ≡ c' → d ≡ d' → e ≡ e'
    → f ≡ f'
    → g ≡ g' → h ≡ h' → n ≡ n' → r ≡ r'
    → ◌≡◌ {A = Summary} (record { count = count; lengths = a ∷ b ∷ c ∷ d ∷ e ∷ f ∷ g ∷ h ∷ []; nodes = n; rows = r })
    (record { count = count; lengths = a' ∷ b' ∷ c' ∷ d' ∷ e' ∷ f' ∷ g' ∷ h' ∷ []; nodes = n'; rows = r' })
together count a b c d e f g h n r a' b' c' d' e' f' g' h' n' r' x0 x1 x2 x3 x4 x5 x6 x7 x8 x9 = cc

-- in eight rounds so many pass
four_each : (t : ℕ → Option Colours → Bool) → in_eight t ≡ 4 → (k : ℕ) → length
    (filter (of_command t) (rounds_of (8 * k) (8 * k))) ≡ 4 * k
four_each t e = of_eights t (λ k. 4 * k) (omega arith) (λ k. omega (arith, e))

eight_each : (t : ℕ → Option Colours → Bool) → in_eight t ≡ 8 → (k : ℕ) → length
    (filter (of_command t) (rounds_of (8 * k) (8 * k))) ≡ 8 * k
eight_each t e = of_eights t (λ k. 8 * k) (omega arith) (λ k. omega (arith, e))

twelve_each : (t : ℕ → Option Colours → Bool) → in_eight t ≡ 12 → (k : ℕ) → length
    (filter (of_command t) (rounds_of (8 * k) (8 * k))) ≡ 12 * k
twelve_each t e = of_eights t (λ k. 12 * k) (omega arith) (λ k. omega (arith, e))

sixteen_each : (t : ℕ → Option Colours → Bool) → in_eight t ≡ 16 → (k : ℕ) → length
    (filter (of_command t) (rounds_of (8 * k) (8 * k))) ≡ 16 * k
sixteen_each t e = of_eights t (λ k. 16 * k) (omega arith) (λ k. omega (arith, e))

most_each : (t : ℕ → Option Colours → Bool) → in_eight t ≡ 48 → (k : ℕ) → length
    (filter (of_command t) (rounds_of (8 * k) (8 * k))) ≡ 48 * k
most_each t e = of_eights t (λ k. 48 * k) (omega arith) (λ k. omega (arith, e))

column_eight : (region : ℕ) → (region ≡ 0) ⊎ (region ≡ 1) → (in_eight (to_column region 0) ≡ 8) ×
    (in_eight (to_column region 1) ≡ 12)
    × (in_eight (to_column region 2) ≡ 8) × (in_eight (to_column region 3) ≡ 4)
unfolding in_round
column_eight region (inl e) = subst (λ r. (in_eight (to_column r 0) ≡ 8) × (in_eight (to_column r 1) ≡ 12)
    × (in_eight (to_column r 2) ≡ 8) × (in_eight (to_column r 3) ≡ 4)) (sym e) (refl, refl, refl, refl)
column_eight region (inr e) = subst (λ r. (in_eight (to_column r 0) ≡ 8) × (in_eight (to_column r 1) ≡ 12)
    × (in_eight (to_column r 2) ≡ 8) × (in_eight (to_column r 3) ≡ 4)) (sym e) (refl, refl, refl, refl)

node_eight : (in_eight a_node ≡ 48) × (in_eight a_row ≡ 16)
unfolding in_round
node_eight = (refl, refl)

pub loads_of_eights : LoadsOfEights
loads_of_eights k =
    let e = column_eight 0 (inl refl) in
    let w = column_eight 1 (inr refl) in
    together (8 * k) _ _ _ _ _ _ _ _ _ _ (8 * k) (12 * k) (8 * k) (4 * k) (8 * k) (12 * k) (8 * k) (4 * k) (48 * k)
    (16 * k)
    (eight_each (to_column 0 0) e.0 k) (twelve_each (to_column 0 1) e.1 k) (eight_each (to_column 0 2) e.2 k)
    (four_each (to_column 0 3) e.3 k)
    (eight_each (to_column 1 0) w.0 k) (twelve_each (to_column 1 1) w.1 k) (eight_each (to_column 1 2) w.2 k)
    (four_each (to_column 1 3) w.3 k)
    (most_each a_node node_eight.0 k) (sixteen_each a_row node_eight.1 k)
