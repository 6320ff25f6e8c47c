-- The number of rounds that a word is.
use Rattle.std.proofs.Common.{◌≡◌, ℕ, ◌+◌, ◌*◌, ◌-◌, ◌^◌, ◌<◌, ◌≤◌, Bool, true, false, cond, leb, ◌&&◌, List, [], ◌∷◌, length, get_or}
use Rattle.std.proofs.Common.{Option, Some, None, Result, Ok, Err, refl, ap, ap₂, sym, subst, ◌∙◌, ◌==◌, arith, rules}
use Rattle.std.specs.Prelude.{codes}
use Rattle.std.specs.List.{list_all, fold}
use Rattle.std.specs.Option.{option_map}
use Rattle.std.specs.Prelude.{option_and_then}
use Rattle.command_words.specs.Parting.{is_plain_word, parted}
use Rattle.std.specs.Str.{bytes_eq}
use Rattle.std.specs.Str.Parse.{ParsesUnsigned}
use Rattle.std.specs.Result.{OkIff}
use Rattle.std.proofs.lemmas.Bool.{and_parts, leb-true, le-leb, eqb-true}
use Rattle.std.proofs.lemmas.Slice.Eq.{bytes_eq-Decides}
use Rattle.std.proofs.lemmas.Result.{OkIff-at_ok, OkIff-at_err}
use Rattle.std.proofs.lemmas.Str.Parse.{IsNumeralModel, numerals_by_fold, parse_plain}
use Rattle.script_text.specs.Pieces.{is_between, is_digit, number_value}
use Rattle.load_script.specs.declared.script.TheConstants.{MAX_LOAD}
use Rattle.run_script.specs.declared.asked.Task.{Task}
use Rattle.run_script.specs.declared.asked.Task.TheVariants as tasks
use Rattle.run_script.specs.Words.{rounds_asked, task_by, task_of}

-- digits read from the left, after a number
abbrev read_on : ℕ → List ℕ → ℕ
read_on n ds = fold (λ m b. 10 * m + (b - 48)) n ds

-- `is_digit` and `number_value` are what a numeral is
own : IsNumeralModel (λ ds. list_all is_digit ds ≡ true) number_value
own = numerals_by_fold (λ ds. list_all is_digit ds ≡ true) (search rules) read_on (search rules)

-- a digit that is no 0
high_digit : (b : ℕ) → is_between 49 57 b ≡ true → is_digit b ≡ true
high_digit b t =
    let p = and_parts (leb 49 b) (leb b 57) t in
    let le = leb-true 49 b p.0 in
    rw (le-leb 48 b (omega (arith, le)), p.1) refl

none_if : (t : Bool) (n : ℕ) → (t ≡ true → ⊥) → cond t (Some n) None ≡ None
none_if true n f = absurd (f refl)
none_if false n f = refl

-- digits of a number that is not too large are a number of rounds
is_asked : (word : List ℕ) → 49 ≤ get_or word 0 0 → get_or word 0 0 ≤ 57 → list_all is_digit word ≡ true
    → number_value word ≤ MAX_LOAD → Some (number_value word) ≡ rounds_asked word
is_asked [] low high digits le = absurd (omega (arith, low))
is_asked (b ∷ bs) low high digits le =
    let d = and_parts (is_digit b) (list_all is_digit bs) digits in
    rw (le-leb 49 b low, le-leb b 57 high, d.1, le-leb (number_value (b ∷ bs)) MAX_LOAD le) refl

-- no other word is
is_not_asked : (word : List ℕ) → (list_all is_digit word ≡ true → number_value word ≤ MAX_LOAD → ⊥) → None ≡ rounds_asked word
is_not_asked [] f = refl
is_not_asked (b ∷ bs) f = sym (none_if _ (number_value (b ∷ bs)) (λ t.
    let n = number_value (b ∷ bs) in
    let p = and_parts (is_between 49 57 b && list_all is_digit bs) (leb n MAX_LOAD) t in
    let q = and_parts (is_between 49 57 b) (list_all is_digit bs) p.0 in
    f (rw (high_digit b q.0, q.1) refl) (leb-true n MAX_LOAD p.1)))

module _ {E : Type 0} (word : List ℕ) (r : Result ℕ E) (begins : is_between 49 57 (get_or word 0 0) ≡ true)
    (parses : ParsesUnsigned 32 10 word r) where
  low : 49 ≤ get_or word 0 0
  low = leb-true 49 (get_or word 0 0) (and_parts (leb 49 (get_or word 0 0)) (leb (get_or word 0 0) 57) begins).0

  high : get_or word 0 0 ≤ 57
  high = leb-true (get_or word 0 0) 57 (and_parts (leb 49 (get_or word 0 0)) (leb (get_or word 0 0) 57) begins).1

  parsed : OkIff r ((list_all is_digit word ≡ true) × (0 < length word) × (number_value word < 2 ^ 32)) (number_value word)
  parsed = parse_plain own 32 word r parses (λ e. omega (arith, low, e))

  pub rounds_found : (count : ℕ) → r ≡ Ok count → count ≤ MAX_LOAD → Some count ≡ rounds_asked word
  rounds_found count ok le =
      let p = OkIff-at_ok r _ _ count parsed ok in
      subst (λ n. Some n ≡ rounds_asked word) (sym p.1)
      (is_asked word low high p.0.0 (subst (λ n. n ≤ MAX_LOAD) p.1 le))

  pub rounds_too_many : (count : ℕ) → r ≡ Ok count → MAX_LOAD < count → None ≡ rounds_asked word
  rounds_too_many count ok many =
      let p = OkIff-at_ok r _ _ count parsed ok in
      is_not_asked word (λ d le. let less = subst (λ n. n ≤ MAX_LOAD) (sym p.1) le in omega (arith, many, less))

  pub rounds_unread : (e : E) → r ≡ Err e → None ≡ rounds_asked word
  rounds_unread e err = is_not_asked word (λ d le. OkIff-at_err r _ _ e parsed err (d, some word low, omega (arith, le))) where
    some : (word : List ℕ) → 49 ≤ get_or word 0 0 → 0 < length word
    some [] l = absurd (omega (arith, l))
    some (b ∷ bs) l = omega arith

-- ---- the words that ask for something are plain

-- a word that is not plain is none of these
not_as : (word plain : List ℕ) → is_plain_word word ≡ false → is_plain_word plain ≡ true → bytes_eq word plain ≡ false
not_as word plain odd even = go (bytes_eq word plain) refl where
  go : (t : Bool) → bytes_eq word plain ≡ t → bytes_eq word plain ≡ false
  go true e =
      let same : word ≡ plain = (bytes_eq-Decides word plain).0 e in
      let bad : true ≡ false = sym even ∙ (sym (ap is_plain_word same) ∙ odd) in absurd (let f : ⊥ = cc (bad) in f)
  go false e = e

odd_asks_nothing : (word : List ℕ) → is_plain_word word ≡ false → task_by (word, None) ≡ None
odd_asks_nothing word odd =
    rw (not_as word (codes "check") odd refl, not_as word (codes "step") odd refl, not_as word (codes "run") odd refl) refl

-- a number of rounds is plain
odd_rounds : (word : List ℕ) → is_plain_word word ≡ false → rounds_asked word ≡ None
odd_rounds [] odd = refl
odd_rounds (b ∷ bs) odd = none_if _ (number_value (b ∷ bs)) (λ t.
    let n = number_value (b ∷ bs) in
    let p = (and_parts (is_between 49 57 b && list_all is_digit bs) (leb n MAX_LOAD) t).0 in
    let q = (and_parts (is_between 49 57 b) (list_all is_digit bs) p).0 in
    let low = leb-true 49 b (and_parts (leb 49 b) (leb b 57) q).0 in
    let high = leb-true b 57 (and_parts (leb 49 b) (leb b 57) q).1 in
    let hyphen : (b == 45) ≡ false = no_hyphen b low in
    let help : bytes_eq (b ∷ bs) (codes "help") ≡ false = not_help b bs high in
    let plain : is_plain_word (b ∷ bs) ≡ true = rw (hyphen, help) refl in
    let f : ⊥ = cc (plain, odd) in f) where
      no_hyphen : (b : ℕ) → 49 ≤ b → (b == 45) ≡ false
      no_hyphen b low = go (b == 45) refl where
        go : (t : Bool) → (b == 45) ≡ t → (b == 45) ≡ false
        go true e = absurd (let same = eqb-true b 45 e in omega (arith, low, same))
        go false e = e

      not_help : (b : ℕ) (bs : List ℕ) → b ≤ 57 → bytes_eq (b ∷ bs) (codes "help") ≡ false
      not_help b bs high = go (bytes_eq (b ∷ bs) (codes "help")) refl where
        go : (t : Bool) → bytes_eq (b ∷ bs) (codes "help") ≡ t → bytes_eq (b ∷ bs) (codes "help") ≡ false
        go true e =
            let same : b ∷ bs ≡ codes "help" = (bytes_eq-Decides (b ∷ bs) (codes "help")).0 e in
            let first : b ≡ 104 = ap (λ l. get_or l 0 0) same in absurd (omega (arith, high, first))
        go false e = e

-- what the parts of the words ask for is what the words ask for
pub task_parted : (words : List (List ℕ)) → option_and_then task_by (parted words) ≡ task_of words
task_parted [] = refl
task_parted (word ∷ []) = go (is_plain_word word) refl where
  go : (t : Bool) → is_plain_word word ≡ t → option_and_then task_by (parted (word ∷ [])) ≡ task_of (word ∷ [])
  go true p = ap (λ t. option_and_then task_by (cond t (Some (word, None)) None)) p
  go false p = ap (λ t. option_and_then task_by (cond t (Some (word, None)) None)) p ∙ sym (odd_asks_nothing word p)
task_parted (word ∷ number ∷ []) = go (is_plain_word word) (is_plain_word number) refl refl where
  parts : (s t : Bool) → is_plain_word word ≡ s → is_plain_word number ≡ t → option_and_then task_by (parted (word ∷ number ∷ []))
      ≡ option_and_then task_by (cond (s && t) (Some (word, Some number)) None)
  parts s t p q = ap₂ (λ s t. option_and_then task_by (cond (s && t) (Some (word, Some number)) None)) p q

  none : (t : Bool) → cond t None None ≡ (let n : Option Task = None in n)
  none true = refl
  none false = refl

  go : (s t : Bool) → is_plain_word word ≡ s → is_plain_word number ≡ t
      → option_and_then task_by (parted (word ∷ number ∷ [])) ≡ task_of (word ∷ number ∷ [])
  go true true p q = parts true true p q
  go true false p q = parts true false p q ∙ (sym (none (bytes_eq word (codes "load")))
      ∙ sym (ap (λ o. cond (bytes_eq word (codes "load")) (option_map tasks.Load o) None) (odd_rounds number q)))
  go false t p q = parts false t p q
      ∙ sym (ap (λ t. cond t (option_map tasks.Load (rounds_asked number)) None) (not_as word (codes "load") p refl))
task_parted (word ∷ number ∷ other ∷ words) = refl
