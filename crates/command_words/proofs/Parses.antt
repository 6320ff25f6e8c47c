-- What the command of two words makes of plain words.
use Rattle.std.proofs.Common.{◌≡◌, ℕ, List, [], ◌∷◌, Bool, true, false, Option, Some, None, refl, ap, ap₂, subst, sym, ◌∙◌, codes, cond, not, ◌&&◌, is_some, option_map, inl, inr}
use Rattle.std.specs.List.{list_all}
use Rattle.std.specs.Str.{bytes_eq}
use Rattle.std.proofs.lemmas.Bool.{and_parts}
use Rattle.std.proofs.lemmas.Slice.Eq.{bytes_eq-Decides}
use Rattle.clap.proofs.WalkLemmas.{first_value-rows}
use Rattle.clap.specs.Matches.{first_value, found_of}
use Rattle.clap.specs.Values.{kind_of}
use Rattle.clap.specs.declared.error.Error.{Error}
use Rattle.clap.specs.declared.parser.matches.ArgMatches.{ArgMatches}
use Rattle.clap.specs.Simple.{App, HasMatchesOf, Shape, built, entered, is_simple, matches_of}
use Rattle.clap.specs.Kinds.{HasKind, IsAmong, Kinds, or_else}
use Rattle.clap.specs.Faults.{fault_of, is_simple_and_free, turn_fault, word_fault, step_fault, walk_fault, check_fault, defaults_fault, entered_fault, settle_fault, flag_word_fault, bundle_fault}
use Rattle.clap.specs.Walk.{Held, Rule, Step, Text, Walk, after_step, arg_by_index, finished, first_of, idle, long_or_other, nothing_held, settled, short_or_plain, to_positional, trailing, value, walk, walk_from, walked, word_met}
use Rattle.clap.specs.Lexer.{long_of, short_of}
use Rattle.std.specs.Option.{option_map_or}
use Rattle.clap.specs.declared.error.kind.ErrorKind.{ErrorKind}
use Rattle.clap.specs.declared.error.kind.ErrorKind.TheVariants as kind
use Rattle.clap.proofs.OnLiterals.{clap_on_literals}
use Rattle.command_words.specs.Inside.{two_words}
use Rattle.command_words.specs.Parting.{has_hyphen, is_plain_word, parted, texts_of}
use Rattle.command_words.specs.declared.words.Words.{Words}

pub simple : is_simple two_words ≡ true
unfolding clap_on_literals
simple = refl

pub simple_and_free : is_simple_and_free two_words ≡ true
unfolding clap_on_literals
simple_and_free = refl

-- the command as it is built, and its arguments
abbrev shape : Shape
shape = (built two_words).top

abbrev rules : List Rule
rules = shape.rules

-- ---- a word without a hyphen

no_dashes : (word : Text) → has_hyphen word ≡ false → bytes_eq word (45 ∷ 45 ∷ []) ≡ false
no_dashes word h = go (bytes_eq word (45 ∷ 45 ∷ [])) refl where
  go : (t : Bool) → bytes_eq word (45 ∷ 45 ∷ []) ≡ t → bytes_eq word (45 ∷ 45 ∷ []) ≡ false
  go true e =
      let same : word ≡ 45 ∷ 45 ∷ [] = (bytes_eq-Decides word (45 ∷ 45 ∷ [])).0 e in
      let bad : true ≡ false = sym (ap has_hyphen same) ∙ h in absurd (let f : ⊥ = cc (bad) in f)
  go false e = e

no_long : (word : Text) → has_hyphen word ≡ false → long_of word ≡ None
no_long [] h = refl
no_long (b ∷ bs) h = rw h refl

no_short : (word : Text) → has_hyphen word ≡ false → short_of word ≡ None
no_short [] h = refl
no_short (b ∷ bs) h = rw h refl

module _ (word : Text) (h : has_hyphen word ≡ false) where
  -- it is a value
  met : (position : ℕ) (held : Held) → word_met rules [] false idle position word held ≡ (held, value)
  met position held =
      ap (λ t. cond t (held, trailing position) (long_or_other rules idle word (long_of word) held)) (no_dashes word h)
      ∙ ap (λ o. long_or_other rules idle word o held) (no_long word h)
      ∙ ap (λ o. short_or_plain rules idle word o held) (no_short word h)

  -- and no fault by itself
  unfaulted : (held : Held) → word_fault shape [] false idle word held ≡ []
  unfaulted held =
      ap (λ t. cond t [] (flag_word_fault rules false (long_of word) word held)) (no_dashes word h)
      ∙ ap (λ o. flag_word_fault rules false o word held) (no_long word h)
      ∙ ap (λ o. option_map_or (λ flags. bundle_fault rules false flags held) o []) (no_short word h)

-- between two words, where nothing waits
abbrev between : Held → ℕ → Walk
between held position = record { held = held; waiting = idle; position = position; is_trailing = false; stopped = None }

module _ (held : Held) (position : ℕ) (word : Text) (h : has_hyphen word ≡ false) where
  walk_word : walked rules [] (between held position) word
      ≡ to_positional rules (arg_by_index rules position) word (between held position) held
  unfolding walked
  walk_word = ap (λ (m : Held × Step). after_step rules word (between held position) m.0 m.1) (met word h position held)

  word_fault_is : turn_fault shape [] (between held position) word ≡ step_fault shape position held value
  word_fault_is = ap₂ (λ (ks : Kinds) (m : Held × Step). or_else ks (step_fault shape position m.0 m.1))
      (unfaulted word h held) (met word h position held)

-- what is held after one word, and after two
abbrev one_held : Text → Held
one_held word = record { rows = []; pending = Some (codes "word", word ∷ []); skip = 0 }

abbrev two_held : Text → Text → Held
two_held word number = record (settled rules (one_held word)) { pending = Some (codes "number", number ∷ []) }

first_word : (word : Text) → has_hyphen word ≡ false → walked rules [] (walk_from nothing_held) word ≡ between (one_held word) 2
first_word word h = walk_word nothing_held 1 word h

second_word : (word number : Text) → has_hyphen number ≡ false
    → walked rules [] (between (one_held word) 2) number ≡ between (two_held word number) 3
second_word word number h = walk_word (one_held word) 2 number h

-- the faults after the walk
abbrev after_walk : Walk → Kinds
after_walk w = or_else (entered_fault (built two_words) w.stopped) (or_else (settle_fault rules false w.held)
    (or_else (defaults_fault (settled rules w.held).rows rules)
    (check_fault shape (finished rules w.held) (is_some (entered (built two_words) w.stopped)))))

abbrev all_faults : List Text → Kinds
all_faults words =
    or_else (walk_fault shape [] (walk_from nothing_held) words) (after_walk (walk rules [] nothing_held words))

none_fault : fault_of two_words [] ≡ kind.MissingRequiredArgument ∷ []
unfolding clap_on_literals
none_fault = refl

module _ (word : Text) (h : has_hyphen word ≡ false) where
  one_walk : walk rules [] nothing_held (word ∷ []) ≡ between (one_held word) 2
  one_walk = first_word word h

  one_walk_fault : walk_fault shape [] (walk_from nothing_held) (word ∷ []) ≡ []
  unfolding walk_fault
  one_walk_fault = ap (λ ks. or_else ks []) (word_fault_is nothing_held 1 word h)

  one_after : after_walk (between (one_held word) 2) ≡ []
  unfolding clap_on_literals
  one_after = refl

  one_fault : fault_of two_words (word ∷ []) ≡ []
  one_fault = ap₂ (λ (ks : Kinds) (w : Walk). or_else ks (after_walk w)) one_walk_fault one_walk ∙ one_after

  one_found : first_of (codes "word") (matches_of two_words (word ∷ [])) ≡ Some word
  one_found = ap (λ (w : Walk). first_of (codes "word") (finished rules w.held)) one_walk

  one_alone : first_of (codes "number") (matches_of two_words (word ∷ [])) ≡ None
  one_alone = ap (λ (w : Walk). first_of (codes "number") (finished rules w.held)) one_walk

module _ (word number : Text) (h : has_hyphen word ≡ false) (g : has_hyphen number ≡ false) where
  two_walk : walk rules [] nothing_held (word ∷ number ∷ []) ≡ between (two_held word number) 3
  two_walk = ap (λ (w : Walk). walked rules [] w number) (first_word word h) ∙ second_word word number g

  -- no fault by the first two words, whatever follows
  two_walk_fault : (words : List Text) → walk_fault shape [] (walk_from nothing_held) (word ∷ number ∷ words)
      ≡ walk_fault shape [] (between (two_held word number) 3) words
  unfolding walk_fault
  two_walk_fault words =
      ap₂ (λ (ks : Kinds) (w : Walk). or_else ks (or_else (turn_fault shape [] w number)
      (walk_fault shape [] (walked rules [] w number) words)))
      (word_fault_is nothing_held 1 word h) (first_word word h)
      ∙ ap₂ (λ (ks : Kinds) (w : Walk). or_else ks (walk_fault shape [] w words))
      (word_fault_is (one_held word) 2 number g) (second_word word number g)

  two_end : walk_fault shape [] (between (two_held word number) 3) [] ≡ []
  unfolding walk_fault
  two_end = refl

  two_after : after_walk (between (two_held word number) 3) ≡ []
  unfolding clap_on_literals
  two_after = refl

  two_fault : fault_of two_words (word ∷ number ∷ []) ≡ []
  two_fault = ap₂ (λ (ks : Kinds) (w : Walk). or_else ks (after_walk w)) (two_walk_fault [] ∙ two_end) two_walk ∙ two_after

  two_found : first_of (codes "word") (matches_of two_words (word ∷ number ∷ [])) ≡ Some word
  two_found = ap (λ (w : Walk). first_of (codes "word") (finished rules w.held)) two_walk

  two_number : first_of (codes "number") (matches_of two_words (word ∷ number ∷ [])) ≡ Some number
  two_number = ap (λ (w : Walk). first_of (codes "number") (finished rules w.held)) two_walk

  third_fault : (other : Text) (words : List Text) → has_hyphen other ≡ false
      → walk_fault shape [] (between (two_held word number) 3) (other ∷ words) ≡ kind.UnknownArgument ∷ []
  unfolding walk_fault
  third_fault other words f =
      ap (λ (ks : Kinds). or_else ks (walk_fault shape [] (walked rules [] (between (two_held word number) 3) other) words))
      (word_fault_is (two_held word number) 3 other f)

  three_fault : (other : Text) (words : List Text) → has_hyphen other ≡ false
      → fault_of two_words (word ∷ number ∷ other ∷ words) ≡ kind.UnknownArgument ∷ []
  three_fault other words f = ap (λ (ks : Kinds). or_else ks
      (after_walk (walk rules [] nothing_held (word ∷ number ∷ other ∷ words))))
      (two_walk_fault (other ∷ words) ∙ third_fault other words f)

-- ---- what is found, and what is not

unhyphened : (word : Text) → is_plain_word word ≡ true → has_hyphen word ≡ false
unhyphened word p = go (has_hyphen word) (and_parts (not (has_hyphen word)) (not (bytes_eq word (codes "help"))) p).0 where
  go : (t : Bool) → not t ≡ true → t ≡ false
  go true e = absurd (let f : ⊥ = cc (e) in f)
  go false e = refl

module _ (word : Text) (words : List Text) (all : list_all is_plain_word (word ∷ words) ≡ true) where
  first_plain : is_plain_word word ≡ true
  first_plain = (and_parts (is_plain_word word) (list_all is_plain_word words) all).0

  others_plain : list_all is_plain_word words ≡ true
  others_plain = (and_parts (is_plain_word word) (list_all is_plain_word words) all).1

-- Where the words have no fault, the first of them is found, with the other if there is one.
pub parts_found : (words : List Text) → list_all is_plain_word words ≡ true → fault_of two_words words ≡ []
    → (word : Text) × (first_of (codes "word") (matches_of two_words words) ≡ Some word)
    × (Some (word, first_of (codes "number") (matches_of two_words words)) ≡ parted words)
parts_found [] all fault = absurd (let f : ⊥ = cc (sym none_fault ∙ fault) in f)
parts_found (word ∷ []) all fault =
    let p = first_plain word [] all in let h = unhyphened word p in (
      word,
      one_found word h,
      ap (λ (o : Option Text). Some (word, o)) (one_alone word h)
          ∙ sym (ap (λ (t : Bool). cond t (Some (word, None)) None) p),
    )
parts_found (word ∷ number ∷ []) all fault =
    let p = first_plain word (number ∷ []) all in
    let q = first_plain number [] (others_plain word (number ∷ []) all) in
    let h = unhyphened word p in let g = unhyphened number q in (
      word,
      two_found word number h g,
      ap (λ (o : Option Text). Some (word, o)) (two_number word number h g)
          ∙ sym (ap₂ (λ (s t : Bool). cond (s && t) (Some (word, Some number)) None) p q),
    )
parts_found (word ∷ number ∷ other ∷ words) all fault =
    let rest = others_plain word (number ∷ other ∷ words) all in
    let last = others_plain number (other ∷ words) rest in
    let bad = three_fault word number (unhyphened word (first_plain word (number ∷ other ∷ words) all))
    (unhyphened number (first_plain number (other ∷ words) rest)) other words
    (unhyphened other (first_plain other words last)) in
    absurd (let f : ⊥ = cc (sym bad ∙ fault) in f)

-- Words with a fault are none.
pub parts_missing : (words : List Text) → list_all is_plain_word words ≡ true → (k : ErrorKind)
    → IsAmong k (fault_of two_words words) → None ≡ parted words
parts_missing [] all k among = refl
parts_missing (word ∷ []) all k among =
    absurd (subst (IsAmong k) (one_fault word (unhyphened word (first_plain word [] all))) among)
parts_missing (word ∷ number ∷ []) all k among =
    let p = first_plain word (number ∷ []) all in
    let q = first_plain number [] (others_plain word (number ∷ []) all) in
    absurd (subst (IsAmong k) (two_fault word number (unhyphened word p) (unhyphened number q)) among)
parts_missing (word ∷ number ∷ other ∷ words) all k among = refl

-- ---- the two outcomes of a parse

module _ (a : App) (same : a ≡ two_words) (words : List Text) (all : list_all is_plain_word words ≡ true) where
  -- the words that a parse found are the parts
  pub found_words : (is_simple_and_free a ≡ true → fault_of a words ≡ []) → (m : ArgMatches) → HasMatchesOf a words m
      → (found : Option Words) → option_map texts_of found ≡ option_map
      (λ word. (word, first_value (found_of m) (codes "number"))) (first_value (found_of m) (codes "word"))
      → option_map texts_of found ≡ parted words
  found_words unfaulted m h found is =
      let rows = (h (ap is_simple same ∙ simple)).0 ∙ ap (λ (b : App). matches_of b words) same in
      let value : (id : Text) → first_value (found_of m) id ≡ first_of id (matches_of two_words words) =
      λ id. first_value-rows (found_of m) id ∙ ap (first_of id) rows in
      let p = parts_found words all (sym (ap (λ (b : App). fault_of b words) same)
      ∙ unfaulted (ap is_simple_and_free same ∙ simple_and_free)) in
      is ∙ (ap₂ (λ (n w : Option Text). option_map (λ word. (word, n)) w) (value (codes "number"))
      (value (codes "word") ∙ p.1) ∙ p.2)

  -- a parse that failed for the words found none
  pub no_words : (e : Error) → (is_simple_and_free a ≡ true → HasKind (fault_of a words) e)
      → (kind_of e ≡ kind.OutOfMemory → ⊥) → None ≡ parted words
  no_words e fails other = elim (fails (ap is_simple_and_free same ∙ simple_and_free)) [
    | inl memory ↦ absurd (other memory)
    | inr among ↦ parts_missing words all (kind_of e)
        (subst (λ (b : App). IsAmong (kind_of e) (fault_of b words)) same among)
  ]
