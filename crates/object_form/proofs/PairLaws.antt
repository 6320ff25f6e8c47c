-- Pairs: what is written of them is read as them, and what is read as pairs is written of them.
use Rattle.std.proofs.Common.{◌≡◌, ℕ, ◌<◌, true, false, ◌&&◌, eqb, leb, List, [], ◌∷◌, length, map, refl, ap, ◌∙◌, arith}
use Rattle.std.specs.List.{list_all, join_with_byte, AllByRecursion}
use Rattle.std.proofs.lemmas.Bool.{and_parts, leb-true}
use Rattle.std.proofs.lemmas.List.Elements.{All-from_recursion}
use Rattle.std.proofs.lemmas.List.Splits.{slice_split_none, slice_split_at, join_with_byte-slice_split, length-slice_split}
use Rattle.log_node.specs.declared.forms.Pair.{Pair}
use Rattle.object_form.specs.Forms.{comma, equals, is_letter_or_digit, is_word, pair_text}
use Rattle.object_form.specs.Readings.{before, after, parts, is_pair, pair_of}
use Rattle.object_form.proofs.CutLemmas.{Lacks, lacks_append, word_lacks, before_cut, after_cut, cut_back}

-- no piece has the sign
abbrev pub AllLack : ℕ → List (List ℕ) → Type 0
AllLack sign pieces = AllByRecursion (Lacks sign) pieces

-- what is joined by commas is parted at them
pub parts_joined : (x : List ℕ) (xs : List (List ℕ)) → Lacks comma x → AllLack comma xs → parts (join_with_byte comma (x ∷ xs)) ≡ x ∷ xs
parts_joined x [] h k =
    let P : ℕ → Type 0 = λ b. eqb b comma ≡ false in
    slice_split_none (λ b. eqb b comma) x (All-from_recursion P x h)
parts_joined x (y ∷ ys) h k =
    let P : ℕ → Type 0 = λ b. eqb b comma ≡ false in
    slice_split_at (λ b. eqb b comma) x comma (join_with_byte comma (y ∷ ys)) (All-from_recursion P x h) refl
    ∙ ap (λ ps. x ∷ ps) (parts_joined y ys k.0 k.1)

-- and what is parted at commas is joined again
pub joined_parts : (bs : List ℕ) → join_with_byte comma (parts bs) ≡ bs
joined_parts bs = join_with_byte-slice_split comma bs

-- a sign other than the comma that no piece has
pub joined_lacks : (sign : ℕ) (xs : List (List ℕ)) → eqb comma sign ≡ false → AllLack sign xs → Lacks sign (join_with_byte comma xs)
joined_lacks sign [] e h = tt
joined_lacks sign (x ∷ []) e h = h.0
joined_lacks sign (x ∷ y ∷ ys) e h = lacks_append sign x (comma ∷ join_with_byte comma (y ∷ ys)) h.0 (e, joined_lacks sign (y ∷ ys) e h.1)

-- there is always a part
pub some_part : (bs : List ℕ) → 0 < length (parts bs)
some_part bs = omega (arith, length-slice_split (λ b. eqb b comma) bs)

-- a word has a byte
pub word_some : (bs : List ℕ) → is_word bs ≡ true → 0 < length bs
word_some bs h =
    let size = and_parts (leb 1 (length bs) && leb (length bs) 16) (list_all is_letter_or_digit bs) h in
    let least = and_parts (leb 1 (length bs)) (leb (length bs) 16) size.0 in
    let some = leb-true 1 (length bs) least.0 in
    omega arith

pub pair_back : (bs : List ℕ) → is_pair bs ≡ true → pair_text (pair_of bs) ≡ bs
pair_back bs h =
    let words = and_parts (is_word (before equals bs)) (is_word (after equals bs)) h in
    cut_back equals bs (word_some (after equals bs) words.1)

pub pairs_back : (pieces : List (List ℕ)) → list_all is_pair pieces ≡ true → map pair_text (map pair_of pieces) ≡ pieces
pairs_back [] h = refl
pairs_back (x ∷ xs) h =
    let each = and_parts (is_pair x) (list_all is_pair xs) h in
    rw (pair_back x each.0, pairs_back xs each.1) refl

-- what is read of the texts of pairs
pub record PairsRead (pairs : List Pair) : Type 0 where
  pub all : list_all is_pair (map pair_text pairs) ≡ true
  pub same : map pair_of (map pair_text pairs) ≡ pairs
  pub keys : map (before equals) (map pair_text pairs) ≡ map (λ pair. pair.key) pairs
  pub lack : AllLack comma (map pair_text pairs)

pub pairs_read : (pairs : List Pair) → list_all (λ pair. is_word pair.key) pairs ≡ true → list_all (λ pair. is_word pair.value) pairs ≡ true → PairsRead pairs
pairs_read [] keys values = record { all = refl; same = refl; keys = refl; lack = tt }
pairs_read (p ∷ ps) keys values =
    let k = and_parts (is_word p.key) (list_all (λ (pair : Pair). is_word pair.key) ps) keys in
    let v = and_parts (is_word p.value) (list_all (λ (pair : Pair). is_word pair.value) ps) values in
    let front = before_cut equals p.key p.value (word_lacks equals p.key refl k.0) in
    let rest = after_cut equals p.key p.value (word_lacks equals p.key refl k.0) in
    let later = pairs_read ps k.1 v.1 in
    let pair : pair_of (pair_text p) ≡ p = rw (front, rest) refl in
    record {
      all = rw (front, rest, k.0, v.0) later.all;
      same = rw (pair, later.same) refl;
      keys = rw (front, later.keys) refl;
      lack = (lacks_append comma p.key (equals ∷ p.value) (word_lacks comma p.key refl k.0) (refl, word_lacks comma p.value refl v.0), later.lack);
    }
