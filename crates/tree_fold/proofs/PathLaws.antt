-- The texts of paths: what is written of a path is read as it, and what is read as a path is written of it.
use Rattle.std.proofs.Common.{◌≡◌, ℕ, ◌*◌, ◌<◌, ◌≤◌, ◌↔◌, true, false, ◌&&◌, eqb, leb, cond, List, [], ◌∷◌, ◌++◌, length, Option, Some, None, inl, inr, refl, ap, sym, subst, ◌∙◌, arith, length-append}
use Rattle.std.specs.List.{list_all, flat_map, join_with_byte}
use Rattle.std.proofs.lemmas.Bool.{and_parts, cases_Bool, eqb-true, leb-true, le-leb}
use Rattle.std.proofs.lemmas.List.{append-nil}
use Rattle.std.proofs.lemmas.List.Elements.{All-from_recursion}
use Rattle.std.proofs.lemmas.List.Splits.{slice_split_none, slice_split_at, join_with_byte-slice_split, length-slice_split}
use Rattle.object_form.specs.Forms.{is_letter_or_digit}
use Rattle.object_form.proofs.CallerLemmas.{Lacks, lacks_append, lacks_by}
use Rattle.tree_fold.specs.Paths.{Path, slash, is_name, is_path, is_below_root, path_text, HasPathText}
use Rattle.tree_fold.specs.Readings.{names_in, path_behind, path_of, below_root, below_root_of}

-- ---- names

pub record IsName (bytes : List ℕ) : Type 0 where
  pub some : 1 ≤ length bytes
  pub few : length bytes ≤ 8
  pub signs : list_all is_letter_or_digit bytes ≡ true

pub name_parts : (bytes : List ℕ) → is_name bytes ≡ true → IsName bytes
name_parts bytes h =
    let all = and_parts (leb 1 (length bytes) && leb (length bytes) 8) (list_all is_letter_or_digit bytes) h in
    let size = and_parts (leb 1 (length bytes)) (leb (length bytes) 8) all.0 in
    record { some = leb-true 1 (length bytes) size.0; few = leb-true (length bytes) 8 size.1; signs = all.1 }

pub path_parts : (path : Path) → is_path path ≡ true → (length path ≤ 4) × (list_all is_name path ≡ true)
path_parts path h =
    let both = and_parts (leb (length path) 4) (list_all is_name path) h in
    (leb-true (length path) 4 both.0, both.1)

pub below_parts : (path : Path) → is_below_root path ≡ true → (1 ≤ length path) × (is_path path ≡ true)
below_parts path h =
    let both = and_parts (leb 1 (length path)) (is_path path) h in
    (leb-true 1 (length path) both.0, both.1)

-- ---- what is written is read

-- the text of a path with names, as names joined by slashes
pub text_joined : (name : List ℕ) (names : Path) → path_text (name ∷ names) ≡ slash ∷ join_with_byte slash (name ∷ names)
text_joined name [] = ap (λ t. slash ∷ t) (append-nil name)
text_joined name (other ∷ names) = ap (λ t. slash ∷ name ++ t) (text_joined other names)

names_split : (name : List ℕ) (names : Path) → list_all is_name (name ∷ names) ≡ true → names_in (join_with_byte slash (name ∷ names)) ≡ name ∷ names
names_split name [] all =
    let P : ℕ → Type 0 = λ b. eqb b slash ≡ false in
    let one = (and_parts (is_name name) true all).0 in
    slice_split_none (λ b. eqb b slash) name (All-from_recursion P name (lacks_by is_letter_or_digit slash refl name (name_parts name one).signs))
names_split name (other ∷ names) all =
    let P : ℕ → Type 0 = λ b. eqb b slash ≡ false in
    let each = and_parts (is_name name) (list_all is_name (other ∷ names)) all in
    slice_split_at (λ b. eqb b slash) name slash (join_with_byte slash (other ∷ names))
    (All-from_recursion P name (lacks_by is_letter_or_digit slash refl name (name_parts name each.0).signs)) refl
    ∙ ap (λ ns. name ∷ ns) (names_split other names each.1)

-- of some bytes
behind_some : (bytes : List ℕ) → 0 < length bytes → path_behind bytes ≡ cond (is_path (names_in bytes)) (Some (names_in bytes)) None
behind_some [] some = absurd (omega arith)
behind_some (b ∷ bs) some = refl

joined_some : (name : List ℕ) (names : Path) → 0 < length name → 0 < length (join_with_byte slash (name ∷ names))
joined_some [] names some = absurd (omega arith)
joined_some (b ∷ bs) [] some = some
joined_some (b ∷ bs) (other ∷ names) some = omega arith

pub path_read : (path : Path) → is_path path ≡ true → path_of (path_text path) ≡ Some path
path_read [] h = refl
path_read (name ∷ names) h =
    let all = (path_parts (name ∷ names) h).1 in
    let one = name_parts name (and_parts (is_name name) (list_all is_name names) all).0 in
    let text = join_with_byte slash (name ∷ names) in
    let split : names_in text ≡ name ∷ names = names_split name names all in
    ap path_of (text_joined name names) ∙ behind_some text (joined_some name names (omega (arith, one.some)))
    ∙ ap (λ (p : Path). cond (is_path p) (Some p) None) split ∙ rw h refl

-- ---- what is read is written

names_text : (names : Path) → 0 < length names → path_text names ≡ slash ∷ join_with_byte slash names
names_text [] some = absurd (omega arith)
names_text (name ∷ names) some = text_joined name names

behind_back : (bytes : List ℕ) (path : Path) → path_behind bytes ≡ Some path → HasPathText path (slash ∷ bytes)
behind_back [] path e =
    let root : [] ≡ path = cc in
    let P : Path → Type 0 = λ p. HasPathText p (slash ∷ []) in
    subst P root (refl, refl)
behind_back (b ∷ bs) path e = elim (cases_Bool (is_path (names_in (b ∷ bs)))) [
  | inl lawful ↦
      let found = rw lawful at e in
      let is : names_in (b ∷ bs) ≡ path = cc in
      let P : Path → Type 0 = λ p. HasPathText p (slash ∷ b ∷ bs) in
      let some : 0 < length (names_in (b ∷ bs)) = omega (arith, length-slice_split (λ c. eqb c slash) (b ∷ bs)) in
      subst P is (lawful, names_text (names_in (b ∷ bs)) some ∙ ap (λ t. slash ∷ t) (join_with_byte-slice_split slash (b ∷ bs)))
  | inr other ↦ let found = rw other at e in absurd cc
]

pub path_back : (bytes : List ℕ) (path : Path) → path_of bytes ≡ Some path → HasPathText path bytes
path_back [] path e = absurd cc
path_back (b ∷ bs) path e = elim (cases_Bool (eqb b slash)) [
  | inl here ↦ rw (eqb-true b slash here) (behind_back bs path (rw here at e))
  | inr other ↦ let found = rw other at e in absurd cc
]

pub paths_read_as_one : (bytes : List ℕ) (path : Path) → HasPathText path bytes ↔ (path_of bytes ≡ Some path)
paths_read_as_one bytes path = (λ h. ap path_of (sym h.1) ∙ path_read path h.0, path_back bytes path)

-- ---- below the root

pub below_read : (path : Path) → is_below_root path ≡ true → below_root_of (path_text path) ≡ Some path
below_read path h =
    let both = below_parts path h in
    ap below_root (path_read path both.1) ∙ same path both.0 where
      same : (p : Path) → 1 ≤ length p → below_root (Some p) ≡ Some p
      same [] some = absurd (omega arith)
      same (n ∷ ns) some = refl

below_is : (o : Option Path) (path : Path) → below_root o ≡ Some path → (o ≡ Some path) × (1 ≤ length path)
below_is None path e = absurd cc
below_is (Some []) path e = absurd cc
below_is (Some (n ∷ ns)) path e =
    let is : n ∷ ns ≡ path = cc in
    (ap (λ (p : Path). Some p) is, let P : Path → Type 0 = λ p. 1 ≤ length p in subst P is (omega arith))

pub below_back : (bytes : List ℕ) (path : Path) → below_root_of bytes ≡ Some path → (is_below_root path ≡ true) × (path_text path ≡ bytes)
below_back bytes path e =
    let found = below_is (path_of bytes) path e in
    let has = path_back bytes path found.0 in
    (rw (le-leb 1 (length path) found.1) has.0, has.1)

-- ---- signs and lengths of a text

names_lack : (sign : ℕ) (names : Path) → is_letter_or_digit sign ≡ false → eqb slash sign ≡ false → list_all is_name names ≡ true → Lacks sign (flat_map (λ n. slash ∷ n) names)
names_lack sign [] fails other all = tt
names_lack sign (name ∷ names) fails other all =
    let each = and_parts (is_name name) (list_all is_name names) all in
    (other, lacks_append sign name (flat_map (λ n. slash ∷ n) names) (lacks_by is_letter_or_digit sign fails name (name_parts name each.0).signs) (names_lack sign names fails other each.1))

pub path_lacks : (sign : ℕ) (path : Path) → is_letter_or_digit sign ≡ false → eqb slash sign ≡ false → is_path path ≡ true → Lacks sign (path_text path)
path_lacks sign [] fails other h = (other, tt)
path_lacks sign (name ∷ names) fails other h = names_lack sign (name ∷ names) fails other (path_parts (name ∷ names) h).1

names_size : (names : Path) → list_all is_name names ≡ true → length (flat_map (λ n. slash ∷ n) names) ≤ 9 * length names
names_size [] all = omega arith
names_size (name ∷ names) all =
    let each = and_parts (is_name name) (list_all is_name names) all in
    let one = name_parts name each.0 in
    let later = names_size names each.1 in
    omega (arith, length-append name (flat_map (λ n. slash ∷ n) names), one.few)

pub text_some : (path : Path) → 0 < length (path_text path)
text_some [] = omega arith
text_some (name ∷ names) = omega arith

pub text_size : (path : Path) → is_path path ≡ true → length (path_text path) ≤ 36
text_size [] h = omega arith
text_size (name ∷ names) h =
    let both = path_parts (name ∷ names) h in
    omega (arith, both.0, names_size (name ∷ names) both.1)
