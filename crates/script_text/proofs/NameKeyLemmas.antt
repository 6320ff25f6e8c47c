-- What a key tells of its name, and where a key stands among the keys of names.
use Rattle.std.proofs.Common.{◌≡◌, ℕ, zero, suc, ◌+◌, ◌-◌, ◌<◌, ◌≤◌, Bool, true, false, cond, is_some, ◌||◌, List, [], ◌∷◌, ◌++◌, length, take, drop, map, get_or, Option, Some, None, Result, Ok, Err, IfOk, OnErr, refl, sym, ap, ◌∙◌, arith, eqb, Fits, w8, ◌⊎◌, inl, inr}
use Rattle.std.specs.Int.{w32, w64, from_le_bytes}
use Rattle.std.specs.Option.{option_map}
use Rattle.std.specs.List.{list_any, position, position_from}
use Rattle.std.specs.Str.{bytes_eq}
use Rattle.std.proofs.Math.Facts.{Fits-lt-pow}
use Rattle.std.proofs.lemmas.Bool.{eq-eqb, eqb-true, false_from_ne_true, and_parts, and_from, lt-ltb, le-ltb, cases_lt, cases_Bool}
use Rattle.std.proofs.lemmas.Iterator.Adapters.{position_from-zero}
use Rattle.std.proofs.lemmas.List.{get_or-drop, map-append, length-append, length-map, length-drop, take-append-drop, drop-drop, length-take-le}
use Rattle.std.proofs.lemmas.Nat.{le_bytes_4, le_bytes_8}
use Rattle.std.proofs.lemmas.Slice.Eq.{bytes_eq-Decides}
use Rattle.indexmap.specs.IndexSet.{insert_key}
use Rattle.log_node.proofs.CallerLemmas.{same_tests}
use Rattle.script_text.specs.declared.name_keys.NameKey.{NameKey}
use Rattle.script_text.specs.Pieces.{is_among, number_of}
use Rattle.script_text.specs.NameKeys.{key_of, three_bytes, front_of, back_of, same_key, AreBytes, IsShort, AreShort, IsKeyed, IsIndexed}

-- what a slice of bytes has are bytes
pub is_short : (xs : List ℕ) → length xs ≤ 12 → ((k : ℕ) → Fits w8 (get_or xs k 0)) → IsShort xs
is_short xs few f = record { few = few; bytes = λ k. Fits-lt-pow (f k) }

bytes_drop : (n : ℕ) (xs : List ℕ) → AreBytes xs → AreBytes (drop n xs)
bytes_drop n xs f = λ k. rw get_or-drop (f (n + k))

bytes_take : (n : ℕ) (xs : List ℕ) → AreBytes xs → AreBytes (take n xs)
bytes_take zero xs f = λ k. omega arith
bytes_take (suc n) [] f = λ k. omega arith
bytes_take (suc n) (x ∷ xs) f = at (bytes_take n xs (λ i. f (suc i))) where
  at : AreBytes (take n xs) → (k : ℕ) → get_or (x ∷ take n xs) k 0 < 256
  at rest zero = f 0
  at rest (suc k) = rest k

-- ---- words tell their bytes

one_word : (xs ys : List ℕ) → AreBytes xs → AreBytes ys → length xs ≡ 8 → length ys ≡ 8 → from_le_bytes w64 xs ≡ from_le_bytes w64 ys → xs ≡ ys
one_word xs ys f g m n e = sym (le_bytes_8 xs (from_le_bytes w64 xs) m f refl) ∙ le_bytes_8 ys (from_le_bytes w64 xs) n g e

one_half : (xs ys : List ℕ) → AreBytes xs → AreBytes ys → length xs ≡ 4 → length ys ≡ 4 → from_le_bytes w32 xs ≡ from_le_bytes w32 ys → xs ≡ ys
one_half xs ys f g m n e = sym (le_bytes_4 xs (from_le_bytes w32 xs) m f refl) ∙ le_bytes_4 ys (from_le_bytes w32 xs) n g e

half_fits : (xs : List ℕ) → AreBytes xs → from_le_bytes w32 xs < 0x1_0000_0000
half_fits xs f =
    let a = f 0 in
    let b = f 1 in
    let c = f 2 in
    let d = f 3 in
    omega arith

one_front : (xs ys : List ℕ) → AreBytes xs → AreBytes ys → length xs < 4 → length xs ≡ length ys → three_bytes xs ≡ three_bytes ys → xs ≡ ys
one_front [] [] f g few same e = refl
one_front [] (y ∷ ys) f g few same e = absurd (omega arith)
one_front (x ∷ xs) [] f g few same e = absurd (omega arith)
one_front (x ∷ []) (y ∷ []) f g few same e = ap (λ (b : ℕ). b ∷ []) (omega arith)
one_front (x ∷ []) (y ∷ v ∷ ys) f g few same e = absurd (omega arith)
one_front (x ∷ u ∷ xs) (y ∷ []) f g few same e = absurd (omega arith)
one_front (x ∷ u ∷ []) (y ∷ v ∷ []) f g few same e =
    let a : x < 256 = f 0 in
    let b : y < 256 = g 0 in
    let first : x ≡ y = omega arith in
    let second : u ≡ v = omega arith in
    cc
one_front (x ∷ u ∷ []) (y ∷ v ∷ w ∷ ys) f g few same e = absurd (omega arith)
one_front (x ∷ u ∷ w ∷ xs) (y ∷ v ∷ []) f g few same e = absurd (omega arith)
one_front (x ∷ u ∷ w ∷ []) (y ∷ v ∷ z ∷ []) f g few same e =
    let a : x < 256 = f 0 in
    let b : y < 256 = g 0 in
    let c : u < 256 = f 1 in
    let d : v < 256 = g 1 in
    let first : x ≡ y = omega arith in
    let second : u ≡ v = omega arith in
    let third : w ≡ z = omega arith in
    cc
one_front (x ∷ u ∷ w ∷ []) (y ∷ v ∷ z ∷ o ∷ ys) f g few same e = absurd (omega arith)
one_front (x ∷ u ∷ w ∷ q ∷ xs) (y ∷ v ∷ z ∷ ys) f g few same e = absurd (omega arith)

-- a name is its first bytes and its last
joined : (xs ys : List ℕ) (a b : ℕ) → b ≤ a → take a xs ≡ take a ys → drop b xs ≡ drop b ys → xs ≡ ys
joined xs ys a b le first last =
    let behind : (zs : List ℕ) → drop (a - b) (drop b zs) ≡ drop a zs = λ zs. drop-drop (a - b) b zs ∙ ap (λ (n : ℕ). drop n zs) (omega arith) in
    let rest : drop a xs ≡ drop a ys = sym (behind xs) ∙ (ap (drop (a - b)) last ∙ behind ys) in
    sym (take-append-drop a xs) ∙ (ap (λ (zs : List ℕ). zs ++ drop a xs) first ∙ (ap (λ (zs : List ℕ). take a ys ++ zs) rest ∙ take-append-drop a ys))

-- names with one key are one name
one_name : (xs ys : List ℕ) → IsShort xs → IsShort ys → front_of xs ≡ front_of ys → back_of xs ≡ back_of ys → xs ≡ ys
one_name xs ys f g front back = by (cases_lt (length xs) 4) (cases_lt (length ys) 4) where
  last : (zs : List ℕ) → IsShort zs → from_le_bytes w32 (drop (length zs - 4) zs) < 0x1_0000_0000
  last zs h = half_fits (drop (length zs - 4) zs) (bytes_drop (length zs - 4) zs h.bytes)

  ends : 4 ≤ length xs → 4 ≤ length ys → length xs ≡ length ys → drop (length xs - 4) xs ≡ drop (length ys - 4) ys → (length xs < 8) ⊎ (8 ≤ length xs) → xs ≡ ys
  ends a b same e (inl less) =
      let first : from_le_bytes w32 (take 4 xs) ≡ from_le_bytes w32 (take 4 ys) =
      rw (le-ltb (length xs) 4 a, le-ltb (length ys) 4 b, lt-ltb (length xs) 8 less, lt-ltb (length ys) 8 (omega arith)) at front in
      let head = one_half (take 4 xs) (take 4 ys) (bytes_take 4 xs f.bytes) (bytes_take 4 ys g.bytes) (length-take-le 4 xs a) (length-take-le 4 ys b) first in
      joined xs ys 4 (length xs - 4) (omega arith) head (rw (← same) at e)
  ends a b same e (inr more) =
      let first : from_le_bytes w64 (take 8 xs) ≡ from_le_bytes w64 (take 8 ys) =
      rw (le-ltb (length xs) 4 a, le-ltb (length ys) 4 b, le-ltb (length xs) 8 more, le-ltb (length ys) 8 (omega arith)) at front in
      let head = one_word (take 8 xs) (take 8 ys) (bytes_take 8 xs f.bytes) (bytes_take 8 ys g.bytes) (length-take-le 8 xs more) (length-take-le 8 ys (omega arith)) first in
      let most = f.few in
      joined xs ys 8 (length xs - 4) (omega arith) head (rw (← same) at e)

  by : (length xs < 4) ⊎ (4 ≤ length xs) → (length ys < 4) ⊎ (4 ≤ length ys) → xs ≡ ys
  by (inl a) (inl b) = one_front xs ys f.bytes g.bytes a
      (let e = rw (lt-ltb _ _ a, lt-ltb _ _ b) at back in omega arith) (rw (lt-ltb _ _ a, lt-ltb _ _ b) at front)
  by (inl a) (inr b) = let e = rw (lt-ltb _ _ a, le-ltb _ _ b) at back in absurd (omega arith)
  by (inr a) (inl b) = let e = rw (le-ltb _ _ a, lt-ltb _ _ b) at back in absurd (omega arith)
  by (inr a) (inr b) =
      let e = rw (le-ltb _ _ a, le-ltb _ _ b) at back in
      let m = last xs f in
      let n = last ys g in
      let same : length xs ≡ length ys = omega arith in
      let half : from_le_bytes w32 (drop (length xs - 4) xs) ≡ from_le_bytes w32 (drop (length ys - 4) ys) = omega arith in
      ends a b same (one_half (drop (length xs - 4) xs) (drop (length ys - 4) ys) (bytes_drop _ xs f.bytes) (bytes_drop _ ys g.bytes)
      (simp length-drop (omega arith)) (simp length-drop (omega arith)) half) (cases_lt (length xs) 8)

-- keys are equal exactly where names are
same_code : (xs ys : List ℕ) → IsShort xs → IsShort ys → same_key (key_of xs) (key_of ys) ≡ bytes_eq xs ys
same_code xs ys f g = same_tests (same_key (key_of xs) (key_of ys)) (bytes_eq xs ys)
    (λ e. let p = and_parts (eqb (front_of xs) (front_of ys)) (eqb (back_of xs) (back_of ys)) e in
    (bytes_eq-Decides xs ys).1 (one_name xs ys f g (eqb-true _ _ p.0) (eqb-true _ _ p.1)))
    (λ e. let same = (bytes_eq-Decides xs ys).0 e in and_from (eqb (front_of xs) (front_of ys)) _ (eq-eqb _ _ (ap front_of same)) (eq-eqb _ _ (ap back_of same)))

-- the place of a key is the number of its name
numbered_from : (names : List (List ℕ)) (name : List ℕ) (i : ℕ) → AreShort names → IsShort name
    → position_from (same_key (key_of name)) i (map key_of names) ≡ option_map (λ n. n + i) (number_of names name)
numbered_from [] name i short f = refl
numbered_from (first ∷ names) name i short f =
    rw (same_code name first f short.0) (by (bytes_eq name first) (numbered_from names name (i + 1) short.1 f)) where
      moved : (o : Option ℕ) → option_map (λ n. n + (i + 1)) o ≡ option_map (λ n. n + i) (option_map suc o)
      moved None = refl
      moved (Some n) = ap (λ m. Some m) (omega arith)

      by : (b : Bool) → position_from (same_key (key_of name)) (i + 1) (map key_of names) ≡ option_map (λ n. n + (i + 1)) (number_of names name)
          → cond b (Some i) (position_from (same_key (key_of name)) (i + 1) (map key_of names))
          ≡ option_map (λ n. n + i) (cond b (Some 0) (option_map suc (number_of names name)))
      by true rest = ap (λ n. Some n) (omega arith)
      by false rest = rest ∙ moved (number_of names name)

pub numbered : (names : List (List ℕ)) (name : List ℕ) (keys : List NameKey) (key : NameKey) → IsKeyed names keys → IsShort name → key ≡ key_of name
    → position (same_key key) keys ≡ number_of names name
numbered names name keys key known f e =
    rw (e, known.keyed) (position_from-zero (same_key (key_of name)) (map key_of names)
    ∙ (numbered_from names name 0 known.short f ∙ same (number_of names name))) where
      same : (o : Option ℕ) → option_map (λ n. n + 0) o ≡ o
      same None = refl
      same (Some n) = ap (λ m. Some m) (omega arith)

-- as many keys as names
pub as_many : (names : List (List ℕ)) (keys : List NameKey) → IsKeyed names keys → length keys ≡ length names
as_many names keys known = rw known.keyed (length-map names key_of)

-- no short name is a longer one
pub too_long : (names : List (List ℕ)) (name : List ℕ) → AreShort names → 12 < length name → number_of names name ≡ None
too_long [] name short long = refl
too_long (first ∷ names) name short long =
    let apart : bytes_eq name first ≡ false = false_from_ne_true _ (λ e. let few = short.0.few in let same = ap length ((bytes_eq-Decides name first).0 e) in omega arith) in
    rw (apart, too_long names name short.1 long) refl

-- a name is among names exactly where it has a number
pub has_number : (names : List (List ℕ)) (name : List ℕ) → is_among names name ≡ is_some (number_of names name)
has_number [] name = refl
has_number (first ∷ names) name = rw (has_number names name) (by (bytes_eq name first) (number_of names name)) where
  by : (b : Bool) (o : Option ℕ) → (b || is_some o) ≡ is_some (cond b (Some 0) (option_map suc o))
  by true o = refl
  by false None = refl
  by false (Some n) = refl

-- a new name has a new key
new_key : (names : List (List ℕ)) (name : List ℕ) → AreShort names → IsShort name → list_any (same_key (key_of name)) (map key_of names) ≡ is_among names name
new_key [] name short f = refl
new_key (first ∷ names) name short f = rw (same_code name first f short.0, new_key names name short.1 f) refl

short_on : (names : List (List ℕ)) (name : List ℕ) → AreShort names → IsShort name → AreShort (names ++ name ∷ [])
short_on [] name short f = (f, tt)
short_on (first ∷ names) name short f = (short.0, short_on names name short.1 f)

-- and the keys go on as the names do
pub keyed_on : (names : List (List ℕ)) (name : List ℕ) (keys new : List NameKey) (key : NameKey) → IsKeyed names keys → is_among names name ≡ false → IsShort name
    → key ≡ key_of name → new ≡ insert_key same_key keys key → IsKeyed (names ++ name ∷ []) new
keyed_on names name keys new key known apart f e is = record {
  short = short_on names name known.short f;
  keyed = is ∙ rw (e, known.keyed, new_key names name known.short f, apart) (sym (map-append key_of names (name ∷ [])));
}

-- names that lack keys go on lacking them
pub lacking_on : (names : List (List ℕ)) (name : List ℕ) (keys : List NameKey) → length keys ≤ length names → IsIndexed (names ++ name ∷ []) keys
lacking_on names name keys few = record { few = rw length-append (omega arith); all = λ h. absurd (let e = simp length-append at h in omega arith) }

-- and a key that was asked for is there, unless it was before or memory was refused
pub indexed_on : (names : List (List ℕ)) (name : List ℕ) (keys new : List NameKey) (key : NameKey) → IsKeyed names keys → IsShort name → key ≡ key_of name
    → (new ≡ insert_key same_key keys key) ⊎ (new ≡ keys) → IsIndexed (names ++ name ∷ []) new
indexed_on names name keys new key known f e (inr is) = rw is (lacking_on names name keys (let m = as_many names keys known in omega arith))
indexed_on names name keys new key known f e (inl is) = by (cases_Bool (is_among names name)) where
  by : (is_among names name ≡ true) ⊎ (is_among names name ≡ false) → IsIndexed (names ++ name ∷ []) new
  by (inl there) =
      let old : new ≡ keys = is ∙ rw (e, known.keyed, new_key names name known.short f, there) refl in
      rw old (lacking_on names name keys (let m = as_many names keys known in omega arith))
  by (inr apart) =
      let whole = keyed_on names name keys new key known apart f e is in
      let m = as_many (names ++ name ∷ []) new whole in
      record { few = omega arith; all = λ _. whole }

-- the place of a name among names is its number
walked_from : (names : List (List ℕ)) (name : List ℕ) (i : ℕ) → position_from (bytes_eq name) i names ≡ option_map (λ n. n + i) (number_of names name)
walked_from [] name i = refl
walked_from (first ∷ names) name i = by (bytes_eq name first) (walked_from names name (i + 1)) where
  moved : (o : Option ℕ) → option_map (λ n. n + (i + 1)) o ≡ option_map (λ n. n + i) (option_map suc o)
  moved None = refl
  moved (Some n) = ap (λ m. Some m) (omega arith)

  by : (b : Bool) → position_from (bytes_eq name) (i + 1) names ≡ option_map (λ n. n + (i + 1)) (number_of names name)
      → cond b (Some i) (position_from (bytes_eq name) (i + 1) names) ≡ option_map (λ n. n + i) (cond b (Some 0) (option_map suc (number_of names name)))
  by true rest = ap (λ n. Some n) (omega arith)
  by false rest = rest ∙ moved (number_of names name)

pub walked_place : (names : List (List ℕ)) (name : List ℕ) → position (bytes_eq name) names ≡ number_of names name
walked_place names name = position_from-zero (bytes_eq name) names ∙ (walked_from names name 0 ∙ same (number_of names name)) where
  same : (o : Option ℕ) → option_map (λ n. n + 0) o ≡ o
  same None = refl
  same (Some n) = ap (λ m. Some m) (omega arith)

-- what a call says of its two ends
pub either : {T E : Type 0} (r : Result T E) (P Q : Type 0) → IfOk r (λ _. P) → OnErr r Q → P ⊎ Q
either (Ok x) P Q p q = inl p
either (Err e) P Q p q = inr q
