-- What a script names is such as the texts of forms may: its keys, values and pairs, and the versions of what a read finds.
use Rattle.std.proofs.Common.{◌≡◌, ℕ, ◌≤◌, Bool, true, false, List, [], ◌∷◌, ◌++◌, length, map, get_or, Some, refl, ap, sym, subst}
use Rattle.std.specs.Prelude.{◌||◌, not}
use Rattle.std.specs.List.{list_any, list_all}
use Rattle.std.specs.Str.{bytes_eq}
use Rattle.std.proofs.lemmas.Bool.{and_from, leb-true}
use Rattle.std.proofs.lemmas.Slice.Eq.{bytes_eq-Decides}
use Rattle.std.proofs.lemmas.List.{length-map}
use Rattle.std.proofs.lemmas.List.Elements.{Contains-get_or}
use Rattle.log_node.specs.declared.forms.Pair.{Pair}
use Rattle.object_form.specs.Forms.{is_word, is_writer, are_distinct, ArePairs, AreVersions}
use Rattle.object_fold.specs.Nodes.{ObjectNode}
use Rattle.object_fold.specs.Transactions.{CanRead, versions_after}
use Rattle.object_fold.proofs.CallerLemmas.{versions_fit}
use Rattle.col_core.proofs.CallerLemmas.{both, by_test, not_true, apart, In, in_contains}
use Rattle.script_text.specs.Pieces.{is_key, is_among}
use Rattle.script_text.specs.Grammar.{are_new_keys, are_keys, are_pairs}

-- a key of a script is a word
pub key_is_word : (key : List ℕ) → is_key key ≡ true → is_word key ≡ true
key_is_word key e = e

or_no : (a b : Bool) → (a || b) ≡ false → (a ≡ false) × (b ≡ false)
or_no true b e = absurd (let f : ⊥ = cc in f)
or_no false b e = (refl, e)

or_none : (a b : Bool) → a ≡ false → b ≡ false → (a || b) ≡ false
or_none true b e f = absurd (let g : ⊥ = cc in g)
or_none false b e f = f

not_same : (a b : List ℕ) → bytes_eq a b ≡ false → bytes_eq b a ≡ false
not_same a b f =
    by_test _ (bytes_eq b a)
    (λ t. absurd (apart (bytes_eq a b) ((bytes_eq-Decides a b).1 (sym ((bytes_eq-Decides b a).0 t))) f)) (λ g. g)

-- what is not among these is not the key
Covers : List (List ℕ) → List ℕ → Type 0
Covers before key = (other : List ℕ) → is_among before other ≡ false → bytes_eq key other ≡ false

among_more : (before : List (List ℕ)) (key other : List ℕ) → is_among (before ++ key ∷ []) other ≡ false
    → (is_among before other ≡ false) × (bytes_eq other key ≡ false)
among_more [] key other e = (refl, (or_no (bytes_eq other key) false e).0)
among_more (b ∷ before) key other e =
    let p = or_no (bytes_eq other b) (is_among (before ++ key ∷ []) other) e in
    let r = among_more before key other p.1 in
    (or_none (bytes_eq other b) (is_among before other) p.0 r.0, r.1)

covers_more : (before : List (List ℕ)) (key last : List ℕ) → Covers before key → Covers (before ++ last ∷ []) key
unfolding Covers
covers_more before key last c other f = c other (among_more before last other f).0

covers_last : (before : List (List ℕ)) (key : List ℕ) → Covers (before ++ key ∷ []) key
unfolding Covers
covers_last before key other f = not_same other key (among_more before key other f).1

-- new keys are apart from a key before them
none_later : (before keys : List (List ℕ)) (key : List ℕ) → Covers before key → are_new_keys before keys ≡ true
    → list_any (bytes_eq key) keys ≡ false
unfolding Covers
none_later before [] key c e = refl
none_later before (y ∷ keys) key c e =
    let a = both _ _ e in
    or_none (bytes_eq key y) (list_any (bytes_eq key) keys) (c y (not_true (is_among before y) (both _ _ a.0).1))
    (none_later (before ++ y ∷ []) keys key (covers_more before key y c) a.1)

-- new keys are words, no two of them equal
distinct : (before keys : List (List ℕ)) → are_new_keys before keys ≡ true → are_distinct keys ≡ true
distinct before [] e = refl
distinct before (key ∷ keys) e =
    let a = both _ _ e in
    and_from (not (list_any (bytes_eq key) keys)) (are_distinct keys)
    (ap not (none_later (before ++ key ∷ []) keys key (covers_last before key) a.1))
    (distinct (before ++ key ∷ []) keys a.1)

words : (before keys : List (List ℕ)) → are_new_keys before keys ≡ true → list_all is_word keys ≡ true
words before [] e = refl
words before (key ∷ keys) e =
    let a = both _ _ e in
    and_from (is_word key) (list_all is_word keys) (both _ _ a.0).0 (words (before ++ key ∷ []) keys a.1)

-- the keys of a script are words, no two of them equal
pub keys_are_words : (keys : List (List ℕ)) → are_new_keys [] keys ≡ true → list_all is_word keys ≡ true
keys_are_words keys e = words [] keys e

pub keys_distinct : (keys : List (List ℕ)) → are_new_keys [] keys ≡ true → are_distinct keys ≡ true
keys_distinct keys e = distinct [] keys e

all_words : (before : List (List ℕ)) (pairs : List Pair) → are_new_keys before (map (λ (p : Pair). p.key) pairs) ≡ true
    → list_all (λ (p : Pair). is_word p.key) pairs ≡ true
all_words before [] e = refl
all_words before (pair ∷ pairs) e =
    let a = both _ _ e in
    and_from (is_word pair.key) (list_all (λ (p : Pair). is_word p.key) pairs) (both _ _ a.0).0
    (all_words (before ++ pair.key ∷ []) pairs a.1)

-- pairs of a script are those of a form
pub pairs_are : (most : ℕ) (pairs : List Pair) → are_pairs most pairs ≡ true → ArePairs most pairs
pairs_are most pairs e =
    let a = both _ _ e in
    let k = both _ _ a.0 in
    let n = both _ _ k.0 in
    let same : length (map (λ (p : Pair). p.key) pairs) ≡ length pairs = length-map pairs (λ (p : Pair). p.key) in record {
      some = subst (λ (x : ℕ). 1 ≤ x) same (leb-true _ _ n.0);
      few = subst (λ (x : ℕ). x ≤ most) same (leb-true _ _ n.1);
      keys = all_words [] pairs k.1;
      values = a.1;
      distinct = distinct [] (map (λ (p : Pair). p.key) pairs) k.1;
    }

-- they have a key
pub key_some : (most : ℕ) (pairs : List Pair) → are_pairs most pairs ≡ true
    → 1 ≤ length (map (λ (p : Pair). p.key) pairs)
key_some most pairs e = leb-true _ _ (both _ _ (both _ _ (both _ _ e).0).0).0

-- READS

-- the keys of a script's read are such as a transaction can name
pub can_read : (keys : List (List ℕ)) → are_keys 2 keys ≡ true → CanRead keys
can_read keys e =
    let a = both _ _ e in
    let n = both _ _ a.0 in record {
      some = leb-true _ _ n.0;
      few = leb-true _ _ n.1;
      words = keys_are_words keys a.1;
      distinct = keys_distinct keys a.1;
    }

-- and their versions are those of a text
pub read_versions_fit : (nodes : List ObjectNode) → ((node : ObjectNode) → In node nodes → is_writer (Some node.key) ≡ true)
    → (keys : List (List ℕ)) → are_keys 2 keys ≡ true → AreVersions (versions_after nodes keys)
read_versions_fit nodes good keys e =
    versions_fit nodes
    (λ k d lt. good (get_or nodes k d) (in_contains nodes (get_or nodes k d) (Contains-get_or nodes k d lt))) keys
    (can_read keys e)
