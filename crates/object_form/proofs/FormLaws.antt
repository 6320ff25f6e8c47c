-- Forms: what is written of one is read as it, and what is read as a form has its text.
use Rattle.std.proofs.Common.{◌≡◌, ℕ, suc, ◌<◌, ◌≤◌, ◌⊎◌, ◌↔◌, Bool, true, false, ◌&&◌, eqb, leb, cond, List, [], ◌∷◌, ◌++◌, length, map, inl, inr, Result, Ok, Err, refl, ap, sym, subst, ◌∙◌, arith}
use Rattle.std.specs.Prelude.{IfOk}
use Rattle.std.specs.List.{list_all, join_with_byte}
use Rattle.std.proofs.lemmas.Bool.{and_parts, cases_Bool, both_ways, eqb-true, ne_eqb, leb-true, le-leb}
use Rattle.log_node.specs.declared.forms.Pair.{Pair}
use Rattle.log_node.specs.declared.forms.Version.{Version}
use Rattle.log_node.specs.declared.forms.Form.{Form}
use Rattle.log_node.specs.declared.forms.Form.TheVariants as forms
use Rattle.object_form.specs.Forms.{comma, equals, at_sign, bar, is_word, is_writer, are_distinct, pair_text, pairs_text, version_text, versions_text, form_text, ArePairs, AreVersions, IsForm, HasText, IsReading}
use Rattle.object_form.specs.Readings.{before, after, parts, is_pair, pair_of, are_pairs, is_version, version_of, are_versions, put_of, delete_of, put_all_of, transaction_of, enqueue_of, dequeue_of, causal_of, form_after, form_of}
use Rattle.object_form.proofs.CutLemmas.{Lacks, word_lacks, before_cut, after_cut, cut_back}
use Rattle.object_form.proofs.PairLaws.{AllLack, parts_joined, joined_parts, joined_lacks, some_part, pair_back, pairs_back, pairs_read}
use Rattle.object_form.proofs.VersionLaws.{versions_read, versions_back, version_word, version_writer}

-- ---- what is written is read

parts_of_all : (xs : List (List ℕ)) → 1 ≤ length xs → AllLack comma xs → parts (join_with_byte comma xs) ≡ xs
parts_of_all [] some lack = absurd (omega arith)
parts_of_all (x ∷ xs) some lack = parts_joined x xs lack.0 lack.1

length_mapped : {X Y : Type 0} (f : X → Y) (xs : List X) → length (map f xs) ≡ length xs
length_mapped f [] = refl
length_mapped f (x ∷ xs) = ap suc (length_mapped f xs)

pub record ReadsPairs (most : ℕ) (pairs : List Pair) : Type 0 where
  pub test : are_pairs most (parts (pairs_text pairs)) ≡ true
  pub same : map pair_of (parts (pairs_text pairs)) ≡ pairs

reads_pairs : (most : ℕ) (pairs : List Pair) → ArePairs most pairs → ReadsPairs most pairs
reads_pairs most pairs a =
    let r = pairs_read pairs a.keys a.values in
    let size = length_mapped pair_text pairs in
    let e = parts_of_all (map pair_text pairs) (omega (arith, a.some)) r.lack in
    let few = le-leb (length (map pair_text pairs)) most (omega (arith, a.few)) in
    record { test = rw e (rw (few, r.all, r.keys) a.distinct); same = rw e r.same }

pub record ReadsVersions (versions : List Version) : Type 0 where
  pub test : are_versions (parts (versions_text versions)) ≡ true
  pub same : map version_of (parts (versions_text versions)) ≡ versions
  pub lack : Lacks bar (versions_text versions)

reads_versions : (versions : List Version) → AreVersions versions → ReadsVersions versions
reads_versions versions a =
    let r = versions_read versions a.keys a.writers in
    let size = length_mapped version_text versions in
    let e = parts_of_all (map version_text versions) (omega (arith, a.some)) r.lack_comma in
    let few = le-leb (length (map version_text versions)) 2 (omega (arith, a.few)) in
    record {
      test = rw e (rw (few, r.all, r.keys) a.distinct);
      same = rw e r.same;
      lack = joined_lacks bar (map version_text versions) refl r.lack_bar;
    }

transaction_read : (reads : List Version) (writes : List Pair) → AreVersions reads → ArePairs 2 writes → transaction_of (versions_text reads ++ bar ∷ pairs_text writes) ≡ forms.Transaction reads writes
transaction_read reads writes a b =
    let r = reads_versions reads a in
    let w = reads_pairs 2 writes b in
    rw (before_cut bar (versions_text reads) (pairs_text writes) r.lack, after_cut bar (versions_text reads) (pairs_text writes) r.lack, r.test, w.test, r.same, w.same) refl

put_read : (key value : List ℕ) → is_word key ≡ true → is_word value ≡ true → put_of (key ++ equals ∷ value) ≡ forms.Put key value
put_read key value k v =
    rw (before_cut equals key value (word_lacks equals key refl k), after_cut equals key value (word_lacks equals key refl k), k, v) refl

causal_read : (key value : List ℕ) → is_word key ≡ true → is_word value ≡ true → causal_of (key ++ equals ∷ value) ≡ forms.Causal key value
causal_read key value k v =
    rw (before_cut equals key value (word_lacks equals key refl k), after_cut equals key value (word_lacks equals key refl k), k, v) refl

put_all_read : (pairs : List Pair) → ArePairs 4 pairs → put_all_of (pairs_text pairs) ≡ forms.PutAll pairs
put_all_read pairs a = let r = reads_pairs 4 pairs a in rw (r.test, r.same) refl

pub reads_back : (form : Form) → IsForm form → form_of (form_text form) ≡ form
reads_back (forms.Put key value) h = put_read key value h.0 h.1
reads_back (forms.Delete key) h = rw h refl
reads_back (forms.PutAll pairs) h = put_all_read pairs h
reads_back (forms.Transaction reads writes) h = transaction_read reads writes h.0 h.1
reads_back (forms.Enqueue value) h = rw h refl
reads_back forms.Dequeue h = refl
reads_back (forms.Causal key value) h = causal_read key value h.0 h.1
reads_back forms.Plain h = absurd h

-- ---- what is read has its text

-- the text has the form, or the form is plain
abbrev Fits : Form → List ℕ → Type 0
Fits form text = HasText form text ⊎ (form ≡ forms.Plain)

-- what is not a form of a letter is plain
fits_else : (b : Bool) (form : Form) (text : List ℕ) → (b ≡ true → HasText form text) → Fits (cond b form forms.Plain) text
fits_else true form text h = inl (h refl)
fits_else false form text h = inr refl

keys_of : (pieces : List (List ℕ)) → map (λ (pair : Pair). pair.key) (map pair_of pieces) ≡ map (before equals) pieces
keys_of [] = refl
keys_of (x ∷ xs) = ap (λ ks. before equals x ∷ ks) (keys_of xs)

keys_are_words : (pieces : List (List ℕ)) → list_all is_pair pieces ≡ true → list_all (λ (pair : Pair). is_word pair.key) (map pair_of pieces) ≡ true
keys_are_words [] h = refl
keys_are_words (x ∷ xs) h =
    let each = and_parts (is_pair x) (list_all is_pair xs) h in
    rw (and_parts (is_word (before equals x)) (is_word (after equals x)) each.0).0 (keys_are_words xs each.1)

values_are_words : (pieces : List (List ℕ)) → list_all is_pair pieces ≡ true → list_all (λ (pair : Pair). is_word pair.value) (map pair_of pieces) ≡ true
values_are_words [] h = refl
values_are_words (x ∷ xs) h =
    let each = and_parts (is_pair x) (list_all is_pair xs) h in
    rw (and_parts (is_word (before equals x)) (is_word (after equals x)) each.0).1 (values_are_words xs each.1)

record PairsBack (most : ℕ) (bytes : List ℕ) : Type 0 where
  lawful : ArePairs most (map pair_of (parts bytes))
  text : pairs_text (map pair_of (parts bytes)) ≡ bytes

pairs_are_back : (most : ℕ) (bytes : List ℕ) → are_pairs most (parts bytes) ≡ true → PairsBack most bytes
pairs_are_back most bytes h =
    let ps = parts bytes in
    let upper = and_parts (leb (length ps) most && list_all is_pair ps) (are_distinct (map (before equals) ps)) h in
    let lower = and_parts (leb (length ps) most) (list_all is_pair ps) upper.0 in
    let size = length_mapped pair_of ps in
    record {
      lawful = record {
        some = omega (arith, some_part bytes);
        few = omega (arith, leb-true (length ps) most lower.0);
        keys = keys_are_words ps lower.1;
        values = values_are_words ps lower.1;
        distinct = rw (keys_of ps) upper.1;
      };
      text = ap (join_with_byte comma) (pairs_back ps lower.1) ∙ joined_parts bytes;
    }

version_keys_of : (pieces : List (List ℕ)) → map (λ (v : Version). v.key) (map version_of pieces) ≡ map (before at_sign) pieces
version_keys_of [] = refl
version_keys_of (x ∷ xs) = ap (λ ks. before at_sign x ∷ ks) (version_keys_of xs)

version_keys_are_words : (pieces : List (List ℕ)) → list_all is_version pieces ≡ true → list_all (λ (v : Version). is_word v.key) (map version_of pieces) ≡ true
version_keys_are_words [] h = refl
version_keys_are_words (x ∷ xs) h =
    let each = and_parts (is_version x) (list_all is_version xs) h in
    rw (version_word x each.0) (version_keys_are_words xs each.1)

writers_are_ranged : (pieces : List (List ℕ)) → list_all is_version pieces ≡ true → list_all (λ (v : Version). is_writer v.writer) (map version_of pieces) ≡ true
writers_are_ranged [] h = refl
writers_are_ranged (x ∷ xs) h =
    let each = and_parts (is_version x) (list_all is_version xs) h in
    rw (version_writer x each.0) (writers_are_ranged xs each.1)

record VersionsBack (bytes : List ℕ) : Type 0 where
  lawful : AreVersions (map version_of (parts bytes))
  text : versions_text (map version_of (parts bytes)) ≡ bytes

versions_are_back : (bytes : List ℕ) → are_versions (parts bytes) ≡ true → VersionsBack bytes
versions_are_back bytes h =
    let ps = parts bytes in
    let upper = and_parts (leb (length ps) 2 && list_all is_version ps) (are_distinct (map (before at_sign) ps)) h in
    let lower = and_parts (leb (length ps) 2) (list_all is_version ps) upper.0 in
    let size = length_mapped version_of ps in
    record {
      lawful = record {
        some = omega (arith, some_part bytes);
        few = omega (arith, leb-true (length ps) 2 lower.0);
        keys = version_keys_are_words ps lower.1;
        writers = writers_are_ranged ps lower.1;
        distinct = rw (version_keys_of ps) upper.1;
      };
      text = ap (join_with_byte comma) (versions_back ps lower.1) ∙ joined_parts bytes;
    }

put_fits : (bytes : List ℕ) → Fits (put_of bytes) (112 ∷ 58 ∷ bytes)
put_fits bytes = fits_else (is_pair bytes) (forms.Put (before equals bytes) (after equals bytes)) (112 ∷ 58 ∷ bytes)
    (λ h. (and_parts (is_word (before equals bytes)) (is_word (after equals bytes)) h, ap (λ t. 112 ∷ 58 ∷ t) (pair_back bytes h)))

causal_fits : (bytes : List ℕ) → Fits (causal_of bytes) (99 ∷ 58 ∷ bytes)
causal_fits bytes = fits_else (is_pair bytes) (forms.Causal (before equals bytes) (after equals bytes)) (99 ∷ 58 ∷ bytes)
    (λ h. (and_parts (is_word (before equals bytes)) (is_word (after equals bytes)) h, ap (λ t. 99 ∷ 58 ∷ t) (pair_back bytes h)))

delete_fits : (bytes : List ℕ) → Fits (delete_of bytes) (100 ∷ 58 ∷ bytes)
delete_fits bytes = fits_else (is_word bytes) (forms.Delete bytes) (100 ∷ 58 ∷ bytes) (λ h. (h, refl))

enqueue_fits : (bytes : List ℕ) → Fits (enqueue_of bytes) (101 ∷ 58 ∷ bytes)
enqueue_fits bytes = fits_else (is_word bytes) (forms.Enqueue bytes) (101 ∷ 58 ∷ bytes) (λ h. (h, refl))

dequeue_fits : (bytes : List ℕ) → Fits (dequeue_of bytes) (113 ∷ 58 ∷ bytes)
dequeue_fits [] = inl (tt, refl)
dequeue_fits (b ∷ bs) = rw (ne_eqb (suc (length bs)) 0 (λ e. absurd (omega arith))) (inr refl)

put_all_fits : (bytes : List ℕ) → Fits (put_all_of bytes) (109 ∷ 58 ∷ bytes)
put_all_fits bytes = fits_else (are_pairs 4 (parts bytes)) (forms.PutAll (map pair_of (parts bytes))) (109 ∷ 58 ∷ bytes)
    (λ h. let p = pairs_are_back 4 bytes h in (p.lawful, ap (λ t. 109 ∷ 58 ∷ t) p.text))

-- pairs have bytes
rests_some : (bytes : List ℕ) → are_pairs 2 (parts bytes) ≡ true → 0 < length bytes
rests_some [] h = absurd (both_ways (are_pairs 2 (parts [])) refl h)
rests_some (b ∷ bs) h = omega arith

transaction_fits : (bytes : List ℕ) → Fits (transaction_of bytes) (116 ∷ 58 ∷ bytes)
transaction_fits bytes =
    let fronts = before bar bytes in
    let rests = after bar bytes in
    fits_else (are_versions (parts fronts) && are_pairs 2 (parts rests)) (forms.Transaction (map version_of (parts fronts)) (map pair_of (parts rests))) (116 ∷ 58 ∷ bytes)
    (λ h. let both = and_parts (are_versions (parts fronts)) (are_pairs 2 (parts rests)) h in
    let v = versions_are_back fronts both.0 in
    let p = pairs_are_back 2 rests both.1 in
    ((v.lawful, p.lawful), rw (v.text, p.text) (ap (λ t. 116 ∷ 58 ∷ t) (cut_back bar bytes (rests_some rests both.1)))))

-- by the letter
letter_fits : (letter wanted : ℕ) (bytes : List ℕ) (form other : Form) → Fits form (wanted ∷ 58 ∷ bytes) → Fits other (letter ∷ 58 ∷ bytes) → Fits (cond (eqb letter wanted) form other) (letter ∷ 58 ∷ bytes)
letter_fits letter wanted bytes form other f g = elim (cases_Bool (eqb letter wanted)) [
  | inl same ↦ rw same (rw (eqb-true letter wanted same) f)
  | inr apart ↦ rw apart g
]

form_after_fits : (letter : ℕ) (bytes : List ℕ) → Fits (form_after letter bytes) (letter ∷ 58 ∷ bytes)
form_after_fits letter bytes =
    letter_fits letter 112 bytes (put_of bytes) _ (put_fits bytes)
    (letter_fits letter 100 bytes (delete_of bytes) _ (delete_fits bytes)
    (letter_fits letter 109 bytes (put_all_of bytes) _ (put_all_fits bytes)
    (letter_fits letter 116 bytes (transaction_of bytes) _ (transaction_fits bytes)
    (letter_fits letter 101 bytes (enqueue_of bytes) _ (enqueue_fits bytes)
    (letter_fits letter 113 bytes (dequeue_of bytes) _ (dequeue_fits bytes)
    (letter_fits letter 99 bytes (causal_of bytes) _ (causal_fits bytes) (inr refl)))))))

form_fits : (text : List ℕ) → Fits (form_of text) text
form_fits [] = inr refl
form_fits (letter ∷ []) = inr refl
form_fits (letter ∷ sign ∷ bytes) = elim (cases_Bool (eqb sign 58)) [
  | inl colon ↦ rw colon (rw (eqb-true sign 58 colon) (form_after_fits letter bytes))
  | inr other ↦ rw other (inr refl)
]

-- ---- the laws

read_is : (text : List ℕ) (form : Form) → IsReading text form → form_of text ≡ form
read_is text form (inl has) = rw (← has.1) (reads_back form has.0)
read_is text form (inr no_form) = elim (form_fits text) [
  | inl has ↦ absurd (no_form.1 (form_of text) has)
  | inr plain ↦ plain ∙ sym no_form.0
]

is_read : (text : List ℕ) → IsReading text (form_of text)
is_read text = elim (form_fits text) [
  | inl has ↦ inl has
  | inr plain ↦ inr (
    plain,
    λ other has.
        let same : other ≡ forms.Plain = sym (reads_back other has.0) ∙ ap form_of has.1 ∙ plain in
        rw same at has.0,
  )
]

pub reads_as_one : (text : List ℕ) (form : Form) → IsReading text form ↔ (form_of text ≡ form)
reads_as_one text form = (read_is text form, λ e. let P : Form → Type 0 = IsReading text in subst P e (is_read text))

pub texts_differ : (form other : Form) (text : List ℕ) → HasText form text → HasText other text → form ≡ other
texts_differ form other text h k = sym (reads_back form h.0) ∙ ap form_of (h.1 ∙ sym k.1) ∙ reads_back other k.0

-- what is computed of a text is read
pub reads_ok : {E : Type 0} (text : List ℕ) (r : Result Form E) → IfOk r (λ form. form ≡ form_of text) → IfOk r (λ form. IsReading text form)
reads_ok text (Ok form) h = (reads_as_one text form).1 (sym h)
reads_ok text (Err e) h = tt
