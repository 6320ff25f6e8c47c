-- Versions: what is written of them is read as them, and what is read as versions is written of them.
use Rattle.std.proofs.Common.{◌≡◌, ℕ, ◌<◌, true, ◌||◌, List, [], ◌∷◌, length, map, Option, Some, None, inl, inr, refl, arith}
use Rattle.std.specs.List.{list_all}
use Rattle.std.proofs.lemmas.Bool.{and_parts, or_cases, or_right}
use Rattle.std.proofs.lemmas.Slice.Eq.{bytes_eq-Decides}
use Rattle.log_node.specs.declared.ids.Key.{Key}
use Rattle.log_node.specs.declared.forms.Version.{Version}
use Rattle.object_form.specs.Forms.{comma, dash, at_sign, bar, is_word, is_writer, writer_text, version_text}
use Rattle.object_form.specs.Readings.{before, after, is_key, key_in, is_dash, is_version, version_of}
use Rattle.object_form.proofs.CutLemmas.{Lacks, lacks_append, word_lacks, before_cut, after_cut, cut_back}
use Rattle.object_form.proofs.KeyLemmas.{ranged, key_read, key_lacks, key_back, key_ranged}
use Rattle.object_form.proofs.PairLaws.{AllLack}

-- what is read of the text of a writer
pub record WriterRead (writer : Option Key) : Type 0 where
  pub test : (is_dash (writer_text writer) || is_key (writer_text writer)) ≡ true
  pub same : key_in (writer_text writer) ≡ writer
  pub lack_comma : Lacks comma (writer_text writer)
  pub lack_bar : Lacks bar (writer_text writer)

is_dash_is : (bs : List ℕ) → is_dash bs ≡ true → bs ≡ dash ∷ []
is_dash_is bs h = (bytes_eq-Decides bs (dash ∷ [])).0 h

writer_read : (writer : Option Key) → is_writer writer ≡ true → WriterRead writer
writer_read None h = record { test = refl; same = refl; lack_comma = (refl, tt); lack_bar = (refl, tt) }
writer_read (Some key) h =
    let r = ranged key h in
    let k = key_read key r in
    let text = writer_text (Some key) in
    record {
      test = or_right (is_dash text) (is_key text) k.0;
      same = rw (k.0, k.1) refl;
      lack_comma = key_lacks comma key refl refl r;
      lack_bar = key_lacks bar key refl refl r;
    }

-- what is read of the texts of versions
pub record VersionsRead (versions : List Version) : Type 0 where
  pub all : list_all is_version (map version_text versions) ≡ true
  pub same : map version_of (map version_text versions) ≡ versions
  pub keys : map (before at_sign) (map version_text versions) ≡ map (λ version. version.key) versions
  pub lack_comma : AllLack comma (map version_text versions)
  pub lack_bar : AllLack bar (map version_text versions)

pub versions_read : (versions : List Version) → list_all (λ version. is_word version.key) versions ≡ true → list_all (λ version. is_writer version.writer) versions ≡ true → VersionsRead versions
versions_read [] keys writers = record { all = refl; same = refl; keys = refl; lack_comma = tt; lack_bar = tt }
versions_read (v ∷ vs) keys writers =
    let k = and_parts (is_word v.key) (list_all (λ (x : Version). is_word x.key) vs) keys in
    let w = and_parts (is_writer v.writer) (list_all (λ (x : Version). is_writer x.writer) vs) writers in
    let front = before_cut at_sign v.key (writer_text v.writer) (word_lacks at_sign v.key refl k.0) in
    let rest = after_cut at_sign v.key (writer_text v.writer) (word_lacks at_sign v.key refl k.0) in
    let writer = writer_read v.writer w.0 in
    let later = versions_read vs k.1 w.1 in
    let version : version_of (version_text v) ≡ v = rw (front, rest, writer.same) refl in
    record {
      all = rw (front, rest, k.0, writer.test) later.all;
      same = rw (version, later.same) refl;
      keys = rw (front, later.keys) refl;
      lack_comma = (lacks_append comma v.key (at_sign ∷ writer_text v.writer) (word_lacks comma v.key refl k.0) (refl, writer.lack_comma), later.lack_comma);
      lack_bar = (lacks_append bar v.key (at_sign ∷ writer_text v.writer) (word_lacks bar v.key refl k.0) (refl, writer.lack_bar), later.lack_bar);
    }

-- ---- and back

key_some : (bs : List ℕ) → is_key bs ≡ true → 0 < length bs
key_some [] h = absurd cc
key_some (b ∷ bs) h = omega arith

writer_some : (bs : List ℕ) → (is_dash bs || is_key bs) ≡ true → 0 < length bs
writer_some bs h = elim (or_cases (is_dash bs) (is_key bs) h) [
  | inl none ↦ rw (is_dash_is bs none) (omega arith)
  | inr key ↦ key_some bs key
]

writer_back : (bs : List ℕ) → (is_dash bs || is_key bs) ≡ true → writer_text (key_in bs) ≡ bs
writer_back bs h = elim (or_cases (is_dash bs) (is_key bs) h) [
  | inl none ↦ rw (is_dash_is bs none) refl
  | inr key ↦ rw key (key_back bs key)
]

pub version_back : (bs : List ℕ) → is_version bs ≡ true → version_text (version_of bs) ≡ bs
version_back bs h =
    let writer = after at_sign bs in
    let both = and_parts (is_word (before at_sign bs)) (is_dash writer || is_key writer) h in
    rw (writer_back writer both.1) (cut_back at_sign bs (writer_some writer both.1))

pub versions_back : (pieces : List (List ℕ)) → list_all is_version pieces ≡ true → map version_text (map version_of pieces) ≡ pieces
versions_back [] h = refl
versions_back (x ∷ xs) h =
    let each = and_parts (is_version x) (list_all is_version xs) h in
    rw (version_back x each.0, versions_back xs each.1) refl

-- the key and the writer of what is read as a version
pub version_word : (bs : List ℕ) → is_version bs ≡ true → is_word (before at_sign bs) ≡ true
version_word bs h = (and_parts (is_word (before at_sign bs)) (is_dash (after at_sign bs) || is_key (after at_sign bs)) h).0

writer_ranged : (bs : List ℕ) → (is_dash bs || is_key bs) ≡ true → is_writer (key_in bs) ≡ true
writer_ranged bs h = elim (or_cases (is_dash bs) (is_key bs) h) [
  | inl none ↦ rw (is_dash_is bs none) refl
  | inr key ↦ rw key (key_ranged bs key)
]

pub version_writer : (bs : List ℕ) → is_version bs ≡ true → is_writer (key_in (after at_sign bs)) ≡ true
version_writer bs h =
    writer_ranged (after at_sign bs) (and_parts (is_word (before at_sign bs)) (is_dash (after at_sign bs) || is_key (after at_sign bs)) h).1
