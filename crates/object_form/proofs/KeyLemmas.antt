-- Keys: what is written of one is read as it, and what is read as a key has its text.
use Rattle.std.proofs.Common.{◌≡◌, ℕ, ◌-◌, ◌^◌, ◌<◌, ◌≤◌, true, false, ◌&&◌, eqb, leb, List, [], ◌∷◌, ◌++◌, length, Some, refl, arith}
use Rattle.std.specs.Fmt.{decimal}
use Rattle.std.proofs.lemmas.Bool.{and_parts, leb-true, le-leb}
use Rattle.log_node.specs.declared.ids.Key.{Key}
use Rattle.object_form.specs.Forms.{dot, is_writer, writer_text}
use Rattle.object_form.specs.Readings.{before, after, is_digit, is_number_from, is_key, key_of}
use Rattle.object_form.proofs.CutLemmas.{Lacks, lacks_append, lacks_by, before_cut, after_cut, cut_back}
use Rattle.object_form.proofs.NumberLemmas.{IsWithin, within, decimal_digits, decimal_value, decimal_within, number_back}

-- the numbers of a key that may be
pub record IsRanged (key : Key) : Type 0 where
  pub stamp_some : 1 ≤ key.stamp
  pub stamp : key.stamp ≤ 2 ^ 62 - 1
  pub client : key.id.client ≤ 255
  pub count : key.id.count ≤ 2 ^ 63 - 1

pub ranged : (key : Key) → is_writer (Some key) ≡ true → IsRanged key
ranged key h =
    let s = leb 1 key.stamp in
    let t = leb key.stamp (2 ^ 62 - 1) in
    let c = leb key.id.client 255 in
    let n = leb key.id.count (2 ^ 63 - 1) in
    let three = and_parts (s && t && c) n h in
    let two = and_parts (s && t) c three.0 in
    let one = and_parts s t two.0 in
    record {
      stamp_some = leb-true 1 key.stamp one.0;
      stamp = leb-true key.stamp (2 ^ 62 - 1) one.1;
      client = leb-true key.id.client 255 two.1;
      count = leb-true key.id.count (2 ^ 63 - 1) three.1;
    }

-- no sign but a digit stands in a number
number_lacks : (sign n : ℕ) → is_digit sign ≡ false → n < 2 ^ 64 → Lacks sign (decimal n)
number_lacks sign n fails lt = lacks_by is_digit sign fails (decimal n) (decimal_digits n lt)

pub key_read : (key : Key) → IsRanged key → (is_key (writer_text (Some key)) ≡ true) × (key_of (writer_text (Some key)) ≡ key)
key_read key r =
    let s : key.stamp < 2 ^ 63 = omega (arith, r.stamp) in
    let c : key.id.client < 2 ^ 63 = omega (arith, r.client) in
    let n : key.id.count < 2 ^ 63 = omega (arith, r.count) in
    let later = decimal key.id.client ++ dot ∷ decimal key.id.count in
    let no_dot = number_lacks dot key.stamp refl (omega arith) in
    let no_dot_later = number_lacks dot key.id.client refl (omega arith) in
    let e1 = before_cut dot (decimal key.stamp) later no_dot in
    let e2 = after_cut dot (decimal key.stamp) later no_dot in
    let e3 = before_cut dot (decimal key.id.client) (decimal key.id.count) no_dot_later in
    let e4 = after_cut dot (decimal key.id.client) (decimal key.id.count) no_dot_later in
    rw (e1, e2, e3, e4) (
      rw (decimal_within 1 (2 ^ 62 - 1) key.stamp r.stamp_some r.stamp s, decimal_within 0 255 key.id.client (omega arith) r.client c, decimal_within 0 (2 ^ 63 - 1) key.id.count (omega arith) r.count n) refl,
      rw (decimal_value key.stamp (omega arith), decimal_value key.id.client (omega arith), decimal_value key.id.count (omega arith)) refl,
    )

pub key_lacks : (sign : ℕ) (key : Key) → is_digit sign ≡ false → eqb dot sign ≡ false → IsRanged key → Lacks sign (writer_text (Some key))
key_lacks sign key fails other r =
    lacks_append sign (decimal key.stamp) (dot ∷ (decimal key.id.client ++ dot ∷ decimal key.id.count)) (number_lacks sign key.stamp fails (omega (arith, r.stamp))) (
      other,
      lacks_append sign (decimal key.id.client) (dot ∷ decimal key.id.count) (number_lacks sign key.id.client fails (omega (arith, r.client)))
          (other, number_lacks sign key.id.count fails (omega (arith, r.count))),
    )

-- what stands in STAMP.CLIENT.COUNT
pub record IsKeyText (bytes : List ℕ) : Type 0 where
  pub stamp : IsWithin 1 (2 ^ 62 - 1) (before dot bytes)
  pub client : IsWithin 0 255 (before dot (after dot bytes))
  pub count : IsWithin 0 (2 ^ 63 - 1) (after dot (after dot bytes))

pub key_parts : (bytes : List ℕ) → is_key bytes ≡ true → IsKeyText bytes
key_parts bytes h =
    let s = is_number_from 1 (2 ^ 62 - 1) (before dot bytes) in
    let c = is_number_from 0 255 (before dot (after dot bytes)) in
    let n = is_number_from 0 (2 ^ 63 - 1) (after dot (after dot bytes)) in
    let ends = and_parts (s && c) n h in
    let fronts = and_parts s c ends.0 in
    record { stamp = within 1 (2 ^ 62 - 1) (before dot bytes) fronts.0; client = within 0 255 (before dot (after dot bytes)) fronts.1; count = within 0 (2 ^ 63 - 1) (after dot (after dot bytes)) ends.1 }

pub key_back : (bs : List ℕ) → is_key bs ≡ true → writer_text (Some (key_of bs)) ≡ bs
key_back bs h =
    let k = key_parts bs h in
    let later = after dot bs in
    rw (number_back 1 (2 ^ 62 - 1) (before dot bs) k.stamp, number_back 0 255 (before dot later) k.client, number_back 0 (2 ^ 63 - 1) (after dot later) k.count, cut_back dot later (omega (arith, k.count.some)))
    (cut_back dot bs (later_some later k.client.some)) where
      later_some : (ds : List ℕ) → 0 < length (before dot ds) → 0 < length ds
      later_some [] some = some
      later_some (d ∷ ds) some = omega arith

pub key_ranged : (bs : List ℕ) → is_key bs ≡ true → is_writer (Some (key_of bs)) ≡ true
key_ranged bs h =
    let k = key_parts bs h in
    let key = key_of bs in
    rw (le-leb 1 key.stamp k.stamp.least, le-leb key.stamp (2 ^ 62 - 1) k.stamp.most, le-leb key.id.client 255 k.client.most, le-leb key.id.count (2 ^ 63 - 1) k.count.most) refl
