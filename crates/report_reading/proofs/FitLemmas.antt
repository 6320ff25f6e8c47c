-- What is read fits: numbers are those of a word, and names are the script's.
use Rattle.std.proofs.Common.{◌≡◌, ℕ, zero, suc, ◌+◌, ◌*◌, ◌-◌, ◌%◌, ◌^◌, ◌<◌, ◌≤◌, Bool, true, false, cond, ltb, eqb, List, [], ◌∷◌, length, drop, Option, Some, None, refl, arith, inl, inr}
use Rattle.std.specs.Option.{option_map}
use Rattle.std.specs.Str.{bytes_eq}
use Rattle.std.proofs.lemmas.Bool.{cases_Bool, le-ltb}
use Rattle.std.proofs.Math.Nat.{mod-lt}
use Rattle.log_node.specs.declared.node.At.TheVariants.{Event, Look}
use Rattle.log_node.specs.Vectors.{at}
use Rattle.script_text.specs.declared.script.Script.{Script}
use Rattle.script_text.specs.Pieces.{is_digit, number_of}
use Rattle.report_reading.specs.Apart.{AreApart}
use Rattle.report_reading.specs.Meant.{IsWord, IsSmall, IsId, IsKey, AreCounts, IsAt, IsRaise, IsPoint, IsSync}
use Rattle.report_reading.specs.Pieces.{first_of, word_at, digits_at, number_at, small_at, byte_at, or_first, named_at, id_at, key_at, further_at, numbers_at, counts_at, place_at, raise_at, point_at, sync_at}

digits_fit : (n : ℕ) (bytes : List ℕ) → n < 2 ^ 64 → (digits_at n bytes).0 < 2 ^ 64
digits_fit n [] lt = lt
digits_fit n (b ∷ bs) lt = elim (cases_Bool (is_digit b)) [
  | inl digit ↦ rw (digit) (digits_fit ((n * 10 % 2 ^ 64 + (b - 48)) % 2 ^ 64) bs (mod-lt (n * 10 % 2 ^ 64 + (b - 48)) {m = 2 ^ 64} (omega arith)))
  | inr other ↦ rw (other) lt
]

pub number_fits : (bytes : List ℕ) → IsWord (number_at bytes).0
unfolding number_at
number_fits bytes = digits_fit 0 bytes (omega arith)

pub small_fits : (bytes : List ℕ) → IsSmall (small_at bytes).0
unfolding small_at
small_fits bytes = mod-lt (number_at bytes).0 {m = 2 ^ 32} (omega arith)

pub byte_fits : (bytes : List ℕ) → (byte_at bytes).0 < 2 ^ 8
unfolding byte_at
byte_fits bytes = mod-lt (number_at bytes).0 {m = 2 ^ 8} (omega arith)

found_fits : (count : ℕ) (found : Option ℕ) → or_first found < count → 0 < suc count → or_first (option_map suc found) < suc count
found_fits count None lt some = some
found_fits count (Some n) lt some = omega (arith, lt)

first_fits : (first : List ℕ) (names : List (List ℕ)) (name : List ℕ) → or_first (number_of (first ∷ names) name) < suc (length names)
first_fits first [] name = elim (cases_Bool (bytes_eq name first)) [
  | inl same ↦ rw (same) (omega arith)
  | inr other ↦ rw (other) (omega arith)
]
first_fits first (second ∷ names) name = elim (cases_Bool (bytes_eq name first)) [
  | inl same ↦ rw (same) (omega arith)
  | inr other ↦ rw (other) (found_fits (suc (length names)) (number_of (second ∷ names) name) (first_fits second names name) (omega arith))
]

number_of_fits : (names : List (List ℕ)) (name : List ℕ) → 0 < length names → or_first (number_of names name) < length names
number_of_fits [] name some = absurd (omega (arith, some))
number_of_fits (first ∷ names) name some = first_fits first names name

pub named_fits : (names : List (List ℕ)) (bytes : List ℕ) → 0 < length names → (named_at names bytes).0 < length names
unfolding named_at
named_fits names bytes some = number_of_fits names (word_at bytes).0 some

pub id_fits : (script : Script) (bytes : List ℕ) → AreApart script → IsId script (id_at script bytes).0
unfolding id_at
id_fits script bytes apart = record {
  client = named_fits script.clients bytes apart.clients.some;
  count = number_fits (drop 1 (named_at script.clients bytes).1);
}

pub key_fits : (script : Script) (bytes : List ℕ) → AreApart script → IsKey script (key_at script bytes).0
unfolding key_at
key_fits script bytes apart = record { id = id_fits script bytes apart; stamp = number_fits (drop 1 (id_at script bytes).1) }

further_fits : (more : Bool) (bytes : List ℕ) → IsWord (further_at more bytes).0
unfolding further_at
further_fits true bytes = number_fits (drop 1 bytes)
further_fits false bytes = omega arith

no_further : (more : Bool) (bytes : List ℕ) → more ≡ false → (further_at more bytes).0 ≡ 0
unfolding further_at
no_further more bytes none = rw (none) refl

-- four numbers, each of a word
four_small : (a b c d : ℕ) → IsWord a → IsWord b → IsWord c → IsWord d → (r : ℕ) → IsWord (at (record { 0 = a ∷ b ∷ c ∷ d ∷ [] }) r)
four_small a b c d p q r s zero = p
four_small a b c d p q r s (suc zero) = q
four_small a b c d p q r s (suc (suc zero)) = r
four_small a b c d p q r s (suc (suc (suc zero))) = s
four_small a b c d p q r s (suc (suc (suc (suc n)))) = omega arith

four_beyond : (regions a b c d : ℕ) → 0 < regions → (regions ≤ 1 → b ≡ 0) → (regions ≤ 2 → c ≡ 0) → (regions ≤ 3 → d ≡ 0)
    → (r : ℕ) → regions ≤ r → at (record { 0 = a ∷ b ∷ c ∷ d ∷ [] }) r ≡ 0
four_beyond regions a b c d some no_b no_c no_d zero le = absurd (omega (arith, some, le))
four_beyond regions a b c d some no_b no_c no_d (suc zero) le = no_b le
four_beyond regions a b c d some no_b no_c no_d (suc (suc zero)) le = no_c le
four_beyond regions a b c d some no_b no_c no_d (suc (suc (suc zero))) le = no_d le
four_beyond regions a b c d some no_b no_c no_d (suc (suc (suc (suc n)))) le = refl

pub counts_fit : (script : Script) (bytes : List ℕ) → AreApart script → AreCounts script (counts_at script bytes).0
unfolding counts_at numbers_at
counts_fit script bytes apart =
    let regions = length script.regions in
    let a = number_at bytes in
    let b = further_at (ltb 1 regions) a.1 in
    let c = further_at (ltb 2 regions) b.1 in
    let d = further_at (ltb 3 regions) c.1 in
    record {
      long = refl;
      small = four_small a.0 b.0 c.0 d.0 (number_fits bytes) (further_fits (ltb 1 regions) a.1) (further_fits (ltb 2 regions) b.1) (further_fits (ltb 3 regions) c.1);
      beyond = four_beyond regions a.0 b.0 c.0 d.0 apart.regions.some
          (λ le. no_further (ltb 1 regions) a.1 (le-ltb 1 regions le))
          (λ le. no_further (ltb 2 regions) b.1 (le-ltb 2 regions le))
          (λ le. no_further (ltb 3 regions) c.1 (le-ltb 3 regions le));
    }

-- a place, whichever sign stands before it
at_fits : (event : Bool) (n : ℕ) → IsWord n → IsAt (cond event (Event n) (Look n))
at_fits true n lt = lt
at_fits false n lt = lt

pub place_fits : (bytes : List ℕ) → IsAt (place_at bytes).0
unfolding place_at
place_fits bytes = at_fits (eqb (first_of bytes) 33) (number_at (drop 1 bytes)).0 (number_fits (drop 1 bytes))

pub raise_fits : (script : Script) (bytes : List ℕ) → AreApart script → IsRaise script (raise_at script bytes).0
unfolding raise_at
raise_fits script bytes apart = record {
  colour = named_fits script.colours bytes apart.colours.some;
  place = place_fits (named_at script.colours bytes).1;
}

pub point_fits : (script : Script) (bytes : List ℕ) → AreApart script → IsPoint script (point_at script bytes).0
unfolding point_at
point_fits script bytes apart =
    let raise = raise_fits script bytes apart in
    record { colour = raise.colour; place = raise.place; position = number_fits (drop 1 (raise_at script bytes).1) }

pub sync_fits : (script : Script) (bytes : List ℕ) → AreApart script → IsSync script (sync_at script bytes).0
unfolding sync_at
sync_fits script bytes apart =
    let name = named_at script.colours bytes in
    let events = number_at (drop 1 name.1) in
    record {
      colour = named_fits script.colours bytes apart.colours.some;
      events = number_fits (drop 1 name.1);
      counts = counts_fit script (drop 1 events.1) apart;
    }
