-- The names of a script are those that a report of it has.
use Rattle.std.proofs.Common.{◌≡◌, ℕ, zero, suc, ◌+◌, ◌*◌, ◌-◌, ◌/◌, ◌%◌, ◌<◌, ◌≤◌, Bool, true, cond, eqb, ltb, ◌&&◌, List, [], ◌∷◌, length, slice_get, add-mul, refl, sym, ap, ◌∙◌, arith, inl, inr}
use Rattle.std.specs.List.{list_all, count_by}
use Rattle.std.proofs.lemmas.Bool.{cases_Bool, and_parts, or_left, eq-eqb, eqb-true, eqb-false}
use Rattle.std.proofs.lemmas.List.Sums.{sum_by-cons}
use Rattle.std.proofs.lemmas.Nat.{mul-le}
use Rattle.std.proofs.Math.Nat.{mod-lt, mod-add-div', add-mul-div_right, div-eq_of_lt, mod-eq_of_lt, mul-div_cancel}
use Rattle.script_text.specs.declared.script.Script.{Script}
use Rattle.script_text.specs.Pieces.{is_letter, is_digit, is_letter_or_digit, is_name, name_of}
use Rattle.report_text.specs.declared.report.ClientReport.{ClientReport}
use Rattle.report_text.specs.declared.report.ColumnReport.{ColumnReport}
use Rattle.report_text.specs.declared.report.Report.{Report}
use Rattle.report_text.specs.Names.{name_among, name_of_client, client_name, colour_name, region_name}
use Rattle.report_reading.specs.Apart.{AreNames, AreApart}
use Rattle.report_reading.specs.Meant.{IsClientReport, IsColumn, IsReportOf, AllFrom}
use Rattle.report_reading.proofs.PieceLemmas.{AreSaid, AreNamed}

-- ---- names are words

name_letters : (name : List ℕ) → is_name name ≡ true → (list_all is_letter_or_digit name ≡ true) × (0 < length name)
name_letters [] is = absurd cc
name_letters (b ∷ bs) is =
    let p = and_parts (is_letter b && list_all is_letter_or_digit bs) (ltb (length bs) 12) is in
    let q = and_parts (is_letter b) (list_all is_letter_or_digit bs) p.0 in
    (rw (or_left (is_letter b) (is_digit b) q.0, q.1) refl, omega arith)

said : (most : ℕ) (names : List (List ℕ)) (named : ℕ → List ℕ) → AreNames most names → ((n : ℕ) → n < length names → named n ≡ name_of names n) → AreSaid names named
said most names named are so = record {
  said_so = so;
  words = λ n lt. (name_letters (name_of names n) (are.lawful n lt)).0;
  some = λ n lt. (name_letters (name_of names n) (are.lawful n lt)).1;
  differ = are.apart;
}

-- ---- clients

client_named : (script : Script) (k : ℕ) (cs : List ClientReport) (n : ℕ) → AllFrom (IsClientReport script) k cs → n < length cs → name_of_client (slice_get cs n) ≡ name_of script.clients (k + n)
client_named script k [] n all lt = absurd (omega (arith, lt))
client_named script k (c ∷ cs) zero all lt = let here : k ≡ k + 0 = omega arith in all.0.name ∙ ap (name_of script.clients) here
client_named script k (c ∷ cs) (suc n) all lt =
    let next : suc k + n ≡ k + suc n = omega arith in
    client_named script (suc k) cs n all.1 (omega (arith, lt)) ∙ ap (name_of script.clients) next

-- ---- colours and regions

colour_named : (script : Script) (k : ℕ) (cs : List ColumnReport) (i n : ℕ) → AllFrom (IsColumn script) k cs → i < length cs → (k + i) % length script.colours ≡ n
    → name_among (λ c. c.colour) (λ c. c.colour_name) cs n ≡ name_of script.colours n
colour_named script k [] i n all lt at = absurd (omega (arith, lt))
colour_named script k (c ∷ cs) zero n all lt at =
    let here : k ≡ k + 0 = omega arith in
    let same : c.colour ≡ n = all.0.colour ∙ ap (λ m. m % length script.colours) here ∙ at in
    rw (eq-eqb c.colour n same) (all.0.colour_name ∙ ap (name_of script.colours) same)
colour_named script k (c ∷ cs) (suc i) n all lt at =
    let next : suc k + i ≡ k + suc i = omega arith in
    let later = colour_named script (suc k) cs i n all.1 (omega (arith, lt)) (ap (λ m. m % length script.colours) next ∙ at) in
    elim (cases_Bool (eqb c.colour n)) [
      | inl same ↦ rw (same) (all.0.colour_name ∙ ap (name_of script.colours) (eqb-true c.colour n same))
      | inr other ↦ rw (other) later
    ]

region_named : (script : Script) (k : ℕ) (cs : List ColumnReport) (i n : ℕ) → AllFrom (IsColumn script) k cs → i < length cs → (k + i) / length script.colours ≡ n
    → name_among (λ c. c.region) (λ c. c.region_name) cs n ≡ name_of script.regions n
region_named script k [] i n all lt at = absurd (omega (arith, lt))
region_named script k (c ∷ cs) zero n all lt at =
    let here : k ≡ k + 0 = omega arith in
    let same : c.region ≡ n = all.0.region ∙ ap (λ m. m / length script.colours) here ∙ at in
    rw (eq-eqb c.region n same) (all.0.region_name ∙ ap (name_of script.regions) same)
region_named script k (c ∷ cs) (suc i) n all lt at =
    let next : suc k + i ≡ k + suc i = omega arith in
    let later = region_named script (suc k) cs i n all.1 (omega (arith, lt)) (ap (λ m. m / length script.colours) next ∙ at) in
    elim (cases_Bool (eqb c.region n)) [
      | inl same ↦ rw (same) (all.0.region_name ∙ ap (name_of script.regions) (eqb-true c.region n same))
      | inr other ↦ rw (other) later
    ]

-- ---- how many columns of colour 0 there are

-- how many multiples of a number stand below another
abbrev multiples : ℕ → ℕ → ℕ
multiples d k = (k + d) / (d + 1)

below_one : (x d : ℕ) → x ≤ d → x / (d + 1) ≡ 0
below_one x d le = div-eq_of_lt (omega (arith, le))

one_more : (x d : ℕ) → x ≤ d → (x + 1 * (d + 1)) / (d + 1) ≡ 1
one_more x d le = add-mul-div_right x 1 (omega arith) ∙ ap (λ m. m + 1) (below_one x d le)

-- a multiple counts once, another number does not
multiple : (d k : ℕ) → k % (d + 1) ≡ 0 → multiples d (k + 1) ≡ multiples d k + 1
multiple d k none =
    let q = k / (d + 1) in
    let parts : k % (d + 1) + q * (d + 1) ≡ k = mod-add-div' k (d + 1) in
    let now : k + d ≡ d + q * (d + 1) = omega (arith, parts, none) in
    let next : k + 1 + d ≡ (0 + 1 * (d + 1)) + q * (d + 1) = omega (arith, parts, none) in
    let first : multiples d k ≡ 0 + q = ap (λ m. m / (d + 1)) now ∙ add-mul-div_right d q (omega arith) ∙ ap (λ m. m + q) (below_one d d (omega arith)) in
    let second : multiples d (k + 1) ≡ 1 + q = ap (λ m. m / (d + 1)) next ∙ add-mul-div_right (0 + 1 * (d + 1)) q (omega arith) ∙ ap (λ m. m + q) (one_more 0 d (omega arith)) in
    omega (arith, first, second)

positive : (m : ℕ) → (m ≡ 0 → ⊥) → 0 < m
positive zero other = absurd (other refl)
positive (suc m) other = omega arith

no_multiple : (d k : ℕ) → (k % (d + 1) ≡ 0 → ⊥) → multiples d (k + 1) ≡ multiples d k
no_multiple d k other =
    let q = k / (d + 1) in
    let m = k % (d + 1) in
    let parts : m + q * (d + 1) ≡ k = mod-add-div' k (d + 1) in
    let below : m < d + 1 = mod-lt k (omega arith) in
    let some : 0 < m = positive m other in
    let now : k + d ≡ ((m - 1) + 1 * (d + 1)) + q * (d + 1) = omega (arith, parts, some) in
    let next : k + 1 + d ≡ (m + 1 * (d + 1)) + q * (d + 1) = omega (arith, parts) in
    let first : multiples d k ≡ 1 + q = ap (λ x. x / (d + 1)) now ∙ add-mul-div_right ((m - 1) + 1 * (d + 1)) q (omega arith) ∙ ap (λ x. x + q) (one_more (m - 1) d (omega (arith, below))) in
    let second : multiples d (k + 1) ≡ 1 + q = ap (λ x. x / (d + 1)) next ∙ add-mul-div_right (m + 1 * (d + 1)) q (omega arith) ∙ ap (λ x. x + q) (one_more m d (omega (arith, below))) in
    second ∙ sym first

-- what a column counts as
abbrev counts_as : Bool → ℕ
counts_as b = cond b 1 0

pub counted : (script : Script) (d k : ℕ) (cs : List ColumnReport) → length script.colours ≡ d + 1 → AllFrom (IsColumn script) k cs → count_by (λ c. eqb c.colour 0) cs + multiples d k ≡ multiples d (k + length cs)
counted script d k [] many all =
    let here : k ≡ k + 0 = omega arith in
    let none : 0 + multiples d k ≡ multiples d k = omega arith in
    none ∙ ap (multiples d) here
counted script d k (c ∷ cs) many all =
    let step = sum_by-cons (λ (x : ColumnReport). cond (eqb x.colour 0) 1 0) c cs in
    let later = counted script d (suc k) cs many all.1 in
    let next : suc k + length cs ≡ k + suc (length cs) = omega arith in
    let here : suc k ≡ k + 1 = omega arith in
    let end = ap (multiples d) next in
    let start = ap (multiples d) here in
    let colour : c.colour ≡ k % (d + 1) = all.0.colour ∙ ap (λ m. k % m) many in
    elim (cases_Bool (eqb c.colour 0)) [
      | inl same ↦
          let more = multiple d k (sym colour ∙ eqb-true c.colour 0 same) in
          let one : counts_as (eqb c.colour 0) ≡ 1 = ap counts_as same in
          omega (arith, step, later, end, start, more, one)
      | inr other ↦
          let more = no_multiple d k (λ e. eqb-false c.colour 0 other (colour ∙ e)) in
          let none : counts_as (eqb c.colour 0) ≡ 0 = ap counts_as other in
          omega (arith, step, later, end, start, more, none)
    ]

-- all columns of colour 0 are as many as there are regions
regions_counted : (script : Script) (d : ℕ) (cs : List ColumnReport) → length script.colours ≡ d + 1 → AllFrom (IsColumn script) 0 cs → length cs ≡ length script.regions * length script.colours
    → count_by (λ c. eqb c.colour 0) cs ≡ length script.regions
regions_counted script d cs many all whole =
    let regions = length script.regions in
    let first : multiples d 0 ≡ 0 = below_one (0 + d) d (omega arith) in
    let size : 0 + length cs ≡ regions * (d + 1) = omega (arith, whole) ∙ ap (λ n. regions * n) many in
    let sum : 0 + length cs + d ≡ d + regions * (d + 1) = omega (arith, size) in
    let last : multiples d (0 + length cs) ≡ 0 + regions = ap (λ n. n / (d + 1)) sum ∙ add-mul-div_right d regions (omega arith) ∙ ap (λ n. n + regions) (below_one d d (omega arith)) in
    let all_of = counted script d 0 cs many all in
    omega (arith, first, last, all_of)

one_below : (n : ℕ) → 0 < n → (d : ℕ) × (n ≡ d + 1)
one_below zero some = absurd (omega (arith, some))
one_below (suc d) some = (d, omega arith)

next_row : (n c m : ℕ) → (n + 1) * c ≤ m → n * c + c ≤ m
next_row n c m le = let grown : (n + 1) * c ≡ n * c + c = add-mul n 1 c ∙ omega arith in omega (arith, grown, le)

-- a report of a script has its names
pub named_in : (script : Script) (report : Report) → AreApart script → IsReportOf script report → AreNamed script report
named_in script report apart is =
    let regions = length script.regions in
    let colours = length script.colours in
    let below = one_below colours apart.colours.some in
    let whole = is.all_columns in
    let some_regions = apart.regions.some in
    let some_colours = apart.colours.some in
    record {
      clients = said 64 script.clients (client_name report) apart.clients (λ n lt.
          let all = is.all_clients in
          client_named script 0 report.clients n is.clients (omega (arith, all, lt)) ∙ ap (name_of script.clients) (omega arith));
      colours = said 64 script.colours (colour_name report) apart.colours (λ n lt.
          let few : 1 * colours ≤ regions * colours = mul-le 1 colours regions colours some_regions (omega arith) in
          colour_named script 0 report.columns n n is.columns (omega (arith, few, lt, whole)) (ap (λ m. m % colours) (omega arith) ∙ mod-eq_of_lt lt));
      regions = said 4 script.regions (region_name report) apart.regions (λ n lt.
          let few : (n + 1) * colours ≤ regions * colours = mul-le (n + 1) colours regions colours (omega (arith, lt)) (omega arith) in
          let more : n * colours + colours ≤ regions * colours = next_row n colours (regions * colours) few in
          region_named script 0 report.columns (n * colours) n is.columns (omega (arith, more, some_colours, whole)) (ap (λ m. m / colours) (omega arith) ∙ mul-div_cancel n some_colours));
      count = regions_counted script below.0 report.columns below.1 is.columns is.all_columns;
      few = apart.regions.few;
      some = apart.regions.some;
    }
