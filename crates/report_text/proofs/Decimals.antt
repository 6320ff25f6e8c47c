-- How many digits a number has.
use Rattle.std.proofs.Common.{◌≡◌, ℕ, ◌+◌, ◌/◌, ◌<◌, ◌≤◌, ◌^◌, length, arith, ap, ◌∙◌, length-append}
use Rattle.std.specs.Prelude.{decimal}
use Rattle.std.proofs.lemmas.Fmt.{decimal_digit, decimal_step}

length_more : (n : ℕ) → 10 ≤ n → n < 2 ^ 64 → length (decimal n) ≡ length (decimal (n / 10)) + 1
length_more n some small = ap length (decimal_step n some small) ∙ length-append (decimal (n / 10)) _

pub length_one : (n : ℕ) → n < 10 → length (decimal n) ≡ 1
length_one n small = ap length (decimal_digit n small)

pub length_two : (n : ℕ) → 10 ≤ n → n < 100 → length (decimal n) ≡ 2
length_two n some small = omega (arith, length_more n some (omega arith), length_one (n / 10) (omega arith))

pub length_three : (n : ℕ) → 100 ≤ n → n < 1000 → length (decimal n) ≡ 3
length_three n some small = omega (arith, length_more n (omega arith) (omega arith), length_two (n / 10) (omega arith) (omega arith))

pub length_four : (n : ℕ) → 1000 ≤ n → n < 10000 → length (decimal n) ≡ 4
length_four n some small = omega (arith, length_more n (omega arith) (omega arith), length_three (n / 10) (omega arith) (omega arith))

length_two_more : (n : ℕ) → 100 ≤ n → n < 2 ^ 64 → length (decimal n) ≡ length (decimal (n / 100)) + 2
length_two_more n some small =
    let same : n / 10 / 10 ≡ n / 100 = omega arith in
    omega (arith, length_more n (omega arith) small, length_more (n / 10) (omega arith) (omega arith), ap (λ k. length (decimal k)) same)

pub length_four_more : (n : ℕ) → 10000 ≤ n → n < 2 ^ 64 → length (decimal n) ≡ length (decimal (n / 10000)) + 4
length_four_more n some small =
    let same : n / 100 / 100 ≡ n / 10000 = omega arith in
    omega (arith, length_two_more n (omega arith) small, length_two_more (n / 100) (omega arith) (omega arith), ap (λ k. length (decimal k)) same)
