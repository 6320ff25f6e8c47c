-- Places of columns, and their regions and colours.
use Rattle.std.proofs.Common.{◌≡◌, ℕ, ◌*◌, ◌/◌, ◌%◌, ◌<◌, ◌≤◌, true, ltb, arith}
use Rattle.std.proofs.lemmas.Bool.{ltb-true}
use Rattle.std.proofs.lemmas.Nat.{mul-le}
use Rattle.std.proofs.Math.Nat.{div-lt_iff_lt-mul, mod-lt}

-- no more than 256 columns
pub few_columns : (regions colours : ℕ) → regions ≤ 4 → colours ≤ 64 → regions * colours ≤ 256
few_columns regions colours few many = mul-le regions colours 4 64 few many

-- the region of a column is one of four
pub region_fits : (place regions colours : ℕ) → 0 < colours → regions ≤ 4 → ltb place (regions * colours) ≡ true → place / colours < 256
region_fits place regions colours some few there =
    let below : place / colours < regions = (div-lt_iff_lt-mul some).1 (ltb-true place (regions * colours) there) in
    omega (arith, below, few)

-- its colour is one of 64
pub colour_fits : (place colours : ℕ) → 0 < colours → colours ≤ 64 → place % colours < 256
colour_fits place colours some few =
    let below : place % colours < colours = mod-lt place some in
    omega (arith, below, few)
