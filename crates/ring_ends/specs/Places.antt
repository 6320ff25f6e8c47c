-- Places among the other regions.
use Rattle.std.specs.Prelude.{ℕ, ◌-◌, nat_lt, if◌then◌else◌}

-- the place of a region among the regions other than `own`
abbrev pub ring_place : ℕ → ℕ → ℕ
ring_place own other = if nat_lt other own then other else other - 1
