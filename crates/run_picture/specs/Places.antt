-- Where things stand in a timeline.
use Rattle.std.specs.Prelude.{ℕ, ◌+◌, ◌*◌, min}

-- the left end of a command's box, by its place among the commands that are shown
abbrev pub x_of : ℕ → ℕ
x_of place = 130 + 150 * min place 255

-- the upper end of a client's lane, by its number
abbrev pub top_of : ℕ → ℕ
top_of lane = 76 + 92 * min lane 255
