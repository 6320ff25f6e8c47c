-- Where things stand in a picture, and how they are classed.
use Rattle.std.specs.Prelude.{ℕ, ◌+◌, ◌*◌, List, [], codes}
use Rattle.run_picture.specs.declared.picture.Spot.{Spot}
use Rattle.run_picture.specs.declared.picture.Kind.{Kind}
use Rattle.run_picture.specs.declared.picture.Kind.TheVariants.{Stands, Trimmed, Waits, Open}
use Rattle.run_picture.specs.declared.picture.Tie.{Tie}
use Rattle.run_picture.specs.declared.picture.Tie.TheVariants.{Band, Chain, Edge}

-- the left end of a place of the axis
abbrev pub slot_x : ℕ → ℕ
slot_x slot = 380 + 150 * slot

-- the upper end of a lane
abbrev pub lane_top : ℕ → ℕ
lane_top lane = 92 + 92 * lane

-- the upper end of a box
abbrev pub spot_y : Spot → ℕ
spot_y at = lane_top at.lane + 12 + 10 * at.depth

-- the class of a box
abbrev pub kind_class : Kind → List ℕ
kind_class Stands = codes "stands"
kind_class Trimmed = codes "trimmed"
kind_class Waits = codes "waits"
kind_class Open = codes "open"

-- what stands behind the id
abbrev pub kind_note : Kind → List ℕ
kind_note Stands = []
kind_note Trimmed = codes " trimmed"
kind_note Waits = codes " waits"
kind_note Open = codes " open"

-- the class of a line between boxes
abbrev pub tie_class : Tie → List ℕ
tie_class Band = codes "band"
tie_class Chain = codes "chain"
tie_class Edge = codes "edge"

-- how far right in a box a line begins
abbrev pub tie_start : Tie → ℕ
tie_start Band = 65
tie_start Chain = 0
tie_start Edge = 0

-- how far right in a box a line ends
abbrev pub tie_end : Tie → ℕ
tie_end Band = 65
tie_end Chain = 130
tie_end Edge = 130
