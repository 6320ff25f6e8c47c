-- Appends that stand and whose answer does not show where, as those of commits and dequeues that then could not read.
use Rattle.std.specs.Prelude.{◌≡◌, ℕ, ◌==◌, List, [], ◌∷◌, if◌then◌else◌}
use Rattle.log_node.specs.declared.node.Node.{Node}
use Rattle.log_node.specs.Sets.{members}
use Rattle.col_core.specs.Keeping.{Kept, with_made, with_floor, with_node, with_row}
use Rattle.report_text.specs.declared.report.PointPiece.{PointPiece}
use Rattle.lawful_run.specs.Callers.{Caller}
use Rattle.lawful_run.specs.Appends.{AppendsUnshown}
use Rattle.client_law.specs.Knowing.{Seen, Rest, log_seen, SeesOn}
use Rattle.client_law.specs.Making.{MakesOnly, MakesAtHome}
use Rattle.client_law.specs.Kept.{IsKeptBy}
use Rattle.client_law.specs.Appends.{SeesOne, steps_since, SeesSeveral}

-- what is kept after such an append to one colour
abbrev pub kept_unshown_alone : Caller → Kept → ℕ → ℕ → ℕ → Kept
kept_unshown_alone caller kept colour stamp place =
    with_made (with_node (with_floor kept stamp)) caller.own (λ c. if c == colour then place ∷ [] else [])

-- and after one to several
abbrev pub kept_unshown_several : Caller → Seen → Seen → Kept → ℕ → Kept
kept_unshown_several caller old new kept stamp =
    with_made (with_row (with_floor kept stamp)) caller.own (steps_since caller old new)

-- An append that stands in one colour does so in the log that is seen, also where the answer does not show it.
abbrev pub UnshownAlone : Type 0
UnshownAlone =
    (old new : Seen) (rest : Rest) (caller : Caller) (kept : Kept) (node : Node) (colour stamp place position : ℕ)
    → SeesOn caller old new → IsKeptBy old caller kept → members node.colours ≡ colour ∷ []
    → SeesOne old new rest caller kept node colour stamp place position
    → AppendsUnshown (log_seen new rest) caller kept node stamp (kept_unshown_alone caller kept colour stamp place)

-- What is kept after it, where it was the client's one step.
abbrev pub KeptUnshownAlone : Type 0
KeptUnshownAlone =
    (old new : Seen) (rest : Rest) (caller : Caller) (kept : Kept) (node : Node) (colour stamp place position : ℕ)
    → SeesOn caller old new → IsKeptBy old caller kept
    → SeesOne old new rest caller kept node colour stamp place position
    → MakesOnly caller.client caller.own colour 1 old new
    → IsKeptBy new caller (kept_unshown_alone caller kept colour stamp place)

-- So does one that stands in several colours.
abbrev pub UnshownInAll : Type 0
UnshownInAll = (old new : Seen) (rest : Rest) (caller : Caller) (kept : Kept) (node : Node) (stamp : ℕ)
    (points : List PointPiece)
    → SeesOn caller old new → IsKeptBy old caller kept → SeesSeveral old new rest caller kept node stamp points
    → AppendsUnshown (log_seen new rest) caller kept node stamp (kept_unshown_several caller old new kept stamp)

-- What is kept after that.
abbrev pub KeptUnshownInAll : Type 0
KeptUnshownInAll = (old new : Seen) (caller : Caller) (kept : Kept) (stamp : ℕ)
    → SeesOn caller old new → MakesAtHome caller.client caller.own old new → IsKeptBy old caller kept
    → IsKeptBy new caller (kept_unshown_several caller old new kept stamp)
