-- Small runs, computed: the steps do what they say.
use Rattle.std.proofs.Common.{◌≡◌, ℕ, [], ◌∷◌, refl}
use Rattle.std.specs.Prelude.{codes, map}
use Rattle.log_node.specs.declared.ids.Id.{Id}
use Rattle.log_node.specs.declared.ids.Row.{Row}
use Rattle.log_node.specs.declared.ids.Counts.{Counts}
use Rattle.log_node.specs.declared.node.Node.{Node}
use Rattle.log_node.specs.declared.node.Shape.{Shape}
use Rattle.log_node.specs.declared.marks.Why.TheVariants.{Memory}
use Rattle.log_node.specs.declared.marks.Outcome.TheVariants.{Gone, Final}
use Rattle.col_core.specs.History.{line, entry_key}
use Rattle.world_laws.specs.declared.steps.Step.TheVariants.{Begin, Propose, Fence, Decide, Settle, Single, Raise, Give, Carry, Trim, Play, Seen}
use Rattle.world_laws.specs.declared.steps.Reply.TheVariants as replies
use Rattle.world_laws.specs.Worlds.{World, reply, opened, run_steps, row_of, held_of, cut_after, base_after}

abbrev id : ℕ → ℕ → Id
id client count = record { client = client; count = count }

abbrev row : ℕ → ℕ → Row
row client number = record { client = client; number = number }

-- one region, two colours, two clients: the first begins on both, proposes on the first one and stops; the other
-- appends there
abbrev shape : Shape
shape = record { regions = 1; colours = 2; homes = 0 ∷ 0 ∷ []; rows = 2 }

abbrev stopped : World
stopped = run_steps (opened shape)
    (Begin 0 (record { 0 = 3 }) (codes "one") ∷ Propose 0 (row 0 0) 0 ∷ Single 1 0 (codes "two") ∷ [])

stopped_line : line (stopped.histories 0 0) ≡ []
stopped_line = refl

-- it helps
abbrev helped : World
helped = run_steps stopped (Propose 1 (row 0 0) 1 ∷ Decide (row 0 0) ∷ Settle 1 (row 0 0) 0 ∷ Settle 1 (row 0 0) 1 ∷ [])

first_line : line (helped.histories 0 0) ≡ entry_key 1 (id 0 0) ∷ entry_key 2 (id 1 0) ∷ []
first_line = refl

second_line : line (helped.histories 0 1) ≡ entry_key 1 (id 0 0) ∷ []
second_line = refl

kept : (row_of helped (row 0 0)).last ≡ Final 1
kept = refl

replied : reply stopped (Propose 1 (row 0 0) 1) ≡ replies.Event 0 1
replied = refl

texts : map (λ (node : Node). node.text) (helped.nodes 1) ≡ codes "two" ∷ []
texts = refl

-- a fenced append leaves nothing behind
abbrev fenced : World
fenced =
    run_steps stopped (Fence (row 0 0) 1 Memory ∷ Decide (row 0 0) ∷ Settle 1 (row 0 0) 0 ∷ Settle 1 (row 0 0) 1 ∷ [])

gone : (row_of fenced (row 0 0)).last ≡ Gone Memory
gone = refl

gone_line : line (fenced.histories 0 0) ≡ entry_key 2 (id 1 0) ∷ []
gone_line = refl

-- the guards: no mark is set twice, no client begins a row of one colour, and none is there that the shape lacks
twice : reply helped (Propose 0 (row 0 0) 1) ≡ replies.Nothing
twice = refl

one_colour : reply helped (Begin 0 (record { 0 = 2 }) (codes "x")) ≡ replies.Nothing
one_colour = refl

nobody : reply helped (Single 2 0 (codes "x")) ≡ replies.Nothing
nobody = refl

-- a play has the cut, and its client's floor is then no less than what it played
played : reply helped (Play 0 0) ≡ replies.Played (record { 0 = 2 ∷ 0 ∷ 0 ∷ 0 ∷ [] })
played = refl

floor : ((run_steps helped (Play 0 0 ∷ [])).clients 0).floor ≡ 2
floor = refl

seen : ((run_steps helped (Raise 1 0 1 9 ∷ Seen 0 9 ∷ Seen 1 10 ∷ [])).clients 0).floor ≡ 9
seen = refl

-- two regions, one colour, a client in each: the first appends twice, and its line is given to the other, which carries
-- the first node, plays it, appends, and carries the other node
abbrev regions : Shape
regions = record { regions = 2; colours = 1; homes = 0 ∷ 1 ∷ []; rows = 0 }

abbrev counts : ℕ → ℕ → Counts
counts a b = record { 0 = a ∷ b ∷ 0 ∷ 0 ∷ [] }

abbrev copied : World
copied = run_steps (opened regions)
    (Single 0 0 (codes "one") ∷ Single 0 0 (codes "two") ∷ Give 1 0 1 0 0 ∷ Carry 1 0 1 0 0 1 ∷ Play 1 0
    ∷ Single 1 0 (codes "three") ∷ Carry 1 0 1 0 0 2 ∷ [])

copied_all : held_of copied 0 1 0 ≡ 2
copied_all = refl

copied_cut : cut_after 1 (copied.histories 1 0) ≡ counts 2 1
copied_cut = refl

-- a node that needs another region's waits until that is carried
early : cut_after 0 ((run_steps copied (Carry 0 1 0 0 0 1 ∷ [])).histories 0 0) ≡ counts 2 1
early = refl

-- no more is given than is held, and no stretch is carried twice or past the line's end
too_far : reply copied (Give 1 0 1 0 3) ≡ replies.Nothing
too_far = refl

again : reply copied (Carry 1 0 1 0 0 2) ≡ replies.Nothing
again = refl

past_end : reply copied (Carry 1 0 1 0 0 3) ≡ replies.Nothing
past_end = refl

-- an own node is trimmed once the other region asked past it
abbrev kept_all : World
kept_all = run_steps copied (Trim 0 0 0 (counts 2 0) ∷ [])

nothing_asked : base_after 2 0 (kept_all.histories 0 0) ≡ counts 0 0
nothing_asked = refl

abbrev trimmed : World
trimmed = run_steps copied (Give 1 0 1 0 1 ∷ Trim 0 0 0 (counts 2 0) ∷ [])

one_trimmed : base_after 2 0 (trimmed.histories 0 0) ≡ counts 1 0
one_trimmed = refl

-- who has not played a trimmed node may play no more
missed : reply trimmed (Play 0 0) ≡ replies.Nothing
missed = refl
