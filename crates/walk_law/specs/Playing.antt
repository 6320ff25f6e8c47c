-- The order of play of a colour's nodes, by the lines of their regions.
use Rattle.std.specs.Prelude.{◌≡◌, ℕ, List, Option, Some, None, slice_get, if◌then◌else◌}
use Rattle.log_node.specs.declared.ids.Counts.{Counts}
use Rattle.log_node.specs.declared.node.Head.{Head}
use Rattle.log_node.specs.Reach.{Chains}
use Rattle.log_node.specs.Vectors.{at}
use Rattle.playback.specs.Orders.{is_free, next_region}
use Rattle.walk_law.specs.declared.playing.Next.{Next}
use Rattle.walk_law.specs.Proposals.{line_heads}
use Rattle.walk_law.specs.Walking.{Walked, journal_walked}

-- for each region the heads of its own line of a colour
abbrev pub lines_of : Walked → ℕ → Chains
lines_of walked colour region = line_heads region (journal_walked walked region colour)

-- the next node of a region's chain, where it is to be played and its needs are played
abbrev pub free_head : Chains → Counts → Counts → ℕ → Option Head
free_head chains played to region =
    if is_free chains played to region then slice_get (chains region) (at played region) else None

-- of these regions it is the one whose next node is played next, with that node's head; or there is none
abbrev pub IsNextOf : Chains → Counts → Counts → List ℕ → Option Next → Type 0
IsNextOf chains played to regions None = next_region chains played to regions ≡ None
IsNextOf chains played to regions (Some next) =
    (next_region chains played to regions ≡ Some next.region)
    × (slice_get (chains next.region) (at played next.region) ≡ Some next.head)
