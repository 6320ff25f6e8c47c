-- When a step may be done.
use Rattle.std.specs.Prelude.{Bool, ℕ, ◌+◌, ◌==◌, ◌&&◌, not, nat_lt, nat_le, length}
use Rattle.std.specs.List.{list_any, list_all, range_with_len}
use Rattle.log_node.specs.declared.ids.Row.{Row}
use Rattle.log_node.specs.declared.ids.Colours.{Colours}
use Rattle.log_node.specs.Sets.{members}
use Rattle.log_node.specs.Vectors.{at, is_within}
use Rattle.log_node.specs.declared.marks.Why.{Why}
use Rattle.log_node.specs.declared.marks.Why.TheVariants.{Memory, StampEnd}
use Rattle.log_node.specs.Outcomes.{outcome_of, is_missing}
use Rattle.skeen_core.specs.Queues.{has_open, is_decided}
use Rattle.col_core.specs.History.{clock, last_stamp, entries, line}
use Rattle.world_laws.specs.States.{World, is_client, is_column, home_of, home_history, is_begun, row_of}
use Rattle.world_laws.specs.States.{row_history, marks_of, is_member, is_at_end, is_row_at_end, base_after, held_of}

-- the client has a row left, and the colours are two or more of the log's
abbrev pub may_begin : World → ℕ → Colours → Bool
may_begin w client colours =
    is_client w client && (nat_lt (w.clients client).used w.shape.rows
    && (nat_lt 1 (length (members colours)) && list_all (is_column w (home_of w client)) (members colours)))

-- the row is begun and has the colour, whose mark is missing
abbrev pub may_mark : World → Row → ℕ → Bool
may_mark w row colour =
    is_begun w row && (is_member (row_of w row).node.colours colour && is_missing ((row_of w row).marks colour))

-- the row may be marked, and a stamp is left for its node
abbrev pub may_propose : World → Row → ℕ → Bool
may_propose w row colour = may_mark w row colour && not (is_row_at_end w row colour)

-- a fence for the stamps' end stands only where no stamp is left
abbrev pub may_fence : World → Row → ℕ → Why → Bool
may_fence w row colour Memory = may_mark w row colour
may_fence w row colour StampEnd = may_mark w row colour && is_row_at_end w row colour

-- no mark is missing, and the row is not decided
abbrev pub may_decide : World → Row → Bool
may_decide w row =
    is_begun w row && (not (is_decided (row_of w row).last) && is_decided (outcome_of (marks_of (row_of w row))))

-- the row is decided, and the node is open in the colour's column
abbrev pub may_settle : World → Row → ℕ → Bool
may_settle w row colour =
    is_begun w row
    && (is_decided (row_of w row).last && has_open (row_of w row).node.id (entries (row_history w row colour)))

-- there is the column, and a stamp is left for what the client has seen
abbrev pub may_single : World → ℕ → ℕ → Bool
may_single w client colour =
    is_client w client && (is_column w (home_of w client) colour
    && not (is_at_end (home_history w client colour) (w.clients client).floor))

-- there is the column, and the stamp is above its clock
abbrev pub may_raise : World → ℕ → ℕ → ℕ → Bool
may_raise w region colour to =
    is_column w region colour && (nat_lt (clock (w.histories region colour)) to && nat_le to last_stamp)

-- two columns of a colour, of different regions
abbrev pub are_two_columns : World → ℕ → ℕ → ℕ → Bool
are_two_columns w origin region colour =
    is_column w origin colour && (is_column w region colour && not (origin == region))

-- the region's column holds all nodes of the origin's chain below the number
abbrev pub may_give : World → ℕ → ℕ → ℕ → ℕ → Bool
may_give w origin region colour from =
    are_two_columns w origin region colour && nat_le from (held_of w origin region colour)

-- The stretch stands in the origin's line from its base on; it begins no later than what the region's column holds, and
-- ends later.
abbrev pub may_carry : World → ℕ → ℕ → ℕ → ℕ → ℕ → Bool
may_carry w origin region colour start count =
    let history = w.histories origin colour in
    let held = held_of w origin region colour in
    are_two_columns w origin region colour
    && (nat_le (at (base_after w.shape.regions origin history) origin) start
    && (nat_le (start + count) (length (line history)) && (nat_le start held && nat_lt held (start + count))))

-- none of the nodes that the client has not played is trimmed
abbrev pub may_play : World → ℕ → ℕ → Bool
may_play w client colour =
    is_client w client && (is_column w (home_of w client) colour
    && is_within (base_after w.shape.regions (home_of w client) (home_history w client colour))
    ((w.clients client).played colour))

-- the stamp is above the client's floor, and within the clock of a column of its region
abbrev pub may_see : World → ℕ → ℕ → Bool
may_see w client to =
    is_client w client && (nat_lt (w.clients client).floor to
    && list_any (λ colour. nat_le to (clock (home_history w client colour))) (range_with_len 0 w.shape.colours))
