-- What a journal says of the proposal of an id.
use Rattle.std.specs.Prelude.{◌≡◌, Bool, false, ℕ, ◌+◌, List, length, map, Option, Some, None, slice_get}
use Rattle.std.specs.List.{find, flat_map}
use Rattle.log_node.specs.declared.node.Head.{Head}
use Rattle.log_node.specs.declared.ids.Key.{Key}
use Rattle.col_core.specs.History.{line}
use Rattle.col_core.specs.Cuts.{carried, needs_of}
use Rattle.col_core.specs.Computed.{dated}
use Rattle.log_node.specs.declared.ids.Id.{Id}
use Rattle.log_node.specs.Order.{same_id}
use Rattle.col_core.specs.declared.Event.{Event}
use Rattle.col_core.specs.declared.Event.TheVariants.{Single, Propose, Settle, Raise, Give, Carry, Trim}
use Rattle.col_core.specs.declared.Entry.{Entry}
use Rattle.walk_law.specs.declared.rows.Proposal.{Proposal}

-- the event proposes the id
abbrev pub proposes : Id → Event → Bool
proposes id (Single other floor wants) = false
proposes id (Propose other floor wants) = same_id id other
proposes id (Settle other outcome) = false
proposes id (Raise to) = false
proposes id (Give region from) = false
proposes id (Carry region start heads) = false
proposes id (Trim counts) = false

-- the first event that proposes it
abbrev pub proposal : Id → List Entry → Option Entry
proposal id history = find (λ (e : Entry). proposes id e.event) history

-- what an event tells of a node that it proposes, under this stamp
abbrev pub event_told : Event → ℕ → Option Proposal
event_told (Single id floor wants) stamp = None
event_told (Propose id floor wants) stamp = Some (record { stamp = stamp; floor = floor })
event_told (Settle id outcome) stamp = None
event_told (Raise to) stamp = None
event_told (Give region from) stamp = None
event_told (Carry region start heads) stamp = None
event_told (Trim counts) stamp = None

abbrev pub proposal_told : Entry → Option Proposal
proposal_told e = event_told e.event e.stamp

-- what the proposal of an id tells
abbrev pub told_or : Option Entry → Option Proposal
told_or None = None
told_or (Some e) = proposal_told e

abbrev pub told_in : Id → List Entry → Option Proposal
told_in id history = told_or (proposal id history)

-- COPIES

-- the heads stand in the chain, one after another, from a place on
abbrev pub StandFrom : List Head → ℕ → List Head → Type 0
StandFrom chain from heads = (k : ℕ) (h : Head) → slice_get heads k ≡ Some h → slice_get chain (from + k) ≡ Some h

-- the heads of a region's chain that a journal brings
abbrev pub carried_by : ℕ → List Entry → List Head
carried_by region journal = flat_map (λ (e : Entry). carried region e.event) journal

-- the heads of a column's own line
abbrev pub line_heads : ℕ → List Entry → List Head
line_heads own journal =
    map (λ (key : Key). record { key = key; needs = needs_of (dated own journal) key.id }) (line journal)

-- one goes past heads that stand in a chain from a place on, to the place behind them; none where they do not stand there
abbrev pub PassesHeads : List Head → ℕ → List Head → Option ℕ → Type 0
PassesHeads chain from heads None = StandFrom chain from heads → ⊥
PassesHeads chain from heads (Some to) = StandFrom chain from heads × (to ≡ from + length heads)
