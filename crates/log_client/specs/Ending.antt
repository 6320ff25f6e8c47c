-- What the end of a store needs of each client. All is said of lists of regions and of a client's holds, by region.
use Rattle.std.specs.Prelude.{◌≡◌, ◌≢◌, ℕ, ◌<◌, List, [], ◌∷◌, length, Some, slice_get}
use Rattle.log_node.specs.declared.ids.Id.{Id}
use Rattle.log_node.specs.declared.node.Node.{Node}
use Rattle.col_core.specs.declared.Event.{Event}
use Rattle.col_core.specs.declared.Event.TheVariants.{Single, Propose, Settle, Raise, Give, Carry, Trim}
use Rattle.col_core.specs.Ids.{IsStepOf}
use Rattle.stamp_board.specs.Views.{KnowsBegun}
use Rattle.chain_store.specs.declared.told.Told.{Told}
use Rattle.chain_store.specs.declared.hold.Hold.{Hold}
use Rattle.chain_store.specs.declared.region.Region.{Region}
use Rattle.chain_store.specs.Owning.{row_of}
use Rattle.chain_store.specs.Holds.{IsHold, made_in, view_of}
use Rattle.region_pull.specs.Origins.{AsksForHeld}
use Rattle.append_core.specs.Settled.{HoldKnowsComplete}
use Rattle.append_core.specs.Standing.{IsSingleOf}
use Rattle.lawful_run.specs.Lawful.{IsHelp}

-- the event moves no nodes between regions
abbrev pub IsNoMove : Event → Type 0
IsNoMove (Single id floor wants) = Unit {0}
IsNoMove (Propose id floor wants) = Unit {0}
IsNoMove (Settle id outcome) = Unit {0}
IsNoMove (Raise to) = Unit {0}
IsNoMove (Give region from) = ⊥
IsNoMove (Carry region start heads) = ⊥
IsNoMove (Trim counts) = Unit {0}

-- they are the regions of one store, by number
abbrev pub AreRegions : ℕ → List Region → Type 0
AreRegions regions rs = (n : ℕ) (r : Region) → slice_get rs n ≡ Some r → (r.number ≡ n) × (r.regions ≡ regions)

-- a hold of each region, by number
abbrev pub AreHoldsIn : List Region → List Hold → Type 0
AreHoldsIn rs hs =
    (length hs ≡ length rs)
    × ((n : ℕ) (r : Region) (h : Hold) → slice_get rs n ≡ Some r → slice_get hs n ≡ Some h → IsHold r h)

-- two different regions, and the client's holds of them
pub record ArePair (rs : List Region) (hs : List Hold) (from to : Region) (g h : Hold) : Type 0 where
  pub n : ℕ
  pub m : ℕ
  pub apart : n ≢ m
  pub from_there : slice_get rs n ≡ Some from
  pub to_there : slice_get rs m ≡ Some to
  pub from_hold : slice_get hs n ≡ Some g
  pub to_hold : slice_get hs m ≡ Some h

-- What the client asked for, from region to region, was held.
pub record PullsTruly (rs : List Region) (hs : List Hold) : Type 0 where
  pub gives : (from to : Region) (g h : Hold) (colour : ℕ) → ArePair rs hs from to g h
      → colour < to.board.size.colours → AsksForHeld from to colour g h

-- They are the nodes that the client appended, by count: among them is each node of a single that it made, and for each
-- of its rows the node for which the row is known as begun.
pub record HasOwnNodes (number : ℕ) (hs : List Hold) (nodes : List Node) : Type 0 where
  pub ids : (n : ℕ) (x : Node) → slice_get nodes n ≡ Some x → x.id ≡ record { client = number; count = n }
  pub singles : (region colour n : ℕ) (h : Hold) (t : Told) (x : Node) → slice_get hs region ≡ Some h
      → slice_get (made_in h colour) n ≡ Some t → t.nodes ≡ x ∷ [] → IsSingleOf x.id t.entry.event
      → slice_get nodes x.id.count ≡ Some x
  pub rows : (region j : ℕ) (h : Hold) → slice_get hs region ≡ Some h → j < h.seat.used
      → (x : Node) × KnowsBegun (view_of h) (row_of number j) x × (slice_get nodes x.id.count ≡ Some x)

-- The client made this entry by its hold of a region, and by it completes the append of another client.
pub record IsHelpBy (number : ℕ) (hs : List Hold) (region : ℕ) (h : Hold) (t : Told) : Type 0 where
  pub there : slice_get hs region ≡ Some h
  pub colour : ℕ
  pub n : ℕ
  pub made : slice_get (made_in h colour) n ≡ Some t
  pub helps : IsHelp number t.entry.event

-- Whatever the client helped is of its own region, and complete.
abbrev pub HelpsWhole : ℕ → ℕ → List Hold → Type 0
HelpsWhole number own hs =
    (region : ℕ) (h : Hold) (t : Told) → IsHelpBy number hs region h t
    → (region ≡ own) × ((id : Id) → IsStepOf id t.entry.event → HoldKnowsComplete h id)
