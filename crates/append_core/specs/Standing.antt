-- An append to one colour, over the holds before and after. Over what a client has seen: client_law; over the log:
-- lawful_run.
use Rattle.std.specs.Prelude.{◌≡◌, ◌⊎◌, ℕ, ◌≤◌, [], ◌∷◌, length, take, Some, slice_get}
use Rattle.log_node.specs.declared.ids.Id.{Id}
use Rattle.log_node.specs.declared.node.At.TheVariants.{Event}
use Rattle.log_node.specs.declared.node.Node.{Node}
use Rattle.col_core.specs.declared.Event as events
use Rattle.col_core.specs.declared.Event.TheVariants.{Single, Propose, Settle, Raise, Give, Carry, Trim}
use Rattle.col_core.specs.History.{entry_key}
use Rattle.col_core.specs.Appending.{StandsUnder}
use Rattle.chain_store.specs.declared.hold.Hold.{Hold}
use Rattle.chain_store.specs.Columns.{told_single}
use Rattle.chain_store.specs.Holds.{seen_in, entries_seen}
use Rattle.append_core.specs.declared.stood.Stood.{Stood}
use Rattle.chain_store.specs.Guarded.{wanted, IsNext}
use Rattle.chain_store.specs.Going.{GoesOn}
use Rattle.append_core.specs.Helping.{HelpsOpen}

-- the event enters the id as final
abbrev pub IsSingleOf : Id → events.Event → Type 0
IsSingleOf id (Single other floor wants) = other ≡ id
IsSingleOf id (Propose other floor wants) = ⊥
IsSingleOf id (Settle other outcome) = ⊥
IsSingleOf id (Raise to) = ⊥
IsSingleOf id (Give region from) = ⊥
IsSingleOf id (Carry region start heads) = ⊥
IsSingleOf id (Trim counts) = ⊥

-- An append to one colour, as far as h has seen: its node entered by an event of the hold that g had not seen, and stands
-- under its stamp in the line; else the hold only helped.
pub record HoldAppendsOne (g h : Hold) (x : Node) (colour : ℕ) (s : Stood) : Type 0 where
  pub stamp : ℕ
  pub place : ℕ
  pub position : ℕ
  pub key : s.key ≡ entry_key stamp x.id
  pub point : s.points ≡ record { colour = colour; at = Event place; position = position } ∷ []
  pub unseen : length (seen_in g colour) ≤ place
  pub entered : slice_get (seen_in h colour) place ≡ Some (told_single colour g.passes.number x stamp)
  pub stands : StandsUnder (entries_seen h colour) x stamp position
  pub goes : GoesOn (λ c e. ((c ≡ colour) × IsSingleOf x.id e) ⊎ HelpsOpen g h e) g h

-- Such an append that came next: right before its event no entry was open, and the line had as many nodes as it wants of
-- it, which is its position. Nothing was helped.
pub record HoldAppendsNext (region : ℕ) (g h : Hold) (x : Node) (colour : ℕ) (s : Stood) : Type 0 where
  pub one : HoldAppendsOne g h x colour s
  pub next : IsNext (take one.place (entries_seen h colour)) (wanted region colour x)
  pub there : one.position ≡ wanted region colour x
  pub alone : GoesOn (λ c e. (c ≡ colour) × IsSingleOf x.id e) g h
