-- Appends to one colour that may only stand next, over the client before and after. What explains them is said over the log:
-- lawful_run.
use Rattle.std.specs.Prelude.{◌≡◌, ◌≢◌, ◌⊎◌, ℕ, List, [], ◌∷◌, map, None}
use Rattle.std.specs.List.{All}
use Rattle.log_node.specs.declared.ids.Colours.{Colours}
use Rattle.log_node.specs.declared.node.At.TheVariants.{Event}
use Rattle.log_node.specs.Sets.{members}
use Rattle.log_node.specs.Vectors.{at}
use Rattle.col_core.specs.History.{last_stamp}
use Rattle.col_core.specs.Log.{Log}
use Rattle.col_core.specs.Keeping.{Kept, kept_after_look}
use Rattle.column.specs.declared.faults.OnlyFault.{OnlyFault}
use Rattle.column.specs.declared.faults.OnlyFault.TheVariants as faults
use Rattle.lawful_run.specs.Callers.{Caller, node_of}
use Rattle.lawful_run.specs.Appends.{HasNoStamp, IsSoLong, WasNext}
use Rattle.log_client.specs.declared.store.Store.{Store}
use Rattle.log_client.specs.declared.client.Client.{Client}
use Rattle.log_client.specs.declared.answers.Appended.{Appended}
use Rattle.log_client.specs.Clients.{starts_of}
use Rattle.log_client.specs.Calls.{DidNothing, IsExplained}
use Rattle.log_client.specs.Appends.{AppendsAs, piece_of}

-- The node took no row, and has one point: its event in the colour, with the position up to which the client has played.
abbrev pub IsNextPoint : Client → ℕ → Appended → Type 0
IsNextPoint c colour a =
    (a.row ≡ None) × (place : ℕ)
    × (a.stood.points
    ≡ record { colour = colour; at = Event place; position = at (starts_of c colour) c.region } ∷ [])

-- The node with this text stands in the colour alone, where the answer says, and right before its event no entry was open and
-- the line was as long as the client has played.
abbrev pub OnlyAs : ℕ → List ℕ → Appended → Log → Caller → Kept → Kept → Type 0
OnlyAs colour text a log caller kept after =
    (set : Colours) × (members set ≡ colour ∷ []) × AppendsAs set text a log caller kept after
    × All (WasNext log caller kept) (map piece_of a.stood.points)

-- A look at the colour after so many events shows that something has come between: an entry is open, or the line is not as
-- long as the client has played.
abbrev pub FindsMoved : ℕ → ℕ → ℕ → ℕ → Log → Caller → Kept → Kept → Type 0
FindsMoved colour lined waiting events log caller kept after =
    IsSoLong log caller kept colour events lined waiting
    × ((waiting ≢ 0) ⊎ (lined ≢ at (kept.starts colour) caller.own))
    × (after ≡ kept_after_look kept caller.own colour events)

-- No stamp was left in the colour for a node with this text in it alone.
abbrev pub FindsNoStamp : ℕ → List ℕ → Log → Caller → Kept → Kept → Type 0
FindsNoStamp colour text log caller kept after =
    (set : Colours) × (members set ≡ colour ∷ []) × HasNoStamp log caller kept (node_of caller kept set text) colour after

-- Why such an append does not stand: something has come between; no stamp was left; or memory was refused, and nothing was
-- done.
abbrev pub OnlyRefused : Store → Client → Client → ℕ → List ℕ → OnlyFault → Type 0
OnlyRefused s c d colour text (faults.Moved lined waiting events) =
    IsExplained s c d (FindsMoved colour lined waiting events)
OnlyRefused s c d colour text (faults.StampEnd own clock) =
    (own ≡ colour) × (clock ≡ last_stamp) × IsExplained s c d (FindsNoStamp colour text)
OnlyRefused s c d colour text faults.NoMemory = DidNothing s c d
