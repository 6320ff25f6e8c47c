-- What holds of the clients' passes while the columns are closed, the last one first.
use Rattle.std.specs.Prelude.{◌≡◌, ℕ, ◌<◌, ◌≤◌, List, [], ◌∷◌, ◌++◌, length, Some, slice_get}
use Rattle.chain_store.specs.declared.hold.ColumnPasses.{ColumnPasses}
use Rattle.chain_store.specs.declared.seated.Seated.{Seated}
use Rattle.chain_store.specs.Passes.{ColumnCell, ColumnPass, tag_in}
use Rattle.chain_store.specs.Ends.{EndsAs}
use Rattle.chain_store.specs.Holds.{HasPasses}

-- each client has a pass left
abbrev pub HaveOneMore : List ColumnPasses → Type 0
HaveOneMore clients = (n : ℕ) (c : ColumnPasses) → slice_get clients n ≡ Some c → 0 < length c.items.items

-- d is c without its last pass, which is p
abbrev pub Gave : ColumnPasses → ColumnPasses → ColumnPass → Type 0
Gave c d p = c.items.items ≡ d.items.items ++ p ∷ []

-- the first so many clients gave a pass each, and these are they
pub record Gathered (old new : List ColumnPasses) (passes : List ColumnPass) (n : ℕ) : Type 0 where
  pub same : length new ≡ length old
  pub count : length passes ≡ n
  pub gave : (i : ℕ) (c : ColumnPasses) → i < n → slice_get old i ≡ Some c
      → (d : ColumnPasses) × (p : ColumnPass) × (slice_get new i ≡ Some d) × (slice_get passes i ≡ Some p) × Gave c d p
  pub later : (i : ℕ) → n ≤ i → slice_get new i ≡ slice_get old i

-- each client has a pass of each of the cells
abbrev pub AllHold : List ColumnCell → List ColumnPasses → Type 0
AllHold cells clients =
    (n : ℕ) (c : ColumnPasses) → slice_get clients n ≡ Some c → HasPasses cells n c.items.items

-- they are the clients' passes of the column of this colour
pub record AreOfColour (clients : List ColumnPasses) (colour : ℕ) (passes : List ColumnPass) : Type 0 where
  pub count : length passes ≡ length clients
  pub each : (n : ℕ) (c : ColumnPasses) (p : ColumnPass) → slice_get clients n ≡ Some c → slice_get passes n ≡ Some p
      → slice_get c.items.items colour ≡ Some p

-- the column of this colour stands for one history, of which the clients' passes are part
pub record IsClosed (cell : ColumnCell) (clients : List ColumnPasses) (colour : ℕ) (s : Seated) : Type 0 where
  pub passes : List ColumnPass
  pub of_colour : AreOfColour clients colour passes
  pub ends : EndsAs (tag_in cell) passes s

abbrev pub AreClosed : List ColumnCell → List ColumnPasses → List Seated → Type 0
AreClosed cells clients closed =
    (colour : ℕ) (cell : ColumnCell) (s : Seated) → slice_get cells colour ≡ Some cell
    → slice_get closed colour ≡ Some s
    → IsClosed cell clients colour s
