-- What a client sees and makes of a column by the calls that enter no node.
use Rattle.std.specs.Prelude.{◌≡◌, ◌⊎◌, ℕ, ◌<◌, ◌≤◌, min, List, length}
use Rattle.log_node.specs.declared.ids.Counts.{Counts}
use Rattle.log_node.specs.declared.node.At.{At}
use Rattle.log_node.specs.declared.node.At.TheVariants.{Look}
use Rattle.log_node.specs.Seen.{PlacedNode}
use Rattle.col_core.specs.declared.Event.TheVariants.{Raise, Give, Trim}
use Rattle.col_core.specs.History.{clock, line}
use Rattle.col_core.specs.Cuts.{chain, base}
use Rattle.chain_store.specs.declared.told.Tag.{Tag}
use Rattle.chain_store.specs.declared.told.Told.{Told}
use Rattle.chain_store.specs.Histories.{entries_in}
use Rattle.chain_store.specs.Columns.{told_event, told_carry}
use Rattle.chain_store.specs.Passes.{SeesMore, MakesOne, dated_in}

-- how many nodes of a region's chain are held after a history
abbrev pub held_in : Tag → List Told → ℕ → ℕ
held_in t log region = length (chain t.region (dated_in t log) region)

-- the base after a history
abbrev pub base_in : Tag → List Told → Counts
base_in t log = base t.region t.regions (dated_in t log)

-- a look of the client n, after so many events as the answer says
abbrev pub LooksAt : ℕ → List Told → List Told → At → Type 0
LooksAt n old new at = SeesMore n old new × (at ≡ Look (length new))

-- the clock is raised, by an event exactly where it was smaller
pub record RaisesAt (n to : ℕ) (old new : List Told) (at : At) : Type 0 where
  pub reached : to ≤ clock (entries_in new)
  pub either : LooksAt n old new at
      ⊎ ((m : MakesOne n (told_event n (Raise to)) old new at) × (clock (entries_in m.before) < to))

-- the own line is given to a region, which has then asked past the number; the answer is the line's length
pub record GivesAt (n region from : ℕ) (old new : List Told) (at : At) (lined : ℕ) : Type 0 where
  pub told : Told
  pub made : MakesOne n told old new at
  pub note : told ≡ told_event n (Give region (min from (length (line (entries_in made.before)))))
  pub line_is : lined ≡ length (line (entries_in made.before))

-- what was received is carried behind what was held, by an event exactly where there is something: so many nodes; no fewer
-- than the least are held then
pub record CarriesAt (t : Tag) (n region least : ℕ) (old new : List Told) (at : At) (nodes : ℕ) : Type 0 where
  pub either : (LooksAt n old new at × (nodes ≡ 0))
      ⊎ ((told : Told) × (items : List PlacedNode) × (m : MakesOne n told old new at)
      × (told ≡ told_carry n region (held_in t m.before region) items)
      × (nodes ≡ length items) × (0 < nodes))
  pub covers : least ≤ held_in t new region

-- a carry that found fewer than the least: nothing is made, and fewer are held
pub record WaitsAt (t : Tag) (n region least : ℕ) (old new : List Told) : Type 0 where
  pub sees : SeesMore n old new
  pub fewer : held_in t new region < least

-- nodes are trimmed, and the answer is the base afterwards
abbrev pub TrimsAt : Tag → ℕ → Counts → List Told → List Told → At → Counts → Type 0
TrimsAt t n counts old new at answer =
    MakesOne n (told_event n (Trim counts)) old new at × (answer ≡ base_in t new)
