-- What a pull does.
use Rattle.std.specs.Prelude.{◌≡◌, ◌⊎◌, ℕ, ◌<◌, ◌≤◌, min, List, [], ◌∷◌, ◌++◌, length, map, take, Some, slice_get}
use Rattle.log_node.specs.declared.node.At.{At}
use Rattle.log_node.specs.declared.node.At.TheVariants.{Event}
use Rattle.log_node.specs.Seen.{PlacedNode}
use Rattle.col_core.specs.declared.Event.TheVariants.{Give}
use Rattle.col_core.specs.History.{line}
use Rattle.turn_cell.specs.Histories.{made_by}
use Rattle.chain_store.specs.declared.told.Tag.{Tag}
use Rattle.chain_store.specs.declared.told.Told.{Told}
use Rattle.chain_store.specs.declared.hold.Hold.{Hold}
use Rattle.chain_store.specs.declared.region.Region.{Region}
use Rattle.chain_store.specs.Histories.{entries_in, maker}
use Rattle.chain_store.specs.Columns.{told_event, told_carry}
use Rattle.chain_store.specs.Passes.{SeesMore, MakesOne}
use Rattle.chain_store.specs.Moves.{held_in, LooksAt}
use Rattle.chain_store.specs.Regions.{tag_at}
use Rattle.chain_store.specs.Holds.{seen_in, SeesMoreIn}
use Rattle.region_pull.specs.declared.pulled.Pulled.{Pulled}
use Rattle.region_pull.specs.declared.pulled.PullFault.{PullFault}
use Rattle.region_pull.specs.declared.pulled.PullFault.TheVariants.{SameRegion, NoMemory}

-- a give of a pull: its place, and the number from which the line is given
pub record GiveOfPull : Type 0 where
  pub place : ℕ
  pub from : ℕ

-- its entry, which the client n made for a region
abbrev pub told_gave : ℕ → ℕ → GiveOfPull → Told
told_gave n region x = told_event n (Give region x.from)

-- what the history has before it
abbrev pub before_gave : List Told → GiveOfPull → List Told
before_gave log x = take x.place log

-- The client n gave to a region: between the two histories it made just these gives, in this order, each at a place that
-- it had not seen before.
pub record MakesGives (n region : ℕ) (old new : List Told) (gives : List GiveOfPull) : Type 0 where
  pub made : made_by maker n new ≡ made_by maker n old ++ map (told_gave n region) gives
  pub there : (i : ℕ) (x : GiveOfPull) → slice_get gives i ≡ Some x
      → (length old ≤ x.place) × (slice_get new x.place ≡ Some (told_gave n region x))
  pub rising : (i j : ℕ) (x y : GiveOfPull) → i < j → slice_get gives i ≡ Some x → slice_get gives j ≡ Some y
      → x.place < y.place

-- A give asks on: its number is what the asking column held of the line at a look, after no fewer events than its old
-- history has and no more than its new one; or the line's length, if that is less.
pub record AsksOn (t u : Tag) (log old new : List Told) (x : GiveOfPull) : Type 0 where
  pub looked : ℕ
  pub unseen : length old ≤ looked
  pub there : looked ≤ length new
  pub number : x.from ≡ min (length (line (entries_in (before_gave log x)))) (held_in u (take looked new) t.region)

-- The gives of a client n who pulls from the column with the tag t, of which it had seen `old` and then `new`, to the one
-- with the tag u: each asks on.
pub record AsksByGives (t u : Tag) (n : ℕ) (old new to_old to_new : List Told) (gives : List GiveOfPull) : Type 0 where
  pub makes : MakesGives n u.region old new gives
  pub on : (i : ℕ) (x : GiveOfPull) → slice_get gives i ≡ Some x → AsksOn t u new to_old to_new x

-- The client n carried so many nodes of a region from where those held ended in the column with the tag u; or none, at a
-- look.
abbrev pub CarriesOn : ℕ → Tag → ℕ → List Told → List Told → At → ℕ → Type 0
CarriesOn region u n old new at nodes =
    (LooksAt n old new at × (nodes ≡ 0))
    ⊎ ((told : Told) × (items : List PlacedNode) × (m : MakesOne n told old new at)
    × (told ≡ told_carry n region (held_in u m.before region) items) × (nodes ≡ length items) × (0 < nodes))

-- A pull of a client, by its holds g of the region that is pulled from and h of the other one, which are g' and h' then:
-- it gave once, from what it had found held, and then carried; all is held then that stood in the line at its give.
pub record PullsByHolds (from to : Region) (colour : ℕ) (g g' h h' : Hold) (p : Pulled) : Type 0 where
  pub gave : GiveOfPull
  -- what it had seen of the asking column before it carried
  pub looked : List Told
  pub looks : SeesMore h.passes.number (seen_in h colour) looked
  pub asks : AsksByGives (tag_at from colour) (tag_at to colour) g.passes.number (seen_in g colour) (seen_in g' colour)
      (seen_in h colour) looked (gave ∷ [])
  pub give : p.give ≡ Event gave.place
  pub carries : CarriesOn from.number (tag_at to colour) h.passes.number looked (seen_in h' colour) p.carry p.nodes
  pub holds : length (line (entries_in (before_gave (seen_in g' colour) gave)))
      ≤ held_in (tag_at to colour) (seen_in h' colour) from.number

-- it only gave, at most once
abbrev pub GivesAlone : Region → Region → ℕ → Hold → Hold → Hold → Hold → Type 0
GivesAlone from to colour g g' h h' =
    (gives : List GiveOfPull) × (length gives ≤ 1)
    × AsksByGives (tag_at from colour) (tag_at to colour) g.passes.number (seen_in g colour)
    (seen_in g' colour) (seen_in h colour) (seen_in h' colour) gives

-- what a pull leaves that is refused: nothing was carried
abbrev pub CarriesNothing : Region → Region → ℕ → Hold → Hold → Hold → Hold → PullFault → Type 0
CarriesNothing from to colour g g' h h' SameRegion = (g' ≡ g) × (h' ≡ h)
CarriesNothing from to colour g g' h h' NoMemory = GivesAlone from to colour g g' h h' × SeesMoreIn colour h h'
