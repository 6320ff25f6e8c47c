-- What the steps of a pull say of one another.
use Rattle.std.specs.Prelude.{◌≡◌, ℕ, [], ◌∷◌, length}
use Rattle.log_node.specs.declared.node.At.{At}
use Rattle.log_node.specs.declared.node.At.TheVariants.{Event}
use Rattle.col_core.specs.History.{line}
use Rattle.chain_store.specs.declared.hold.Hold.{Hold}
use Rattle.chain_store.specs.declared.region.Region.{Region}
use Rattle.chain_store.specs.Histories.{entries_in}
use Rattle.chain_store.specs.Regions.{tag_at}
use Rattle.chain_store.specs.Holds.{seen_in, SeesMoreIn}
use Rattle.chain_store.specs.Going.{GoesOnIn}
use Rattle.region_pull.specs.Pulls.{GiveOfPull, AsksByGives, before_gave}

-- it has given once, at the place and from what it had found held, when the line had this length
pub record HasAsked (from to : Region) (colour : ℕ) (g g' h h' : Hold) (place : At) (lined : ℕ) : Type 0 where
  pub gave : GiveOfPull
  pub asks : AsksByGives (tag_at from colour) (tag_at to colour) g.passes.number (seen_in g colour) (seen_in g' colour)
      (seen_in h colour) (seen_in h' colour) (gave ∷ [])
  pub there : place ≡ Event gave.place
  pub line_is : lined ≡ length (line (entries_in (before_gave (seen_in g' colour) gave)))

-- it has seen more of the one column, and made nothing there
pub record HasWatched (r : Region) (colour : ℕ) (g h : Hold) : Type 0 where
  pub goes : GoesOnIn r colour g h
  pub sees : SeesMoreIn colour g h
