-- Carries, as more is seen before them.
use Rattle.std.proofs.Common.{ℕ, List, ◌∙◌, inl, inr}
use mathlib.Core.List.{IsPrefix}
use Rattle.log_node.specs.declared.node.At.{At}
use Rattle.chain_store.specs.declared.told.Tag.{Tag}
use Rattle.chain_store.specs.declared.told.Told.{Told}
use Rattle.chain_store.specs.Passes.{SeesMore, MakesOne}
use Rattle.chain_store.specs.Moves.{CarriesAt}
use Rattle.region_pull.specs.Pulls.{CarriesOn}
use Rattle.region_pull.proofs.Lists.{prefix_then}
use Rattle.region_pull.proofs.Giving.{made_more}

-- one who carries, or looks and carries nothing, sees more
pub carries_more : (region : ℕ) (u : Tag) (n : ℕ) (old new : List Told) (at : At) (nodes : ℕ)
    → CarriesOn region u n old new at nodes → IsPrefix old new
carries_more region u n old new at nodes (inl look) = look.0.0.more
carries_more region u n old new at nodes (inr c) = made_more n c.0 old new at c.2

-- a look before a carry is part of it
pub looks_carries : (region : ℕ) (u : Tag) (n : ℕ) (old mid new : List Told) (at : At) (nodes : ℕ)
    → SeesMore n old mid → CarriesOn region u n mid new at nodes → CarriesOn region u n old new at nodes
looks_carries region u n old mid new at nodes s (inl look) =
    let seen : SeesMore n old new = record {
      more = prefix_then old mid new s.more look.0.0.more;
      none = look.0.0.none ∙ s.none;
    } in
    inl ((seen, look.0.1), look.1)
looks_carries region u n old mid new at nodes s (inr c) =
    let m : MakesOne n c.0 old new at = record {
      before = c.2.before;
      more = prefix_then old mid c.2.before s.more c.2.more;
      none = c.2.none ∙ s.none;
      adds = c.2.adds;
      place = c.2.place;
    } in
    inr (c.0, c.1, m, c.3, c.4, c.5)

pub looks_carries_at : (region least : ℕ) (u : Tag) (n : ℕ) (old mid new : List Told) (at : At) (nodes : ℕ)
    → SeesMore n old mid → CarriesAt u n region least mid new at nodes → CarriesAt u n region least old new at nodes
looks_carries_at region least u n old mid new at nodes s c = record {
  either = looks_carries region u n old mid new at nodes s c.either;
  covers = c.covers;
}
