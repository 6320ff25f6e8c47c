-- What a history says stays true as more is seen.
use Rattle.std.proofs.Common.{◌≡◌, ℕ, ◌≤◌, List, ◌++◌, ap, sym, subst, ◌∙◌, arith}
use mathlib.Core.List.{IsPrefix}
use Rattle.std.proofs.lemmas.List.{map-append}
use Rattle.col_core.specs.Cuts.{Dated, chain}
use Rattle.col_core.specs.Computed.{dated}
use Rattle.col_core.specs.Legal.{IsColumnHistory}
use Rattle.col_core.proofs.CallerLemmas.{chains_grow, dates_longer, later}
use Rattle.chain_store.specs.declared.told.Tag.{Tag}
use Rattle.chain_store.specs.declared.told.Told.{Told}
use Rattle.chain_store.specs.Histories.{entries_in}
use Rattle.chain_store.specs.Passes.{dated_in, IsLawfulTold}
use Rattle.chain_store.specs.Moves.{held_in}
use Rattle.region_pull.specs.Origins.{IsHeldFor}
use Rattle.region_pull.proofs.Lists.{prefix_long}

module _ (t : Tag) (old new : List Told) (more : IsPrefix old new) where
  module _ (lawful : IsLawfulTold t new) where
    pub chain_longer : (region : ℕ)
        → IsPrefix (chain t.region (dated_in t old) region) (chain t.region (dated_in t new) region)
    chain_longer region =
        let own = t.region in
        let past = later own (dated_in t old) (entries_in more.0) in
        let split : dated_in t new ≡ dated_in t old ++ past =
        ap (dated_in t) (sym more.1) ∙ (ap (dated own) (map-append (λ (u : Told). u.entry) old more.0)
        ∙ dates_longer own (entries_in old) (entries_in more.0)) in
        let grown = chains_grow own t.regions (dated_in t old) past
        (subst (IsColumnHistory own t.regions) split lawful) region in
        subst (λ (l : List Dated). IsPrefix (chain own (dated_in t old) region) (chain own l region)) (sym split) grown

    pub held_longer : (region : ℕ) → held_in t old region ≤ held_in t new region
    held_longer region =
        prefix_long (chain t.region (dated_in t old) region) (chain t.region (dated_in t new) region)
        (chain_longer region)

    pub held_for_longer : (region : ℕ) (told : Told) → IsHeldFor t old region told → IsHeldFor t new region told
    held_for_longer region told h from is =
        let a = h from is in let b = held_longer region in omega (arith, a, b)
