-- What a hold at rest has seen.
use Rattle.std.proofs.Common.{ℕ, ◌<◌, List, ap, sym, subst, arith}
use Rattle.col_core.specs.Legal.{IsColumnHistory}
use Rattle.col_core.specs.Computed.{dated}
use Rattle.turn_cell.specs.Cells.{seen}
use Rattle.chain_store.specs.declared.told.Tag.{Tag}
use Rattle.chain_store.specs.declared.told.Told.{Told}
use Rattle.chain_store.specs.declared.hold.Hold.{Hold}
use Rattle.chain_store.specs.declared.region.Region.{Region}
use Rattle.chain_store.specs.Histories.{HasIds}
use Rattle.chain_store.specs.Passes.{IsLawfulTold}
use Rattle.chain_store.specs.Regions.{tag_at}
use Rattle.chain_store.specs.Holds.{IsHold, passes_of, history_seen, seen_in, entries_seen}
use Rattle.chain_store.proofs.Places.{got}
use Rattle.chain_store.proofs.Tagged.{tagged_at}

-- it is a lawful history of each column
pub lawful_seen : (r : Region) (h : Hold) (k : ℕ) → IsHold r h → k < r.board.size.colours
    → IsColumnHistory r.number r.regions (dated r.number (entries_seen h k))
lawful_seen r h k is lt =
    let all = r.count in
    let many = is.passes.0 in
    let c = got r.columns.items k (omega (arith, lt, all)) in
    let p = got (passes_of h) k (omega (arith, lt, all, many)) in
    subst (λ (l : List Told). IsLawfulTold (tag_at r k) l) (sym (ap history_seen p.1))
    (subst (λ (t : Tag). IsLawfulTold t (seen p.0)) (tagged_at r k c.0 c.1) (is.passes.1 k c.0 p.0 c.1 p.1).lawful)

-- its ids are such as there may be
pub ids_seen : (r : Region) (h : Hold) (k : ℕ) → IsHold r h → k < r.board.size.colours → HasIds (seen_in h k)
ids_seen r h k is lt =
    let all = r.count in
    let many = is.passes.0 in
    let c = got r.columns.items k (omega (arith, lt, all)) in
    let p = got (passes_of h) k (omega (arith, lt, all, many)) in
    subst HasIds (sym (ap history_seen p.1)) (is.passes.1 k c.0 p.0 c.1 p.1).ids
