-- What stands in a line has entered, and is open no more.
use Rattle.std.proofs.Common.{◌≡◌, ℕ, ◌<◌, List, [], ◌++◌, true, Some, None, slice_get, refl, sym, subst, append-nil}
use Rattle.log_node.specs.declared.node.At.{At}
use Rattle.log_node.specs.declared.node.At.TheVariants.{Event, Look}
use Rattle.log_node.specs.declared.node.Node.{Node}
use Rattle.log_node.specs.Standings.{Standing, open_entry}
use Rattle.col_core.specs.declared.Entry.{Entry}
use Rattle.col_core.specs.History.{entries, entry_key, has_entered, line}
use Rattle.col_core.specs.Computed.{dated}
use Rattle.col_core.specs.Legal.{IsColumnHistory}
use Rattle.col_core.specs.Ids.{IsFinal}
use Rattle.col_core.proofs.CallerLemmas.{In, contains_in, in_line, slice_in, same_id-refl}
use Rattle.chain_store.specs.declared.hold.Hold.{Hold}
use Rattle.chain_store.specs.declared.region.Region.{Region}
use Rattle.chain_store.specs.Columns.{told_propose}
use Rattle.chain_store.specs.Holds.{IsHold, seen_in, entries_seen}
use Rattle.chain_store.proofs.CallerLemmas.{lawful_seen}
use Rattle.append_core.specs.declared.stood.Point.{Point}
use Rattle.append_core.specs.Several.{HoldEnters, HoldSeesPoint}
use Rattle.append_core.proofs.Lasting.{not_open}
use Rattle.append_core.proofs.Taking.{entered_in}

has_come : (g h : Hold) (x : Node) (c : ℕ) (at : At) → HoldEnters g h x c at
    → has_entered x.id (entries_seen h c) ≡ true
has_come g h x c (Event place) e =
    let t = told_propose c g.passes.number x e.1 in
    entered_in (seen_in h c) t x.id (same_id-refl x.id) (slice_in (seen_in h c) place t e.2)
has_come g h x c (Look seen) e =
    let t = told_propose c e.4 x e.6 in
    entered_in (seen_in h c) t x.id (same_id-refl x.id) (slice_in (seen_in h c) e.2 t e.7)

-- a key in the line is that of a final entry
final_in_line : (history : List Entry) (x : Node) (stamp position : ℕ)
    → slice_get (line history) position ≡ Some (entry_key stamp x.id) → IsFinal history x.id stamp
final_in_line history x stamp position at =
    let s = in_line (entries history) (entry_key stamp x.id) (slice_in (line history) position (entry_key stamp x.id) at) in
    let same : s.0 ≡ record { key = entry_key stamp x.id; settled = true } =
    (λ i. record { key = s.2 i; settled = s.3 i }) in
    contains_in (entries history) (record { key = entry_key stamp x.id; settled = true })
    (subst (λ (e : Standing). In e (entries history)) same s.1)

-- a node of several colours that stands in one of them has entered there, and is open there no more
pub stands_closed : (r : Region) (g h : Hold) (x : Node) (stamp : ℕ) (p : Point) → IsHold r h
    → p.colour < r.board.size.colours → HoldSeesPoint g h x stamp p
    → (has_entered x.id (entries_seen h p.colour) ≡ true)
    × (open_entry x.id (entries (entries_seen h p.colour)) ≡ None)
stands_closed r g h x stamp p is lt stands =
    let history = entries_seen h p.colour in
    let whole : IsColumnHistory r.number r.regions (dated r.number (history ++ [])) =
    subst (λ (l : List Entry). IsColumnHistory r.number r.regions (dated r.number l)) (sym (append-nil history))
    (lawful_seen r h p.colour is lt) in (
      has_come g h x p.colour p.at stands.entered,
      not_open r.number r.regions history [] x.id whole stamp (final_in_line history x stamp p.position stands.stands)
          (open_entry x.id (entries history)) refl,
    )
