-- Scans that are wrong.
use Rattle.std.proofs.Common.{◌≡◌, ◌⊎◌, inl, inr, ℕ, zero, suc, ◌<◌, ◌≤◌, List, [], ◌∷◌, length, take, false, refl}
use Rattle.std.proofs.Common.{ap, sym, subst, ◌∙◌, arith, lit<, lit≤}
use Rattle.std.specs.List.{AllZip, Contains}
use Rattle.log_node.specs.declared.ids.Key.{Key}
use Rattle.log_node.specs.declared.ids.Colours.{Colours}
use Rattle.log_node.specs.Sets.{members}
use Rattle.col_core.specs.declared.Entry.{Entry}
use Rattle.col_core.specs.History.{clock, line}
use Rattle.col_core.specs.RegionOrder.{IsRegionOrder, IsClearUpTo}
use Rattle.col_core.specs.Log.{Log}
use Rattle.col_core.specs.Keeping.{Kept}
use Rattle.report_text.specs.declared.report.RaisePiece.{RaisePiece}
use Rattle.report_text.specs.declared.report.SyncPiece.{SyncPiece}
use Rattle.script_text.specs.declared.commands.What.TheVariants.{Scan}
use Rattle.lawful_run.specs.Callers.{Caller}
use Rattle.lawful_run.specs.Reads.{ReadsAt, AreKeysRead, ShowsKey}
use Rattle.lawful_run.specs.Explains.{Answers}
use Rattle.log_node.specs.Seen.{PlacedNode}
use Rattle.wrong_reports.specs.Cases.{IsUnlawful, a, b, e, x, id, key, asks}
use Rattle.wrong_reports.specs.Naming.{one_node}
use Rattle.wrong_reports.specs.Rows.{complete}
use Rattle.wrong_reports.specs.Reads.{raise, scanned, opened, a_scan_of_more_nodes, a_scan_without_a_raise}
use Rattle.wrong_reports.specs.Reads.{a_scan_without_a_sync, a_read_stamp_of_nothing, a_read_below_the_floor}
use Rattle.wrong_reports.specs.Reads.{a_scan_that_leaves_a_node_out, a_raise_that_does_not_reach}
use Rattle.wrong_reports.specs.Reads.{a_raise_before_its_clients_nodes, a_read_over_an_open_entry}
use Rattle.wrong_reports.specs.Reads.{a_read_below_a_clock_that_was_seen, a_raise_that_leaves_the_clock}
use Rattle.wrong_reports.proofs.Tools.{only, column_at}
use Rattle.wrong_reports.proofs.Told.{two, stood_says, several_says}

-- what a scan says
pub record Scans (log : Log) (caller : Caller) (kept : Kept) (colours : Colours) (stamp : ℕ) (raises : List RaisePiece)
    (syncs : List SyncPiece) (nodes : List PlacedNode) (after : Kept) : Type 0 where
  pub reads : ReadsAt log caller kept (members colours) stamp raises syncs after
  pub keys : List Key
  pub are_read : AreKeysRead log caller stamp syncs keys
  pub lines : AllZip (ShowsKey log) keys nodes

same_colours : (one other : Colours) → Scan one ≡ Scan other → one ≡ other
same_colours one other e = cc (e)

pub scan_says : (log : Log) (caller : Caller) (kept after : Kept) (line client : ℕ) (colours : Colours)
    (stamp : ℕ) (raises : List RaisePiece)
    (syncs : List SyncPiece) (count : ℕ) (nodes : List PlacedNode)
    → (a : Answers log caller kept (asks line client (Scan colours))
    (scanned line stamp raises syncs count nodes) after)
    → Scans log caller kept colours stamp raises syncs nodes a.answered
scan_says log caller kept after line client colours stamp raises syncs count nodes a =
    let said = a.explained in
    let c = same_colours _ _ said.1 in
    record {
      reads = subst (λ cs. ReadsAt log caller kept (members cs) stamp raises syncs a.answered) (sym c) said.3;
      keys = said.4;
      are_read = said.5;
      lines = said.6;
    }

pub more_nodes : IsUnlawful a_scan_of_more_nodes
more_nodes run = let c = (only run.log _ _ _ _ (run.clients 0 _ refl).explained).explained.2 in cc (c)

pub without_raise : IsUnlawful a_scan_without_a_raise
without_raise run =
    let c = (scan_says run.log _ _ _ _ _ _ _ _ _ _ _ (only run.log _ _ _ _
    (run.clients 0 _ refl).explained)).reads.raised_colours in
    cc (c)

pub without_sync : IsUnlawful a_scan_without_a_sync
without_sync run =
    let c = (scan_says run.log _ _ _ _ _ _ _ _ _ _ _ (only run.log _ _ _ _
    (run.clients 0 _ refl).explained)).reads.synced_colours in
    cc (c)

pub of_nothing : IsUnlawful a_read_stamp_of_nothing
of_nothing run = by (scan_says run.log _ _ _ _ _ _ _ _ _ _ _ (only run.log _ _ _ _
    (run.clients 0 _ refl).explained)).reads.chosen where
      by : ((◌≡◌ {A = ℕ} 5 0) ⊎ ((r : RaisePiece)
          × Contains (raise x (Rattle.log_node.specs.declared.node.At.TheVariants.Event 0) ∷ []) r
          × (events : ℕ) × (0 ≤ events) × (events ≤ Rattle.lawful_run.specs.Reads.events_until r.at)
          × (◌≡◌ {A = ℕ} 5 (clock (take events (run.log.histories 0 r.colour)))))) → ⊥
      by (inl f) = omega (arith, f)
      by (inr (r, (zero, lt, same), events, le, before, is)) =
          let e : events ≤ 0 = subst (λ
          (r : RaisePiece). events ≤ Rattle.lawful_run.specs.Reads.events_until r.at) (sym same) before in
          let z : events ≡ 0 = omega (arith, e) in
          let f : 5 ≡ 0 = is ∙ ap (λ n. clock (take n (run.log.histories 0 r.colour))) z in
          omega (arith, f)
      by (inr (r, (suc k, lt, same), events, le, before, is)) = let f : ⊥ = omega (arith, lt) in f

pub below_floor : IsUnlawful a_read_below_the_floor
below_floor run =
    let t = two run.log _ _ _ _ _ _ (run.clients 0 _ refl).explained in
    let k = ap (λ (k : Kept). k.floor) (stood_says run.log _ _ _ _ _ _ _ _ _ _ _ t.first).1 in
    let f = (scan_says run.log _ _ _ _ _ _ _ _ _ _ _ t.second).reads.above_floor in
    omega (arith, k, f)

pub leaves_out : IsUnlawful a_scan_that_leaves_a_node_out
leaves_out run =
    let t = two run.log _ _ _ _ _ _ (run.clients 0 _ refl).explained in
    let said = scan_says run.log _ _ _ _ _ _ _ _ _ _ _ t.second in
    let h : one_node.journal ≡ run.log.histories 0 0 =
    (column_at a_scan_that_leaves_a_node_out run 0 one_node refl).history in
    let order = subst (λ (es : List Entry). IsRegionOrder (line (take 1 es)
    ∷ []) 1 said.keys) (sym h) said.are_read in
    by said.keys order said.lines where
      by : (keys : List Key) → IsRegionOrder (line (take 1 one_node.journal) ∷ []) 1 keys
          → AllZip (ShowsKey run.log) keys [] → ⊥
      by [] order z =
          let c = order.all (line one_node.journal) (key 1 (id a 0)) (0, lit< tt, refl) (0, lit< tt, refl)
          (lit≤ tt) in
          let l = c.1 in
          omega (arith, l)
      by (k ∷ keys) order z = z

pub does_not_reach : IsUnlawful a_raise_that_does_not_reach
does_not_reach run =
    let t = two run.log _ _ _ _ _ _ (run.clients 0 _ refl).explained in
    let r = (scan_says run.log _ _ _ _ _ _ _ _ _ _ _ t.second).reads.raising.1.0.3 in
    omega (arith, r)

pub before_nodes : IsUnlawful a_raise_before_its_clients_nodes
before_nodes run =
    let t = two run.log _ _ _ _ _ _ (run.clients 0 _ refl).explained in
    let k = ap (λ (k : Kept). k.known 0) (several_says run.log _ _ _ _ _ _ _ _ _ _ t.first).3 in
    let r = (scan_says run.log _ _ _ _ _ _ _ _ _ _ _ t.second).reads.raising.0.2 in
    let h = (column_at a_raise_before_its_clients_nodes run 0 (complete x) refl).history in
    let l : 0 ≡ length (line (take 1 (run.log.histories 0 0))) =
    ap (λ (es : List Entry). length (line (take 1 es))) h in
    omega (arith, k, r, l)

pub over_open : IsUnlawful a_read_over_an_open_entry
over_open run =
    let s = only run.log _ _ _ _ (run.clients 0 _ refl).explained in
    let c = (scan_says run.log _ _ _ _ _ _ _ _ _ _ _ s).reads.syncing.1 in
    let h = (column_at a_read_over_an_open_entry run 0 opened refl).history in
    let clear = subst (λ (es : List Entry). IsClearUpTo 1 (take 1 es)) (sym h) c in
    let f : 1 < 1 = clear 0 (record { key = key 1 (id b 0); settled = false }) (lit< tt) refl in
    omega (arith, f)

pub below_clock : IsUnlawful a_read_below_a_clock_that_was_seen
below_clock run =
    let t = two run.log _ _ _ _ _ _ (run.clients 0 _ refl).explained in
    let k = ap (λ (k : Kept). k.seen 0 0) (t.first.after_is ∙ t.first.explained.4) in
    let c = (scan_says run.log _ _ _ _ _ _ _ _ _ _ _ t.second).reads.above_clocks 0 0 (lit< tt) in
    let h = (column_at a_read_below_a_clock_that_was_seen run 0 opened refl).history in
    let d : clock (take (t.kept.seen 0 0) (run.log.histories 0 0)) ≡ 1 =
    ap (λ n. clock (take n (run.log.histories 0 0))) k ∙ ap (λ (es : List Entry). clock (take 1 es)) (sym h) in
    let l = c.1 in
    omega (arith, d, l)

pub leaves_clock : IsUnlawful a_raise_that_leaves_the_clock
leaves_clock run = let s = (column_at a_raise_that_leaves_the_clock run 1 _ refl).closing.clock_shown in cc (s)
