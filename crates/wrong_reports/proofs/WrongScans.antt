-- Scans that show other nodes than they may.
use Rattle.std.proofs.Common.{◌≡◌, ◌<◌, List, [], ◌∷◌, length, refl, ap, sym, subst, arith, lit<}
use Rattle.std.specs.Prelude.{IsTrue}
use Rattle.std.specs.List.{AllZip}
use Rattle.log_node.specs.declared.ids.Key.{Key}
use Rattle.log_node.specs.Order.{key_below}
use Rattle.col_core.specs.RegionOrder.{IsRegionOrder}
use Rattle.lawful_run.specs.Reads.{ShowsKey}
use Rattle.wrong_reports.specs.Cases.{IsUnlawful, key, id}
use Rattle.wrong_reports.specs.Shown.{two_plays, one_play}
use Rattle.wrong_reports.specs.Reads.{a_scan_in_another_order, a_scan_beyond_its_stamp}
use Rattle.wrong_reports.proofs.Tools.{only, ends_with}
use Rattle.wrong_reports.proofs.WrongReads.{scan_says}

pub another_order : IsUnlawful a_scan_in_another_order
another_order run =
    let last = ends_with run.log _ (_ ∷ _ ∷ []) (_ ∷ _ ∷ []) _ _ _ (run.clients 0 _ refl).explained in
    let said = scan_says run.log _ _ _ _ _ _ _ _ _ _ _ last.last in
    by _ said.keys said.are_read said.lines where
      by : (lines : List (List Key)) (keys : List Key) → IsRegionOrder lines 2 keys
          → AllZip (ShowsKey run.log) keys two_plays.nodes → ⊥
      by lines [] order z = z
      by lines (k ∷ []) order z = z.1
      by lines (k ∷ l ∷ keys) order z =
          let rises : IsTrue (key_below k l) = order.rising 0 1 k (lit< tt) (omega arith) in
          let f = subst (λ k. IsTrue (key_below k (key 1 (id 0 0)))) (sym z.0.0)
          (subst (λ l. IsTrue (key_below k l)) (sym z.1.0.0) rises) in
          cc (f)

pub beyond_stamp : IsUnlawful a_scan_beyond_its_stamp
beyond_stamp run =
    let said = scan_says run.log _ _ _ _ _ _ _ _ _ _ _ (only run.log _ _ _ _ (run.clients 1 _ refl).explained) in
    by _ said.keys said.are_read said.lines where
      by : (lines : List (List Key)) (keys : List Key) → IsRegionOrder lines 0 keys
          → AllZip (ShowsKey run.log) keys one_play.nodes → ⊥
      by lines [] order z = z
      by lines (k ∷ keys) order z =
          let l = (order.no_other k (0, (let l : 0 < length (k ∷ keys) = omega arith in l), refl)).0 in
          let s : 1 ≡ k.stamp = ap (λ (k : Key). k.stamp) z.0.0 in
          omega (arith, l, s)
