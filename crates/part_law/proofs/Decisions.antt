-- What a decision says stays true.
use Rattle.std.proofs.Common.{◌≡◌, Bool, ℕ, ◌≤◌, List, map, ap, sym, subst, ◌∙◌, arith}
use Rattle.std.specs.Prelude.{IsTrue}
use Rattle.std.specs.List.{All, AllPairs, AllZip}
use Rattle.log_node.specs.declared.ids.Key.{Key}
use Rattle.log_node.specs.Order.{key_below}
use Rattle.log_node.proofs.CallerLemmas.{key-stamps}
use Rattle.object_fold.specs.Nodes.{ObjectNode}
use Rattle.part_fold.specs.Agreement.{outcome}
use Rattle.col_core.specs.RegionOrder.{IsRegionOrder}
use Rattle.col_core.proofs.CallerLemmas.{all_in, contains_in, In, in_contains}
use Rattle.script_text.specs.declared.script.Script.{Script}
use Rattle.report_text.specs.declared.report.Answer.{Answer}
use Rattle.report_text.specs.declared.report.Answer.TheVariants as answers
use Rattle.report_text.specs.declared.report.SyncPiece.{SyncPiece}
use Rattle.report_text.specs.declared.report.Report.{Report}
use Rattle.lawful_run.specs.Callers.{caller_of}
use Rattle.lawful_run.specs.Asks.{rising}
use Rattle.lawful_run.specs.Explains.{Explains}
use Rattle.lawful_run.specs.Lawful.{LawfulRun}
use Rattle.lawful_run.specs.ObjectReadings.{AreNodesOf, IsClosing, IsNodeOf}
use Rattle.lawful_run.specs.Parts.{Decides, IsRuledAs}
use Rattle.lawful_run.specs.Reads.{kept_after_piece}
use Rattle.part_law.specs.Laws.{DecisionsAreTrue}
use Rattle.lawful_run.proofs.CallerLemmas.{zip_of, zip_to}
use Rattle.part_law.proofs.Lists.{zip_made, zip_map}
use Rattle.part_law.proofs.LogReading.{log_reading}
use Rattle.part_law.proofs.Reading.{AreLogged, IsLogged, Reading, Reason, all_logged}
use Rattle.part_law.proofs.Rising.{Rises, rises_from, same_verdict, stands_among}
use Rattle.part_law.proofs.Standing.{same_node}

-- nodes of the log in the order of a region
record InOrder {script : Script} {report : Report} (run : LawfulRun script report) (lines : List (List Key)) (stamp : ℕ)
    (keys : List Key) (nodes : List ObjectNode) : Type 0 where
  order : IsRegionOrder lines stamp keys
  logged : AreLogged run.log keys nodes

module _ {script : Script} {report : Report} (run : LawfulRun script report) (lines : List (List Key)) where
  rises_in : (stamp : ℕ) (keys : List Key) (nodes : List ObjectNode) → InOrder run lines stamp keys nodes → Rises nodes
  rises_in stamp keys nodes x = rises_from nodes (subst (λ (ks : List Key). AllPairs (λ (a b : Key). IsTrue (key_below a b)) ks)
      (sym (zip_map (IsLogged run.log) (λ (n : ObjectNode). n.key) (λ k n o. o.key_is) keys nodes x.logged)) x.order.rising)

  is_node : (stamp : ℕ) (keys : List Key) (nodes : List ObjectNode) → InOrder run lines stamp keys nodes
      → (n : ObjectNode) → In n nodes → In n.key keys × IsLogged run.log n.key n
  is_node stamp keys nodes x n i =
      let z = zip_of (IsLogged run.log) keys nodes x.logged n i in
      let e = sym z.2.key_is in
      (subst (λ (k : Key). In k keys) e z.1, subst (λ (k : Key). IsLogged run.log k n) e z.2)

  -- a node of one order is one of another, where its stamp is not above that one's
  moved : (a b : ℕ) (ks ls : List Key) (ms ns : List ObjectNode) → InOrder run lines a ks ms → InOrder run lines b ls ns
      → (n : ObjectNode) → In n ms → n.key.stamp ≤ b → In n ns
  moved a b ks ls ms ns x y n i le =
      let m = is_node a ks ms x n i in
      let o = x.order.no_other n.key (contains_in ks n.key m.0) in
      let z = zip_to (IsLogged run.log) ls ns y.logged n.key (in_contains ls n.key (y.order.all o.1 n.key o.2 o.3 le)) in
      subst (λ (k : ObjectNode). In k ns) (same_node run n.key z.0 n z.2 m.1) z.1

  -- so the verdict on a transaction is the same in both
  same_ruling : (a b : ℕ) (ks ls : List Key) (ms ns : List ObjectNode) → InOrder run lines a ks ms → InOrder run lines b ls ns
      → a ≤ b → (waits : Key) (commits : Bool) → IsRuledAs waits commits ms → IsRuledAs waits commits ns
  same_ruling a b ks ls ms ns x y le waits commits ruled =
      ap outcome (sym (same_verdict ms ns waits on.0 (rises_in a ks ms x) (rises_in b ls ns y) on.1
      (moved a b ks ls ms ns x y on.0 on.1 (let l = within on.0 on.1 in omega (arith, l, le))) on.2
      (λ n i below. moved a b ks ls ms ns x y n i (let l = within n i in omega (arith, l, le)))
      (λ n i below. moved b a ls ks ns ms y x n i (let s = key-stamps n.key waits below in omega (arith, s, waits_within)))))
      ∙ ruled where
        within : (n : ObjectNode) → In n ms → n.key.stamp ≤ a
        within n i = (x.order.no_other n.key (contains_in ks n.key (is_node a ks ms x n i).0)).0

        on : (m : ObjectNode) × In m ms × (m.key ≡ waits)
        on = stands_among ms waits commits ruled

        waits_within : waits.stamp ≤ a
        waits_within = subst (λ (k : Key). k.stamp ≤ a) on.2 (within on.0 on.1)

pub decisions_are_true : DecisionsAreTrue
decisions_are_true script report fits run client n reply has commits stamp sync read_stamp raises syncs ended is lines closes =
    (d.waits, d.stamp_is, after) where
      own : ℕ
      own = (caller_of script client).own

      reading : Reading run
      reading = log_reading script report fits run

      why : Reason run client n reply
      why = reading.reason client n reply has

      explained : Explains run.log (caller_of script client) why.kept why.command.what
          (answers.Decided commits stamp sync read_stamp raises syncs ended) reply.nodes why.after
      explained = subst (λ (a : Answer). Explains run.log (caller_of script client) why.kept why.command.what a reply.nodes why.after)
          is why.explained

      d : Decides run.log (caller_of script client) why.kept why.command.what explained.1 commits stamp sync read_stamp raises syncs
          ended why.after
      d = explained.3

      keys : List Key
      keys = d.tells.1

      nodes : List ObjectNode
      nodes = d.tells.3

      then : InOrder run lines read_stamp keys nodes
      then = record {
        order = reading.order client (kept_after_piece run.log (caller_of script client) why.kept sync) (rising explained.1) read_stamp
            raises syncs d.read keys d.tells.0 d.tells.2 lines closes;
        logged = all_logged run.log keys nodes d.tells.4;
      }

      after : (later : ℕ) (all : List Key) → read_stamp ≤ later → IsRegionOrder lines later all
          → (ns : List ObjectNode) × AreNodesOf run all ns × IsRuledAs d.waits commits ns
      after later all le order = (
        made.0,
        record { keys_are = keys_are; each = each },
        same_ruling run lines read_stamp later keys all nodes made.0 then (record { order = order; logged = made.1 }) le d.waits
            commits d.tells.5,
      ) where
        node_at : (k : Key) → In k all → (node : ObjectNode) × IsLogged run.log k node × IsNodeOf run node
        node_at k i =
            let o = order.no_other k (contains_in all k i) in
            let z = zip_of (λ (s : SyncPiece) (l : List Key). IsClosing report own s.colour l) syncs lines closes o.1
            (in_contains lines o.1 o.2) in
            let x = reading.nodes own z.0.colour o.1 z.2 k (in_contains o.1 k o.3) in (x.node, x.is, x.appended)

        made : (ns : List ObjectNode) × AllZip (IsLogged run.log) all ns
        made = zip_made (IsLogged run.log) all (λ k i. let x = node_at k i in (x.0, x.1))

        keys_are : map (λ (x : ObjectNode). x.key) made.0 ≡ all
        keys_are = zip_map (IsLogged run.log) (λ (x : ObjectNode). x.key) (λ k x o. o.key_is) all made.0 made.1

        each : All (IsNodeOf run) made.0
        each = all_in (IsNodeOf run) made.0 (λ x i.
            let z = zip_of (IsLogged run.log) all made.0 made.1 x i in
            let y = node_at z.0 z.1 in
            subst (IsNodeOf run) (same_node run z.0 y.0 x y.1 z.2) y.2)
