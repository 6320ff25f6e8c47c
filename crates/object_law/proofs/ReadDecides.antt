-- What an object over the nodes of a reply says is decided by the nodes in a table.
use Rattle.std.proofs.Common.{◌≡◌, ◌∙◌, ◌⊎◌, ◌↔◌, ℕ, ◌-◌, ◌^◌, ◌<◌, ◌≤◌, List, [], ◌∷◌, ◌++◌, length, take, map, Option, Some, None, inl, inr, ap, refl, sym, subst, arith}
use Rattle.std.specs.Prelude.{slice_get}
use Rattle.std.specs.List.{All, AllZip, Contains}
use Rattle.std.proofs.lemmas.List.{take_all}
use Rattle.std.proofs.lemmas.List.Elements.{All-contains}
use Rattle.log_node.specs.declared.ids.Key.{Key}
use Rattle.log_node.specs.declared.node.Node.{Node}
use Rattle.log_node.specs.Vectors.{at}
use Rattle.object_fold.specs.Maps.{Value}
use Rattle.object_fold.specs.Nodes.{ObjectNode}
use Rattle.object_fold.specs.Queues.{front_after}
use Rattle.col_core.specs.declared.Entry.{Entry}
use Rattle.col_core.specs.Computed.{dated}
use Rattle.col_core.specs.History.{line}
use Rattle.col_core.specs.Keeping.{Kept}
use Rattle.col_core.specs.Laws.{RegionOrderIsUnique}
use Rattle.col_core.specs.Legal.{IsColumnHistory}
use Rattle.col_core.specs.Log.{Log}
use Rattle.col_core.specs.RegionOrder.{IsRegionOrder}
use Rattle.col_core.proofs.CallerLemmas.{In, contains_in, in_contains, in_map, in_take}
use Rattle.playback.specs.Laws.{RegionOrderIsLawful}
use Rattle.playback.specs.Merging.{AreRising, region_order, up_to}
use Rattle.script_text.specs.declared.script.Script.{Script}
use Rattle.script_text.proofs.CallerLemmas.{regions_few}
use Rattle.report_text.specs.declared.report.PointPiece.{PointPiece}
use Rattle.report_text.specs.declared.report.RaisePiece.{RaisePiece}
use Rattle.report_text.specs.declared.report.SyncPiece.{SyncPiece}
use Rattle.report_text.specs.declared.report.Report.{Report}
use Rattle.lawful_run.specs.Callers.{Caller, caller_of}
use Rattle.lawful_run.specs.Laws.{ReadItemsLast}
use Rattle.lawful_run.specs.Objects.{AreObjectNodes, IsObjectNode, TakesFront, own_played}
use Rattle.lawful_run.specs.Reads.{AreKeysRead, ReadsAt, Syncs, lines_read}
use Rattle.run_rules.specs.Agreeing.{HasColumn}
use Rattle.run_rules.specs.Computing.{node_read}
use Rattle.run_rules.specs.Told.{Account}
use Rattle.run_rules.proofs.CallerLemmas.{column_of, key_above, moves_named, rule1, rule2, rule3, rule4, rule5, rule9}
use Rattle.object_law.specs.KeysRead.{whole_lines, whole_order}
use Rattle.object_law.specs.NodeTables.{node_in, nodes_at, nodes_under}
use Rattle.object_law.specs.ReadNodes.{AreNodesPlayed, AreNodesRead, HasTable, PlayingDecides, ReadingDecides, TakingDecides, first_nodes, ordered_nodes}
use Rattle.object_law.proofs.LineOrder.{line_rising}
use Rattle.object_law.proofs.ReadsWhole.{keys_ordered, played_begin, reads_begin}

-- THE NODES OF KEYS

-- an object reads one node under a key
same_nodes : (log : Log) (keys : List Key) (xs ys : List ObjectNode) → AreObjectNodes log keys xs → AreObjectNodes log keys ys
    → xs ≡ ys
same_nodes log [] [] [] a b = refl
same_nodes log [] [] (y ∷ ys) a b = absurd b
same_nodes log [] (x ∷ xs) ys a b = absurd a
same_nodes log (k ∷ ks) [] ys a b = absurd a
same_nodes log (k ∷ ks) (x ∷ xs) [] a b = absurd b
same_nodes log (k ∷ ks) (x ∷ xs) (y ∷ ys) a b =
    let n : a.0.appended ≡ b.0.appended = let p = a.0.there in let q = b.0.there in cc (p, q) in
    let e : x ≡ y = node_is (a.0.key_is ∙ sym b.0.key_is) (a.0.colours ∙ (ap (λ (m : Node). m.colours) n ∙ sym b.0.colours))
    (a.0.text ∙ (ap (λ (m : Node). m.text) n ∙ sym b.0.text)) in
    ap (λ (z : ObjectNode). z ∷ xs) e ∙ ap (λ (zs : List ObjectNode). y ∷ zs) (same_nodes log ks xs ys a.1 b.1) where
      node_is : x.key ≡ y.key → x.colours ≡ y.colours → x.text ≡ y.text → x ≡ y
      node_is k c t i = record { key = k i; colours = c i; text = t i }

-- each key has its node
abbrev IsThere : Log → Key → Type 0
IsThere log k = (node : Node) × (slice_get (log.nodes k.id.client) k.id.count ≡ Some node) × (node.id ≡ k.id)

nodes_there : (log : Log) (table : List (List Node)) → ((client : ℕ) → nodes_at table client ≡ log.nodes client) → (keys : List Key)
    → ((k : Key) → In k keys → IsThere log k) → AreObjectNodes log keys (nodes_under table keys)
nodes_there log table same [] f = tt
nodes_there log table same (k ∷ ks) f =
    let its = f k (inl refl) in
    let node : ObjectNode = record { key = k; colours = its.0.colours; text = its.0.text } in
    let is : IsObjectNode log k node = record {
      appended = its.0;
      there = its.1;
      same = its.2;
      key_is = refl;
      colours = refl;
      text = refl;
    } in
    let found : node_in table k.id ≡ Some its.0 = ap (λ (ns : List Node). slice_get ns k.id.count) (same k.id.client) ∙ its.1 in
    subst (λ (o : Option Node). AreObjectNodes log (k ∷ ks) (node_read k o ++ nodes_under table ks)) (sym found)
    (is, nodes_there log table same ks (λ m i. f m (inr i)))

-- OF AN ACCOUNT

module _ (script : Script) (report : Report) (a : Account) (table : List (List Node)) (has : HasTable script report a table) where
  lawful : (region colour : ℕ) → HasColumn script region colour
      → IsColumnHistory region script.shape.regions (dated region (a.log.histories region colour))
  lawful region colour c =
      let r = has.rules in
      (column_of script report a has.fitting has.told (rule1 r.0.0.0.0.0.0.0.0.1) (rule2 r.0.0.0.0.0.0.0.1) (rule3 r.0.0.0.0.0.0.1)
      (rule4 r.0.0.0.0.0.1) (rule5 r.0.0.0.0.1) (moves_named script report a (rule9 r.1)) region colour c).0

  -- a key of a line has its node
  stands : (region colour : ℕ) → HasColumn script region colour → (key : Key) → In key (line (a.log.histories region colour))
      → IsThere a.log key
  stands region colour c key i =
      let r = has.rules in
      let h = a.log.histories region colour in
      let above = key_above script report a has.fitting has.told (rule1 r.0.0.0.0.0.0.0.0.1) (rule2 r.0.0.0.0.0.0.0.1)
      (rule3 r.0.0.0.0.0.0.1) (rule4 r.0.0.0.0.0.1) (rule5 r.0.0.0.0.1) (moves_named script report a (rule9 r.1)) region colour c key
      (length h) (subst (λ (es : List Entry). In key (line es)) (sym (take_all (length h) h (omega arith))) i) in
      (above.node, above.there, above.its_id)

  home : (client : ℕ) → client < length script.shape.homes → (caller_of script client).own < script.shape.regions
  home client low = has.fitting.shape.homes client 0 low

  -- the first of a line have theirs
  first_stand : (region colour count : ℕ) → HasColumn script region colour
      → AreObjectNodes a.log (take count (line (a.log.histories region colour))) (first_nodes a table region colour count)
  first_stand region colour count c =
      nodes_there a.log table has.nodes (take count (line (a.log.histories region colour)))
      (λ k i. stands region colour c k (in_take count (line (a.log.histories region colour)) k i))

  module _ (ordered : RegionOrderIsLawful) (unique : RegionOrderIsUnique) (last : ReadItemsLast) where
    module _ (region : ℕ) (low : region < script.shape.regions) (colours : List ℕ)
        (within : All (λ colour. colour < script.shape.colours) colours) where
      below : (colour : ℕ) → In colour colours → colour < script.shape.colours
      below colour i = All-contains (λ (c : ℕ). c < script.shape.colours) colours colour within (contains_in colours colour i)

      rising : (l : List Key) → Contains (whole_lines a.log region colours) l → AreRising l
      rising l c =
          let m = in_map (λ colour. line (a.log.histories region colour)) colours l
          (in_contains (whole_lines a.log region colours) l c) in
          subst AreRising m.2 (line_rising region script.shape.regions (a.log.histories region m.0) (lawful region m.0 (low, below m.0 m.1)))

      -- the keys in their order up to a stamp have their nodes
      order_stands : (stamp : ℕ) (keys : List Key) → IsRegionOrder (whole_lines a.log region colours) stamp keys
          → (k : Key) → In k keys → IsThere a.log k
      order_stands stamp keys o k i =
          let of = o.no_other k (contains_in keys k i) in
          let m = in_map (λ c. line (a.log.histories region c)) colours of.1 (in_contains (whole_lines a.log region colours) of.1 of.2) in
          stands region m.0 (low, below m.0 m.1) k (subst (λ (ks : List Key). In k ks) (sym m.2) (in_contains of.1 k of.3))

      -- the first in the order have theirs
      ordered_stand : (count : ℕ)
          → AreObjectNodes a.log (take count (whole_order a.log region colours)) (ordered_nodes a table region colours count)
      ordered_stand count =
          nodes_there a.log table has.nodes (take count (whole_order a.log region colours))
          (λ k i. order_stands (2 ^ 64 - 1) (whole_order a.log region colours)
          (ordered (2 ^ 64 - 1) (whole_lines a.log region colours) rising) k (in_take count (whole_order a.log region colours) k i))

    -- the nodes of a stamped read are those of the whole lines up to its stamp
    pub stamped : (client : ℕ) → client < length script.shape.homes
        → (kept : Kept) (colours : List ℕ) (stamp : ℕ) (raises : List RaisePiece) (syncs : List SyncPiece) (after : Kept)
        → All (λ colour. colour < script.shape.colours) colours
        → ReadsAt a.log (caller_of script client) kept colours stamp raises syncs after
        → AreNodesRead a.log (caller_of script client) stamp syncs
        (nodes_under table (region_order stamp (whole_lines a.log (caller_of script client).own colours)))
    stamped client is kept colours stamp raises syncs after within reads =
        let caller = caller_of script client in
        let low = home client is in
        let keys = region_order stamp (whole_lines a.log caller.own colours) in
        let order = ordered stamp (whole_lines a.log caller.own colours) (rising caller.own low colours within) in
        let are = keys_ordered a.log caller stamp ordered last colours
        (λ colour i. lawful caller.own colour (low, below caller.own low colours within colour i)) kept raises syncs after keys
        reads order in
        let nodes = nodes_there a.log table has.nodes keys (order_stands caller.own low colours within stamp keys order) in record {
          keys = keys;
          are_keys = are;
          are_nodes = nodes;
          only = λ ks others k o.
              let one = unique (lines_read a.log caller syncs) stamp ks keys k are in
              same_nodes a.log keys others (nodes_under table keys)
              (subst (λ (l : List Key). AreObjectNodes a.log l others) one o) nodes;
        }

    reading : (client : ℕ) → client < length script.shape.homes
        → (kept : Kept) (colours : List ℕ) (stamp : ℕ) (raises : List RaisePiece) (syncs : List SyncPiece) (after : Kept) (count : ℕ)
        → All (λ colour. colour < script.shape.colours) colours → stamp < 2 ^ 64
        → ReadsAt a.log (caller_of script client) kept colours stamp raises syncs after
        → take count (whole_order a.log (caller_of script client).own colours)
        ≡ up_to stamp (whole_order a.log (caller_of script client).own colours)
        → AreNodesRead a.log (caller_of script client) stamp syncs (ordered_nodes a table (caller_of script client).own colours count)
    reading client is kept colours stamp raises syncs after count within small reads same =
        let caller = caller_of script client in
        let low = home client is in
        let order = whole_order a.log caller.own colours in
        let keys = reads_begin ordered last a.log caller kept colours stamp raises syncs after count
        (λ colour c. lawful caller.own colour (low, below caller.own low colours within colour (in_contains colours colour c)))
        small reads same in
        let nodes = ordered_stand caller.own low colours within count in record {
          keys = take count order;
          are_keys = keys;
          are_nodes = nodes;
          only = λ ks others k o.
              let one = unique (lines_read a.log caller syncs) stamp ks (take count order) k keys in
              same_nodes a.log (take count order) others (ordered_nodes a table caller.own colours count)
              (subst (λ (l : List Key). AreObjectNodes a.log l others) one o) nodes;
        }

  playing : (client : ℕ) → client < length script.shape.homes
      → (kept : Kept) (sync : SyncPiece) → sync.colour < script.shape.colours
      → Syncs a.log (caller_of script client) kept sync.colour sync.events sync.counts
      → AreNodesPlayed a.log (caller_of script client) sync
      (first_nodes a table (caller_of script client).own sync.colour (at sync.counts (caller_of script client).own))
  playing client is kept sync small syncs =
      let caller = caller_of script client in
      let low = home client is in
      let few = regions_few script.version script.shape has.fitting.shape in
      let count = at sync.counts caller.own in
      let begin = played_begin a.log caller kept sync (omega (arith, low, few)) (lawful caller.own sync.colour (low, small)) syncs in
      let nodes = subst (λ (ks : List Key). AreObjectNodes a.log ks (first_nodes a table caller.own sync.colour count)) begin.0
      (first_stand caller.own sync.colour count (low, small)) in record {
        are_nodes = nodes;
        only = λ others o. same_nodes a.log (own_played a.log caller sync) others (first_nodes a table caller.own sync.colour count) o nodes;
      }

  taking : (client : ℕ) → client < length script.shape.homes → (point : PointPiece) (value : Value)
      → point.colour < script.shape.colours
      → TakesFront a.log (caller_of script client) point value
      ↔ (value ≡ front_after (first_nodes a table (caller_of script client).own point.colour point.position))
  taking client is point value small =
      let caller = caller_of script client in
      let low = home client is in
      let nodes = first_stand caller.own point.colour point.position (low, small) in
      let mine = first_nodes a table caller.own point.colour point.position in (
        λ t. t.value_is ∙ ap front_after (same_nodes a.log _ t.nodes mine t.before nodes),
        λ e. record { nodes = mine; before = nodes; value_is = e },
      )

pub reading_decides : RegionOrderIsLawful → RegionOrderIsUnique → ReadItemsLast → ReadingDecides
reading_decides ordered unique last script report a table has = reading script report a table has ordered unique last

pub playing_decides : PlayingDecides
playing_decides script report a table has = playing script report a table has

pub taking_decides : TakingDecides
taking_decides script report a table has = taking script report a table has
