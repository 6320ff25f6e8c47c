-- A node enters: what the steps of the code make together.
use Rattle.std.proofs.Common.{◌≡◌, ℕ, ◌+◌, ◌<◌, ◌≤◌, ◌-◌, max, Bool, true, false, List, [], ◌∷◌, ◌++◌, length, ap, ◌∙◌, arith}
use Rattle.std.proofs.Common.{length-append}
use Rattle.log_node.specs.declared.ids.Counts.{Counts}
use Rattle.log_node.specs.declared.node.Node.{Node}
use Rattle.log_node.specs.Seen.{PlacedNode}
use Rattle.log_node.specs.Vectors.{least}
use Rattle.skeen_core.specs.Queues.{Queued, entry_under, entered_queue, stamp_after}
use Rattle.col_core.specs.declared.Event.TheVariants as events
use Rattle.col_core.specs.declared.Entry.{Entry}
use Rattle.col_core.specs.History.{clock, next_stamp, open_count}
use Rattle.col_core.specs.Rows.{node_wants}
use Rattle.column.specs.Entering.{EnteredNode}
use Rattle.column.specs.Columns.{ColumnState, cut_of, stamp_for, entered_node, single_event, propose_event}
use Rattle.column.specs.Columns.{after_single, after_propose}
use Rattle.column.specs.Inside.{IsRoomFor}
use Rattle.column.proofs.Opens.{count-with}
use Rattle.column.proofs.Steps.{next_column}

-- the column with this journal and this queue
abbrev pub next_column_of : ColumnState → List Entry → Queued EnteredNode → ColumnState
next_column_of column journal queue = record column { journal = journal; queue = queue }

-- what the code read of the node and of the column
pub record HasRead (old : ColumnState) (node a b : Node) (wants cut needs : Counts) (stamp : ℕ)
    (thing : EnteredNode) : Type 0 where
  pub id_of : a ≡ node
  pub floor_of : b ≡ node
  pub wants_is : wants ≡ node_wants node old.colour
  pub cut_is : cut ≡ cut_of old
  pub needs_is : needs ≡ least wants cut
  pub thing_is : thing ≡ record { needs = needs; node = node }
  pub clock_is : old.queue.clock ≡ clock old.journal
  pub stamp_is : stamp ≡ stamp_after old.queue.clock b.floor

module _ {old : ColumnState} {node a b : Node} {wants cut needs : Counts} {stamp : ℕ} {thing : EnteredNode}
    (h : HasRead old node a b wants cut needs stamp thing) where
  pub stamp-is : stamp ≡ stamp_for old node
  stamp-is = h.stamp_is
      ∙ (ap (λ (n : ℕ). max n b.floor + 1) h.clock_is ∙ ap (λ (n : Node). next_stamp old.journal n.floor) h.floor_of)

  pub thing-is : thing ≡ entered_node old node
  thing-is =
      h.thing_is
      ∙ ap (λ (v : Counts). let t : EnteredNode = record { needs = v; node = node } in t)
      (h.needs_is ∙ (ap (λ (v : Counts). least v cut) h.wants_is ∙ ap (least (node_wants node old.colour)) h.cut_is))

  single-entry : (by : ℕ)
      → ◌≡◌ {A = Entry} (record { by = by; event = events.Single a.id b.floor wants; stamp = stamp })
      (record { by = by; event = single_event old.colour node; stamp = stamp_for old node })
  single-entry by =
      ap (λ (n : Node). let e : Entry = record { by = by; event = events.Single n.id b.floor wants; stamp = stamp } in
      e) h.id_of
      ∙ (ap (λ (n : Node). let e : Entry =
      record { by = by; event = events.Single node.id n.floor wants; stamp = stamp } in e) h.floor_of
      ∙ (ap (λ (v : Counts). let e : Entry =
      record { by = by; event = events.Single node.id node.floor v; stamp = stamp } in e) h.wants_is
      ∙ ap (λ (s : ℕ). let e : Entry = record { by = by; event = single_event old.colour node; stamp = s } in e)
      stamp-is))

  propose-entry : (by : ℕ)
      → ◌≡◌ {A = Entry} (record { by = by; event = events.Propose a.id b.floor wants; stamp = stamp })
      (record { by = by; event = propose_event old.colour node; stamp = stamp_for old node })
  propose-entry by =
      ap (λ (n : Node). let e : Entry =
      record { by = by; event = events.Propose n.id b.floor wants; stamp = stamp } in e) h.id_of
      ∙ (ap (λ (n : Node). let e : Entry =
      record { by = by; event = events.Propose node.id n.floor wants; stamp = stamp } in e) h.floor_of
      ∙ (ap (λ (v : Counts). let e : Entry =
      record { by = by; event = events.Propose node.id node.floor v; stamp = stamp } in e) h.wants_is
      ∙ ap (λ (s : ℕ). let e : Entry = record { by = by; event = propose_event old.colour node; stamp = s } in e)
      stamp-is))

  entered-queue : (settled : Bool) → entered_queue (entry_under stamp a.id settled thing) old.queue
      ≡ entered_queue (entry_under (stamp_for old node) node.id settled (entered_node old node)) old.queue
  entered-queue settled =
      ap (λ (n : Node). entered_queue (entry_under stamp n.id settled thing) old.queue) h.id_of
      ∙ (ap (λ (s : ℕ). entered_queue (entry_under s node.id settled thing) old.queue) stamp-is
      ∙ ap (λ (t : EnteredNode). entered_queue (entry_under (stamp_for old node) node.id settled t) old.queue) thing-is)

  -- the column with the node's entry
  pub single-state : (by : ℕ) (journal : List Entry) (queue : Queued EnteredNode)
      → journal ≡ old.journal ++ record { by = by; event = events.Single a.id b.floor wants; stamp = stamp } ∷ []
      → queue ≡ entered_queue (entry_under stamp a.id true thing) old.queue
      → ◌≡◌ {A = ColumnState}
      (next_column_of old journal queue) (after_single old by node)
  single-state by journal queue journal_is queue_is =
      ap (λ (l : List Entry). next_column_of old l queue)
      (journal_is ∙ ap (λ (e : Entry). old.journal ++ e ∷ []) (single-entry by))
      ∙ ap (λ (q : Queued EnteredNode). next_column_of old
      (old.journal ++ record { by = by; event = single_event old.colour node; stamp = stamp_for old node } ∷ []) q)
      (queue_is ∙ entered-queue true)

  pub propose-state : (by : ℕ) (journal : List Entry) (queue : Queued EnteredNode)
      → journal ≡ old.journal ++ record { by = by; event = events.Propose a.id b.floor wants; stamp = stamp } ∷ []
      → queue ≡ entered_queue (entry_under stamp a.id false thing) old.queue
      → ◌≡◌ {A = ColumnState}
      (next_column_of old journal queue) (after_propose old by node)
  propose-state by journal queue journal_is queue_is =
      ap (λ (l : List Entry). next_column_of old l queue)
      (journal_is ∙ ap (λ (e : Entry). old.journal ++ e ∷ []) (propose-entry by))
      ∙ ap (λ (q : Queued EnteredNode). next_column_of old
      (old.journal ++ record { by = by; event = propose_event old.colour node; stamp = stamp_for old node } ∷ []) q)
      (queue_is ∙ entered-queue false)

-- the room that is left
pub single-room : (old : ColumnState) (by opens spare capacity capacity' : ℕ) (node : Node)
    → IsRoomFor old opens spare capacity
    → 0 < old.queue.spare → capacity' ≡ capacity → IsRoomFor (after_single old by node) opens (spare - 1) capacity'
single-room old by opens spare capacity capacity' node r some same =
    let e : Entry = record { by = by; event = single_event old.colour node; stamp = stamp_for old node } in
    let longer = length-append old.journal (e ∷ []) in
    let count = count-with (record { key = record { stamp = stamp_for old node; id = node.id }; settled = true })
    old.queue.entries in
    let spares = r.spares in
    record {
      enough = let m = r.enough in omega (arith, count, m);
      few = let m = r.few in omega (arith, longer, m);
      room = let m = r.room in omega (arith, longer, m, same, spares, some);
      spares = omega (arith, spares);
    }

pub propose-room : (old : ColumnState) (by opens spare capacity capacity' : ℕ) (node : Node)
    → IsRoomFor old opens spare capacity
    → 0 < old.queue.spare → capacity' ≡ capacity
    → IsRoomFor (after_propose old by node) (opens + 1) (spare - 1) capacity'
propose-room old by opens spare capacity capacity' node r some same =
    let e : Entry = record { by = by; event = propose_event old.colour node; stamp = stamp_for old node } in
    let longer = length-append old.journal (e ∷ []) in
    let count = count-with (record { key = record { stamp = stamp_for old node; id = node.id }; settled = false })
    old.queue.entries in
    let spares = r.spares in
    record {
      enough = let m = r.enough in omega (arith, count, m);
      few = let m = r.few in omega (arith, longer, m);
      room = let m = r.room in omega (arith, longer, m, same, spares, some);
      spares = omega (arith, spares);
    }

-- after an event that enters nothing
pub event-room : (column : ColumnState) (e : Entry) (queue : Queued EnteredNode) (copies : List (List PlacedNode))
    (opens spare capacity capacity' : ℕ) → IsRoomFor column opens spare capacity
    → queue.entries ≡ column.queue.entries → queue.spare ≡ column.queue.spare
    → length column.journal + (opens + spare + spare + 1) ≤ capacity'
    → IsRoomFor (next_column column e queue copies) opens spare capacity'
event-room column e queue copies opens spare capacity capacity' r same spares room =
    let longer = length-append column.journal (e ∷ []) in
    let count = ap open_count same in
    record {
      enough = let m = r.enough in omega (arith, count, m);
      few = let m = r.few in omega (arith, longer, m);
      room = omega (arith, longer, room);
      spares = let m = r.spares in omega (arith, m, spares);
    }
