-- How far a later command has to go on with a line that was folded: the nodes of a line stay, and each command of an
-- object takes at least the line that stood before it.
use Rattle.std.proofs.Common.{◌≡◌, ℕ, zero, suc, ◌≤◌, List, [], ◌∷◌, ◌++◌, length, map, take, Option, Some, None, refl, ap, sym, subst, ◌∙◌, inl, inr, arith}
use Rattle.std.specs.Prelude.{nat_le, unwrap_or, slice_get, reverse}
use Rattle.std.proofs.lemmas.Bool.{le-leb}
use Rattle.log_node.specs.declared.ids.Id.{Id}
use Rattle.log_node.specs.declared.ids.Key.{Key}
use Rattle.log_node.specs.declared.node.Node.{Node}
use Rattle.object_fold.specs.Nodes.{ObjectNode}
use Rattle.log_node.specs.Standings.{Standing}
use Rattle.col_core.specs.History.{clock, entries, line}
use Rattle.col_core.specs.Log.{IsLater}
use Rattle.col_core.proofs.CallerLemmas.{if_true, In, in_line, entry_within, entries-of, clock-of, slice_longer}
use Rattle.col_core.proofs.CallerLemmas.{clock as past_clock}
use Rattle.world_laws.specs.Worlds.{World, home_of, home_history, no_row, next_id}
use Rattle.world_laws.specs.Laws.{IsReached, log_of}
use Rattle.world_laws.proofs.CallerLemmas.{Fits, Kind, Unborn, status_in, lawful_past_in}
use Rattle.playback.specs.Merging.{up_to}
use Rattle.lawful_run.proofs.CallerLemmas.{prefix_take, prefix_length}
use Rattle.report_text.specs.declared.report.RaisePiece.{RaisePiece}
use Rattle.report_text.specs.declared.report.SyncPiece.{SyncPiece}
use Rattle.script_meaning.specs.States.{Grants, position_of}
use Rattle.script_meaning.specs.Helping.{node_by_id}
use Rattle.script_meaning.specs.Dequeues.{object_node_at}
use Rattle.script_meaning.specs.Helping.{all_cleared}
use Rattle.script_meaning.specs.Stamped.{Whole, StampedRead, raised, played, key_above, read_stamp, read_after_plays, read_after_raises, stamped_read}
use Rattle.script_meaning.proofs.World.ChainNodes.{line_node}
use Rattle.script_meaning.proofs.Run.GrantedSteps.{RunsTo}
use Rattle.script_meaning.proofs.Client.Kept.{later_log}
use Rattle.script_meaning.proofs.World.Lines.{absent_line, position_behind}
use Rattle.script_meaning.proofs.World.Reached.{held_of}
use Rattle.script_meaning.proofs.Read.StampedReads.{above_clock}

-- LINES

module _ (w v : World) (reached : IsReached w) (to : RunsTo w v) where
  later : IsLater (log_of w) (log_of v)
  later = later_log w v to.steps reached to.run

  -- a line is no shorter
  pub line_longer : (r c : ℕ) → length (line (w.histories r c)) ≤ length (line (v.histories r c))
  line_longer r c = prefix_length (line (w.histories r c)) (line (v.histories r c)) (later.lines r c)

  node_stays : (id : Id) (node : Node) → node_by_id w id ≡ Some node → node_by_id v id ≡ Some node
  node_stays id node there =
      let p = later.nodes id.client in
      subst (λ (l : List Node). slice_get l id.count ≡ Some node) p.1
      (slice_longer (w.nodes id.client) p.0 id.count node there)

  pub object_stays : (key : Key) (node : Node) → node_by_id w key.id ≡ Some node
      → object_node_at v key ≡ object_node_at w key
  object_stays key node there =
      ap (λ (o : Option Node). let x = unwrap_or o no_row.node in
      let y : ObjectNode = record { key = key; colours = x.colours; text = x.text } in y)
      (node_stays key.id node there ∙ sym there)

  objects_stay : (keys : List Key) → ((key : Key) → In key keys → (node : Node) × (node_by_id w key.id ≡ Some node))
      → map (object_node_at v) keys ≡ map (object_node_at w) keys
  objects_stay [] listed = refl
  objects_stay (key ∷ keys) listed =
      let n = listed key (inl refl) in
      ap (λ (x : ObjectNode). x ∷ map (object_node_at v) keys) (object_stays key n.0 n.1)
      ∙ ap (λ (l : List ObjectNode). object_node_at w key ∷ l) (objects_stay keys (λ k i. listed k (inr i)))

  -- its first nodes are the same
  pub nodes_stay : (r c n : ℕ) → n ≤ length (line (w.histories r c))
      → map (object_node_at v) (take n (line (v.histories r c))) ≡ map (object_node_at w) (take n (line (w.histories r c)))
  nodes_stay r c n low =
      let l = line (w.histories r c) in
      ap (map (object_node_at v)) (prefix_take l (line (v.histories r c)) n (later.lines r c) low)
      ∙ objects_stay (take n l) (λ key i. line_node w reached r c key (in_first n l key i)) where
        in_first : (m : ℕ) (xs : List Key) (x : Key) → In x (take m xs) → In x xs
        in_first zero xs x i = absurd i
        in_first (suc m) [] x i = absurd i
        in_first (suc m) (y ∷ xs) x (inl e) = inl e
        in_first (suc m) (y ∷ xs) x (inr i) = inr (in_first m xs x i)

  -- the next node of a client stands behind all that stood before
  pub new_behind : (u r c : ℕ)
      → length (line (w.histories r c)) ≤ position_of (next_id w u) (line (v.histories r c))
  new_behind u r c =
      let held = held_of w reached in
      let id = next_id w u in
      let p = later.lines r c in
      let unborn : held.kind id ≡ Unborn = held.fresh id (omega arith) in
      let absent = subst (λ (k : Kind). Fits w id k r c (status_in (w.histories r c) id)) unborn (held.fits id r c) in
      subst (λ (l : List Key). length (line (w.histories r c)) ≤ position_of id l) p.1
      (position_behind (line (w.histories r c)) p.0 id (λ k i. absent_line w held r c id absent k i))

-- READS

module _ (grants : Grants) (w v : World) (u : ℕ) (colours : List ℕ) (stamp : ℕ) (raises : List RaisePiece)
    (syncs : List SyncPiece) (keys : List Key) where
  abbrev lifted : World
  lifted = (raised grants u (read_stamp w u colours) w colours).world

  abbrev clear : World
  clear = all_cleared grants u (key_above (read_stamp w u colours)) colours lifted

  whole_is : {a b : ℕ} {ra rb : List RaisePiece} {sa sb : List SyncPiece} {ka kb : List Key}
      → Whole a ra sa ka ≡ Whole b rb sb kb → b ≡ a
  whole_is e = cc

  after_plays : (o : Option ℕ)
      → (read_after_plays u colours w clear (played u clear colours).world o).ends ≡ Whole stamp raises syncs keys
      → stamp ≡ read_stamp w u colours
  after_plays None e = whole_is e
  after_plays (Some c) e = absurd (let f : ⊥ = cc in f)

  after_raises : (o : Option ℕ)
      → (read_after_raises grants u colours w lifted o).ends ≡ Whole stamp raises syncs keys
      → stamp ≡ read_stamp w u colours
  after_raises None e = after_plays (played u clear colours).stopped e
  after_raises (Some c) e = absurd (let f : ⊥ = cc in f)

  -- a stamped read that is whole has the stamp of its beginning
  pub whole_stamp : stamped_read grants w u colours ≡ record { world = v; ends = Whole stamp raises syncs keys }
      → stamp ≡ read_stamp w u colours
  whole_stamp is =
      after_raises (raised grants u (read_stamp w u colours) w colours).stopped (ap (λ (r : StampedRead). r.ends) is)

all_low : (stamp : ℕ) (old more : List Key) → ((key : Key) → In key old → key.stamp ≤ stamp)
    → length old ≤ length (up_to stamp (old ++ more))
all_low stamp [] more low = omega arith
all_low stamp (key ∷ old) more low =
    let rest = all_low stamp old more (λ k i. low k (inr i)) in
    subst (λ (l : List Key). suc (length old) ≤ length l)
    (sym (if_true (nat_le key.stamp stamp) (key ∷ up_to stamp (old ++ more)) (up_to stamp (old ++ more))
    (le-leb key.stamp stamp (low key (inl refl))))) (omega (arith, rest))

-- each key that stands in the line of one of its colours is below a read's stamp, or has it
pub line_low : (w : World) → IsReached w → (u c : ℕ) (colours : List ℕ) → In c colours → (key : Key)
    → In key (line (home_history w u c)) → key.stamp ≤ read_stamp w u colours
line_low w reached u c colours i key j =
    let h = home_history w u c in
    let top = above_clock w u colours c i in
    let x = in_line (entries h) key j in
    let past = lawful_past_in w (held_of w reached) (home_of w u) c in
    let low = entry_within (reverse h) past x.0 (subst (λ (l : List Standing). In x.0 l) (entries-of h) x.1) in
    let is : clock h ≡ past_clock (reverse h) = clock-of h in
    subst (λ (k : Key). k.stamp ≤ read_stamp w u colours) x.2 (omega (arith, low, is, top))

-- A stamped read takes at least the lines of its colours that stood before it.
pub read_behind : (w v : World) (reached : IsReached w) → RunsTo w v → (u c : ℕ) (colours : List ℕ) → In c colours
    → length (line (home_history w u c)) ≤ length (up_to (read_stamp w u colours) (line (v.histories (home_of w u) c)))
read_behind w v reached to u c colours i =
    let h = home_history w u c in
    let p = (later w v reached to).lines (home_of w u) c in
    subst (λ (l : List Key). length (line h) ≤ length (up_to (read_stamp w u colours) l)) p.1
    (all_low (read_stamp w u colours) (line h) p.0 (line_low w reached u c colours i))
