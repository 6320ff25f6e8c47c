-- What a queue keeps while its client goes on, and what explains a dequeue's answer.
use Rattle.std.proofs.Common.{◌≡◌, ℕ, ◌<◌, ◌≤◌, List, [], ◌∷◌, length, map, take, get_or, Option, refl, ap, sym, subst, ◌∙◌, arith}
use Rattle.log_node.specs.declared.ids.Colours.{Colours}
use Rattle.log_node.specs.declared.ids.Counts.{Counts}
use Rattle.log_node.specs.Seen.{PlacedNode}
use Rattle.log_node.specs.Vectors.{at}
use Rattle.object_fold.specs.Maps.{Value}
use Rattle.object_fold.specs.Queues.{front_after}
use Rattle.object_fold.specs.States.{IsValueQueue}
use Rattle.object_fold.specs.Nodes.{object_nodes}
use Rattle.col_core.specs.History.{line}
use Rattle.col_core.specs.Keeping.{Kept, kept_after_sync}
use Rattle.script_text.specs.declared.script.Object.{Object}
use Rattle.append_core.specs.declared.stood.Point.{Point}
use Rattle.playback.specs.declared.player.Snapshot.{Snapshot}
use Rattle.lawful_run.specs.Callers.{node_of}
use Rattle.lawful_run.specs.Appends.{Appends}
use Rattle.lawful_run.specs.Objects.{AreObjectNodes}
use Rattle.lawful_run.specs.Reads.{Syncs, greatest_stamp, greatest_played}
use Rattle.lawful_run.proofs.CallerLemmas.{append_later}
use Rattle.client_law.specs.Knowing.{Rest, log_seen}
use Rattle.log_client.specs.declared.store.Store.{Store}
use Rattle.log_client.specs.declared.client.Client.{Client}
use Rattle.log_client.specs.declared.answers.Appended.{Appended}
use Rattle.log_client.specs.declared.answers.Synced.{Synced}
use Rattle.log_client.specs.declared.faults.SyncFault.{SyncFault}
use Rattle.log_client.specs.declared.faults.SyncFault.TheVariants as sync_faults
use Rattle.log_client.specs.declared.object_fault.ObjectFault.TheVariants as faults
use Rattle.log_client.specs.Fits.{FitsHolds}
use Rattle.log_client.specs.Clients.{IsClient, Finished, Keeps, caller_of, holds_of, own_line, seen_of, starts_of, tracks_of}
use Rattle.log_client.specs.Calls.{AnswersSync, IsExplained, SyncsAs, SyncRefused, nodes_played}
use Rattle.log_client.specs.Reading.{RestsOn}
use Rattle.log_client.specs.Appends.{AppendsAs, piece_of}
use Rattle.log_client.specs.Objects.{StandsIn}
use Rattle.log_client.proofs.CallerLemmas.{at_one, explained_then, first_position, fits_less, follows_later, line_counted, first_are_own, one_known, one_started, stamps_played, stands_behind, sync_hidden, tracks_long, unfolded_leaves, unread_leaves}
use Rattle.log_queue.specs.declared.queue.LogQueue.{LogQueue}
use Rattle.log_queue.specs.Queues.{DeqRefused, Dequeues, IsQueueOf, TakesAs, dequeue_text}

-- what is kept stays right
pub queue_later : (s : Store) (c d : Client) (q : LogQueue) → IsClient s c → RestsOn s c d → IsQueueOf c q → IsQueueOf d q
queue_later s c d q is on of = record {
  colour = let lt = of.colour in let same = tracks_long s c d is on.client in omega (arith, lt, same);
  few = of.few;
  folds = follows_later c d q.colour q.kept.count (IsValueQueue q.kept.state) on.grows of.folds;
}

-- the front after the nodes before the point
pub front_so : (count : ℕ) (list points : List Point) (d p : Point) (now line : List PlacedNode) (value : Value)
    → list ≡ points → points ≡ p ∷ [] → now ≡ line
    → (count ≤ (get_or list 0 d).position → (get_or list 0 d).position ≤ length now
    → value ≡ front_after (object_nodes (take (get_or list 0 d).position now)))
    → count ≤ p.position → p.position ≤ length line → value ≡ front_after (object_nodes (take p.position line))
front_so count list points d p now line value is one here front low high =
    let same : get_or list 0 d ≡ p = ap (λ (l : List Point). get_or l 0 d) (is ∙ one) in
    subst (λ (l : List PlacedNode). value ≡ front_after (object_nodes (take p.position l))) here
    (subst (λ (q : Point). count ≤ q.position → q.position ≤ length now
    → value ≡ front_after (object_nodes (take q.position now))) same front low
    (subst (λ (l : List PlacedNode). p.position ≤ length l) (sym here) high))

-- one point
pub one_point : (a : Appended) (colour : ℕ) → map (λ (p : Point). p.colour) a.stood.points ≡ colour ∷ []
    → (p : Point) × (a.stood.points ≡ p ∷ []) × (p.colour ≡ colour)
one_point a colour e = by_list a.stood.points refl where
  by_list : (points : List Point) → a.stood.points ≡ points → (p : Point) × (a.stood.points ≡ p ∷ []) × (p.colour ≡ colour)
  by_list [] is = absurd (let f : [] ≡ colour ∷ [] = ap (map (λ (p : Point). p.colour)) (sym is) ∙ e in let g : ⊥ = cc (f) in g)
  by_list (p ∷ []) is = (
    p,
    is,
    let f : p.colour ∷ [] ≡ colour ∷ [] = ap (map (λ (p : Point). p.colour)) (sym is) ∙ e in cc (f),
  )
  by_list (p ∷ q ∷ points) is = absurd (
      let f : p.colour ∷ q.colour ∷ map (λ (p : Point). p.colour) points ≡ colour ∷ [] =
      ap (map (λ (p : Point). p.colour)) (sym is) ∙ e in let g : ⊥ = cc (f) in g
      )

module _ (s : Store) (c m d : Client) (colour : ℕ) (a : Appended) (is : IsClient s c) (x : RestsOn s c m) (y : RestsOn s m d)
    (stands : StandsIn s c m (colour ∷ []) dequeue_text a) where
  -- the sync or the fold was refused
  pub deq_unread : (home : ℕ) (stamp : ℕ) (fault : SyncFault) → stamp ≡ a.stood.key.stamp → SyncRefused s m d colour fault
      → DeqRefused home s c d colour (faults.Unread stamp fault)
  deq_unread home stamp fault same why =
      subst (λ (n : ℕ). DeqRefused home s c d colour (faults.Unread n fault)) (sym same)
      (unread_leaves s c m d colour dequeue_text a x y stands fault why)

  pub deq_unfolded : (home : ℕ) (stamp : ℕ) (z : Synced) → stamp ≡ a.stood.key.stamp
      → IsExplained s m d (SyncsAs d colour z)
      → DeqRefused home s c d colour (faults.Unread stamp sync_faults.NoMemory)
  deq_unfolded home stamp z same e =
      subst (λ (n : ℕ). DeqRefused home s c d colour (faults.Unread n sync_faults.NoMemory)) (sym same)
      (unfolded_leaves s c m d colour dequeue_text a x y stands (sync_hidden s m d colour z e))

  -- it was answered
  module _ (count : ℕ) (lt : colour < length (tracks_of c)) (within : count ≤ length (own_line c colour)) (z : Synced)
      (answers : AnswersSync m d colour z) (e : IsExplained s m d (SyncsAs d colour z)) (value : Value) (p : Point)
      (points : a.stood.points ≡ p ∷ []) (of : p.colour ≡ colour)
      (front : count ≤ p.position → p.position ≤ length (own_line d colour)
      → value ≡ front_after (object_nodes (take p.position (own_line d colour)))) where
    abbrev set : Colours
    set = stands.set

    synced : z.snapshot.colour ≡ colour
    synced = ap (λ (q : Snapshot). q.colour) answers.snapshot

    lt_then : colour < length (tracks_of d)
    lt_then = let m_long = tracks_long s c m is x.client in let d_long = tracks_long s m d x.client y.client in
        omega (arith, lt, m_long, d_long)

    pub deq_answered : Dequeues s c d colour value a z
    deq_answered = record {
      set = set;
      members_are = stands.members_are;
      point = p;
      point_is = points;
      point_there = of;
      synced = synced;
      explained = λ objects kept finished keeps.
          let r = explained_then s c m d (AppendsAs set dequeue_text a) (SyncsAs d colour z) x y
          (λ old new caller k after later g. (
            g.0,
            g.1,
            append_later old new later caller k (node_of caller k set dequeue_text) a.stood.key.stamp a.row
                (map piece_of a.stood.points) after g.2,
          )) stands.explained e objects kept finished keeps in (
            r.0,
            r.1,
            λ rest fits. answered objects kept finished keeps rest fits r.0 r.1 (r.2 rest fits),
          );
    } where
      answered : (objects : List Object) (kept : Kept) → Finished c → (keeps : Keeps s c objects kept) (rest : Rest)
          → (fits : FitsHolds (holds_of d) rest) (after : Kept) → Keeps s d objects after
          → ((stood : Kept) × AppendsAs set dequeue_text a (log_seen (seen_of d) rest) (caller_of s d objects) kept stood
          × SyncsAs d colour z (log_seen (seen_of d) rest) (caller_of s d objects) stood after)
          → TakesAs set a p z value (log_seen (seen_of d) rest) (caller_of s d objects) kept after
      answered objects kept finished keeps rest fits after kept_after (stood, appends, syncs) =
          let log = log_seen (seen_of d) rest in
          let caller = caller_of s d objects in
          let node = node_of caller kept set dequeue_text in
          let stamp = a.stood.key.stamp in
          let q = at_one log caller kept stood node colour stamp a.row (map piece_of a.stood.points) stands.members_are appends.2 in
          let pieces : piece_of p ∷ [] ≡ q.point ∷ [] = ap (map piece_of) (sym points) ∙ q.point_is in
          let place = ap first_position pieces in
          let behind = stands_behind s c m set dequeue_text a colour p objects kept rest is x stands.members_are points
          stands.explained finished keeps (fits_less (holds_of m) (holds_of d) rest y.goes fits) in
          let counted = line_counted s c colour is lt in
          let low : count ≤ p.position = omega (arith, within, counted, behind) in
          let started : z.snapshot.counts ≡ starts_of d colour =
          one_started stood caller.own colour z.events z.snapshot.counts (greatest_stamp (nodes_played d colour z)) after syncs.2
          ∙ kept_after.starts colour in
          let long = line_counted s d colour y.client lt_then in
          let its_own = ap (λ (v : Counts). at v d.region) started in
          let known = one_known kept caller.own colour q.place stamp q.point.position stood q.after_is in
          let in_snapshot = syncs.0.within in
          let high : p.position ≤ length (own_line d colour) = omega (arith, place, long, its_own, known, in_snapshot) in
          let stamps = stamps_played log caller stood colour z.events z.snapshot.counts (nodes_played d colour z) syncs.1 in (
            stood,
            subst (λ (row : Option ℕ). Appends log caller kept node stamp row (piece_of p ∷ []) stood) q.no_row
                (subst (λ (l : List Point). Appends log caller kept node stamp a.row (map piece_of l) stood) points appends.2),
            subst (λ (k : ℕ). Syncs log caller stood k z.events z.snapshot.counts) (sym synced) syncs.0,
            record {
              nodes = object_nodes (take p.position (own_line d colour));
              before = subst (λ (k : ℕ). AreObjectNodes log
                  (take p.position (line (log.histories caller.own k)))
                  (object_nodes (take p.position (own_line d colour)))) (sym of)
                  (first_are_own s d colour y.client lt_then rest fits p.position high);
              value_is = front low high;
            },
            syncs.2
                ∙ (ap (kept_after_sync stood caller.own colour z.events z.snapshot.counts) stamps
                ∙ ap (λ (k : ℕ). kept_after_sync stood caller.own k z.events z.snapshot.counts
                (greatest_played log caller stood k z.events z.snapshot.counts)) (sym synced)),
            appends.0,
            appends.1,
            q.no_row,
          )
