-- An own node that the client has played is among those of a stamped read behind the play.
use Rattle.std.proofs.Common.{◌≡◌, ◌⊎◌, inl, inr, ℕ, zero, suc, ◌<◌, ◌≤◌, Bool, true, false, List, [], ◌∷◌, ◌++◌, length, map, take, drop, Option, Some, refl, ap, sym, subst, ◌∙◌, arith, eq-eqb, take-append-drop}
use Rattle.std.specs.Prelude.{◌==◌, slice_get}
use Rattle.std.proofs.lemmas.Bool.{cases_Bool, eqb-true}
use Rattle.std.proofs.lemmas.List.{length-map}
use mathlib.Core.List.{IsPrefix}
use Rattle.log_node.specs.declared.ids.Counts.{Counts}
use Rattle.log_node.specs.declared.ids.Key.{Key}
use Rattle.log_node.specs.declared.node.At.{At}
use Rattle.log_node.specs.declared.node.At.TheVariants.{Event, Look}
use Rattle.log_node.specs.Order.{key_below, same_key}
use Rattle.log_node.specs.Reach.{Reachable}
use Rattle.log_node.specs.Vectors.{at}
use Rattle.log_node.proofs.CallerLemmas.{key-irrefl, reached_within, same_key-is}
use Rattle.object_fold.specs.Folds.{IsAbsent, node_with}
use Rattle.object_fold.specs.Nodes.{ObjectNode}
use Rattle.object_fold.proofs.CallerLemmas.{found_cond, passed_cond}
use Rattle.part_fold.specs.Ruled.{AreApart}
use Rattle.playback.specs.Merging.{AreRising}
use Rattle.col_core.specs.declared.Entry.{Entry}
use Rattle.col_core.specs.Computed.{dated}
use Rattle.col_core.specs.Cuts.{chain}
use Rattle.col_core.specs.History.{line}
use Rattle.col_core.specs.Keeping.{Kept}
use Rattle.col_core.specs.Log.{Log}
use Rattle.col_core.proofs.CallerLemmas.{In, choice, contains_in, entries_dated, head_with, if_true, in_contains, slice_in}
use Rattle.script_text.specs.declared.script.Object.{Object}
use Rattle.report_text.specs.declared.report.RaisePiece.{RaisePiece}
use Rattle.report_text.specs.declared.report.SyncPiece.{SyncPiece}
use Rattle.lawful_run.specs.Callers.{Caller}
use Rattle.lawful_run.specs.Objects.{AreObjectNodes, IsObjectNode}
use Rattle.lawful_run.specs.Reads.{ClearSyncs, Raises, kept_after_piece, kept_after_place, lines_read}
use Rattle.client_law.specs.Knowing.{Rest, log_seen}
use Rattle.client_law.proofs.CallerLemmas.{seen_later}
use Rattle.log_client.specs.declared.store.Store.{Store}
use Rattle.log_client.specs.declared.client.Client.{Client}
use Rattle.log_client.specs.declared.answers.StampedRead.{StampedRead}
use Rattle.log_client.specs.Clients.{caller_of, seen_of}
use Rattle.log_client.specs.Reading.{RestsOn}
use Rattle.log_client.specs.StampedReads.{ReadsAs, raise_piece, sync_piece}
use Rattle.log_client.proofs.CallerLemmas.{client_sees_on, rising_head, rising_tail}

-- LISTS

-- what a longer list has at a place of its beginning
front_get : {A : Type 0} (xs ys : List A) (n : ℕ) (x : A) → n < length xs → slice_get (xs ++ ys) n ≡ Some x
    → slice_get xs n ≡ Some x
front_get [] ys n x lt e = absurd (let f : ⊥ = omega (arith, lt) in f)
front_get (y ∷ xs) ys zero x lt e = e
front_get (y ∷ xs) ys (suc n) x lt e = front_get xs ys n x (omega (arith, lt)) e

-- the own chain is as long as the line
chain_long : (own : ℕ) (history : List Entry) → length (chain own (dated own history) own) ≡ length (line history)
chain_long own history =
    ap length (if_true (own == own) _ _ (eq-eqb own own refl)
    ∙ ap (λ (es : List Entry). map (head_with (dated own history)) (line es)) (entries_dated own history))
    ∙ length-map (line history) (head_with (dated own history))

-- AMONG THE KEYS

module _ (s : Store) (m d : Client) (on : RestsOn s m d) (rest : Rest) (objects : List Object) where
  abbrev log : Log
  log = log_seen (seen_of d) rest

  abbrev caller : Caller
  caller = caller_of s d objects

  abbrev history : ℕ → List Entry
  history colour = seen_of d d.region colour

  few : d.region < 4
  few = let four = s.fit.few in let within = on.client.region in omega (arith, four, within)

  -- the line of the first events is the beginning of the line
  begins : (colour events : ℕ) → IsPrefix (line (take events (history colour))) (line (history colour))
  begins colour events =
      (seen_later caller (λ r c. take events (seen_of d r c)) (seen_of d) rest (record {
        more = λ r c. (drop events (seen_of d r c), take-append-drop events (seen_of d r c));
        lawful = (client_sees_on s m d objects on.client on.goes).lawful;
        home = few;
      })).lines d.region colour

  counted : (h : List Entry) (counts : Counts) → Reachable (chain d.region (dated d.region h)) counts
      → at counts d.region ≤ length (line h)
  counted h counts reached =
      let a = reached_within (chain d.region (dated d.region h)) reached d.region few in
      let b = chain_long d.region h in
      omega (arith, a, b)

  module _ (colour place : ℕ) (key : Key) (there : slice_get (line (history colour)) place ≡ Some key) (stamp : ℕ) where
    -- raises leave what is known to stand
    known_raised : (kept : Kept) (raises : List RaisePiece) (raised : Kept) → Raises log caller stamp kept raises raised
        → raised.known colour ≡ kept.known colour
    known_raised kept [] raised r = ap (λ (k : Kept). k.known colour) r
    known_raised kept (one ∷ raises) raised r =
        known_raised (kept_after_place kept caller.own one.colour one.at) raises raised r.1 ∙ by one.at where
          by : (p : At) → (kept_after_place kept caller.own one.colour p).known colour ≡ kept.known colour
          by (Event n) = refl
          by (Look n) = refl

    -- a node that is known to stand is in the line that a sync of its colour looked at
    in_synced : (kept : Kept) (syncs : List SyncPiece) (after : Kept) → ClearSyncs log caller stamp kept syncs after
        → In colour (map (λ (y : SyncPiece). y.colour) syncs) → place < kept.known colour
        → (l : List Key) × In l (lines_read log caller syncs) × In key l
    in_synced kept [] after c i known = absurd i
    in_synced kept (y ∷ syncs) after c (inl e) known =
        let looked = line (take y.events (history y.colour)) in
        let p = begins y.colour y.events in
        let low = counted (take y.events (history y.colour)) y.counts c.0.cut.reached in
        let within = c.0.within in
        let known_here : place < kept.known y.colour = subst (λ (k : ℕ). place < kept.known k) (sym e) known in
        let there_here : slice_get (looked ++ p.0) place ≡ Some key =
        ap (λ (l : List Key). slice_get l place) p.1
        ∙ subst (λ (k : ℕ). slice_get (line (history k)) place ≡ Some key) (sym e) there in (
          looked,
          inl refl,
          slice_in looked place key (front_get looked p.0 place key (omega (arith, low, within, known_here)) there_here),
        )
    in_synced kept (y ∷ syncs) after c (inr i) known =
        let within = c.0.within in
        let found = in_synced (kept_after_piece log caller kept y) syncs after c.2 i
        (choice (λ (n : ℕ). place < n) (colour == y.colour) (at y.counts caller.own) (kept.known colour)
        (λ t. let same = ap kept.known (eqb-true colour y.colour t) in omega (arith, same, within, known)) (λ _. known)) in
        (found.0, inr found.1, found.2)

    -- so it is among what was read
    pub own_read : (kept : Kept) (colours : List ℕ) (last : Option Key) (read : StampedRead) (keys : List Key) (after : Kept)
        → read.stamp ≡ stamp → ReadsAs colours last read keys log caller kept after → In colour colours
        → place < kept.known colour → key.stamp ≤ kept.floor → In key keys
    own_read kept colours last read keys after same reads i known low =
        let raises = map raise_piece read.raises in
        let syncs = map sync_piece read.syncs in
        let r = reads.0 in
        let up = r.above_floor in
        let as_known = known_raised kept raises r.raised
        (subst (λ (n : ℕ). Raises log caller n kept raises r.raised) same r.raising) in
        let found = in_synced r.raised syncs r.synced
        (subst (λ (n : ℕ). ClearSyncs log caller n r.raised syncs r.synced) same r.syncing)
        (subst (In colour) (sym r.synced_colours) i) (omega (arith, as_known, known)) in
        in_contains keys key
        (reads.1.all found.0 key (contains_in (lines_read log caller syncs) found.0 found.1) (contains_in found.0 key found.2)
        (omega (arith, low, up)))

-- AMONG THE NODES

-- the node with a key among nodes with these keys
pub found : (l : Log) (own : Key) (keys : List Key) (nodes : List ObjectNode) → AreObjectNodes l keys nodes → In own keys
    → same_key own own ≡ true → (node : ObjectNode) × (node_with own nodes ≡ Some node) × IsObjectNode l own node
found l own [] nodes are i itself = absurd i
found l own (k ∷ keys) [] are i itself = absurd are
found l own (k ∷ keys) (n ∷ nodes) are i itself = elim (cases_Bool (same_key n.key own)) [
  | inl t ↦ (
    n,
    found_cond (same_key n.key own) (Some n) (node_with own nodes) t,
    subst (λ (x : Key). IsObjectNode l x n) (sym are.0.key_is ∙ same_key-is n.key own t) are.0,
  )
  | inr f ↦
      (let rest = found l own keys nodes are.1 (behind i f) itself in
      (rest.0, passed_cond (same_key n.key own) (Some n) (node_with own nodes) f ∙ rest.1, rest.2))
] where
  behind : (k ≡ own) ⊎ In own keys → same_key n.key own ≡ false → In own keys
  behind (inl e) f =
      let t : same_key n.key own ≡ true = subst (λ (x : Key). same_key x own ≡ true) (sym (are.0.key_is ∙ e)) itself in
      absurd (let both : true ≡ false = sym t ∙ f in let g : ⊥ = cc (both) in g)
  behind (inr j) f = j

others_absent : (l : Log) (own : Key) (keys : List Key) (nodes : List ObjectNode) → AreObjectNodes l keys nodes
    → ((k : Key) → In k keys → same_key k own ≡ false) → IsAbsent own nodes
others_absent l own [] [] are other = tt
others_absent l own [] (n ∷ nodes) are other = absurd are
others_absent l own (k ∷ keys) [] are other = absurd are
others_absent l own (k ∷ keys) (n ∷ nodes) are other = (
  subst (λ (x : Key). same_key x own ≡ false) (sym are.0.key_is) (other k (inl refl)),
  others_absent l own keys nodes are.1 (λ x i. other x (inr i)),
)

-- nodes whose keys rise are apart
pub apart : (l : Log) (keys : List Key) (nodes : List ObjectNode) → AreObjectNodes l keys nodes → AreRising keys
    → AreApart nodes
apart l [] [] are rises = tt
apart l [] (n ∷ nodes) are rises = absurd are
apart l (k ∷ keys) [] are rises = absurd are
apart l (k ∷ keys) (n ∷ nodes) are rises = (
  others_absent l n.key keys nodes are.1 (λ x i. another x i (same_key x n.key) refl),
  apart l keys nodes are.1 (rising_tail k keys rises),
) where
  another : (x : Key) → In x keys → (b : Bool) → same_key x n.key ≡ b → same_key x n.key ≡ false
  another x i false e = e
  another x i true e =
      let same : x ≡ k = same_key-is x n.key e ∙ are.0.key_is in
      absurd (key-irrefl k (subst (λ (y : Key). key_below k y ≡ true) same (rising_head k keys rises x i)))
