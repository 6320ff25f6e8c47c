-- What explains the answers to reads of several keys.
use Rattle.std.proofs.Common.{◌≡◌, inl, inr, ℕ, zero, suc, ◌+◌, ◌-◌, List, [], ◌∷◌, ◌++◌, length, map, take, Option, Some, None, refl, ap, sym, subst, ◌∙◌, arith}
use Rattle.std.specs.Prelude.{nat_le, slice_get}
use Rattle.std.specs.List.{All, Contains, fold}
use Rattle.std.proofs.lemmas.Bool.{le-leb, leb-true}
use Rattle.std.proofs.lemmas.List.Elements.{All-contains}
use Rattle.std.proofs.lemmas.List.Sums.{fold_push}
use mathlib.Core.Path.{fun_ext}
use Rattle.log_node.specs.declared.ids.Colours.{Colours}
use Rattle.log_node.specs.declared.ids.Key.{Key}
use Rattle.log_node.specs.declared.node.Node.{Node}
use Rattle.log_node.specs.Seen.{PlacedNode}
use Rattle.log_node.specs.Sets.{members}
use Rattle.log_node.specs.Vectors.{at}
use Rattle.object_fold.specs.declared.kept_line.KeptLine.{KeptLine}
use Rattle.object_fold.specs.Nodes.{ObjectNode, object_node, object_nodes}
use Rattle.object_fold.specs.Tables.{value_at}
use Rattle.object_fold.specs.Maps.{Value, values_among}
use Rattle.object_fold.specs.Folds.{last_after}
use Rattle.col_core.specs.History.{line}
use Rattle.col_core.specs.Log.{Log}
use Rattle.col_core.proofs.CallerLemmas.{In, contains_in, in_contains, in_filter, in_filter-back}
use Rattle.lawful_run.specs.Asks.{shards}
use Rattle.lawful_run.specs.Objects.{AreObjectNodes, IsObjectNode}
use Rattle.client_law.specs.Knowing.{Rest, log_seen}
use Rattle.log_client.specs.declared.store.Store.{Store}
use Rattle.log_client.specs.declared.client.Client.{Client}
use Rattle.log_client.specs.declared.answers.StampedRead.{StampedRead}
use Rattle.log_client.specs.declared.faults.SyncFault.{SyncFault}
use Rattle.log_client.specs.Fits.{FitsHolds}
use Rattle.log_client.specs.Clients.{IsClient, caller_of, holds_of, own_line, seen_of, starts_of}
use Rattle.log_client.specs.Reading.{home_seen, keys_of}
use Rattle.log_client.specs.StampedReads.{HasRead, HoldsUpTo, ReadHidden, ReadRefused, ReadsAs, ReadsOn, ShowsItem}
use Rattle.log_client.proofs.CallerLemmas.{line_is_own, line_rises, made_from, made_of}
use Rattle.atomic_map.specs.declared.line_writes.LastWrite.{LastWrite}
use Rattle.atomic_map.specs.declared.line_writes.LineWrites.{LineWrites}
use Rattle.atomic_map.specs.declared.atomic.AtomicMap.{AtomicMap}
use Rattle.atomic_map.specs.Writes.{items_up_to, last_shard_write, later_write, value_left}
use Rattle.atomic_map.specs.Several.{GetsAll, IsAtomicMapOf, IsFolded, latest_in, values_by_lines, values_in, write_in}
use Rattle.atomic_map.proofs.LatestWrites.{value_by_lines}
use Rattle.atomic_map.proofs.LineLemmas.{beside, beside_back, rises_items, rises_nodes, rises_up_to}
use Rattle.col_core.proofs.CallerLemmas.{in_take as in_front}

-- BY WHAT IS FOLDED

-- the last write by one line more
pub latest_next : (lines : List (KeptLine LineWrites)) (first : List ℕ) (k : ℕ) (key : List ℕ) (one : KeptLine LineWrites)
    (old write next : Option LastWrite) → slice_get lines k ≡ Some one → old ≡ latest_in lines first key
    → write ≡ value_at one.state.writes.entries key → next ≡ later_write old write → next ≡ latest_in lines (first ++ k ∷ []) key
latest_next lines first k key one old write next there of is later =
    later
    ∙ (ap (λ (w : Option LastWrite). later_write w write) of
    ∙ (ap (later_write (latest_in lines first key))
    (is ∙ ap (λ (o : Option (KeptLine LineWrites)). write_in o key) (sym there))
    ∙ sym (fold_push (λ (w : Option LastWrite) (n : ℕ). later_write w (write_in (slice_get lines n) key)) None first k)))

-- what is folded up to a stamp are the last writes of the client's own lines
latest_is : (c : Client) (m : AtomicMap) (stamp : ℕ) (ks : List ℕ) → IsAtomicMapOf c m
    → ((k : ℕ) → In k ks → IsFolded c m stamp k) → (key : List ℕ) (old : Option LastWrite)
    → fold (λ write k. later_write write (write_in (slice_get m.lines.items k) key)) old ks
    ≡ fold (λ write k. later_write write (last_shard_write m.colours (object_nodes (items_up_to stamp (own_line c k))) key)) old ks
latest_is c m stamp [] of each key old = refl
latest_is c m stamp (k ∷ ks) of each key old =
    let f = each k (inl refl) in
    let kept = of.lines k f.line f.there in
    let here : write_in (slice_get m.lines.items k) key
    ≡ last_shard_write m.colours (object_nodes (items_up_to stamp (own_line c k))) key =
    ap (λ (o : Option (KeptLine LineWrites)). write_in o key) f.there
    ∙ (kept.folds.1 key
    ∙ (ap (λ (cs : List ℕ). last_shard_write cs (object_nodes (take f.line.count (own_line c k))) key) kept.colours_are
    ∙ ap (λ (l : List PlacedNode). last_shard_write m.colours (object_nodes l) key) f.whole)) in
    latest_is c m stamp ks of (λ n i. each n (inr i)) key (later_write old (write_in (slice_get m.lines.items k) key))
    ∙ ap (λ (w : Option LastWrite). fold (λ write n. later_write write (last_shard_write m.colours
    (object_nodes (items_up_to stamp (own_line c n))) key)) (later_write old w) ks) here

pub values_are : (c : Client) (m : AtomicMap) (colours : List ℕ) (stamp : ℕ) (ks : List ℕ) (keys : List (List ℕ))
    → IsAtomicMapOf c m → m.colours ≡ colours → All (IsFolded c m stamp) ks
    → values_in m.lines.items ks keys ≡ values_by_lines c colours ks stamp keys
values_are c m colours stamp ks keys of same all =
    ap (λ (f : List ℕ → Value). map f keys)
    (fun_ext (λ key. ap value_left
    (latest_is c m stamp ks of (λ k i. All-contains (IsFolded c m stamp) ks k all (contains_in ks k i)) key None)))
    ∙ ap (λ (cs : List ℕ). values_by_lines c cs ks stamp keys) same

-- BY THE NODES THAT WERE READ

-- a node of the log is one
one_object : (log : Log) (key : Key) (m n : ObjectNode) → IsObjectNode log key m → IsObjectNode log key n → m ≡ n
one_object log key m n a b =
    let node : a.appended ≡ b.appended =
    let e : Some a.appended ≡ Some b.appended = sym a.there ∙ b.there in let f : a.appended ≡ b.appended = cc (e) in f in
    let keys : m.key ≡ n.key = a.key_is ∙ sym b.key_is in
    let sets : m.colours ≡ n.colours = a.colours ∙ (ap (λ (x : Node). x.colours) node ∙ sym b.colours) in
    let texts : m.text ≡ n.text = a.text ∙ (ap (λ (x : Node). x.text) node ∙ sym b.text) in
    λ i. record { key = keys i; colours = sets i; text = texts i }

-- Nodes of a log for keys, each of which has one.
record HasNodes (log : Log) (keys : List Key) (Among : ObjectNode → Type 0) : Type 0 where
  nodes : List ObjectNode
  are : AreObjectNodes log keys nodes
  among : (m : ObjectNode) → In m nodes → Among m

has_nodes : (log : Log) (Among : ObjectNode → Type 0) (keys : List Key)
    → ((key : Key) → In key keys → (n : ObjectNode) × IsObjectNode log key n × Among n) → HasNodes log keys Among
has_nodes log Among [] found = record { nodes = []; are = tt; among = λ m i. absurd i }
has_nodes log Among (key ∷ keys) found =
    let f = found key (inl refl) in
    let rest = has_nodes log Among keys (λ k i. found k (inr i)) in record {
      nodes = f.0 ∷ rest.nodes;
      are = (f.1, rest.are);
      among = among f.0 f.2 rest;
    } where
      among : (n : ObjectNode) → Among n → (rest : HasNodes log keys Among) → (m : ObjectNode) → In m (n ∷ rest.nodes) → Among m
      among n is rest m (inl e) = subst Among e is
      among n is rest m (inr i) = rest.among m i

module _ (s : Store) (d : Client) (ks : List ℕ) (stamp : ℕ) (keys : List Key) (is : IsClient s d)
    (has : HasRead d ks stamp keys) (held : All (HoldsUpTo d stamp) ks) (rest : Rest) (fits : FitsHolds (holds_of d) rest) where
  abbrev log : Log
  log = log_seen (seen_of d) rest

  abbrev line_up_to : ℕ → List ObjectNode
  line_up_to k = object_nodes (items_up_to stamp (own_line d k))

  -- a node of an own line has its key in the line that was seen, and is as it was appended
  own : (k : ℕ) (item : PlacedNode) → In item (own_line d k)
      → In item.head.key (line (home_seen d k)) × IsObjectNode log item.head.key (object_node item)
  own k item i =
      let x = beside_back (ShowsItem log) (take (at (starts_of d k) d.region) (line (home_seen d k))) (own_line d k)
      (line_is_own s d is rest fits k) item i in (
        subst (λ (key : Key). In key (line (home_seen d k))) (sym x.2.0)
            (in_front (at (starts_of d k) d.region) (line (home_seen d k)) x.0 x.1),
        record {
          appended = item.node;
          there = x.2.1.0;
          same = x.2.1.1;
          key_is = refl;
          colours = refl;
          text = refl;
        },
      )

  abbrev IsOfLine : ObjectNode → Type 0
  IsOfLine m = (k : ℕ) × In k ks × In m (line_up_to k)

  -- each key that was read has its node in a line
  found : (key : Key) → In key keys → (n : ObjectNode) × IsObjectNode log key n × IsOfLine n
  found key i =
      let o = has.order.no_other key (contains_in keys key i) in
      let x = made_of (λ k. line (home_seen d k)) ks o.1 (in_contains (map (λ k. line (home_seen d k)) ks) o.1 o.2) in
      let there = All-contains (HoldsUpTo d stamp) ks x.0 held (contains_in ks x.0 x.1) key o.0
      (subst (λ (l : List Key). Contains l key) (sym x.2) o.3) in
      let y = made_of (λ (item : PlacedNode). item.head.key) (own_line d x.0) key (in_contains (keys_of (own_line d x.0)) key there) in
      let low = o.0 in
      let same = ap (λ (k : Key). k.stamp) y.2 in (
        object_node y.0,
        subst (λ (k : Key). IsObjectNode log k (object_node y.0)) y.2 (own x.0 y.0 y.1).1,
        (
          x.0,
          x.1,
          made_from object_node (items_up_to stamp (own_line d x.0)) y.0
              (in_filter-back (λ (item : PlacedNode). nat_le item.head.key.stamp stamp) y.0 (own_line d x.0) y.1
              (le-leb y.0.head.key.stamp stamp (omega (arith, low, same)))),
        ),
      )

  abbrev read_nodes : HasNodes log keys IsOfLine
  read_nodes = has_nodes log IsOfLine keys found

  -- and each node of a line up to the stamp was read
  was_read : (k : ℕ) (m : ObjectNode) → In k ks → In m (line_up_to k) → In m read_nodes.nodes
  was_read k m i j =
      let y = made_of object_node (items_up_to stamp (own_line d k)) m j in
      let f = in_filter (λ (item : PlacedNode). nat_le item.head.key.stamp stamp) y.0 (own_line d k) y.1 in
      let o = own k y.0 f.0 in
      let key = y.0.head.key in
      let inside = in_contains keys key
      (has.order.all (line (home_seen d k)) key
      (contains_in (map (λ n. line (home_seen d n)) ks) (line (home_seen d k)) (made_from (λ n. line (home_seen d n)) ks k i))
      (contains_in (line (home_seen d k)) key o.0) (leb-true key.stamp stamp f.1)) in
      let z = beside (IsObjectNode log) keys read_nodes.nodes read_nodes.are key inside in
      subst (λ (n : ObjectNode). In n read_nodes.nodes)
      (one_object log key z.0 (object_node y.0) z.2 o.1 ∙ y.2) z.1

  -- the values by the lines are those among the nodes that were read
  values_by_nodes : (colours : List ℕ) (asked : List (List ℕ))
      → values_by_lines d colours ks stamp asked ≡ values_among colours read_nodes.nodes asked
  values_by_nodes colours asked =
      ap (λ (f : List ℕ → Value). map f asked)
      (fun_ext (λ key.
      value_by_lines colours key line_up_to ks read_nodes.nodes
      (λ k i. rises_up_to stamp (own_line d k) (rises_items (own_line d k) (line_rises s d is k)))
      (rises_nodes log keys read_nodes.nodes has.order.rising read_nodes.are) read_nodes.among was_read))

  pub nodes_read : (colours : List ℕ) (asked : List (List ℕ)) (values : List Value)
      → values ≡ values_by_lines d colours ks stamp asked
      → (nodes : List ObjectNode) × AreObjectNodes log keys nodes × (values ≡ values_among colours nodes asked)
  nodes_read colours asked values are = (read_nodes.nodes, read_nodes.are, are ∙ values_by_nodes colours asked)

-- what explains the answer
pub gets_all : (s : Store) (c d : Client) (set : Colours) (colours : List ℕ) (asked : List (List ℕ))
    → members set ≡ shards colours asked → IsClient s d → (last : Option Key) (read : StampedRead)
    → ReadsOn s c d (members set) last read → All (HoldsUpTo d read.stamp) (members set) → (values : List Value)
    → values ≡ values_by_lines d colours (members set) read.stamp asked → GetsAll s c d colours last asked values read
gets_all s c d set colours asked are is last read reads held values by objects kept finished keeps =
    let x = reads.3 objects kept finished keeps in (
      x.0,
      x.1,
      λ rest fits.
          let so = x.2 rest fits in
          let n = nodes_read s d (members set) read.stamp reads.0 is reads.1 held rest fits colours asked values by in (
            reads.0,
            subst (λ (l : List ℕ). ReadsAs l last read reads.0 (log_seen (seen_of d) rest) (caller_of s d objects) kept x.0) are so,
            n.0,
            n.1,
            n.2,
          ),
    )

-- why the read was refused
pub read_refused : (s : Store) (c d : Client) (colours wanted : List ℕ) (fault : SyncFault) → colours ≡ wanted
    → ReadRefused s c d colours fault → ReadRefused s c d wanted fault
read_refused s c d colours wanted fault same why = subst (λ (l : List ℕ). ReadRefused s c d l fault) same why

pub read_hidden : (s : Store) (c d : Client) (colours wanted : List ℕ) → colours ≡ wanted → ReadHidden s c d colours
    → ReadHidden s c d wanted
read_hidden s c d colours wanted same why = subst (λ (l : List ℕ). ReadHidden s c d l) same why

-- THE LAST KEY

last_at : (last : Option Key) (items : List PlacedNode) (item : PlacedNode) (n : ℕ) → n + 1 ≡ length items
    → slice_get items n ≡ Some item → Some item.head.key ≡ last_after last items
last_at last [] item n many at = absurd (omega (arith, many))
last_at last (x ∷ []) item zero many at =
    let same : x ≡ item = cc (at) in ap (λ (i : PlacedNode). Some i.head.key) (sym same)
last_at last (x ∷ []) item (suc n) many at = absurd (omega (arith, many))
last_at last (x ∷ y ∷ items) item zero many at = absurd (omega (arith, many))
last_at last (x ∷ y ∷ items) item (suc n) many at = last_at (Some x.head.key) (y ∷ items) item n (omega (arith, many)) at

-- the last of some items is there
at_last : (items : List PlacedNode) (n : ℕ) → n + 1 ≡ length items → slice_get items n ≡ None → ⊥
at_last [] n many none = let f : ⊥ = omega (arith, many) in f
at_last (x ∷ items) zero many none = let f : ⊥ = cc (none) in f
at_last (x ∷ items) (suc n) many none = at_last items n (omega (arith, many)) none

-- the last key after items, of which this is the last one
pub last_is : (last : Option Key) (items : List PlacedNode) (item : PlacedNode)
    → Some item ≡ slice_get items (length items - 1) → Some item.head.key ≡ last_after last items
last_is last [] item at = absurd (let f : ⊥ = cc (at) in f)
last_is last (x ∷ items) item at = last_at last (x ∷ items) item (length (x ∷ items) - 1) (omega arith) (sym at)

-- and after none
pub last_same : (last : Option Key) (items : List PlacedNode) → None ≡ slice_get items (length items - 1)
    → last ≡ last_after last items
last_same last [] none = refl
last_same last (x ∷ items) none = absurd (at_last (x ∷ items) (length (x ∷ items) - 1) (omega arith) (sym none))
