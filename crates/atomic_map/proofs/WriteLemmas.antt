-- One more node, for the last writes of keys, and the values that these leave.
use Rattle.std.proofs.Common.{◌≡◌, ℕ, Bool, true, false, cond, List, [], ◌∷◌, ◌++◌, Option, Some, None, Result, Ok, Err, refl, ap, sym, subst, ◌∙◌}
use Rattle.std.specs.Prelude.{OnOk}
use Rattle.std.specs.List.{filter, fold}
use Rattle.std.specs.Str.{bytes_eq}
use Rattle.std.proofs.lemmas.List.Sums.{fold_push}
use Rattle.log_node.specs.declared.ids.Key.{Key}
use Rattle.log_node.specs.declared.forms.Pair.{Pair}
use Rattle.log_node.specs.declared.forms.Form.{Form}
use Rattle.log_node.specs.declared.forms.Form.TheVariants as forms
use Rattle.log_node.specs.Sets.{has}
use Rattle.object_form.specs.Readings.{form_of}
use Rattle.object_fold.specs.Nodes.{ObjectNode, nodes_of, shard_of}
use Rattle.object_fold.specs.Maps.{Value, set_pair, value_among, value_with}
use Rattle.atomic_map.specs.declared.line_writes.LastWrite.{LastWrite}
use Rattle.atomic_map.specs.declared.line_writes.LineWrites.{LineWrites}
use Rattle.atomic_map.specs.Writes.{HoldsShardWrites, IsWritten, last_shard_write, put_with, value_left, write_after, write_then, write_with}

-- ONE MORE NODE

filter_push : (p : ObjectNode → Bool) (xs : List ObjectNode) (x : ObjectNode)
    → filter p (xs ++ x ∷ []) ≡ cond (p x) (filter p xs ++ x ∷ []) (filter p xs)
filter_push p [] x = refl
filter_push p (y ∷ xs) x =
    ap (λ (l : List ObjectNode). cond (p y) (y ∷ l) l) (filter_push p xs x) ∙ turned (p y) (p x) (filter p xs) where
      turned : (b c : Bool) (l : List ObjectNode)
          → cond b (y ∷ cond c (l ++ x ∷ []) l) (cond c (l ++ x ∷ []) l)
          ≡ cond c (cond b (y ∷ l) l ++ x ∷ []) (cond b (y ∷ l) l)
      turned true true l = refl
      turned true false l = refl
      turned false true l = refl
      turned false false l = refl

last_more : (colours : List ℕ) (nodes : List ObjectNode) (node : ObjectNode) (key : List ℕ)
    → last_shard_write colours (nodes ++ node ∷ []) key
    ≡ write_then colours node key (last_shard_write colours nodes key) (form_of node.text)
last_more colours nodes node key =
    ap (write_after key None) (filter_push (λ n. has n.colours (shard_of colours key)) nodes node)
    ∙ by_bool (has node.colours (shard_of colours key)) where
      by_bool : (b : Bool)
          → write_after key None (cond b (nodes_of (shard_of colours key) nodes ++ node ∷ []) (nodes_of (shard_of colours key) nodes))
          ≡ cond b (write_with node.key key (last_shard_write colours nodes key) (form_of node.text)) (last_shard_write colours nodes key)
      by_bool true =
          fold_push (λ (write : Option LastWrite) (n : ObjectNode). write_with n.key key write (form_of n.text)) None
          (nodes_of (shard_of colours key) nodes) node
      by_bool false = refl

-- writes that stand for nodes, after one more
pub one_more : (old new : LineWrites) (nodes : List ObjectNode) (node : ObjectNode) → new.colours ≡ old.colours
    → IsWritten old node (form_of node.text) new → HoldsShardWrites old nodes → HoldsShardWrites new (nodes ++ node ∷ [])
one_more old new nodes node same step stands key =
    step key
    ∙ (ap (λ (w : Option LastWrite). write_then old.colours node key w (form_of node.text)) (stands key)
    ∙ (sym (last_more old.colours nodes node key)
    ∙ ap (λ (cs : List ℕ). last_shard_write cs (nodes ++ node ∷ []) key) (sym same)))

-- what follows at Ok
pub ok_so : {A E : Type 0} (r : Result A E) (P Q : Type 0) → OnOk r P → (P → Q) → OnOk r Q
ok_so (Ok a) P Q is so = so is
ok_so (Err e) P Q is so = tt

-- THE VALUE THAT IS LEFT

module _ (node : Key) (key : List ℕ) where
  left_if : (b : Bool) (write : LastWrite) (old : Option LastWrite)
      → value_left (cond b (Some write) old) ≡ cond b write.value (value_left old)
  left_if true write old = refl
  left_if false write old = refl

  left_pairs : (old : Option LastWrite) (pairs : List Pair)
      → value_left (fold (put_with node key) old pairs) ≡ fold (set_pair key) (value_left old) pairs
  left_pairs old [] = refl
  left_pairs old (p ∷ pairs) =
      left_pairs (put_with node key old p) pairs
      ∙ ap (λ (v : Value). fold (set_pair key) v pairs)
      (left_if (bytes_eq p.key key) (record { node = node; value = Some p.value }) old)

  left_with : (old : Option LastWrite) (form : Form)
      → value_left (write_with node key old form) ≡ value_with key (value_left old) form
  left_with old (forms.Put other value) = left_if (bytes_eq other key) (record { node = node; value = Some value }) old
  left_with old (forms.Delete other) = left_if (bytes_eq other key) (record { node = node; value = None }) old
  left_with old (forms.PutAll pairs) = left_pairs old pairs
  left_with old (forms.Transaction reads writes) = refl
  left_with old (forms.Enqueue value) = refl
  left_with old forms.Dequeue = refl
  left_with old (forms.Causal other value) = refl
  left_with old forms.Plain = refl

left_after : (key : List ℕ) (old : Option LastWrite) (nodes : List ObjectNode)
    → value_left (write_after key old nodes)
    ≡ fold (λ (value : Value) (n : ObjectNode). value_with key value (form_of n.text)) (value_left old) nodes
left_after key old [] = refl
left_after key old (n ∷ nodes) =
    left_after key (write_with n.key key old (form_of n.text)) nodes
    ∙ ap (λ (v : Value). fold (λ (value : Value) (m : ObjectNode). value_with key value (form_of m.text)) v nodes)
    (left_with n.key key old (form_of n.text))

-- the value among nodes is that of the last write
pub value_is_left : (colours : List ℕ) (nodes : List ObjectNode) (key : List ℕ)
    → value_left (last_shard_write colours nodes key) ≡ value_among colours nodes key
value_is_left colours nodes key = left_after key None (nodes_of (shard_of colours key) nodes)

-- WHAT ONE NODE WRITES

-- a node's own write, if there is one, takes the place of an older one
abbrev pub or_old : Option LastWrite → Option LastWrite → Option LastWrite
or_old None old = old
or_old (Some write) old = Some write

-- what a node writes under the key
abbrev pub written : List ℕ → ObjectNode → Option LastWrite
written key node = write_with node.key key None (form_of node.text)

module _ (node : Key) (key : List ℕ) where
  if_written : (b : Bool) (write : LastWrite) (old : Option LastWrite)
      → cond b (Some write) old ≡ or_old (cond b (Some write) None) old
  if_written true write old = refl
  if_written false write old = refl

  or_twice : (b : Bool) (later : Option LastWrite) (write : LastWrite) (old : Option LastWrite)
      → or_old later (cond b (Some write) old) ≡ or_old (or_old later (cond b (Some write) None)) old
  or_twice true None write old = refl
  or_twice false None write old = refl
  or_twice true (Some later) write old = refl
  or_twice false (Some later) write old = refl

  pairs_or_old : (old : Option LastWrite) (pairs : List Pair)
      → fold (put_with node key) old pairs ≡ or_old (fold (put_with node key) None pairs) old
  pairs_or_old old [] = refl
  pairs_or_old old (p ∷ pairs) =
      pairs_or_old (put_with node key old p) pairs
      ∙ (or_twice (bytes_eq p.key key) (fold (put_with node key) None pairs) (record { node = node; value = Some p.value }) old
      ∙ ap (λ (w : Option LastWrite). or_old w old) (sym (pairs_or_old (put_with node key None p) pairs)))

  pub written_or_old : (old : Option LastWrite) (form : Form)
      → write_with node key old form ≡ or_old (write_with node key None form) old
  written_or_old old (forms.Put other value) =
      if_written (bytes_eq other key) (record { node = node; value = Some value }) old
  written_or_old old (forms.Delete other) = if_written (bytes_eq other key) (record { node = node; value = None }) old
  written_or_old old (forms.PutAll pairs) = pairs_or_old old pairs
  written_or_old old (forms.Transaction reads writes) = refl
  written_or_old old (forms.Enqueue value) = refl
  written_or_old old forms.Dequeue = refl
  written_or_old old (forms.Causal other value) = refl
  written_or_old old forms.Plain = refl

  -- its write is of the node
  abbrev OfNode : Option LastWrite → Type 0
  OfNode None = Unit {0}
  OfNode (Some write) = write.node ≡ node

  of_if : (b : Bool) (write : LastWrite) (old : Option LastWrite) → write.node ≡ node → OfNode old
      → OfNode (cond b (Some write) old)
  of_if true write old is of = is
  of_if false write old is of = of

  of_pairs : (old : Option LastWrite) (pairs : List Pair) → OfNode old → OfNode (fold (put_with node key) old pairs)
  of_pairs old [] of = of
  of_pairs old (p ∷ pairs) of =
      of_pairs (put_with node key old p) pairs
      (of_if (bytes_eq p.key key) (record { node = node; value = Some p.value }) old refl of)

  of_node : (form : Form) → OfNode (write_with node key None form)
  of_node (forms.Put other value) = of_if (bytes_eq other key) (record { node = node; value = Some value }) None refl tt
  of_node (forms.Delete other) = of_if (bytes_eq other key) (record { node = node; value = None }) None refl tt
  of_node (forms.PutAll pairs) = of_pairs None pairs tt
  of_node (forms.Transaction reads writes) = tt
  of_node (forms.Enqueue value) = tt
  of_node forms.Dequeue = tt
  of_node (forms.Causal other value) = tt
  of_node forms.Plain = tt

pub written_by : (key : List ℕ) (node : ObjectNode) (write : LastWrite) → written key node ≡ Some write
    → write.node ≡ node.key
written_by key node write e = subst (OfNode node.key key) e (of_node node.key key (form_of node.text))
