-- The last write of a key among nodes in rising key is that of the greatest key, and so it is among the last writes of several
-- lines: where the lines have the same nodes as a list, the same write is left.
use Rattle.std.proofs.Common.{◌≡◌, ◌⊎◌, inl, inr, ℕ, Bool, true, false, List, [], ◌∷◌, Option, Some, None, refl, ap, sym, subst, ◌∙◌, arith, eq-eqb}
use Rattle.std.specs.List.{filter, fold}
use Rattle.std.proofs.lemmas.Bool.{and_from, cases_Bool, cases_lt}
use Rattle.log_node.specs.declared.ids.Key.{Key}
use Rattle.log_node.specs.Order.{key_below, same_id}
use Rattle.log_node.specs.Sets.{has}
use Rattle.log_node.proofs.CallerLemmas.{key-irrefl, key-stamps, key-total, key-trans, same_key-is, stamp-key}
use Rattle.object_form.specs.Readings.{form_of}
use Rattle.object_fold.specs.Nodes.{ObjectNode, nodes_of, shard_of}
use Rattle.object_fold.specs.Maps.{value_among}
use Rattle.col_core.proofs.CallerLemmas.{In, choice, in_filter, in_filter-back}
use Rattle.atomic_map.specs.declared.line_writes.LastWrite.{LastWrite}
use Rattle.atomic_map.specs.Writes.{last_shard_write, later_write, value_left, write_after}
use Rattle.atomic_map.proofs.WriteLemmas.{or_old, value_is_left, written, written_by, written_or_old}

-- KEYS

pub not_both : (b : Bool) → b ≡ true → b ≡ false → ⊥
not_both b t f = let none : ⊥ = cc (t, f) in none

-- what comes below a key comes below another or is behind that one
below_or : (a b c : Key) → key_below a c ≡ true → (key_below a b ≡ true) ⊎ (key_below b c ≡ true)
below_or a b c lt = elim (cases_Bool (key_below b c)) [
  | inl t ↦ inr t
  | inr f ↦ inl (elim (cases_Bool (same_id b.id c.id)) [
    | inl same ↦ elim (cases_lt c.stamp b.stamp) [
      | inl above ↦ (let low = key-stamps a c lt in stamp-key a b (omega (arith, low, above)))
      | inr le ↦ elim (cases_lt b.stamp c.stamp) [
        | inl under ↦ absurd (not_both (key_below b c) (stamp-key b c under) f)
        | inr ge ↦ subst (λ (k : Key). key_below a k ≡ true)
            (sym (same_key-is b c (and_from _ (same_id b.id c.id) (eq-eqb b.stamp c.stamp (omega (arith, le, ge))) same))) lt
      ]
    ]
    | inr other ↦ key-trans a c b lt
        (key-total b c (λ t. not_both (same_id b.id c.id) t other) (λ t. not_both (key_below b c) t f))
  ])
]

-- keys of which none is below the other are one
one_key : (a b : Key) → (key_below a b ≡ true → ⊥) → (key_below b a ≡ true → ⊥) → a ≡ b
one_key a b not_below not_behind = elim (cases_Bool (same_id a.id b.id)) [
  | inl same ↦ elim (cases_lt a.stamp b.stamp) [
    | inl lt ↦ absurd (not_below (stamp-key a b lt))
    | inr le ↦ elim (cases_lt b.stamp a.stamp) [
      | inl lt ↦ absurd (not_behind (stamp-key b a lt))
      | inr ge ↦ same_key-is a b (and_from _ (same_id a.id b.id) (eq-eqb a.stamp b.stamp (omega (arith, le, ge))) same)
    ]
  ]
  | inr other ↦ absurd (not_behind (key-total a b (λ t. not_both (same_id a.id b.id) t other) not_below))
]

-- NODES IN RISING KEY

abbrev pub Rising : List ObjectNode → Type 0
Rising [] = Unit {0}
Rising (n ∷ nodes) = ((m : ObjectNode) → In m nodes → key_below n.key m.key ≡ true) × Rising nodes

pub rising_part : (test : ObjectNode → Bool) (nodes : List ObjectNode) → Rising nodes → Rising (filter test nodes)
rising_part test [] r = tt
rising_part test (n ∷ nodes) r =
    choice Rising (test n) (n ∷ filter test nodes) (filter test nodes)
    (λ _. ((λ m i. r.0 m (in_filter test m nodes i).0), rising_part test nodes r.1))
    (λ _. rising_part test nodes r.1)

-- no two have one key
rising_one : (nodes : List ObjectNode) → Rising nodes → (m n : ObjectNode) → In m nodes → In n nodes → m.key ≡ n.key → m ≡ n
rising_one [] r m n i j e = absurd i
rising_one (x ∷ nodes) r m n (inl a) (inl b) e = sym a ∙ b
rising_one (x ∷ nodes) r m n (inl a) (inr j) e =
    absurd (key-irrefl m.key (subst (λ (k : Key). key_below m.key k ≡ true) (sym e)
    (subst (λ (y : ObjectNode). key_below y.key n.key ≡ true) a (r.0 n j))))
rising_one (x ∷ nodes) r m n (inr i) (inl b) e =
    absurd (key-irrefl n.key (subst (λ (k : Key). key_below n.key k ≡ true) e
    (subst (λ (y : ObjectNode). key_below y.key m.key ≡ true) b (r.0 m i))))
rising_one (x ∷ nodes) r m n (inr i) (inr j) e = rising_one nodes r.1 m n i j e

-- THE LATEST WRITE

-- It is that of one of these nodes, and no other one that writes the key has a greater key.
pub record IsWrite (key : List ℕ) (Among : ObjectNode → Type 0) (write : LastWrite) : Type 0 where
  pub node : ObjectNode
  pub among : Among node
  pub by : written key node ≡ Some write
  pub last : (m : ObjectNode) (other : LastWrite) → Among m → written key m ≡ Some other
      → key_below write.node other.node ≡ true → ⊥

-- none of these nodes writes the key
abbrev pub WriteNone : List ℕ → (ObjectNode → Type 0) → Type 0
WriteNone key Among = (m : ObjectNode) → Among m → written key m ≡ None

-- this is the latest write of these nodes, or there is none
abbrev pub IsLatest : List ℕ → (ObjectNode → Type 0) → Option LastWrite → Type 0
IsLatest key Among None = WriteNone key Among
IsLatest key Among (Some write) = IsWrite key Among write

one_some : (a b : LastWrite) → Some a ≡ Some b → a ≡ b
one_some a b e = let f : a ≡ b = cc (e) in f

none_some : (a : LastWrite) (o : Option LastWrite) → o ≡ None → o ≡ Some a → ⊥
none_some a o n e = let f : ⊥ = cc (n, e) in f

module _ (key : List ℕ) where
  -- behind an older write either nothing more is written, or it is that of a node
  abbrev Leaves : Option LastWrite → List ObjectNode → Option LastWrite → Type 0
  Leaves old nodes write =
      ((write ≡ old) × WriteNone key (λ m. In m nodes))
      ⊎ ((w : LastWrite) × (write ≡ Some w) × IsWrite key (λ m. In m nodes) w)

  nothing_written : (old : Option LastWrite) (n : ObjectNode) (nodes : List ObjectNode) (write : Option LastWrite)
      → written key n ≡ None → Leaves old nodes write → Leaves old (n ∷ nodes) write
  nothing_written old n nodes write none (inl p) = inl (p.0, none_of) where
    none_of : WriteNone key (λ m. In m (n ∷ nodes))
    none_of m (inl e) = subst (λ (x : ObjectNode). written key x ≡ None) e none
    none_of m (inr i) = p.1 m i
  nothing_written old n nodes write none (inr q) = inr (
    q.0,
    q.1,
    record {
      node = q.2.node;
      among = inr q.2.among;
      by = q.2.by;
      last = last;
    },
  ) where
    last : (m : ObjectNode) (other : LastWrite) → In m (n ∷ nodes) → written key m ≡ Some other
        → key_below q.0.node other.node ≡ true → ⊥
    last m other (inl e) w lt = none_some other (written key m) (subst (λ (x : ObjectNode). written key x ≡ None) e none) w
    last m other (inr i) w lt = q.2.last m other i w lt

  one_written : (old : Option LastWrite) (n : ObjectNode) (nodes : List ObjectNode) (write : Option LastWrite) (own : LastWrite)
      → ((m : ObjectNode) → In m nodes → key_below n.key m.key ≡ true) → written key n ≡ Some own
      → Leaves (Some own) nodes write → Leaves old (n ∷ nodes) write
  one_written old n nodes write own first by (inl p) = inr (
    own,
    p.0,
    record {
      node = n;
      among = inl refl;
      by = by;
      last = last;
    },
  ) where
    last : (m : ObjectNode) (other : LastWrite) → In m (n ∷ nodes) → written key m ≡ Some other
        → key_below own.node other.node ≡ true → ⊥
    last m other (inl e) w lt =
        let same : own ≡ other = one_some own other (sym by ∙ (ap (written key) e ∙ w)) in
        key-irrefl own.node (subst (λ (x : LastWrite). key_below own.node x.node ≡ true) (sym same) lt)
    last m other (inr i) w lt = none_some other (written key m) (p.1 m i) w
  one_written old n nodes write own first by (inr q) = inr (
    q.0,
    q.1,
    record {
      node = q.2.node;
      among = inr q.2.among;
      by = q.2.by;
      last = last;
    },
  ) where
    last : (m : ObjectNode) (other : LastWrite) → In m (n ∷ nodes) → written key m ≡ Some other
        → key_below q.0.node other.node ≡ true → ⊥
    last m other (inl e) w lt =
        let of_n : other.node ≡ n.key = written_by key m other w ∙ ap (λ (x : ObjectNode). x.key) (sym e) in
        let of_later : q.0.node ≡ q.2.node.key = written_by key q.2.node q.0 q.2.by in
        key-irrefl n.key (key-trans n.key q.2.node.key n.key (first q.2.node q.2.among)
        (subst (λ (k : Key). key_below k n.key ≡ true) of_later
        (subst (λ (k : Key). key_below q.0.node k ≡ true) of_n lt)))
    last m other (inr i) w lt = q.2.last m other i w lt

  leaves : (old : Option LastWrite) (nodes : List ObjectNode) → Rising nodes → Leaves old nodes (write_after key old nodes)
  leaves old [] r = inl (refl, λ m i. absurd i)
  leaves old (n ∷ nodes) r = by_own (λ w. leaves w nodes r.1) (written key n) refl where
    by_own : ((w : Option LastWrite) → Leaves w nodes (write_after key w nodes)) → (own : Option LastWrite)
        → written key n ≡ own → Leaves old (n ∷ nodes) (write_after key old (n ∷ nodes))
    by_own rest None e =
        nothing_written old n nodes (write_after key old (n ∷ nodes)) e
        (subst (λ (w : Option LastWrite). Leaves old nodes (write_after key w nodes))
        (sym (written_or_old n.key key old (form_of n.text) ∙ ap (λ (w : Option LastWrite). or_old w old) e)) (rest old))
    by_own rest (Some own) e =
        one_written old n nodes (write_after key old (n ∷ nodes)) own r.0 e
        (subst (λ (w : Option LastWrite). Leaves (Some own) nodes (write_after key w nodes))
        (sym (written_or_old n.key key old (form_of n.text) ∙ ap (λ (w : Option LastWrite). or_old w old) e))
        (rest (Some own)))

  from_leaves : (Among : List ObjectNode) (write : Option LastWrite) → Leaves None Among write
      → IsLatest key (λ m. In m Among) write
  from_leaves nodes write (inl p) = subst (IsLatest key (λ m. In m nodes)) (sym p.0) p.1
  from_leaves nodes write (inr q) = subst (IsLatest key (λ m. In m nodes)) (sym q.1) q.2

  -- the last write in rising key is the latest
  pub last_is_latest : (nodes : List ObjectNode) → Rising nodes → IsLatest key (λ m. In m nodes) (write_after key None nodes)
  last_is_latest nodes r = from_leaves nodes (write_after key None nodes) (leaves None nodes r)

  -- the latest write of some nodes is that of the same nodes told otherwise
  pub latest_of : (P Q : ObjectNode → Type 0) (write : Option LastWrite) → ((m : ObjectNode) → P m → Q m)
      → ((m : ObjectNode) → Q m → P m) → IsLatest key P write → IsLatest key Q write
  latest_of P Q None into back is = λ m q. is m (back m q)
  latest_of P Q (Some write) into back is = record {
    node = is.node;
    among = into is.node is.among;
    by = is.by;
    last = λ m other q. is.last m other (back m q);
  }

  -- and of two lots of nodes the later one is it
  pub latest_both : (P Q : ObjectNode → Type 0) (a b : Option LastWrite) → IsLatest key P a → IsLatest key Q b
      → IsLatest key (λ m. P m ⊎ Q m) (later_write a b)
  latest_both P Q None None p q = none_of where
    none_of : WriteNone key (λ m. P m ⊎ Q m)
    none_of m (inl i) = p m i
    none_of m (inr j) = q m j
  latest_both P Q None (Some b) p q = record { node = q.node; among = inr q.among; by = q.by; last = last } where
    last : (m : ObjectNode) (other : LastWrite) → P m ⊎ Q m → written key m ≡ Some other
        → key_below b.node other.node ≡ true → ⊥
    last m other (inl i) w lt = none_some other (written key m) (p m i) w
    last m other (inr j) w lt = q.last m other j w lt
  latest_both P Q (Some a) None p q = record { node = p.node; among = inl p.among; by = p.by; last = last } where
    last : (m : ObjectNode) (other : LastWrite) → P m ⊎ Q m → written key m ≡ Some other
        → key_below a.node other.node ≡ true → ⊥
    last m other (inl i) w lt = p.last m other i w lt
    last m other (inr j) w lt = none_some other (written key m) (q m j) w
  latest_both P Q (Some a) (Some b) p q =
      choice (IsLatest key (λ m. P m ⊎ Q m)) (key_below a.node b.node) (Some b) (Some a)
      (λ t. record { node = q.node; among = inr q.among; by = q.by; last = last_b t })
      (λ f. record { node = p.node; among = inl p.among; by = p.by; last = last_a f }) where
        last_b : key_below a.node b.node ≡ true → (m : ObjectNode) (other : LastWrite) → P m ⊎ Q m
            → written key m ≡ Some other → key_below b.node other.node ≡ true → ⊥
        last_b t m other (inl i) w lt = p.last m other i w (key-trans a.node b.node other.node t lt)
        last_b t m other (inr j) w lt = q.last m other j w lt

        last_a : key_below a.node b.node ≡ false → (m : ObjectNode) (other : LastWrite) → P m ⊎ Q m
            → written key m ≡ Some other → key_below a.node other.node ≡ true → ⊥
        last_a f m other (inl i) w lt = p.last m other i w lt
        last_a f m other (inr j) w lt = elim (below_or a.node b.node other.node lt) [
          | inl t ↦ not_both (key_below a.node b.node) t f
          | inr under ↦ q.last m other j w under
        ]

  -- there is but one
  one_latest : (P : ObjectNode → Type 0) (a b : Option LastWrite)
      → ((m n : ObjectNode) → P m → P n → m.key ≡ n.key → m ≡ n) → IsLatest key P a → IsLatest key P b → a ≡ b
  one_latest P None None one p q = refl
  one_latest P None (Some b) one p q = absurd (none_some b (written key q.node) (p q.node q.among) q.by)
  one_latest P (Some a) None one p q = absurd (none_some a (written key p.node) (q p.node p.among) p.by)
  one_latest P (Some a) (Some b) one p q =
      let same : a.node ≡ b.node =
      one_key a.node b.node (p.last q.node b q.among q.by) (q.last p.node a p.among p.by) in
      let node : p.node ≡ q.node = one p.node q.node p.among q.among
      (sym (written_by key p.node a p.by) ∙ (same ∙ written_by key q.node b q.by)) in
      sym p.by ∙ (ap (written key) node ∙ q.by)

-- LINES

module _ (colours key : List ℕ) (line : ℕ → List ObjectNode) where
  -- the nodes of the lines of these colours that count for the key
  abbrev Counting : List ℕ → ObjectNode → Type 0
  Counting ks m = (k : ℕ) × In k ks × In m (nodes_of (shard_of colours key) (line k))

  abbrev latest_over : Option LastWrite → List ℕ → Option LastWrite
  latest_over old ks = fold (λ write k. later_write write (last_shard_write colours (line k) key)) old ks

  over_lines : (Before : ObjectNode → Type 0) (old : Option LastWrite) (ks : List ℕ)
      → ((k : ℕ) → In k ks → Rising (line k)) → IsLatest key Before old
      → IsLatest key (λ m. Before m ⊎ Counting ks m) (latest_over old ks)
  over_lines Before old [] rise is = latest_of key Before (λ m. Before m ⊎ Counting [] m) old (λ m b. inl b) back is where
    back : (m : ObjectNode) → Before m ⊎ Counting [] m → Before m
    back m (inl b) = b
    back m (inr c) = absurd c.1
  over_lines Before old (k ∷ ks) rise is =
      let first : ObjectNode → Type 0 = λ m. Before m ⊎ In m (nodes_of (shard_of colours key) (line k)) in
      latest_of key (λ m. first m ⊎ Counting ks m) (λ m. Before m ⊎ Counting (k ∷ ks) m) (latest_over old (k ∷ ks)) into back
      (over_lines first (later_write old (last_shard_write colours (line k) key)) ks (λ n i. rise n (inr i))
      (latest_both key Before (λ m. In m (nodes_of (shard_of colours key) (line k))) old (last_shard_write colours (line k) key) is
      (last_is_latest key (nodes_of (shard_of colours key) (line k))
      (rising_part (λ n. has n.colours (shard_of colours key)) (line k) (rise k (inl refl)))))) where
        into : (m : ObjectNode) → (Before m ⊎ In m (nodes_of (shard_of colours key) (line k))) ⊎ Counting ks m
            → Before m ⊎ Counting (k ∷ ks) m
        into m (inl (inl b)) = inl b
        into m (inl (inr i)) = inr (k, inl refl, i)
        into m (inr c) = inr (c.0, inr c.1, c.2)

        back : (m : ObjectNode) → Before m ⊎ Counting (k ∷ ks) m
            → (Before m ⊎ In m (nodes_of (shard_of colours key) (line k))) ⊎ Counting ks m
        back m (inl b) = inl (inl b)
        back m (inr c) = by_colour c.1 where
          by_colour : In c.0 (k ∷ ks) → (Before m ⊎ In m (nodes_of (shard_of colours key) (line k))) ⊎ Counting ks m
          by_colour (inl e) =
              inl (inr (subst (λ (n : ℕ). In m (nodes_of (shard_of colours key) (line n))) (sym e) c.2))
          by_colour (inr i) = inr (c.0, i, c.2)

  -- The latest of the lines' last writes leaves the value that the nodes leave, which are the same in one list in rising key.
  pub value_by_lines : (ks : List ℕ) (nodes : List ObjectNode) → ((k : ℕ) → In k ks → Rising (line k)) → Rising nodes
      → ((m : ObjectNode) → In m nodes → (k : ℕ) × In k ks × In m (line k))
      → ((k : ℕ) (m : ObjectNode) → In k ks → In m (line k) → In m nodes)
      → value_left (latest_over None ks) ≡ value_among colours nodes key
  value_by_lines ks nodes rise rises into back =
      ap value_left
      (one_latest key (λ m. In m counted) (latest_over None ks) (last_shard_write colours nodes key)
      (rising_one counted counted_rise)
      (latest_of key (λ m. ⊥ ⊎ Counting ks m) (λ m. In m counted) (latest_over None ks) from_lines to_lines
      (over_lines (λ m. ⊥) None ks rise (λ m none. absurd none)))
      (last_is_latest key counted counted_rise))
      ∙ value_is_left colours nodes key where
        test : ObjectNode → Bool
        test n = has n.colours (shard_of colours key)

        counted : List ObjectNode
        counted = nodes_of (shard_of colours key) nodes

        counted_rise : Rising counted
        counted_rise = rising_part test nodes rises

        from_lines : (m : ObjectNode) → ⊥ ⊎ Counting ks m → In m counted
        from_lines m (inl none) = absurd none
        from_lines m (inr c) =
            let f = in_filter test m (line c.0) c.2 in in_filter-back test m nodes (back c.0 m c.1 f.0) f.1

        to_lines : (m : ObjectNode) → In m counted → ⊥ ⊎ Counting ks m
        to_lines m i =
            let f = in_filter test m nodes i in
            let x = into m f.0 in
            inr (x.0, x.1, in_filter-back test m (line x.0) x.2 f.1)
