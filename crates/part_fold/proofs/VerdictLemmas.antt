-- Writes, verdicts and nodes in rising key, as the agreement of a part with all nodes needs them.
use Rattle.std.proofs.Common.{◌≡◌, ◌⊎◌, ℕ, Bool, true, false, not, eqb, cond, List, [], ◌∷◌, ◌++◌, length, Option, Some, None, inl, inr, refl, ap, sym, ◌∙◌, arith, length-append, get_or}
use Rattle.std.specs.Prelude.{IsTrue}
use Rattle.std.specs.List.{find, take_while, list_any, Contains, AllPairs}
use Rattle.std.specs.Option.{option_map}
use Rattle.std.specs.Str.{bytes_eq}
use lib.ListN.{get_or-append}
use lib.Seq.{get_or-append_seam}
use Rattle.std.proofs.lemmas.Bool.{cases_Bool, and_parts, and_from, both_ways, or_left, false_from_ne_true, eq-eqb}
use Rattle.std.proofs.lemmas.Slice.Eq.{bytes_eq-Decides}
use Rattle.std.proofs.lemmas.List.Elements.{Contains-append_left, Contains-append_right, Contains-push}
use Rattle.std.proofs.lemmas.List.Sums.{take_while-cons}
use Rattle.log_node.proofs.CallerLemmas.{same_key-is, key-irrefl, same_id-refl}
use Rattle.log_node.specs.declared.ids.Key.{Key}
use Rattle.log_node.specs.declared.forms.Pair.{Pair}
use Rattle.log_node.specs.declared.forms.Version.{Version}
use Rattle.log_node.specs.declared.forms.Form.{Form}
use Rattle.log_node.specs.declared.forms.Form.TheVariants as forms
use Rattle.log_node.specs.Order.{same_key, key_below}
use Rattle.object_form.specs.Readings.{form_of}
use Rattle.object_fold.specs.declared.verdict.Verdict.{Verdict}
use Rattle.object_fold.specs.declared.verdict.Verdict.TheVariants.{Committed, Conflict}
use Rattle.object_fold.specs.Nodes.{ObjectNode, nodes_before}
use Rattle.object_fold.specs.Transactions.{Write, last_write, writer_of, differs, verdict_on, written, ruled, writes_with, writes_after, form_verdict, verdict_among, verdict_of}
use Rattle.part_fold.specs.declared.decision.Decision.{Decision}
use Rattle.part_fold.specs.Parts.{Part, is_in_shard, own_reads, commits_on, decision_in, transaction_by}
use Rattle.part_fold.specs.Agreement.{outcome}

-- ---- writes

-- the same last write of each key of the shard
abbrev pub SameOwn : Part → List Write → List Write → Type 0
SameOwn part a b = (key : List ℕ) → is_in_shard part key ≡ true → last_write a key ≡ last_write b key

-- the same pairs written over the same last writes
pub same_written : (part : Part) (writer : Key) (pairs : List Pair) (a b : List Write) → SameOwn part a b → SameOwn part (written writer a pairs) (written writer b pairs)
same_written part writer [] a b same = same
same_written part writer (p ∷ pairs) a b same =
    let w : Write = record { key = p.key; value = p.value; writer = writer } in
    same_written part writer pairs (w ∷ a) (w ∷ b) (λ key own. ap (cond (bytes_eq p.key key) (Some w)) (same key own))

-- pairs of other shards change no last write
pub others_written : (part : Part) (writer : Key) (pairs : List Pair) (a : List Write) → list_any (λ (p : Pair). is_in_shard part p.key) pairs ≡ false → SameOwn part a (written writer a pairs)
others_written part writer [] a none = λ key own. refl
others_written part writer (p ∷ pairs) a none =
    let w : Write = record { key = p.key; value = p.value; writer = writer } in
    elim (cases_Bool (is_in_shard part p.key)) [
      | inl own ↦ absurd (both_ways (list_any (λ (x : Pair). is_in_shard part x.key) (p ∷ pairs)) none (or_left (is_in_shard part p.key) (list_any (λ (x : Pair). is_in_shard part x.key) pairs) own))
      | inr other ↦
          let rest : list_any (λ (x : Pair). is_in_shard part x.key) pairs ≡ false = rw other at none in
          λ key own. apart key own other ∙ others_written part writer pairs (w ∷ a) rest key own
    ] where
      apart : (key : List ℕ) → is_in_shard part key ≡ true → is_in_shard part p.key ≡ false
          → last_write a key ≡ last_write (record { key = p.key; value = p.value; writer = writer } ∷ a) key
      apart key own other =
          let differ : bytes_eq p.key key ≡ false = false_from_ne_true (bytes_eq p.key key) (λ h. both_ways (is_in_shard part p.key) other (ap (is_in_shard part) ((bytes_eq-Decides p.key key).0 h) ∙ own)) in
          rw differ refl

-- ---- verdicts

same_writers : (part : Part) (a b : List Write) (key : List ℕ) → SameOwn part a b → is_in_shard part key ≡ true → writer_of a key ≡ writer_of b key
same_writers part a b key same own = ap (λ (w : Option Write). option_map (λ x. x.writer) w) (same key own)

-- keys of the shard conflict alike
pub same_conflicts : (part : Part) (a b : List Write) (reads : List Version) → SameOwn part a b → own_reads part reads ≡ true → list_any (differs a) reads ≡ list_any (differs b) reads
same_conflicts part a b [] same own = refl
same_conflicts part a b (r ∷ reads) same own =
    let each = and_parts (is_in_shard part r.key) (own_reads part reads) own in
    rw (same_writers part a b r.key same each.0, same_conflicts part a b reads same each.1) refl

-- a verdict commits where no key that was read conflicts
pub outcome_on : (writes : List Write) (stamp : ℕ) (reads : List Version) → outcome (Some (verdict_on writes stamp reads)) ≡ Some (commits_on writes reads)
outcome_on writes stamp [] = refl
outcome_on writes stamp (r ∷ reads) = elim (cases_Bool (differs writes r)) [
  | inl differ ↦ rw differ refl
  | inr same ↦ rw same (outcome_on writes stamp reads)
]

-- what a verdict writes
pub ruled_by : (key : Key) (writes : List Write) (v : Verdict) (pairs : List Pair) (commits : Bool) → outcome (Some v) ≡ Some commits
    → ruled key writes v pairs ≡ cond commits (written key writes pairs) writes
ruled_by key writes (Committed stamp) pairs true e = refl
ruled_by key writes (Committed stamp) pairs false e = absurd cc
ruled_by key writes (Conflict k stamp) pairs true e = absurd cc
ruled_by key writes (Conflict k stamp) pairs false e = refl

-- the first decision on a key is one of those that were said
pub record IsSaid (key : Key) (said : List Decision) (commits : Bool) : Type 0 where
  pub decision : Decision
  pub among : Contains said decision
  pub on : same_key decision.key key ≡ true
  pub says : decision.commits ≡ commits

pub first_is_said : (key : Key) (said : List Decision) (commits : Bool) → decision_in said key ≡ Some commits → IsSaid key said commits
first_is_said key [] commits e = absurd (let h : None ≡ Some commits = e in cc)
first_is_said key (d ∷ said) commits e = elim (cases_Bool (same_key d.key key)) [
  | inl here ↦
      let same : Some d.commits ≡ Some commits = rw here at e in
      record { decision = d; among = Contains-append_left (d ∷ []) said d (Contains-push [] d); on = here; says = some_same d.commits same }
  | inr other ↦
      let later = first_is_said key said commits (rw other at e) in
      record { decision = later.decision; among = Contains-append_right (d ∷ []) said later.decision later.among; on = later.on; says = later.says }
] where
  some_same : (a : Bool) → Some a ≡ Some commits → a ≡ commits
  some_same a h = cc

-- ---- a form is a transaction, or it writes nothing

pub record IsTransaction (form : Form) : Type 0 where
  pub reads : List Version
  pub pairs : List Pair
  pub is : form ≡ forms.Transaction reads pairs

pub record IsNone (form : Form) : Type 0 where
  pub none : (key : Key) → transaction_by key form ≡ None
  pub writes : (key : Key) (writes : List Write) → writes_with key writes form ≡ writes

pub by_form : (form : Form) → IsTransaction form ⊎ IsNone form
by_form (forms.Transaction reads pairs) = inl (record { reads = reads; pairs = pairs; is = refl })
by_form (forms.Put key value) = inr (record { none = λ k. refl; writes = λ k w. refl })
by_form (forms.Delete key) = inr (record { none = λ k. refl; writes = λ k w. refl })
by_form (forms.PutAll pairs) = inr (record { none = λ k. refl; writes = λ k w. refl })
by_form (forms.Enqueue value) = inr (record { none = λ k. refl; writes = λ k w. refl })
by_form forms.Dequeue = inr (record { none = λ k. refl; writes = λ k w. refl })
by_form (forms.Causal key value) = inr (record { none = λ k. refl; writes = λ k w. refl })
by_form forms.Plain = inr (record { none = λ k. refl; writes = λ k w. refl })

-- ---- nodes in rising key

abbrev pub IsRising : List ObjectNode → Type 0
IsRising nodes = AllPairs (λ a b. IsTrue (key_below a.key b.key)) nodes

-- no node before one has its key
apart_before : (done later : List ObjectNode) (n : ObjectNode) → IsRising (done ++ n ∷ later) → (x : ObjectNode) → Contains done x → same_key x.key n.key ≡ false
apart_before done later n rises x c =
    let at : get_or (done ++ n ∷ later) c.0 x ≡ x = get_or-append done (n ∷ later) x c.0 c.1 ∙ c.2 in
    let seam : get_or (done ++ n ∷ later) (length done) x ≡ n = get_or-append_seam done n later x in
    let size = length-append done (n ∷ later) in
    let below : IsTrue (key_below x.key n.key) = rw (at, seam) at (rises c.0 (length done) x c.1 (omega arith)) in
    false_from_ne_true (same_key x.key n.key) (λ h. key-irrefl n.key (ap (λ (k : Key). key_below k n.key) (sym (same_key-is x.key n.key h)) ∙ below))

find_at_seam : (done later : List ObjectNode) (n : ObjectNode) → ((x : ObjectNode) → Contains done x → same_key x.key n.key ≡ false) → same_key n.key n.key ≡ true
    → find (λ (x : ObjectNode). same_key x.key n.key) (done ++ n ∷ later) ≡ Some n
find_at_seam [] later n apart self = rw self refl
find_at_seam (d ∷ done) later n apart self =
    rw (apart d (Contains-append_left (d ∷ []) done d (Contains-push [] d)))
    (find_at_seam done later n (λ x c. apart x (Contains-append_right (d ∷ []) done x c)) self)

before_seam : (done later : List ObjectNode) (n : ObjectNode) → ((x : ObjectNode) → Contains done x → same_key x.key n.key ≡ false) → same_key n.key n.key ≡ true
    → nodes_before n.key (done ++ n ∷ later) ≡ done
before_seam [] later n apart self =
    let p = λ (x : ObjectNode). not (same_key x.key n.key) in
    take_while-cons p n later ∙ ap (λ (b : Bool). cond (not b) (n ∷ take_while p later) []) self
before_seam (d ∷ done) later n apart self =
    let p = λ (x : ObjectNode). not (same_key x.key n.key) in
    take_while-cons p d (done ++ n ∷ later)
    ∙ ap (λ (b : Bool). cond (not b) (d ∷ take_while p (done ++ n ∷ later)) []) (apart d (Contains-append_left (d ∷ []) done d (Contains-push [] d)))
    ∙ ap (λ (ns : List ObjectNode). d ∷ ns) (before_seam done later n (λ x c. apart x (Contains-append_right (d ∷ []) done x c)) self)

self_same : (key : Key) → same_key key key ≡ true
self_same key = and_from (eqb key.stamp key.stamp) _ (eq-eqb key.stamp key.stamp refl) (same_id-refl key.id)

-- the verdict on a node is by the nodes before it
pub verdict_at_seam : (done later : List ObjectNode) (n : ObjectNode) → IsRising (done ++ n ∷ later)
    → verdict_of (done ++ n ∷ later) n.key ≡ form_verdict n.key (writes_after done) (form_of n.text)
verdict_at_seam done later n rises =
    let apart = apart_before done later n rises in
    ap (verdict_among (done ++ n ∷ later)) (find_at_seam done later n apart (self_same n.key))
    ∙ ap (λ (ns : List ObjectNode). form_verdict n.key (writes_after ns) (form_of n.text)) (before_seam done later n apart (self_same n.key))
