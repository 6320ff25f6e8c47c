-- What a read finds is such as the text of a transaction may name.
use Rattle.std.proofs.Common.{◌≡◌, ℕ, ◌≤◌, Bool, true, false, cond, List, [], ◌∷◌, length, map, Option, Some, None, refl, ap, sym, subst}
use Rattle.std.specs.Prelude.{IsTrue}
use Rattle.std.specs.List.{All, fold, list_all}
use Rattle.std.specs.Option.{option_map}
use Rattle.std.specs.Str.{bytes_eq}
use Rattle.std.proofs.lemmas.Bool.{and_from, and_parts}
use Rattle.std.proofs.lemmas.List.{length-map}
use Rattle.std.proofs.lemmas.List.Elements.{All-nil, All-cons, All-head, All-tail}
use Rattle.log_node.specs.declared.ids.Key.{Key}
use Rattle.log_node.specs.declared.forms.Pair.{Pair}
use Rattle.log_node.specs.declared.forms.Version.{Version}
use Rattle.log_node.specs.declared.forms.Form.{Form}
use Rattle.log_node.specs.declared.forms.Form.TheVariants as forms
use Rattle.object_form.specs.Forms.{is_word, is_writer, are_distinct, AreVersions}
use Rattle.object_form.specs.Readings.{form_of}
use Rattle.object_fold.specs.declared.verdict.Verdict.{Verdict}
use Rattle.object_fold.specs.declared.verdict.Verdict.TheVariants.{Committed, Conflict}
use Rattle.object_fold.specs.Nodes.{ObjectNode}
use Rattle.object_fold.specs.Transactions.{Write, CanRead, written, ruled, writes_with, writes_after, last_write, writer_of, verdict_on, versions_after}

-- WRITERS

-- the writers of writes have what these nodes' keys have
module _ (IsGood : Key → Type 0) where
  abbrev AreGood : List Write → Type 0
  AreGood writes = All (λ (write : Write). IsGood write.writer) writes

  written_good : (writer : Key) → IsGood writer → (pairs : List Pair) (writes : List Write) → AreGood writes
      → AreGood (written writer writes pairs)
  written_good writer good [] writes all = all
  written_good writer good (pair ∷ pairs) writes all =
      let write : Write = record { key = pair.key; value = pair.value; writer = writer } in
      written_good writer good pairs (write ∷ writes)
      (All-cons (λ (w : Write). IsGood w.writer) write writes good all)

  ruled_good : (key : Key) → IsGood key → (writes : List Write) → AreGood writes → (verdict : Verdict)
      (pairs : List Pair) → AreGood (ruled key writes verdict pairs)
  ruled_good key good writes all (Committed stamp) pairs = written_good key good pairs writes all
  ruled_good key good writes all (Conflict other stamp) pairs = all

  with_good : (key : Key) → IsGood key → (writes : List Write) → AreGood writes → (form : Form)
      → AreGood (writes_with key writes form)
  with_good key good writes all (forms.Transaction reads pairs) =
      ruled_good key good writes all (verdict_on writes key.stamp reads) pairs
  with_good key good writes all (forms.Put other value) = all
  with_good key good writes all (forms.Delete other) = all
  with_good key good writes all (forms.PutAll pairs) = all
  with_good key good writes all (forms.Enqueue value) = all
  with_good key good writes all forms.Dequeue = all
  with_good key good writes all (forms.Causal other value) = all
  with_good key good writes all forms.Plain = all

  fold_good : (nodes : List ObjectNode) → All (λ (node : ObjectNode). IsGood node.key) nodes → (writes : List Write)
      → AreGood writes
      → AreGood (fold (λ writes (node : ObjectNode). writes_with node.key writes (form_of node.text)) writes nodes)
  fold_good [] keys writes all = all
  fold_good (node ∷ nodes) keys writes all =
      let P : ObjectNode → Type 0 = λ n. IsGood n.key in
      fold_good nodes (All-tail P node nodes keys) (writes_with node.key writes (form_of node.text))
      (with_good node.key (All-head P node nodes keys) writes all (form_of node.text))

  either : (b : Bool) (x y : Option Write) (writer : Key)
      → (option_map (λ (w : Write). w.writer) x ≡ Some writer → IsGood writer)
      → (option_map (λ (w : Write). w.writer) y ≡ Some writer → IsGood writer)
      → option_map (λ (w : Write). w.writer) (cond b x y) ≡ Some writer → IsGood writer
  either true x y writer f g e = f e
  either false x y writer f g e = g e

  last_good : (writes : List Write) → AreGood writes → (key : List ℕ) (writer : Key)
      → writer_of writes key ≡ Some writer → IsGood writer
  last_good [] all key writer e = absurd (let f : ⊥ = cc in f)
  last_good (write ∷ writes) all key writer is =
      let P : Write → Type 0 = λ w. IsGood w.writer in
      either (bytes_eq write.key key) (Some write) (last_write writes key) writer
      (λ e. let same : write.writer ≡ writer = cc in subst IsGood same (All-head P write writes all))
      (λ e. last_good writes (All-tail P write writes all) key writer e) is

  writers_good : (nodes : List ObjectNode) → All (λ (node : ObjectNode). IsGood node.key) nodes → (key : List ℕ)
      (writer : Key) → writer_of (writes_after nodes) key ≡ Some writer → IsGood writer
  writers_good nodes keys key writer e =
      last_good (writes_after nodes) (fold_good nodes keys [] (All-nil (λ (w : Write). IsGood w.writer))) key writer e

-- VERSIONS

module _ (nodes : List ObjectNode) (good : All (λ (node : ObjectNode). IsTrue (is_writer (Some node.key))) nodes) where
  writer_ok : (o : Option Key) → ((k : Key) → o ≡ Some k → IsTrue (is_writer (Some k))) → is_writer o ≡ true
  writer_ok None all = refl
  writer_ok (Some k) all = all k refl

  all_writers : (keys : List (List ℕ)) → list_all (λ (v : Version). is_writer v.writer) (versions_after nodes keys) ≡ true
  all_writers [] = refl
  all_writers (key ∷ keys) =
      and_from (is_writer (writer_of (writes_after nodes) key)) _
      (writer_ok (writer_of (writes_after nodes) key)
      (writers_good (λ (k : Key). IsTrue (is_writer (Some k))) nodes good key)) (all_writers keys)

  all_keys : (keys : List (List ℕ)) → list_all is_word keys ≡ true
      → list_all (λ (v : Version). is_word v.key) (versions_after nodes keys) ≡ true
  all_keys [] e = refl
  all_keys (key ∷ keys) e =
      let p = and_parts (is_word key) _ e in
      and_from (is_word key) _ p.0 (all_keys keys p.1)

  same_keys : (keys : List (List ℕ)) → map (λ (v : Version). v.key) (versions_after nodes keys) ≡ keys
  same_keys [] = refl
  same_keys (key ∷ keys) = ap (λ (l : List (List ℕ)). key ∷ l) (same_keys keys)

  -- the versions of keys are those of a text
  pub versions_fit : (keys : List (List ℕ)) → CanRead keys → AreVersions (versions_after nodes keys)
  versions_fit keys can =
      let same : length (versions_after nodes keys) ≡ length keys = length-map keys (λ key. record { key = key; writer = writer_of (writes_after nodes) key }) in record {
        some = subst (λ (x : ℕ). 1 ≤ x) (sym same) can.some;
        few = subst (λ (x : ℕ). x ≤ 2) (sym same) can.few;
        keys = all_keys keys can.words;
        writers = all_writers keys;
        distinct = subst (λ (l : List (List ℕ)). are_distinct l ≡ true) (sym (same_keys keys)) can.distinct;
      }
