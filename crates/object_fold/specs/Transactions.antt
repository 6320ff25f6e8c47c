-- The transactional map: which transactions commit, what they leave, and what a conflict names.
use Rattle.std.specs.Prelude.{Bool, IsTrue, true, false, not, ℕ, ◌≤◌, List, [], ◌∷◌, length, map, Option, Some, None}
use Rattle.std.specs.List.{fold, find, list_all}
use Rattle.std.specs.Option.{option_map}
use Rattle.std.specs.Str.{bytes_eq}
use Rattle.log_node.specs.declared.ids.Key.{Key}
use Rattle.log_node.specs.declared.forms.Pair.{Pair}
use Rattle.log_node.specs.declared.forms.Version.{Version}
use Rattle.log_node.specs.declared.forms.Form.{Form}
use Rattle.log_node.specs.declared.forms.Form.TheVariants as forms
use Rattle.log_node.specs.Order.{same_key}
use Rattle.object_form.specs.Forms.{is_word, are_distinct}
use Rattle.object_form.specs.Readings.{form_of}
use Rattle.object_fold.specs.declared.verdict.Verdict.{Verdict}
use Rattle.object_fold.specs.declared.verdict.Verdict.TheVariants.{Committed, Conflict}
use Rattle.object_fold.specs.Nodes.{ObjectNode, nodes_before}
use Rattle.object_fold.specs.Maps.{Value}

-- a write of a committed transaction
pub record Write : Type 0 where
  pub key : List ℕ
  pub value : List ℕ
  -- the transaction's own key
  pub writer : Key

-- the last of some writes of a key; they are listed with the newest first
abbrev pub last_write : List Write → List ℕ → Option Write
last_write writes key = find (λ write. bytes_eq write.key key) writes

-- a key's value
abbrev pub value_of : List Write → List ℕ → Value
value_of writes key = option_map (λ write. write.value) (last_write writes key)

-- a key's last committed writer
abbrev pub writer_of : List Write → List ℕ → Option Key
writer_of writes key = option_map (λ write. write.writer) (last_write writes key)

-- the same writer, or none both times
abbrev pub is_same_writer : Option Key → Option Key → Bool
is_same_writer None None = true
is_same_writer None (Some b) = false
is_same_writer (Some a) None = false
is_same_writer (Some a) (Some b) = same_key a b

-- the key that was read has another last committed writer than the one that was read
abbrev pub differs : List Write → Version → Bool
differs writes read = not (is_same_writer read.writer (writer_of writes read.key))

-- the first such key
abbrev pub first_conflict : List Write → List Version → Option Version
first_conflict writes reads = find (differs writes) reads

-- the stamp of a writer, 0 where there is none
abbrev pub stamp_of : Option Key → ℕ
stamp_of None = 0
stamp_of (Some key) = key.stamp

-- the verdict where that is the first conflict, under a stamp
abbrev pub verdict_by : List Write → ℕ → Option Version → Verdict
verdict_by writes stamp None = Committed stamp
verdict_by writes stamp (Some read) = Conflict read.key (stamp_of (writer_of writes read.key))

-- The verdict on a transaction under a stamp that read these versions: it commits where no key that it read has another
-- last committed writer.
abbrev pub verdict_on : List Write → ℕ → List Version → Verdict
verdict_on writes stamp reads = verdict_by writes stamp (first_conflict writes reads)

-- the writes of pairs from left to right, by this writer
abbrev pub written : Key → List Write → List Pair → List Write
written writer writes pairs =
    fold (λ others pair. record { key = pair.key; value = pair.value; writer = writer } ∷ others) writes pairs

-- a committed transaction writes its pairs, and another one nothing
abbrev pub ruled : Key → List Write → Verdict → List Pair → List Write
ruled key writes (Committed stamp) pairs = written key writes pairs
ruled key writes (Conflict other stamp) pairs = writes

-- the writes after a node with this key and form
abbrev pub writes_with : Key → List Write → Form → List Write
writes_with key writes (forms.Transaction reads pairs) = ruled key writes (verdict_on writes key.stamp reads) pairs
writes_with key writes (forms.Put other value) = writes
writes_with key writes (forms.Delete other) = writes
writes_with key writes (forms.PutAll pairs) = writes
writes_with key writes (forms.Enqueue value) = writes
writes_with key writes forms.Dequeue = writes
writes_with key writes (forms.Causal other value) = writes
writes_with key writes forms.Plain = writes

-- all committed writes after nodes in rising key
abbrev pub writes_after : List ObjectNode → List Write
writes_after nodes = fold (λ writes node. writes_with node.key writes (form_of node.text)) [] nodes

-- the versions of keys, which a read keeps for its commit
abbrev pub versions_after : List ObjectNode → List (List ℕ) → List Version
versions_after nodes keys = map (λ key. record { key = key; writer = writer_of (writes_after nodes) key }) keys

-- keys whose versions a transaction can name: 1 or 2 words, each once
pub record CanRead (keys : List (List ℕ)) : Type 0 where
  pub some : 1 ≤ length keys
  pub few : length keys ≤ 2
  pub words : IsTrue (list_all is_word keys)
  pub distinct : IsTrue (are_distinct keys)

-- the values of keys
abbrev pub values_after : List ObjectNode → List (List ℕ) → List Value
values_after nodes keys = map (value_of (writes_after nodes)) keys

-- a form's verdict after some writes, if it is a transaction
abbrev pub form_verdict : Key → List Write → Form → Option Verdict
form_verdict key writes (forms.Transaction reads pairs) = Some (verdict_on writes key.stamp reads)
form_verdict key writes (forms.Put other value) = None
form_verdict key writes (forms.Delete other) = None
form_verdict key writes (forms.PutAll pairs) = None
form_verdict key writes (forms.Enqueue value) = None
form_verdict key writes forms.Dequeue = None
form_verdict key writes (forms.Causal other value) = None
form_verdict key writes forms.Plain = None

-- the verdict on a node behind these, if it is a transaction
abbrev pub ruling : List ObjectNode → ObjectNode → Option Verdict
ruling nodes node = form_verdict node.key (writes_after nodes) (form_of node.text)

-- the verdict on a node after the nodes before it among these, if there is such a node and it is a transaction
abbrev pub verdict_among : List ObjectNode → Option ObjectNode → Option Verdict
verdict_among nodes None = None
verdict_among nodes (Some node) =
    form_verdict node.key (writes_after (nodes_before node.key nodes)) (form_of node.text)

-- the verdict on the node with this key among nodes in rising key
abbrev pub verdict_of : List ObjectNode → Key → Option Verdict
verdict_of nodes key = verdict_among nodes (find (λ node. same_key node.key key) nodes)
