-- How long the texts of forms are.
use Rattle.std.proofs.Common.{◌≡◌, ℕ, ◌*◌, ◌≤◌, true, ◌&&◌, leb, List, [], ◌∷◌, ◌++◌, length, Option, Some, None, arith, length-append}
use Rattle.std.specs.List.{list_all}
use Rattle.std.specs.Fmt.{decimal}
use Rattle.std.proofs.lemmas.Bool.{and_parts, leb-true}
use Rattle.std.proofs.lemmas.Fmt.{length-decimal-le}
use Rattle.log_node.specs.declared.ids.Key.{Key}
use Rattle.log_node.specs.declared.forms.Pair.{Pair}
use Rattle.log_node.specs.declared.forms.Version.{Version}
use Rattle.log_node.specs.declared.forms.Form.{Form}
use Rattle.log_node.specs.declared.forms.Form.TheVariants as forms
use Rattle.log_node.specs.Texts.{IsTextLength}
use Rattle.object_form.specs.Forms.{dot, equals, at_sign, bar, is_letter_or_digit, is_word, is_writer, pair_text, pairs_text, writer_text, version_text, versions_text, form_text, IsForm}
use Rattle.object_form.proofs.NumberLemmas.{decimal_short}
use Rattle.object_form.proofs.KeyLemmas.{ranged}

word_size : (bs : List ℕ) → is_word bs ≡ true → length bs ≤ 16
word_size bs h =
    let size = and_parts (leb 1 (length bs) && leb (length bs) 16) (list_all is_letter_or_digit bs) h in
    leb-true (length bs) 16 (and_parts (leb 1 (length bs)) (leb (length bs) 16) size.0).1

pair_size : (key value : List ℕ) → is_word key ≡ true → is_word value ≡ true → length (key ++ equals ∷ value) ≤ 33
pair_size key value k v = omega (arith, length-append key (equals ∷ value), word_size key k, word_size value v)

pairs_size : (pairs : List Pair) → list_all (λ (p : Pair). is_word p.key) pairs ≡ true → list_all (λ (p : Pair). is_word p.value) pairs ≡ true → length (pairs_text pairs) ≤ 34 * length pairs
pairs_size [] k v = omega arith
pairs_size (p ∷ []) k v =
    let size = pair_size p.key p.value (and_parts (is_word p.key) true k).0 (and_parts (is_word p.value) true v).0 in
    omega arith
pairs_size (p ∷ q ∷ ps) k v =
    let keys = and_parts (is_word p.key) (list_all (λ (x : Pair). is_word x.key) (q ∷ ps)) k in
    let values = and_parts (is_word p.value) (list_all (λ (x : Pair). is_word x.value) (q ∷ ps)) v in
    let size = pair_size p.key p.value keys.0 values.0 in
    let later = pairs_size (q ∷ ps) keys.1 values.1 in
    omega (arith, length-append (pair_text p) (44 ∷ pairs_text (q ∷ ps)))

writer_size : (writer : Option Key) → is_writer writer ≡ true → length (writer_text writer) ≤ 43
writer_size None h = omega arith
writer_size (Some key) h =
    let r = ranged key h in
    let s = decimal_short key.stamp (omega (arith, r.stamp)) in
    let c = length-decimal-le 3 key.id.client (omega arith) (omega (arith, r.client)) (omega (arith, r.client)) in
    let n = decimal_short key.id.count (omega (arith, r.count)) in
    omega (arith, length-append (decimal key.stamp) (dot ∷ (decimal key.id.client ++ dot ∷ decimal key.id.count)), length-append (decimal key.id.client) (dot ∷ decimal key.id.count))

version_size : (v : Version) → is_word v.key ≡ true → is_writer v.writer ≡ true → length (version_text v) ≤ 60
version_size v k w = omega (arith, length-append v.key (at_sign ∷ writer_text v.writer), word_size v.key k, writer_size v.writer w)

versions_size : (versions : List Version) → list_all (λ (v : Version). is_word v.key) versions ≡ true → list_all (λ (v : Version). is_writer v.writer) versions ≡ true → length (versions_text versions) ≤ 61 * length versions
versions_size [] k w = omega arith
versions_size (v ∷ []) k w =
    let size = version_size v (and_parts (is_word v.key) true k).0 (and_parts (is_writer v.writer) true w).0 in
    omega arith
versions_size (v ∷ u ∷ vs) k w =
    let keys = and_parts (is_word v.key) (list_all (λ (x : Version). is_word x.key) (u ∷ vs)) k in
    let writers = and_parts (is_writer v.writer) (list_all (λ (x : Version). is_writer x.writer) (u ∷ vs)) w in
    let size = version_size v keys.0 writers.0 in
    let later = versions_size (u ∷ vs) keys.1 writers.1 in
    omega (arith, length-append (version_text v) (44 ∷ versions_text (u ∷ vs)))

pub forms_fit : (form : Form) → IsForm form → IsTextLength (length (form_text form))
forms_fit (forms.Put key value) h = let size = pair_size key value h.0 h.1 in (omega arith, omega arith)
forms_fit (forms.Delete key) h = let size = word_size key h in (omega arith, omega arith)
forms_fit (forms.PutAll pairs) h = let size = pairs_size pairs h.keys h.values in (omega arith, omega (arith, h.few))
forms_fit (forms.Transaction reads writes) h =
    let r = versions_size reads h.0.keys h.0.writers in
    let w = pairs_size writes h.1.keys h.1.values in
    let both = length-append (versions_text reads) (bar ∷ pairs_text writes) in
    (omega arith, omega (arith, h.0.few, h.1.few))
forms_fit (forms.Enqueue value) h = let size = word_size value h in (omega arith, omega arith)
forms_fit forms.Dequeue h = (omega arith, omega arith)
forms_fit (forms.Causal key value) h = let size = pair_size key value h.0 h.1 in (omega arith, omega arith)
forms_fit forms.Plain h = absurd h
