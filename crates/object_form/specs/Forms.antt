-- The text of each form, which forms may be, and the form of a text.
use Rattle.std.specs.Prelude.{◌≡◌, ◌⊎◌, Bool, IsTrue, true, ℕ, ◌^◌, ◌-◌, ◌≤◌, nat_le, not, ◌&&◌, ◌||◌, List, [], ◌∷◌, ◌++◌, length, map, Option, Some, None, codes}
use Rattle.std.specs.List.{list_any, list_all, join_with_byte}
use Rattle.std.specs.Str.{bytes_eq}
use Rattle.std.specs.Fmt.{decimal}
use Rattle.log_node.specs.declared.ids.Key.{Key}
use Rattle.log_node.specs.declared.forms.Pair.{Pair}
use Rattle.log_node.specs.declared.forms.Version.{Version}
use Rattle.log_node.specs.declared.forms.Form.{Form}
use Rattle.log_node.specs.declared.forms.Form.TheVariants as forms

-- the sign between two pairs, and between two versions
abbrev pub comma : ℕ
comma = 44

-- the sign for no writer
abbrev pub dash : ℕ
dash = 45

-- the sign between a writer's stamp, client and count
abbrev pub dot : ℕ
dot = 46

-- the sign between a key and its value
abbrev pub equals : ℕ
equals = 61

-- the sign between a key that was read and its writer
abbrev pub at_sign : ℕ
at_sign = 64

-- the sign between what a transaction read and what it writes
abbrev pub bar : ℕ
bar = 124

-- KEY=VALUE
abbrev pub pair_text : Pair → List ℕ
pair_text pair = pair.key ++ equals ∷ pair.value

-- a writer: its stamp, client and count with dots, or a dash for none
abbrev pub writer_text : Option Key → List ℕ
writer_text None = dash ∷ []
writer_text (Some key) = decimal key.stamp ++ dot ∷ (decimal key.id.client ++ dot ∷ decimal key.id.count)

-- KEY@WRITER
abbrev pub version_text : Version → List ℕ
version_text version = version.key ++ at_sign ∷ writer_text version.writer

-- pairs with commas
abbrev pub pairs_text : List Pair → List ℕ
pairs_text pairs = join_with_byte comma (map pair_text pairs)

-- versions with commas
abbrev pub versions_text : List Version → List ℕ
versions_text versions = join_with_byte comma (map version_text versions)

-- the text that a node with this form has; a plain node's is not told by its form
abbrev pub form_text : Form → List ℕ
form_text (forms.Put key value) = codes "p:" ++ key ++ equals ∷ value
form_text (forms.Delete key) = codes "d:" ++ key
form_text (forms.PutAll pairs) = codes "m:" ++ pairs_text pairs
form_text (forms.Transaction reads writes) = codes "t:" ++ versions_text reads ++ bar ∷ pairs_text writes
form_text (forms.Enqueue value) = codes "e:" ++ value
form_text forms.Dequeue = codes "q:"
form_text (forms.Causal key value) = codes "c:" ++ key ++ equals ∷ value
form_text forms.Plain = []

-- a small letter or a digit
abbrev pub is_letter_or_digit : ℕ → Bool
is_letter_or_digit b = (nat_le 97 b && nat_le b 122) || (nat_le 48 b && nat_le b 57)

-- a key or a value: 1 to 16 small letters and digits
abbrev pub is_word : List ℕ → Bool
is_word bytes = nat_le 1 (length bytes) && nat_le (length bytes) 16 && list_all is_letter_or_digit bytes

-- no two are equal
abbrev pub are_distinct : List (List ℕ) → Bool
are_distinct [] = true
are_distinct (key ∷ keys) = not (list_any (bytes_eq key) keys) && are_distinct keys

-- 1 to so many pairs of keys and values, with distinct keys
pub record ArePairs (most : ℕ) (pairs : List Pair) : Type 0 where
  pub some : 1 ≤ length pairs
  pub few : length pairs ≤ most
  pub keys : IsTrue (list_all (λ pair. is_word pair.key) pairs)
  pub values : IsTrue (list_all (λ pair. is_word pair.value) pairs)
  pub distinct : IsTrue (are_distinct (map (λ pair. pair.key) pairs))

-- no writer, or one with a stamp from 1 to 2^62 - 1, a client below 256 and a count below 2^63
abbrev pub is_writer : Option Key → Bool
is_writer None = true
is_writer (Some key) = nat_le 1 key.stamp && nat_le key.stamp (2 ^ 62 - 1)
    && nat_le key.id.client 255 && nat_le key.id.count (2 ^ 63 - 1)

-- 1 or 2 versions, with distinct keys
pub record AreVersions (versions : List Version) : Type 0 where
  pub some : 1 ≤ length versions
  pub few : length versions ≤ 2
  pub keys : IsTrue (list_all (λ version. is_word version.key) versions)
  pub writers : IsTrue (list_all (λ version. is_writer version.writer) versions)
  pub distinct : IsTrue (are_distinct (map (λ version. version.key) versions))

-- the form is one that a text can have, other than plain
abbrev pub IsForm : Form → Type 0
IsForm (forms.Put key value) = IsTrue (is_word key) × IsTrue (is_word value)
IsForm (forms.Delete key) = IsTrue (is_word key)
IsForm (forms.PutAll pairs) = ArePairs 4 pairs
IsForm (forms.Transaction reads writes) = AreVersions reads × ArePairs 2 writes
IsForm (forms.Enqueue value) = IsTrue (is_word value)
IsForm forms.Dequeue = Unit {0}
IsForm (forms.Causal key value) = IsTrue (is_word key) × IsTrue (is_word value)
IsForm forms.Plain = ⊥

-- the form may be, and this is its text
abbrev pub HasText : Form → List ℕ → Type 0
HasText form text = IsForm form × (form_text form ≡ text)

-- the text is read as the form: as the one that has it, or as plain where none has it
abbrev pub IsReading : List ℕ → Form → Type 0
IsReading text form = HasText form text ⊎ ((form ≡ forms.Plain) × ((other : Form) → HasText other text → ⊥))
