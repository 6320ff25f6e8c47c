-- The form of a text, computed: the text is cut at its signs, and the pieces are tested.
use Rattle.std.specs.Prelude.{Bool, false, ℕ, ◌+◌, ◌-◌, ◌*◌, ◌^◌, ◌==◌, nat_le, ◌&&◌, ◌||◌, List, [], ◌∷◌, length, map, Option, Some, None, if◌then◌else◌}
use Rattle.std.specs.List.{list_all, fold, slice_split, before_first, after_first}
use Rattle.std.specs.Borrow.{Bor}
use Rattle.std.specs.Str.{bytes_eq}
use Rattle.log_node.specs.declared.ids.Key.{Key}
use Rattle.log_node.specs.declared.forms.Pair.{Pair}
use Rattle.log_node.specs.declared.forms.Version.{Version}
use Rattle.log_node.specs.declared.forms.Form.{Form}
use Rattle.log_node.specs.declared.forms.Form.TheVariants as forms
use Rattle.object_form.specs.Forms.{comma, dash, dot, equals, at_sign, bar, is_word, are_distinct}

-- the bytes before the first such sign: all where there is none
abbrev pub before : ℕ → List ℕ → List ℕ
before sign bytes = before_first (λ b. b == sign) bytes

-- the bytes after it: none where there is none
abbrev pub after : ℕ → List ℕ → List ℕ
after sign bytes = after_first (λ b. b == sign) bytes

-- the parts between commas, at least one
abbrev pub parts : List ℕ → List (List ℕ)
parts bytes = slice_split (λ b. b == comma) bytes

-- the parts that a slice of slices holds
abbrev pub pieces_in : List (Bor (List ℕ)) → List (List ℕ)
pieces_in pieces = map (λ piece. piece.now) pieces

-- a decimal digit
abbrev pub is_digit : ℕ → Bool
is_digit b = nat_le 48 b && nat_le b 57

-- a number of at most 19 digits: 0, or digits of which the first is none
abbrev pub is_number : List ℕ → Bool
is_number [] = false
is_number (b ∷ bs) = list_all is_digit (b ∷ bs) && (nat_le 49 b || (length bs == 0)) && nat_le (length bs) 18

-- the number that digits say
abbrev pub number_value : List ℕ → ℕ
number_value digits = fold (λ n b. 10 * n + (b - 48)) 0 digits

-- the digits are a number from the one to the other
abbrev pub is_number_from : ℕ → ℕ → List ℕ → Bool
is_number_from low high digits =
    is_number digits && nat_le low (number_value digits) && nat_le (number_value digits) high

-- KEY=VALUE
abbrev pub is_pair : List ℕ → Bool
is_pair bytes = is_word (before equals bytes) && is_word (after equals bytes)

-- the pair that such bytes name
abbrev pub pair_of : List ℕ → Pair
pair_of bytes = record { key = before equals bytes; value = after equals bytes }

-- parts that are at most so many pairs, with distinct keys
abbrev pub are_pairs : ℕ → List (List ℕ) → Bool
are_pairs most pieces =
    nat_le (length pieces) most && list_all is_pair pieces && are_distinct (map (before equals) pieces)

-- STAMP.CLIENT.COUNT
abbrev pub is_key : List ℕ → Bool
is_key bytes =
    is_number_from 1 (2 ^ 62 - 1) (before dot bytes)
    && is_number_from 0 255 (before dot (after dot bytes))
    && is_number_from 0 (2 ^ 63 - 1) (after dot (after dot bytes))

-- the key that such bytes name
abbrev pub key_of : List ℕ → Key
key_of bytes = record {
  stamp = number_value (before dot bytes);
  id = record {
    client = number_value (before dot (after dot bytes));
    count = number_value (after dot (after dot bytes));
  };
}

-- the key that the bytes name, if they name one
abbrev pub key_in : List ℕ → Option Key
key_in bytes = if is_key bytes then Some (key_of bytes) else None

-- a dash alone, which stands for no writer
abbrev pub is_dash : List ℕ → Bool
is_dash bytes = bytes_eq bytes (dash ∷ [])

-- KEY@WRITER, the writer being a dash or a key
abbrev pub is_version : List ℕ → Bool
is_version bytes = is_word (before at_sign bytes) && (is_dash (after at_sign bytes) || is_key (after at_sign bytes))

-- its writer is none where a dash stands, which names no key
abbrev pub version_of : List ℕ → Version
version_of bytes = record { key = before at_sign bytes; writer = key_in (after at_sign bytes) }

-- parts that are at most two versions, with distinct keys
abbrev pub are_versions : List (List ℕ) → Bool
are_versions pieces =
    nat_le (length pieces) 2 && list_all is_version pieces && are_distinct (map (before at_sign) pieces)

-- the forms that begin with each letter, by the bytes after its colon
abbrev pub put_of : List ℕ → Form
put_of bytes = if is_pair bytes then forms.Put (before equals bytes) (after equals bytes) else forms.Plain

-- `d`: the deletion of a key
abbrev pub delete_of : List ℕ → Form
delete_of bytes = if is_word bytes then forms.Delete bytes else forms.Plain

-- `m`: a put of one to four pairs at once
abbrev pub put_all_of : List ℕ → Form
put_all_of bytes =
    if are_pairs 4 (parts bytes) then forms.PutAll (map pair_of (parts bytes)) else forms.Plain

-- `t`: a transaction, of one or two versions that it read and one or two pairs that it writes
abbrev pub transaction_of : List ℕ → Form
transaction_of bytes =
    if are_versions (parts (before bar bytes)) && are_pairs 2 (parts (after bar bytes))
    then forms.Transaction (map version_of (parts (before bar bytes))) (map pair_of (parts (after bar bytes)))
    else forms.Plain

-- `e`: the enqueueing of a value
abbrev pub enqueue_of : List ℕ → Form
enqueue_of bytes = if is_word bytes then forms.Enqueue bytes else forms.Plain

-- `q`: a dequeue, behind which nothing stands
abbrev pub dequeue_of : List ℕ → Form
dequeue_of bytes = if length bytes == 0 then forms.Dequeue else forms.Plain

-- `c`: a put into a causal map
abbrev pub causal_of : List ℕ → Form
causal_of bytes = if is_pair bytes then forms.Causal (before equals bytes) (after equals bytes) else forms.Plain

-- by the letter, as `p` for a put
abbrev pub form_after : ℕ → List ℕ → Form
form_after letter bytes =
    if letter == 112 then put_of bytes
    else (if letter == 100 then delete_of bytes
    else (if letter == 109 then put_all_of bytes
    else (if letter == 116 then transaction_of bytes
    else (if letter == 101 then enqueue_of bytes
    else (if letter == 113 then dequeue_of bytes
    else (if letter == 99 then causal_of bytes
    else forms.Plain))))))

-- the form of a text: a letter and a colon stand before the rest
abbrev pub form_of : List ℕ → Form
form_of [] = forms.Plain
form_of (letter ∷ []) = forms.Plain
form_of (letter ∷ sign ∷ bytes) = if sign == 58 then form_after letter bytes else forms.Plain
