-- The pieces that stand in a script's bytes: lines, fields, names, keys, texts and numbers.
use Rattle.std.specs.Prelude.{Bool, false, ℕ, zero, suc, ◌+◌, ◌*◌, ◌-◌, ◌==◌, nat_le, nat_lt, ◌&&◌, ◌||◌, List, [], ◌∷◌, length, Option, Some, None, if◌then◌else◌}
use Rattle.std.specs.List.{list_any, list_all, fold, slice_split, onto_first}
use Rattle.std.specs.Option.{option_map}
use Rattle.std.specs.Str.{bytes_eq}
use Rattle.script_text.specs.declared.limits.TheConstants.{MAX_NAME, MAX_KEY, MAX_PATH_NAMES, MAX_PATH_NAME}
use Rattle.log_node.specs.declared.limits.TheConstants.{MAX_TEXT}

-- the lines: each ends with a line feed or with the bytes
abbrev pub lines_of : List ℕ → List (List ℕ)
lines_of [] = []
lines_of (b ∷ bs) = if b == 10 then [] ∷ lines_of bs else onto_first b (lines_of bs)

-- the fields of a line, with one space between two
abbrev pub fields_of : List ℕ → List (List ℕ)
fields_of line = slice_split (λ b. b == 32) line

-- the names between commas
abbrev pub names_in : List ℕ → List (List ℕ)
names_in cols = slice_split (λ b. b == 44) cols

-- the first field, or nothing
abbrev pub first_in : List (List ℕ) → List ℕ
first_in [] = []
first_in (field ∷ fields) = field

-- from the one number to the other
abbrev pub is_between : ℕ → ℕ → ℕ → Bool
is_between low high n = nat_le low n && nat_le n high

-- bytes that a line may have: printable ASCII
abbrev pub is_ascii_line : List ℕ → Bool
is_ascii_line line = list_all (is_between 32 126) line

-- a small letter
abbrev pub is_letter : ℕ → Bool
is_letter b = is_between 97 122 b

-- a decimal digit
abbrev pub is_digit : ℕ → Bool
is_digit b = is_between 48 57 b

-- a small letter or a digit
abbrev pub is_letter_or_digit : ℕ → Bool
is_letter_or_digit b = is_letter b || is_digit b

-- 1 to 12 letters and digits, the first a letter
abbrev pub is_name : List ℕ → Bool
is_name [] = false
is_name (b ∷ bs) = is_letter b && list_all is_letter_or_digit bs && nat_lt (length bs) MAX_NAME

-- a key or a value of an object: 1 to 16 letters and digits
abbrev pub is_key : List ℕ → Bool
is_key bytes = is_between 1 MAX_KEY (length bytes) && list_all is_letter_or_digit bytes

-- a name in a path of a tree: 1 to 8 letters and digits
abbrev pub is_path_name : List ℕ → Bool
is_path_name bytes = is_between 1 MAX_PATH_NAME (length bytes) && list_all is_letter_or_digit bytes

-- the names between slashes
abbrev pub path_names : List ℕ → List (List ℕ)
path_names bytes = slice_split (λ b. b == 47) bytes

-- behind the first slash of a path: 1 to 4 names, or nothing where the path may be the root
abbrev pub is_path_behind : Bool → List ℕ → Bool
is_path_behind root [] = root
is_path_behind root (b ∷ bs) =
    nat_le (length (path_names (b ∷ bs))) MAX_PATH_NAMES && list_all is_path_name (path_names (b ∷ bs))

-- a path of a tree: a slash before each name; where it may be the root, also a slash alone
abbrev pub is_path : Bool → List ℕ → Bool
is_path root [] = false
is_path root (b ∷ bs) = (b == 47) && is_path_behind root bs

-- 1 to 200 bytes, none a blank
abbrev pub is_text : List ℕ → Bool
is_text bytes = is_between 1 MAX_TEXT (length bytes) && list_all (is_between 33 126) bytes

-- a text that begins as those of transactions, or of decisions, do: `t:` or `z:`
abbrev pub is_transactional : List ℕ → Bool
is_transactional (a ∷ b ∷ bytes) = ((a == 116) || (a == 122)) && (b == 58)
is_transactional _ = false

-- a number of at most so many digits: 0, or digits of which the first is none
abbrev pub is_number : ℕ → List ℕ → Bool
is_number most [] = false
is_number most (b ∷ bs) = list_all is_digit (b ∷ bs) && (is_between 49 57 b || (length bs == 0)) && nat_lt (length bs) most

-- the number that digits say
abbrev pub number_value : List ℕ → ℕ
number_value digits = fold (λ n b. 10 * n + (b - 48)) 0 digits

-- the name is one of these
abbrev pub is_among : List (List ℕ) → List ℕ → Bool
is_among names name = list_any (bytes_eq name) names

-- the number of a name, counted from 0
abbrev pub number_of : List (List ℕ) → List ℕ → Option ℕ
number_of [] name = None
number_of (first ∷ names) name = if bytes_eq name first then Some 0 else option_map suc (number_of names name)

-- the name of a number
abbrev pub name_of : List (List ℕ) → ℕ → List ℕ
name_of [] n = []
name_of (first ∷ names) zero = first
name_of (first ∷ names) (suc n) = name_of names n
