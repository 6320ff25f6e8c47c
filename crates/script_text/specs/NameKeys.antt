-- How a name is packed into two words, and that a set of names has the keys of its names.
use Rattle.std.specs.Prelude.{Bool, ◌==◌, ◌&&◌, ℕ, ◌≡◌, ◌<◌, ◌≤◌, ◌+◌, ◌-◌, ◌*◌, ◌/◌, List, [], ◌∷◌, length, map, take, drop, slice_index_or, nat_lt, if◌then◌else◌}
use Rattle.std.specs.Int.{w32, w64, from_le_bytes}
use Rattle.script_text.specs.declared.name_keys.TheConstants.{MAX_PACKED}
use Rattle.script_text.specs.declared.name_keys.NameKey.{NameKey}

-- of a name of at most three bytes the first, the middle one and the last
abbrev pub three_bytes : List ℕ → ℕ
three_bytes name =
    slice_index_or name 0 0 + slice_index_or name (length name / 2) 0 * 0x100
    + slice_index_or name (length name - 1) 0 * 0x1_0000

-- the first bytes of a name: eight, or four, or all of fewer
abbrev pub front_of : List ℕ → ℕ
front_of name =
    if nat_lt (length name) 4 then three_bytes name
    else if nat_lt (length name) 8 then from_le_bytes w32 (take 4 name)
    else from_le_bytes w64 (take 8 name)

-- how many bytes the name has, and behind that the last four
abbrev pub back_of : List ℕ → ℕ
back_of name =
    if nat_lt (length name) 4 then length name * 0x1_0000_0000
    else length name * 0x1_0000_0000 + from_le_bytes w32 (drop (length name - 4) name)

-- the key of a name
abbrev pub key_of : List ℕ → NameKey
key_of name = record { front = front_of name; back = back_of name }

-- whether two keys are equal
abbrev pub same_key : NameKey → NameKey → Bool
same_key a b = (a.front == b.front) && (a.back == b.back)

-- each is a byte
abbrev pub AreBytes : List ℕ → Type 0
AreBytes bytes = (k : ℕ) → slice_index_or bytes k 0 < 256

-- a name that is short enough to be packed
pub record IsShort (name : List ℕ) : Type 0 where
  pub few : length name ≤ MAX_PACKED
  pub bytes : AreBytes name

-- names that are
abbrev pub AreShort : List (List ℕ) → Type 0
AreShort [] = Unit {0}
AreShort (name ∷ names) = IsShort name × AreShort names

-- these are the keys of these names
pub record IsKeyed (names : List (List ℕ)) (keys : List NameKey) : Type 0 where
  pub short : AreShort names
  pub keyed : keys ≡ map key_of names

-- the keys of names, or of as many of the first as have keys of their own
pub record IsIndexed (names : List (List ℕ)) (keys : List NameKey) : Type 0 where
  pub few : length keys ≤ length names
  pub all : length names ≤ length keys → IsKeyed names keys
